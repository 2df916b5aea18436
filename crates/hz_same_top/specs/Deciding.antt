-- What is decided before anything is written: what is found of two machines, or a refusal.
use Rattle.std.specs.Prelude.{◌≡◌, ℕ, ◌≤◌, List, [], ◌∷◌, Some, Result, MatchOption, Contains, length}
use Rattle.hz_base_model.specs.Names.{Held}
use Rattle.hz_front.specs.Refusals.{Decided, decided_by}
use Rattle.hz_front.specs.Refusals as refusals
use Rattle.hz_front.specs.declared.refusal.Refusal.{Refusal}
use Rattle.hz_pipeline_model.specs.Tables.Machines.{Machine}
use Rattle.hz_tabtext_model.specs.Texts.{TableText}
use Rattle.hz_answer_model.specs.TableAnswers.{tables_limit, HasTables}
use Rattle.hz_same_model.specs.Answers.{same_files, Compares, ComparesFiles, PassPairs, JudgesTables}
use Rattle.hz_same_top.specs.Telling.{Or}
use Rattle.hz_same_top.specs.declared.telling.Compared.{Compared}

-- what is decided, by the status and the text of what is found
abbrev pub decided_in : Result Compared Refusal → Decided
decided_in result = decided_by (λ compared. compared.status) (λ compared. compared.text.items) result

-- what is decided is what is to be answered; want of memory may come in its place
abbrev pub Answers : (ℕ → List ℕ → Type 0) → Result Compared Refusal → Type 0
Answers answers result = refusals.Answers answers (decided_in result)

-- one of the two files
abbrev pub IsOneOf : List ℕ × List ℕ → List ℕ → Type 0
IsOneOf files name = Contains (files.0 ∷ files.1 ∷ []) name

-- a file word of the words, where they name files
abbrev pub IsFileWord : List (List ℕ) → List ℕ → Type 0
IsFileWord words name = MatchOption (same_files words) ⊥ (λ files. IsOneOf files name)

-- ---- with the line of pairs that pass their limit

-- of a machine and a text
abbrev pub MayCompareWith : (file other_file other : List ℕ) → (first : Machine) → ℕ → List ℕ → Type 0
MayCompareWith file other_file other first = Or (HasTables other_file other (Compares file other_file first)) ((second : Machine) × TableText other second × PassPairs first second)

-- Pairs of the machines of two texts pass their limit.
pub record TextsPass (text other : List ℕ) : Type 0 where
  pub first : Machine
  pub second : Machine
  pub tables : TableText text first
  pub other_tables : TableText other second
  pub pass : PassPairs first second

-- of two texts
abbrev pub MayJudge : (file other_file text other : List ℕ) → ℕ → List ℕ → Type 0
MayJudge file other_file text other = Or (JudgesTables file other_file (text ∷ other ∷ [])) (TextsPass text other)

-- of the texts of all files
abbrev pub MayJudgeAll : (file other_file : List ℕ) → List (List ℕ) → ℕ → List ℕ → Type 0
MayJudgeAll file other_file (text ∷ other ∷ []) status answer = MayJudge file other_file text other status answer
MayJudgeAll file other_file _ status answer = ⊥

-- Pairs of the machines of two files pass their limit.
pub record FilesPass (held : Held) (files : List ℕ × List ℕ) : Type 0 where
  pub text : List ℕ
  pub other : List ℕ
  pub holds : held files.0 ≡ Some text
  pub other_holds : held files.1 ≡ Some other
  pub short : length text ≤ tables_limit
  pub other_short : length other ≤ tables_limit
  pub pass : TextsPass text other

-- of two files
abbrev pub MayCompareFiles : Held → (List ℕ × List ℕ) → ℕ → List ℕ → Type 0
MayCompareFiles held files = Or (ComparesFiles held files) (FilesPass held files)
