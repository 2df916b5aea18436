-- What the program that compares answers. This profile, docs/FORMATS.md, 'Comparisons'.
use Rattle.std.specs.Prelude.{◌≡◌, ◌⊎◌, ℕ, ◌≤◌, List, [], ◌∷◌, ◌++◌, Option, Some, None, MatchOption, length, codes, if◌then◌else◌}
use Rattle.hz_base_model.specs.Names.{Held}
use Rattle.hz_pipeline_model.specs.Tables.Machines.{Machine}
use Rattle.hz_words_model.specs.Words.{has_option}
use Rattle.hz_tabtext_model.specs.Texts.{TableText}
use Rattle.hz_front_model.specs.Phases.{Says, Next, OpensAll}
use Rattle.hz_answer_model.specs.TableAnswers.{tables_limit, HasTables}
use Rattle.hz_same_model.specs.Common.{common_of, event_at}
use Rattle.hz_same_model.specs.Telling.{answer_in, IsLeast, AnswerTheSame, AreSame}
use Rattle.hz_same_model.specs.Products.{move_of, start_of, product_of, ReachesMore}
use Rattle.hz_same_model.specs.Texts.{same_line, pairs_line, names_alone, else_line, difference_text}

-- pairs of states, at most
abbrev pub pair_limit : ℕ
pair_limit = 1048576

-- more pairs are reached before a trace tells the machines apart
abbrev pub PassPairs : (first second : Machine) → Type 0
PassPairs first second = ReachesMore (move_of (product_of first second)) (product_of first second).symbols (start_of (product_of first second)) pair_limit

-- The text says of the least trace that tells the machines apart what it is, and who answers its last event how.
pub record SaysDifference (file other_file : List ℕ) (first second : Machine) (text : List ℕ) : Type 0 where
  pub trace : List ℕ
  pub least : IsLeast first second trace
  pub says : text ≡ names_alone file other_file first second ++ difference_text file other_file (common_of first second) trace least.last (answer_in first least.tells.states (event_at (common_of first second) first least.last))

-- What is answered of two machines, whose texts are in files of these names: they are the same; or a name is of one alone, and
-- nothing else differs; or the least trace that tells them apart.
abbrev pub Compares : (file other_file : List ℕ) → (first second : Machine) → ℕ → List ℕ → Type 0
Compares file other_file first second status text =
    (AreSame first second × Says 0 same_line status text)
    ⊎ ((AreSame first second → ⊥) × AnswerTheSame first second × Says 1 (names_alone file other_file first second ++ else_line) status text)
    ⊎ ((status ≡ 1) × SaysDifference file other_file first second text)

-- the line that answers words which are not two names of files
abbrev pub same_usage : List ℕ
same_usage = codes "usage: hz_same TABLES TABLES\n"

-- the names of the two files, of which none begins with `-`
abbrev pub same_files : List (List ℕ) → Option (List ℕ × List ℕ)
same_files (first ∷ second ∷ []) = if has_option (first ∷ second ∷ []) then None else Some (first, second)
same_files _ = None

-- both texts are judged, the first before the second
abbrev pub JudgesTables : (file other_file : List ℕ) → Next (List (List ℕ))
JudgesTables file other_file (text ∷ other ∷ []) status answer = HasTables file text (λ first. HasTables other_file other (λ second. Compares file other_file first second)) status answer
JudgesTables file other_file _ status answer = ⊥

-- both files are read, and then their texts are judged
abbrev pub ComparesFiles : Held → (List ℕ × List ℕ) → ℕ → List ℕ → Type 0
ComparesFiles held files =
    OpensAll held (record { name = files.0; most = tables_limit } ∷ record { name = files.1; most = tables_limit } ∷ []) (JudgesTables files.0 files.1)

-- What the program answers to its words over files that hold this, where memory is found, nothing fails but the opening of a name
-- that is not held, and pairs keep their limit.
abbrev pub SameAnswer : List (List ℕ) → Held → ℕ → List ℕ → Type 0
SameAnswer words held status text = MatchOption (same_files words) (Says 4 same_usage status text) (λ files. ComparesFiles held files status text)

-- The words name two files that hold the texts of these machines.
pub record AreCompared (words : List (List ℕ)) (held : Held) (first second : Machine) : Type 0 where
  pub files : List ℕ × List ℕ
  pub named : same_files words ≡ Some files
  pub text : List ℕ
  pub other : List ℕ
  pub holds : held files.0 ≡ Some text
  pub other_holds : held files.1 ≡ Some other
  pub short : length text ≤ tables_limit
  pub other_short : length other ≤ tables_limit
  pub tables : TableText text first
  pub other_tables : TableText other second

-- Pairs of the two machines pass their limit before a trace tells the machines apart.
pub record PassesPairs (words : List (List ℕ)) (held : Held) : Type 0 where
  pub first : Machine
  pub second : Machine
  pub compared : AreCompared words held first second
  pub pass : PassPairs first second

-- the answer, or where pairs pass their limit the line that says it
abbrev pub MayAnswer : List (List ℕ) → Held → ℕ → List ℕ → Type 0
MayAnswer words held status text = SameAnswer words held status text ⊎ (PassesPairs words held × Says 3 pairs_line status text)

-- What a status says of two machines that are compared: 0 that they are the same, 1 that they are not, and there is no other but 3,
-- where pairs pass their limit, and 5 for want of memory.
pub record Decides (first second : Machine) (status : ℕ) : Type 0 where
  pub same : status ≡ 0 → AreSame first second
  pub differ : status ≡ 1 → AreSame first second → ⊥
  pub other : (status ≡ 0) ⊎ (status ≡ 1) ⊎ ((status ≡ 3) × PassPairs first second) ⊎ (status ≡ 5)
