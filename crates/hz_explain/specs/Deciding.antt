-- What is decided before anything is written: what is reported of a trace, or a refusal.
use Rattle.std.specs.Prelude.{ℕ, List, [], ◌∷◌, Result, MatchOption, Contains}
use Rattle.hz_front.specs.Refusals.{Decided, decided_by}
use Rattle.hz_front.specs.Refusals as refusals
use Rattle.hz_front.specs.declared.refusal.Refusal.{Refusal}
use Rattle.hz_why_model.specs.Answers.{why_files}
use Rattle.hz_explain.specs.declared.whole.Explained.{Explained as Whole}

-- what is decided, by the status and the text of what is reported of a trace
abbrev pub decided_in : Result Whole Refusal → Decided
decided_in result = decided_by (λ whole. whole.status) (λ whole. whole.text.items) result

-- what is decided is what is to be answered; want of memory may come in its place
abbrev pub Answers : (ℕ → List ℕ → Type 0) → Result Whole Refusal → Type 0
Answers answers result = refusals.Answers answers (decided_in result)

-- one of the two files
abbrev pub IsOneOf : List ℕ × List ℕ → List ℕ → Type 0
IsOneOf files name = Contains (files.0 ∷ files.1 ∷ []) name

-- a file word of the words, where they name files
abbrev pub IsFileWord : List (List ℕ) → List ℕ → Type 0
IsFileWord words name = MatchOption (why_files words) ⊥ (λ files. IsOneOf files name)
