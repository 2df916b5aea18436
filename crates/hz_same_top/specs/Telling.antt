-- What is reported of two machines. To prove with, nothing to believe.
use Rattle.std.specs.Prelude.{◌≡◌, ◌⊎◌, ℕ, List}
use Rattle.hz_front_model.specs.Phases.{Says}
use Rattle.hz_pipeline_model.specs.Tables.Machines.{Machine}
use Rattle.hz_same_model.specs.Telling.{AnswerTheSame, IsLeast}
use Rattle.hz_same_model.specs.Answers.{Compares, PassPairs, SaysDifference}
use Rattle.hz_same_model.specs.Texts.{pairs_line}
use Rattle.hz_same_top.specs.declared.telling.Compared.{Compared}

-- the answer, if no trace tells the machines apart
abbrev pub TellsSame : (file other_file : List ℕ) → (first second : Machine) → Compared → Type 0
TellsSame file other_file first second compared = AnswerTheSame first second → Compares file other_file first second compared.status compared.text.items

-- the answer, if this is the least trace that does
abbrev pub TellsApart : (file other_file : List ℕ) → (first second : Machine) → (trace : List ℕ) → Compared → Type 0
TellsApart file other_file first second trace compared = IsLeast first second trace → (compared.status ≡ 1) × SaysDifference file other_file first second compared.text.items

-- an answer, or where pairs pass their limit the line that says it
abbrev pub Or : (answers : ℕ → List ℕ → Type 0) → (pass : Type 0) → ℕ → List ℕ → Type 0
Or answers pass status text = answers status text ⊎ (pass × Says 3 pairs_line status text)

-- of two machines
abbrev pub MayCompare : (file other_file : List ℕ) → (first second : Machine) → ℕ → List ℕ → Type 0
MayCompare file other_file first second = Or (Compares file other_file first second) (PassPairs first second)
