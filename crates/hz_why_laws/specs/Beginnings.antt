-- What `hz_why` answers beside what `replay` answers.
use Rattle.std.specs.Prelude.{◌≡◌, ◌⊎◌, ℕ, List, ◌++◌}
use Rattle.hz_front_model.specs.Texts.{states_line}

-- The text begins with an answer of this status; or else it is answered that an automaton of the description of this name has too many
-- states.
abbrev pub Begins : (description : List ℕ) → (answers : ℕ → List ℕ → Type 0) → ℕ → List ℕ → Type 0
Begins description answers status text =
    ((answer rest : List ℕ) × (answers status answer × (text ≡ answer ++ rest))) ⊎ ((automaton : List ℕ) × answers 3 (states_line description automaton))
