-- Units and cycles of stretches.
use Rattle.std.specs.Prelude.{◌≡◌, ℕ, ◌≤◌, List}
use Rattle.std.specs.List.{Contains}
use Rattle.hz_why_model.specs.Takes.{Stretch}

-- the stretch has the unit in the cycle
abbrev pub IsWithin : {U : Type 0} → Stretch U → U → (cycle : ℕ) → Type 0
IsWithin s u cycle = (s.unit ≡ u) × (s.first ≤ cycle) × (cycle ≤ s.last)

-- one of the stretches has the unit in the cycle
abbrev pub SomeHas : {U : Type 0} → List (Stretch U) → U → (cycle : ℕ) → Type 0
SomeHas {U} stretches u cycle = (s : Stretch U) × Contains stretches s × IsWithin s u cycle
