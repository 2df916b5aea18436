-- How many cycles later a class fits. This profile, docs/RULES.md, 'Reasons'.
use Rattle.std.specs.Prelude.{ℕ, ◌+◌, ◌<◌, List, Option, Some, None}
use Rattle.hz_pipeline_model.specs.Accepting.Events.{Event}
use Rattle.hz_pipeline_model.specs.Accepting.Replay.{Pipeline, State, FitsAt, IsChoice, left_by}

-- what stands reserved, so many cycles later
abbrev pub after : {U : Type 0} → ℕ → State U → State U
after n s = record { reserved = s.reserved; now = n + s.now }

-- some alternative of the class fits so many cycles later
abbrev pub FitsLater : {U : Type 0} → Pipeline U → State U → (class cycles : ℕ) → Type 0
FitsLater m s k n = (i : ℕ) × FitsAt m (after n s) k i

-- the same of what some choices leave that accept the events
abbrev pub MayFitLater : {U : Type 0} → Pipeline U → List Event → (class cycles : ℕ) → Type 0
MayFitLater m t k n = (choices : List ℕ) × IsChoice m t choices × FitsLater m (left_by m t choices) k n

-- The least number of cycles after which the class fits, by any of the choices that accept the events; none where it fits in no
-- cycle, neither in the present one nor in a later one.
abbrev pub IsLeastWait : {U : Type 0} → Pipeline U → List Event → (class : ℕ) → Option ℕ → Type 0
IsLeastWait m t k (Some n) = MayFitLater m t k n × ((j : ℕ) → j < n → MayFitLater m t k j → ⊥)
IsLeastWait m t k None = (n : ℕ) → MayFitLater m t k n → ⊥
