-- For how many cycles the shortest and the longest of some alternatives run, up to one above the limit.
use Rattle.std.specs.Prelude.{ℕ, ◌+◌, min, List, [], ◌∷◌}
use Rattle.hz_base_model.specs.Limits.{cycle_limit}
use Rattle.hz_description_model.specs.Reservations.Alternatives.{Alternative}

-- a length, where one above the limit is reported as the limit and one
abbrev pub cut_length : ℕ → ℕ
cut_length cycles = min cycles (cycle_limit + 1)

-- for how many cycles the shortest runs
abbrev pub least_length : {U : Type 0} → List (Alternative U) → ℕ
least_length [] = cycle_limit + 1
least_length (a ∷ others) = min a.cycles (least_length others)
