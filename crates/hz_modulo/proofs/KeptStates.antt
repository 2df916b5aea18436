-- The states at the starts of turns that are kept.
use Rattle.std.specs.Prelude.{◌≡◌, ℕ, ◌+◌, ◌-◌, ◌<◌, List, length, Option, Some}
use Rattle.hz_modulo.specs.Repeating.{states_at}

-- The starts from one on are kept, up to another.
pub record AreKept (edge : ℕ → Option (List ℕ)) (stages turn : ℕ) (lists : List (List ℕ)) : Type 0 where
  pub many : length lists ≡ turn - stages
  pub each : (i : ℕ) → i < length lists → edge (stages + i) ≡ Some (states_at lists i)
