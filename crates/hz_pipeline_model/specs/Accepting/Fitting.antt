-- What fitting depends on. Calendars and states are those of GCC Internals, 'Specifying processor pipeline description';
-- that statements are asked in every cycle is this profile's, docs/RULES.md.
use Rattle.std.specs.Prelude.{◌≡◌, ◌↔◌, ℕ, ◌+◌, List}
use Rattle.std.specs.List.{Contains}
use Rattle.hz_base_model.specs.Pairs.{Pair}
use Rattle.hz_description_model.specs.Reservations.Sets.{Statement, exclusion, Holds, HoldsSome, HoldsPattern, Fits}
use Rattle.hz_pipeline_model.specs.Accepting.Replay.{State}

-- The planned pairs are what stands reserved at the present cycle or later, with cycles counted from the present one.
pub record IsFuture {U : Type 0} (planned : List (Pair U)) (s : State U) : Type 0 where
  pub pairs : (unit : U) (cycle : ℕ) → Contains planned (record { unit = unit; cycle = cycle }) ↔ Contains s.reserved (record { unit = unit; cycle = s.now + cycle })

-- No exclusion is broken: in no cycle a unit of one stands together with one of its patterns.
pub record IsUnbroken {U : Type 0} (statements : List (Statement U)) (reserved : List (Pair U)) : Type 0 where
  pub excluded : (s : Statement U) → Contains statements s → s.kind ≡ exclusion → (cycle : ℕ) → HoldsSome s.units (Holds reserved cycle) → HoldsPattern s.patterns (Holds reserved cycle) → ⊥

-- under both lists of statements the same pairs fit, wherever they are added
abbrev pub AskTheSame : {U : Type 0} → List (Statement U) → List (Statement U) → Type 0
AskTheSame {U} first second = (source pairs : List (Pair U)) (now : ℕ) → Fits first source pairs now ↔ Fits second source pairs now
