-- Pipelines of which each unit is taken earlier by a number of its own, as `tools/extract.py --align` writes them. This profile,
-- docs/GCC.md. Laws: `moved_pipelines_accept_the_same`, `units_that_stay_are_held_as_before`.
use Rattle.std.specs.Prelude.{◌≡◌, ℕ, ◌+◌, ◌-◌, ◌≤◌, List, map}
use Rattle.std.specs.List.{Contains}
use Rattle.hz_base_model.specs.Pairs.{Pair}
use Rattle.hz_description_model.specs.Reservations.Alternatives.{Alternative}
use Rattle.hz_description_model.specs.Reservations.Sets.{Statement}
use Rattle.hz_pipeline_model.specs.Accepting.Events.{Event, cycles_of}
use Rattle.hz_pipeline_model.specs.Accepting.Replay.{Class, Pipeline, ChoiceFirst, chosen, calendar}

-- the pair, by so many cycles earlier as are said of its unit
abbrev pub moved_pair : {U : Type 0} → (earlier : U → ℕ) → Pair U → Pair U
moved_pair earlier p = record { unit = p.unit; cycle = p.cycle - earlier p.unit }

abbrev pub moved_pairs : {U : Type 0} → (earlier : U → ℕ) → List (Pair U) → List (Pair U)
moved_pairs earlier pairs = map (moved_pair earlier) pairs

-- an alternative with its pairs moved; how long it runs changes no acceptance
abbrev pub moved_alternative : {U : Type 0} → (earlier : U → ℕ) → Alternative U → Alternative U
moved_alternative earlier a = record { pairs = moved_pairs earlier a.pairs; cycles = a.cycles }

abbrev pub moved_class : {U : Type 0} → (earlier : U → ℕ) → Class U → Class U
moved_class earlier c = record { name = c.name; alternatives = map (moved_alternative earlier) c.alternatives }

-- the pipeline with the pairs of all alternatives moved; statements and treatment stay
abbrev pub moved : {U : Type 0} → (earlier : U → ℕ) → Pipeline U → Pipeline U
moved earlier m = record { classes = map (moved_class earlier) m.classes; statements = m.statements; treatment = m.treatment }

-- no pair is moved to before the cycle of its issue
abbrev pub IsLate : {U : Type 0} → (earlier : U → ℕ) → List (Pair U) → Type 0
IsLate {U} earlier pairs = (p : Pair U) → Contains pairs p → earlier p.unit ≤ p.cycle

-- all units that the statement names are moved by one number
pub record IsTied {U : Type 0} (earlier : U → ℕ) (s : Statement U) : Type 0 where
  pub cycles : ℕ
  pub units : (u : U) → Contains s.units u → earlier u ≡ cycles
  pub patterns : (pattern : List U) → Contains s.patterns pattern → (u : U) → Contains pattern u → earlier u ≡ cycles

-- The units may be moved: no pair of an alternative leaves its issue, and no statement names units that part.
pub record MayMove {U : Type 0} (earlier : U → ℕ) (m : Pipeline U) : Type 0 where
  pub late : (k i : ℕ) → IsLate earlier (chosen m k i)
  pub tied : (s : Statement U) → Contains m.statements s → IsTied earlier s

-- The unit is reserved so many cycles after the present one, after these events: `IsHeld` looks at the present cycle.
abbrev pub IsHeldLater : {U : Type 0} → Pipeline U → List Event → U → (cycles : ℕ) → Type 0
IsHeldLater m t unit cycles = (choices : List ℕ) × ChoiceFirst m t choices × Contains (calendar m 0 t choices) (record { unit = unit; cycle = cycles + cycles_of t })
