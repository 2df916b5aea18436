-- One automaton of a pipeline. This profile, docs/RULES.md.
use Rattle.std.specs.Prelude.{◌≡◌, ℕ, List, map, filter}
use Rattle.std.specs.List.{Contains}
use Rattle.hz_description_model.specs.Reservations.Alternatives.{Alternative}
use Rattle.hz_base_model.specs.Pairs.{Pair}
use Rattle.hz_description_model.specs.Reservations.Automata.{UnitPlace, list_in}
use Rattle.hz_description_model.specs.Reservations.Sets.{Statement}
use Rattle.hz_pipeline_model.specs.Accepting.Replay.{Class, Pipeline, chosen}
use Rattle.hz_description_model.specs.Reservations.Inside.{inside_statement, is_inside, IsStatementOf}

-- an alternative of these pairs; how long it runs changes no acceptance
abbrev pub of_pairs : List (Pair ℕ) → Alternative ℕ
of_pairs pairs = record { pairs = pairs; cycles = 0 }

-- a class with its list in the automaton
abbrev pub class_in : ℕ → Class UnitPlace → Class ℕ
class_in automaton c = record { name = c.name; alternatives = map of_pairs (list_in automaton c.alternatives) }

-- The machine restricted to an automaton: its units and statements alone, and the lists of the classes there.
abbrev pub restricted : ℕ → Pipeline UnitPlace → Pipeline ℕ
restricted automaton m =
    record { classes = map (class_in automaton) m.classes; statements = map inside_statement (filter (is_inside automaton) m.statements); treatment = m.treatment }

-- The machine has the units of one automaton alone.
pub record IsOf (automaton : ℕ) (m : Pipeline UnitPlace) : Type 0 where
  pub pairs : (k i : ℕ) (p : Pair UnitPlace) → Contains (chosen m k i) p → p.unit.automaton ≡ automaton
  pub statements : (s : Statement UnitPlace) → Contains m.statements s → IsStatementOf automaton s
