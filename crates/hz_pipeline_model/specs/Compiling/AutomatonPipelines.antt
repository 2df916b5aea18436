-- The pipeline of one automaton, by what a description without a fault gives. This profile, docs/RULES.md.
use Rattle.std.specs.Prelude.{ℕ, List, [], map, slice_index_or}
use Rattle.hz_base_model.specs.Pairs.{Pair}
use Rattle.hz_pipeline_model.specs.Accepting.Replay.{Pipeline}
use Rattle.hz_description_model.specs.Reservations.Alternatives.{alternatives_of}
use Rattle.hz_description_model.specs.Reservations.Automata.{list_in, UnitPlace}
use Rattle.hz_description_model.specs.Check.Places.{Known}
use Rattle.hz_description_model.specs.Reading.Descriptions.{Description, Options}
use Rattle.hz_description_model.specs.Check.CheckedParts.{AutomatonParts, ClassParts, queries_in}
use Rattle.hz_pipeline_model.specs.Pipelines.Pipelines.{treatment_of}
use Rattle.hz_pipeline_model.specs.Reaching.Columns.{pipeline_on}

-- an automaton without units
abbrev pub no_automaton : AutomatonParts
no_automaton = record { name = []; units = []; queries = []; statements = [] }

-- the automaton of this number, one without units where there is none
abbrev pub automaton_at : List AutomatonParts → ℕ → AutomatonParts
automaton_at automata a = slice_index_or automata a no_automaton

-- the query units of the automaton of this number
abbrev pub queries_at : List AutomatonParts → ℕ → List ℕ
queries_at automata a = (automaton_at automata a).queries

-- the query unit of this number in an automaton of a description
abbrev pub query_unit : Description → (automaton query : ℕ) → UnitPlace
query_unit d automaton query = record { automaton = automaton; unit = slice_index_or (queries_in d automaton) query 0 }

-- the lists of the classes in the automaton of this number
abbrev pub lists_at : List ClassParts → ℕ → List (List (List (Pair ℕ)))
lists_at classes a = map (λ c. slice_index_or c.lists a []) classes

-- the pipeline of that automaton: its statements, and the lists of the classes in it
abbrev pub automaton_pipeline : Options → List AutomatonParts → List ClassParts → ℕ → Pipeline ℕ
automaton_pipeline options automata classes a = pipeline_on (treatment_of options) (automaton_at automata a).statements (lists_at classes a)

-- the lists of the classes of a description in an automaton, where its names have these alternatives
abbrev pub class_lists : Description → Known → ℕ → List (List (List (Pair ℕ)))
class_lists d known a = map (λ c. list_in a (alternatives_of known c.expression)) d.classes
