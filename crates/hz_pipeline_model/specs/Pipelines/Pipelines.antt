-- What a description means to a replay: its classes with their alternatives, its statements and its treatment.
-- GCC Internals, 'Specifying processor pipeline description'.
use Rattle.std.specs.Prelude.{◌≡◌, ℕ, List, map, if◌then◌else◌}
use Rattle.hz_description_model.specs.Reservations.Alternatives.{Alternative, alternatives_of}
use Rattle.hz_description_model.specs.Reservations.Automata.{UnitPlace}
use Rattle.hz_pipeline_model.specs.Accepting.Replay.{Class, Pipeline, Treatment, first_fit, any_fit}
use Rattle.hz_description_model.specs.Reading.Descriptions.{Description, ClassItem, Options}
use Rattle.hz_description_model.specs.Check.Places.{IsKnown, statement_of}

-- a class with its alternatives, where `known` has those of each name
abbrev pub class_of : (List ℕ → List (Alternative UnitPlace)) → ClassItem → Class UnitPlace
class_of known c = record { name = c.name; alternatives = alternatives_of known c.expression }

-- the second treatment is that of `ndfa`
abbrev pub treatment_of : Options → Treatment
treatment_of o = if o.ndfa then any_fit else first_fit

-- The machine of a description, where `known` has the alternatives of each name.
abbrev pub pipeline_with : Description → (List ℕ → List (Alternative UnitPlace)) → Pipeline UnitPlace
pipeline_with d known = record { classes = map (class_of known) d.classes; statements = map (statement_of d) d.sets; treatment = treatment_of d.options }

-- The machine of a description.
pub record IsPipelineOf (d : Description) (m : Pipeline UnitPlace) : Type 0 where
  pub known : List ℕ → List (Alternative UnitPlace)
  pub right : IsKnown d known
  pub machine : m ≡ pipeline_with d known
