-- What a plan and a calendar say of a pipeline.
use Rattle.std.specs.Prelude.{◌≡◌, ◌↔◌, ℕ, ◌+◌, ◌<◌, List, All, Contains, [], ◌++◌, length, map, filter, Option, Some, None, slice_get, if◌then◌else◌}
use Rattle.std.specs.declared.alloc.Global.{Global}
use Rattle.std.specs.declared.vec.Vec.{Vec}
use Rattle.hz_base_model.specs.Pairs.{Pair, placed}
use Rattle.hz_description_model.specs.Reservations.Automata.{UnitPlace, ascending}
use Rattle.hz_description_model.specs.Reservations.Inside.{inside_statement, is_inside, IsStatementOf}
use Rattle.hz_description_model.specs.Reservations.Sets.{Statement}
use Rattle.hz_pipeline_model.specs.Accepting.Fitting.{AskTheSame, IsUnbroken}
use Rattle.hz_pipeline_model.specs.Accepting.Replay.{Pipeline, first_fit, any_fit, State, alternatives_at, chosen, FitsAt, MayTake}
use Rattle.hz_reasons.specs.Calendars.{at, parts_at}
use Rattle.hz_unitsets.specs.SetRules.{kind_of}
use Rattle.hz_reasons.specs.declared.plan.AutomatonUnit.{AutomatonUnit}
use Rattle.hz_reasons.specs.declared.plan.Choice.{Choice}
use Rattle.hz_reasons.specs.declared.plan.Place.{Place}
use Rattle.hz_reasons.specs.declared.plan.Plan.{Plan}
use Rattle.hz_reasons.specs.declared.plan.SetStatement.{SetStatement}

-- a unit of an automaton in a cycle
abbrev pub in_automaton : (automaton unit cycle : ℕ) → Pair UnitPlace
in_automaton a unit cycle = record { unit = record { automaton = a; unit = unit }; cycle = cycle }

-- the alternatives of a class, none where there is no such class
abbrev pub choices_of : Option (Vec Choice Global) → List Choice
choices_of None = []
choices_of (Some choices) = choices.items

abbrev pub choices_at : Plan → ℕ → List Choice
choices_at plan k = choices_of (slice_get plan.classes.items k)

-- what an alternative takes in an automaton
abbrev pub part_at : Plan → (class number automaton : ℕ) → List (Pair ℕ)
part_at plan k i a = at (parts_at (choices_at plan k) i) a

-- the set statements on the units of an automaton
abbrev pub statements_inside : Pipeline UnitPlace → ℕ → List (Statement ℕ)
statements_inside m a = map inside_statement (filter (is_inside a) m.statements)

-- a pair of an alternative
abbrev pub place_of : Place → Pair UnitPlace
place_of p = in_automaton p.automaton p.unit p.cycle

-- all pairs of an alternative; none where there is no such alternative
abbrev pub pairs_of : Option Choice → List Place
pairs_of None = []
pairs_of (Some choice) = choice.pairs.items

abbrev pub pairs_at : List Choice → ℕ → List Place
pairs_at choices i = pairs_of (slice_get choices i)

-- each alternative has a part for each automaton
abbrev pub IsWide : Plan → Type 0
IsWide plan = All (λ choices. All (λ choice. length choice.parts.items ≡ length plan.rules.items) choices.items) plan.classes.items

-- a unit of an automaton
abbrev pub unit_of : AutomatonUnit → UnitPlace
unit_of u = record { automaton = u.automaton; unit = u.unit }

-- a set statement
abbrev pub statement_of : SetStatement → Statement UnitPlace
statement_of set = record { kind = kind_of set.kind; units = map unit_of set.units.items; patterns = map (λ pattern. map unit_of pattern.items) set.patterns.items }

-- The plan has the pipeline's statements in their order; its alternatives and statements automaton by automaton; and its treatment.
pub record IsPlanOf (m : Pipeline UnitPlace) (plan : Plan) : Type 0 where
  pub sets : map statement_of plan.sets.items ≡ m.statements
  pub pairs : (k i : ℕ) (p : Pair UnitPlace) → Contains (chosen m k i) p → p.unit.automaton < length plan.rules.items
  pub statements : (s : Statement UnitPlace) → Contains m.statements s → (a : ℕ) × (a < length plan.rules.items) × IsStatementOf a s
  pub asks : (a : ℕ) → a < length plan.rules.items → AskTheSame (at plan.rules.items a) (statements_inside m a)
  pub numbers : (k : ℕ) → length (choices_at plan k) ≡ length (alternatives_at m k)
  pub parts : (k i a unit cycle : ℕ) → i < length (choices_at plan k) → a < length plan.rules.items → Contains (part_at plan k i a) (record { unit = unit; cycle = cycle }) ↔ Contains (chosen m k i) (in_automaton a unit cycle)
  pub listed : (k i : ℕ) → i < length (choices_at plan k) → map place_of (pairs_at (choices_at plan k) i) ≡ ascending (chosen m k i)
  pub treatment : m.treatment ≡ (if plan.any_fit then any_fit else first_fit)

-- the grids are what stands reserved from the present cycle on, automaton by automaton
abbrev pub AreFuture : (grids : List (List (Pair ℕ))) → State UnitPlace → Type 0
AreFuture grids s = (a unit cycle : ℕ) → a < length grids → Contains (at grids a) (record { unit = unit; cycle = cycle }) ↔ Contains s.reserved (in_automaton a unit (s.now + cycle))

-- The grids are what stands reserved from the present cycle on, and no exclusion is broken.
pub record Stands (m : Pipeline UnitPlace) (grids : List (List (Pair ℕ))) (s : State UnitPlace) : Type 0 where
  pub future : AreFuture grids s
  pub unbroken : IsUnbroken m.statements s.reserved

-- what stands reserved after an issue that takes the alternative of this number
abbrev pub after_issue : Pipeline UnitPlace → State UnitPlace → (class number : ℕ) → State UnitPlace
after_issue m s k i = record { reserved = s.reserved ++ placed s.now (chosen m k i); now = s.now }

-- What an issue of a class makes of what stands reserved: it takes the first alternative that fits; where none fits all stays.
abbrev pub Issues : Pipeline UnitPlace → State UnitPlace → (class : ℕ) → Option ℕ → (grids : List (List (Pair ℕ))) → Type 0
Issues m s k None grids = ((i : ℕ) → FitsAt m s k i → ⊥) × Stands m grids s
Issues m s k (Some i) grids = MayTake m s k i × Stands m grids (after_issue m s k i)
