-- Pipelines whose units fall into groups that nothing ties, as `tools/extract.py --split` cuts automata. This profile, docs/GCC.md.
-- A cut gives units other places, so it is a pipeline of the same groups as the one before with its units renamed.
-- Laws: `pipelines_of_the_same_groups_accept_the_same`, `pipelines_of_the_same_groups_hold_the_same`,
-- `renamed_pipelines_accept_the_same`, `cut_pipelines_accept_the_same`.
use Rattle.std.specs.Prelude.{◌≡◌, ℕ, ◌<◌, ◌≤◌, ◌==◌, List, [], length, filter, map, slice_index_or}
use Rattle.std.specs.List.{Contains}
use Rattle.hz_base_model.specs.Pairs.{Pair, SamePairs}
use Rattle.hz_description_model.specs.Reservations.Alternatives.{Alternative}
use Rattle.hz_description_model.specs.Reservations.Sets.{Statement}
use Rattle.hz_pipeline_model.specs.Accepting.Replay.{Class, Pipeline, first_fit, alternatives_at, chosen}

-- what each group may take of a class, in the order in which it is tried: a list of sets of pairs for each group, by its number. Of a
-- group of which the class takes nothing that is the list of one empty set.
abbrev pub GroupLists : (U : Type 0) → Type 0
GroupLists U = ℕ → List (List (Pair U))

-- the pairs whose units are of one group
abbrev pub of_group : {U : Type 0} → (group : U → ℕ) → ℕ → List (Pair U) → List (Pair U)
of_group group a pairs = filter (λ p. group p.unit == a) pairs

-- each number is one of its group's list
abbrev pub AreNumbers : {U : Type 0} → GroupLists U → (numbers : ℕ → ℕ) → Type 0
AreNumbers lists numbers = (a : ℕ) → numbers a < length (lists a)

-- The pairs of each group are those that its list has at this number.
abbrev pub IsAt : {U : Type 0} → (group : U → ℕ) → GroupLists U → (numbers : ℕ → ℕ) → List (Pair U) → Type 0
IsAt group lists numbers pairs = (a : ℕ) → SamePairs (of_group group a pairs) (slice_index_or (lists a) (numbers a) [])

-- The alternative of this number has these numbers in the groups' lists, and no alternative before it has in each group the same
-- number or a later one.
pub record IsFirstAt {U : Type 0} (group : U → ℕ) (lists : GroupLists U) (m : Pipeline U) (k : ℕ) (numbers : ℕ → ℕ) (i : ℕ) : Type 0 where
  pub within : i < length (alternatives_at m k)
  pub at : IsAt group lists numbers (chosen m k i)
  pub first : m.treatment ≡ first_fit → (j : ℕ) (later : ℕ → ℕ) → j < length (alternatives_at m k) → AreNumbers lists later → IsAt group lists later (chosen m k j) → ((a : ℕ) → numbers a ≤ later a) → i ≤ j

-- The alternatives of the class are the product of the groups' lists: each takes one set of each list, and each choice of sets is
-- an alternative. In the first treatment none comes before another that is in no group later, as in each lexicographic order.
pub record IsProduct {U : Type 0} (group : U → ℕ) (lists : GroupLists U) (m : Pipeline U) (k : ℕ) : Type 0 where
  pub parts : (i : ℕ) → i < length (alternatives_at m k) → (numbers : ℕ → ℕ) × AreNumbers lists numbers × IsAt group lists numbers (chosen m k i)
  pub whole : (numbers : ℕ → ℕ) → AreNumbers lists numbers → (i : ℕ) × IsFirstAt group lists m k numbers i

-- all units that the statement names are of one group
pub record IsOfGroup {U : Type 0} (group : U → ℕ) (s : Statement U) : Type 0 where
  pub number : ℕ
  pub units : (u : U) → Contains s.units u → group u ≡ number
  pub patterns : (pattern : List U) → Contains s.patterns pattern → (u : U) → Contains pattern u → group u ≡ number

-- Two pipelines are of the same groups: they have the same statements, each of one group, the same treatment, as many classes, and of
-- each class both have the product of the same lists.
pub record AreOfGroups {U : Type 0} (group : U → ℕ) (lists : (class : ℕ) → GroupLists U) (m o : Pipeline U) : Type 0 where
  pub statements : m.statements ≡ o.statements
  pub treatment : m.treatment ≡ o.treatment
  pub classes : length m.classes ≡ length o.classes
  pub tied : (s : Statement U) → Contains m.statements s → IsOfGroup group s
  pub before : (k : ℕ) → k < length m.classes → IsProduct group (lists k) m k
  pub after : (k : ℕ) → k < length o.classes → IsProduct group (lists k) o k

-- ---- units by other names

-- the same pair, by another name of its unit
abbrev pub renamed_pair : {U V : Type 0} → (rename : U → V) → Pair U → Pair V
renamed_pair rename p = record { unit = rename p.unit; cycle = p.cycle }

abbrev pub renamed_pairs : {U V : Type 0} → (rename : U → V) → List (Pair U) → List (Pair V)
renamed_pairs rename pairs = map (renamed_pair rename) pairs

abbrev pub renamed_alternative : {U V : Type 0} → (rename : U → V) → Alternative U → Alternative V
renamed_alternative rename a = record { pairs = renamed_pairs rename a.pairs; cycles = a.cycles }

abbrev pub renamed_class : {U V : Type 0} → (rename : U → V) → Class U → Class V
renamed_class rename c = record { name = c.name; alternatives = map (renamed_alternative rename) c.alternatives }

abbrev pub renamed_statement : {U V : Type 0} → (rename : U → V) → Statement U → Statement V
renamed_statement rename s = record { kind = s.kind; units = map rename s.units; patterns = map (map rename) s.patterns }

-- the pipeline with other names of its units
abbrev pub renamed : {U V : Type 0} → (rename : U → V) → Pipeline U → Pipeline V
renamed rename m = record { classes = map (renamed_class rename) m.classes; statements = map (renamed_statement rename) m.statements; treatment = m.treatment }

-- no two units get one name
abbrev pub IsOneToOne : {U V : Type 0} → (rename : U → V) → Type 0
IsOneToOne {U} {V} rename = (u v : U) → rename u ≡ rename v → u ≡ v
