-- The statements of set rules.
use Rattle.std.specs.Prelude.{ℕ, ◌<◌, ◌==◌, nat_eq, List, [], map, filter, All}
use Rattle.std.specs.Cmp.Lexicographic.{pointwise}
use Rattle.indexmap.specs.IndexSet.{insert_all}
use Rattle.std.specs.List.{list_any, range_with_len}
use Rattle.hz_description_model.specs.Reservations.Sets as model
use Rattle.hz_description_model.specs.Reservations.Sets.{Statement, exclusion, presence, final_presence, absence, final_absence}
use Rattle.hz_grid.specs.declared.rows.TheConstants.{UNITS}
use Rattle.hz_unitsets.specs.declared.set_rules.SetKind.{SetKind}
use Rattle.hz_unitsets.specs.declared.set_rules.SetKind.TheVariants.{Exclusion, Presence, FinalPresence, Absence, FinalAbsence}
use Rattle.hz_unitsets.specs.declared.set_rules.SetRule.{SetRule}

-- the kind of statement
abbrev pub kind_of : SetKind → model.SetKind
kind_of Exclusion = exclusion
kind_of Presence = presence
kind_of FinalPresence = final_presence
kind_of Absence = absence
kind_of FinalAbsence = final_absence

-- the statement that a rule is
abbrev pub statement_of : SetRule → Statement ℕ
statement_of set = record { kind = kind_of set.kind; units = set.units.items; patterns = map (λ pattern. pattern.items) set.patterns.items }

-- the statements that rules are
abbrev pub statements_of : List SetRule → List (Statement ℕ)
statements_of sets = map statement_of sets

-- the units of the rule and of its patterns are units of an automaton
pub record IsInRange (set : SetRule) : Type 0 where
  pub units : All (λ unit. unit < UNITS) set.units.items
  pub patterns : All (λ pattern. All (λ unit. unit < UNITS) pattern.items) set.patterns.items

-- the units of the list that an automaton may have, ascending and each once
unfoldable pub in_order : List ℕ → List ℕ
in_order units = filter (λ unit. list_any (λ u. u == unit) units) (range_with_len 0 UNITS)

-- the patterns, each later equal one dropped
unfoldable pub each_once : List (List ℕ) → List (List ℕ)
each_once patterns = insert_all (pointwise nat_eq) [] patterns

-- the statement with the units of each of its lists in order, and each pattern once
abbrev pub ordered : Statement ℕ → Statement ℕ
ordered s = record { kind = s.kind; units = in_order s.units; patterns = each_once (map in_order s.patterns) }
