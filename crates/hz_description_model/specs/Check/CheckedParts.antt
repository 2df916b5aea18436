-- What a description without a fault gives, automaton by automaton and class by class. This profile, docs/RULES.md.
use Rattle.std.specs.Prelude.{ℕ, suc, ◌==◌, Bool, List, [], ◌∷◌, map, filter, length, codes, if◌then◌else◌}
use Rattle.std.specs.List.{range_with_len, filter_map}
use Rattle.hz_base_model.specs.Lines.{place_of}
use Rattle.hz_base_model.specs.Pairs.{Pair}
use Rattle.hz_description_model.specs.Reservations.Alternatives.{alternatives_of}
use Rattle.hz_description_model.specs.Reservations.Automata.{list_in}
use Rattle.hz_description_model.specs.Reservations.Sets.{Statement}
use Rattle.hz_description_model.specs.Reading.Descriptions.{Description, UnitItem, Condition, ClassItem, BypassItem}
use Rattle.hz_description_model.specs.Check.Places.{class_names, automaton_number, statement_of, Known}
use Rattle.hz_description_model.specs.Reservations.Inside.{inside_statement, is_inside}

-- an automaton: its name, its units by their numbers, the numbers of its query units, and its set statements on its units
pub record AutomatonParts : Type 0 where
  pub name : List ℕ
  pub units : List (List ℕ)
  pub queries : List ℕ
  pub statements : List (Statement ℕ)

-- a class, with its list for each automaton
pub record ClassParts : Type 0 where
  pub name : List ℕ
  pub line : ℕ
  pub latency : ℕ
  pub condition : Condition
  pub lists : List (List (List (Pair ℕ)))

-- a bypass, on classes by their numbers, and whether it has the guard
pub record BypassParts : Type 0 where
  pub number : ℕ
  pub outs : List ℕ
  pub ins : List ℕ
  pub guard : Bool

-- the names of the automata; where none is defined there is one, which is written `-`
abbrev pub automaton_names : Description → List (List ℕ)
automaton_names d = if length d.automata == 0 then codes "-" ∷ [] else map (λ a. a.name) d.automata

-- how many automata there are
abbrev pub automaton_count : Description → ℕ
automaton_count d = length (automaton_names d)

-- an automaton's units, in the order of the file
abbrev pub unit_items_in : Description → ℕ → List UnitItem
unit_items_in d automaton = filter (λ u. automaton_number d u.automaton == automaton) d.units

-- the names of an automaton's units, in the order of the file
abbrev pub units_in : Description → ℕ → List (List ℕ)
units_in d automaton = map (λ u. u.name) (unit_items_in d automaton)

-- the places of the items that pass a test, where the first item has this place
abbrev pub places_where : {A : Type 0} → (A → Bool) → ℕ → List A → List ℕ
places_where test n [] = []
places_where test n (item ∷ items) = if test item then n ∷ places_where test (suc n) items else places_where test (suc n) items

-- the query units of an automaton by their numbers in it, in the order of the file
abbrev pub queries_in : Description → ℕ → List ℕ
queries_in d automaton = places_where (λ u. u.query) 0 (unit_items_in d automaton)

-- their names
abbrev pub ask_names_in : Description → ℕ → List (List ℕ)
ask_names_in d automaton = map (λ u. u.name) (filter (λ u. u.query) (unit_items_in d automaton))

-- the statements on an automaton's units, in the order of the file
abbrev pub statements_in : Description → ℕ → List (Statement ℕ)
statements_in d automaton = map inside_statement (filter (is_inside automaton) (map (statement_of d) d.sets))

-- the automaton of a number and its name
abbrev pub automaton_parts : Description → ℕ → List ℕ → AutomatonParts
automaton_parts d automaton name = record { name = name; units = units_in d automaton; queries = queries_in d automaton; statements = statements_in d automaton }

-- automata of these names, of which the first has this number
abbrev pub automata_from : Description → ℕ → List (List ℕ) → List AutomatonParts
automata_from d automaton [] = []
automata_from d automaton (name ∷ names) = automaton_parts d automaton name ∷ automata_from d (suc automaton) names

-- the automata, in the order of the file
abbrev pub automata_of : Description → List AutomatonParts
automata_of d = automata_from d 0 (automaton_names d)

-- the list of a class for each automaton
abbrev pub lists_of : Description → Known → ClassItem → List (List (List (Pair ℕ)))
lists_of d known c = map (λ automaton. list_in automaton (alternatives_of known c.expression)) (range_with_len 0 (automaton_count d))

abbrev pub class_parts : Description → Known → ClassItem → ClassParts
class_parts d known c = record { name = c.name; line = c.line; latency = c.latency; condition = c.condition; lists = lists_of d known c }

-- the numbers of classes by their names
abbrev pub class_numbers : Description → List (List ℕ) → List ℕ
class_numbers d names = filter_map (λ name. place_of name (class_names d)) names

abbrev pub bypass_parts : Description → BypassItem → BypassParts
bypass_parts d b = record { number = b.number; outs = class_numbers d b.outs; ins = class_numbers d b.ins; guard = b.guard }

-- the attributes with their values, in the order of the file
abbrev pub attributes_of : Description → List (List ℕ × List (List ℕ))
attributes_of d = map (λ a. (a.name, a.values)) d.attributes

-- their defaults
abbrev pub defaults_of : Description → List (List ℕ × List ℕ)
defaults_of d = map (λ a. (a.name, a.fallback)) d.attributes
