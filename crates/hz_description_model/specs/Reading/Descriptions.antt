-- What a description says, form by form, as it is read. GCC Internals, 'Specifying processor pipeline description' and,
-- for attributes and conditions, 'Instruction Attributes'.
use Rattle.std.specs.Prelude.{ℕ, ℤ, Bool, false, not, List, [], filter, Option}
use Rattle.hz_description_model.specs.Reservations.Alternatives.{Expression}
use Rattle.hz_description_model.specs.Reservations.Sets.{SetKind}

-- A condition of an instruction. `matches` is `eq_attr`: the attribute has one of the values, or with `!` none of them.
mutual
  pub data Condition : Type 0 where
    constant : (value : ℤ) → Condition
    matches : (attribute : List ℕ) → (values : List (List ℕ)) → (negated : Bool) → Condition
    negation : (test : Condition) → Condition
    conjunction : (tests : Conditions) → Condition
    disjunction : (tests : Conditions) → Condition

  -- conditions side by side
  pub data Conditions : Type 0 where
    none : Conditions
    more : (first : Condition) → (others : Conditions) → Conditions

-- Each item has the line of its form, and the number of its form in the file, from 0.

-- `define_automaton`, one item for each name
pub record AutomatonItem : Type 0 where
  pub line : ℕ
  pub form : ℕ
  pub name : List ℕ

-- `define_cpu_unit` and `define_query_cpu_unit`, one item for each name; `query` tells whether it is a query unit
pub record UnitItem : Type 0 where
  pub line : ℕ
  pub form : ℕ
  pub name : List ℕ
  pub automaton : Option (List ℕ)
  pub query : Bool

-- `define_reservation`
pub record ReservationItem : Type 0 where
  pub line : ℕ
  pub form : ℕ
  pub name : List ℕ
  pub expression : Expression

-- `define_insn_reservation`
pub record ClassItem : Type 0 where
  pub line : ℕ
  pub form : ℕ
  pub name : List ℕ
  pub latency : ℕ
  pub condition : Condition
  pub expression : Expression

-- `define_bypass`; `guard` tells whether it has the guard `store_data_bypass_p`
pub record BypassItem : Type 0 where
  pub line : ℕ
  pub form : ℕ
  pub number : ℕ
  pub outs : List (List ℕ)
  pub ins : List (List ℕ)
  pub guard : Bool

-- the five set forms; of an exclusion each unit of the second string is a pattern by itself
pub record SetItem : Type 0 where
  pub line : ℕ
  pub form : ℕ
  pub kind : SetKind
  pub units : List (List ℕ)
  pub patterns : List (List (List ℕ))

-- `define_attr`
pub record AttributeItem : Type 0 where
  pub line : ℕ
  pub form : ℕ
  pub name : List ℕ
  pub values : List (List ℕ)
  pub fallback : List ℕ

-- `automata_option`: which of the options that have an effect stand somewhere in the file
pub record Options : Type 0 where
  pub ndfa : Bool
  pub no_minimization : Bool
  pub stats : Bool
  pub verbose : Bool
  pub no_comb_vect : Bool

-- The items of a file, each list in the order of the file.
pub record Description : Type 0 where
  pub automata : List AutomatonItem
  pub units : List UnitItem
  pub reservations : List ReservationItem
  pub classes : List ClassItem
  pub bypasses : List BypassItem
  pub sets : List SetItem
  pub attributes : List AttributeItem
  pub options : Options

-- the bypasses without the guard
abbrev pub unguarded : List BypassItem → List BypassItem
unguarded bypasses = filter (λ b. not b.guard) bypasses

-- no option stands
abbrev pub no_options : Options
no_options = record { ndfa = false; no_minimization = false; stats = false; verbose = false; no_comb_vect = false }

-- no item
abbrev pub no_items : Description
no_items = record { automata = []; units = []; reservations = []; classes = []; bypasses = []; sets = []; attributes = []; options = no_options }
