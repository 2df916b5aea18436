-- What holds of every description that was read: what is a name, an expression or a limited number, which kind of form each
-- item comes from, and the order of the items. Laws: `descriptions_are_well_formed`, `well_formed_descriptions_can_be_checked`.
use Rattle.std.specs.Prelude.{◌≡◌, ℕ, ◌<◌, ◌≤◌, Bool, true, false, ◌&&◌, List, [], ◌∷◌, Some, slice_get, All, IsTrue}
use Rattle.std.specs.List.{list_all, AllPairs}
use Rattle.std.specs.Option.{option_map_or}
use Rattle.hz_description_model.specs.Reservations.Expressions.{is_expression}
use Rattle.hz_description_model.specs.Reading.Limits as limits
use Rattle.hz_base_model.specs.Names.{is_name}
use Rattle.hz_description_model.specs.Reservations.Sets.{SetKind}
use Rattle.hz_description_model.specs.Reading.Descriptions.{Condition, Conditions, constant, matches, negation, conjunction, disjunction, none, more, AutomatonItem, UnitItem, ReservationItem, ClassItem, BypassItem, SetItem, AttributeItem, Description}

-- The kinds of forms, by the words that they begin with; the two forms of units go by whether these are query units, the five set
-- forms by their statements.
pub data FormKind : Type 0 where
  define_automaton define_reservation define_insn_reservation define_bypass automata_option define_attr : FormKind
  define_cpu_unit : (query : Bool) → FormKind
  set_form : (kind : SetKind) → FormKind

-- one name or more
abbrev pub are_names : List (List ℕ) → Bool
are_names [] = false
are_names (name ∷ names) = list_all is_name (name ∷ names)

-- one pattern or more
abbrev pub are_patterns : List (List (List ℕ)) → Bool
are_patterns [] = false
are_patterns (pattern ∷ patterns) = list_all are_names (pattern ∷ patterns)

-- two tests or more
abbrev pub are_several : Conditions → Bool
are_several (more first (more second others)) = true
are_several _ = false

-- A condition that can be written: names are names, and `and` and `ior` have two tests or more.
abbrev mutual
  pub is_condition : Condition → Bool
  is_condition (constant value) = true
  is_condition (matches attribute values negated) = is_name attribute && are_names values
  is_condition (negation test) = is_condition test
  is_condition (conjunction tests) = are_several tests && are_conditions tests
  is_condition (disjunction tests) = are_several tests && are_conditions tests

  -- each of them can be written
  pub are_conditions : Conditions → Bool
  are_conditions none = true
  are_conditions (more first others) = is_condition first && are_conditions others

-- Items of the forms of a file, whose kinds are given in their order.
module _ (kinds : List FormKind) where
  -- the form of this number is of this kind
  abbrev pub IsForm : ℕ → FormKind → Type 0
  IsForm form kind = slice_get kinds form ≡ Some kind

  pub record IsAutomaton (item : AutomatonItem) : Type 0 where
    pub form : IsForm item.form define_automaton
    pub name : IsTrue (is_name item.name)

  pub record IsUnit (item : UnitItem) : Type 0 where
    pub form : IsForm item.form (define_cpu_unit item.query)
    pub name : IsTrue (is_name item.name)
    pub automaton : IsTrue (option_map_or is_name item.automaton true)

  pub record IsReservation (item : ReservationItem) : Type 0 where
    pub form : IsForm item.form define_reservation
    pub name : IsTrue (is_name item.name)
    pub expression : IsTrue (is_expression item.expression)

  pub record IsClass (item : ClassItem) : Type 0 where
    pub form : IsForm item.form define_insn_reservation
    pub name : IsTrue (is_name item.name)
    pub latency : item.latency ≤ limits.latency_limit
    pub condition : IsTrue (is_condition item.condition)
    pub expression : IsTrue (is_expression item.expression)

  pub record IsBypass (item : BypassItem) : Type 0 where
    pub form : IsForm item.form define_bypass
    pub number : item.number ≤ limits.latency_limit
    pub outs : IsTrue (are_names item.outs)
    pub ins : IsTrue (are_names item.ins)

  pub record IsSet (item : SetItem) : Type 0 where
    pub form : IsForm item.form (set_form item.kind)
    pub units : IsTrue (are_names item.units)
    pub patterns : IsTrue (are_patterns item.patterns)

  pub record IsAttribute (item : AttributeItem) : Type 0 where
    pub form : IsForm item.form define_attr
    pub name : IsTrue (is_name item.name)
    pub values : IsTrue (are_names item.values)
    pub fallback : IsTrue (is_name item.fallback)

-- units of one form have one automaton, or none of them has any
abbrev pub SharesAutomaton : UnitItem → UnitItem → Type 0
SharesAutomaton earlier later = earlier.form ≡ later.form → earlier.automaton ≡ later.automaton

-- The description of a file whose forms are of some kinds. Each item is of a form of its kind, so its number is below that of
-- the forms, and items of two lists have different forms. Each list is in the order of the forms; several items of one form
-- stand in the order of its names.
pub record IsWellFormed (d : Description) : Type 0 where
  pub kinds : List FormKind
  pub automata : All (IsAutomaton kinds) d.automata
  pub units : All (IsUnit kinds) d.units
  pub reservations : All (IsReservation kinds) d.reservations
  pub classes : All (IsClass kinds) d.classes
  pub bypasses : All (IsBypass kinds) d.bypasses
  pub sets : All (IsSet kinds) d.sets
  pub attributes : All (IsAttribute kinds) d.attributes
  pub automata_in_order : AllPairs (λ earlier later. earlier.form ≤ later.form) d.automata
  pub units_in_order : AllPairs (λ earlier later. earlier.form ≤ later.form) d.units
  pub units_share : AllPairs SharesAutomaton d.units
  pub reservations_in_order : AllPairs (λ earlier later. earlier.form < later.form) d.reservations
  pub classes_in_order : AllPairs (λ earlier later. earlier.form < later.form) d.classes
  pub bypasses_in_order : AllPairs (λ earlier later. earlier.form < later.form) d.bypasses
  pub sets_in_order : AllPairs (λ earlier later. earlier.form < later.form) d.sets
  pub attributes_in_order : AllPairs (λ earlier later. earlier.form < later.form) d.attributes

-- What a check asks of items: that expressions can be written, that numbers are limited, and what kind their forms are.
module _ (kinds : List FormKind) where
  pub record IsCheckableReservation (item : ReservationItem) : Type 0 where
    pub form : IsForm kinds item.form define_reservation
    pub expression : IsTrue (is_expression item.expression)

  pub record IsCheckableClass (item : ClassItem) : Type 0 where
    pub form : IsForm kinds item.form define_insn_reservation
    pub latency : item.latency ≤ limits.latency_limit
    pub expression : IsTrue (is_expression item.expression)

  pub record IsCheckableBypass (item : BypassItem) : Type 0 where
    pub form : IsForm kinds item.form define_bypass
    pub number : item.number ≤ limits.latency_limit

-- A description that can be checked: expressions can be written, numbers are limited, items of two lists have different forms,
-- and each list is in the order of its forms.
pub record IsCheckable (d : Description) : Type 0 where
  pub kinds : List FormKind
  pub automata : All (λ i. IsForm kinds i.form define_automaton) d.automata
  pub units : All (λ i. IsForm kinds i.form (define_cpu_unit i.query)) d.units
  pub reservations : All (IsCheckableReservation kinds) d.reservations
  pub classes : All (IsCheckableClass kinds) d.classes
  pub bypasses : All (IsCheckableBypass kinds) d.bypasses
  pub sets : All (λ i. (kind : SetKind) × IsForm kinds i.form (set_form kind)) d.sets
  pub attributes : All (λ i. IsForm kinds i.form define_attr) d.attributes
  pub automata_in_order : AllPairs (λ earlier later. earlier.form ≤ later.form) d.automata
  pub units_in_order : AllPairs (λ earlier later. earlier.form ≤ later.form) d.units
  pub reservations_in_order : AllPairs (λ earlier later. earlier.form ≤ later.form) d.reservations
  pub classes_in_order : AllPairs (λ earlier later. earlier.form ≤ later.form) d.classes
  pub bypasses_in_order : AllPairs (λ earlier later. earlier.form ≤ later.form) d.bypasses
  pub sets_in_order : AllPairs (λ earlier later. earlier.form ≤ later.form) d.sets
  pub attributes_in_order : AllPairs (λ earlier later. earlier.form ≤ later.form) d.attributes
