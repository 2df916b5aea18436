-- What the forms of a file add, one by one: what a description that is read has, said of each of its lists and options,
-- and where a fault stands. Laws: `items_are_what_forms_add`, `options_stand_in_forms`, `faults_stand_after_a_front`.
use Rattle.std.specs.Prelude.{◌≡◌, ◌↔◌, ◌⊎◌, ℕ, ◌+◌, List, [], ◌∷◌, codes, Ok, Err, IsTrue}
use Rattle.std.specs.List.{Contains, flat_map}
use Rattle.hz_base_model.specs.Lines.{separated}
use Rattle.hz_base_model.specs.Forms.Trees.{Tree, Trees, list, atom, quoted, none, more, line_of, joined}
use Rattle.hz_description_model.specs.Reading.Descriptions.{AutomatonItem, UnitItem, ReservationItem, ClassItem, BypassItem, SetItem, AttributeItem, Options, Description}
use Rattle.hz_description_model.specs.Reading.DescriptionForms.{Said, DescriptionFault, Addition, automata, units, reservation, class, bypass, set, attribute, form_says, form_count, Reads}

-- Each form says what it adds, where the first has this number in the file.
pub data Add (read : List ℕ → Said) : (n : ℕ) (forms : Trees) (additions : List Addition) → Type 0 where
  nothing : {n : ℕ} → Add read n none []
  adds : {n : ℕ} {form : Tree} {others : Trees} {addition : Addition} {additions : List Addition} → form_says read n form ≡ Ok addition → Add read (n + 1) others additions
      → Add read n (more form others) (addition ∷ additions)

-- the items of one kind that a form adds
abbrev pub added_automata : Addition → List AutomatonItem
added_automata (automata items) = items
added_automata _ = []

abbrev pub added_units : Addition → List UnitItem
added_units (units items) = items
added_units _ = []

abbrev pub added_reservations : Addition → List ReservationItem
added_reservations (reservation item) = item ∷ []
added_reservations _ = []

abbrev pub added_classes : Addition → List ClassItem
added_classes (class item) = item ∷ []
added_classes _ = []

abbrev pub added_bypasses : Addition → List BypassItem
added_bypasses (bypass item) = item ∷ []
added_bypasses _ = []

abbrev pub added_sets : Addition → List SetItem
added_sets (set item) = item ∷ []
added_sets _ = []

abbrev pub added_attributes : Addition → List AttributeItem
added_attributes (attribute item) = item ∷ []
added_attributes _ = []

-- Each list of a description has what the forms of its kind add, in the order of the file.
pub record HasItems (d : Description) (additions : List Addition) : Type 0 where
  pub automata : d.automata ≡ flat_map added_automata additions
  pub units : d.units ≡ flat_map added_units additions
  pub reservations : d.reservations ≡ flat_map added_reservations additions
  pub classes : d.classes ≡ flat_map added_classes additions
  pub bypasses : d.bypasses ≡ flat_map added_bypasses additions
  pub sets : d.sets ≡ flat_map added_sets additions
  pub attributes : d.attributes ≡ flat_map added_attributes additions

-- the form is one of these
abbrev pub Among : Trees → Tree → Type 0
Among none form = ⊥
Among (more first others) form = (first ≡ form) ⊎ Among others form

-- The form is `(automata_option "options")`, and the word stands between its commas.
pub record IsOption (word : List ℕ) (form : Tree) : Type 0 where
  pub line : ℕ
  pub head : ℕ
  pub string : ℕ
  pub bytes : List ℕ
  pub is : form ≡ list line (more (atom head (codes "automata_option")) (more (quoted string bytes) none))
  pub stands : Contains (separated bytes) word

-- some form has the option
abbrev pub HasOption : Trees → List ℕ → Type 0
HasOption forms word = (form : Tree) × Among forms form × IsOption word form

-- Each option stands exactly where some form has it.
pub record HasOptions (o : Options) (forms : Trees) : Type 0 where
  pub ndfa : IsTrue o.ndfa ↔ HasOption forms (codes "ndfa")
  pub no_minimization : IsTrue o.no_minimization ↔ HasOption forms (codes "no-minimization")
  pub stats : IsTrue o.stats ↔ HasOption forms (codes "stats")
  pub verbose : IsTrue o.verbose ↔ HasOption forms (codes "v")
  pub no_comb_vect : IsTrue o.no_comb_vect ↔ HasOption forms (codes "no-comb-vect")

-- The forms are a front that is read, a form with this fault and line, and a rest.
pub record StandsAfter (forms : Trees) (fault : DescriptionFault) (line : ℕ) : Type 0 where
  pub front : Trees
  pub form : Tree
  pub rest : Trees
  pub parts : forms ≡ joined front (more form rest)
  pub d : Description
  pub reads : Reads front d
  pub wrong : form_says reads.read (form_count front) form ≡ Err fault
  pub there : line ≡ line_of form
