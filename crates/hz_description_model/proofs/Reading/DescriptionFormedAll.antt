-- What forms say is well formed: each form by itself, and then all of them.
use Rattle.std.proofs.Common.{Bool, ◌≡◌, ℕ, zero, suc, ◌+◌, ◌<◌, ◌≤◌, true, List, [], ◌∷◌, ◌++◌, length, map, All, Option, Some, None, Result, Ok, Err, refl, sym, ◌∙◌, subst, arith, length-append, append_assoc, zero-add}
use Rattle.std.proofs.lemmas.List.{append-nil}
use Rattle.std.specs.List.{AllPairs}
use Rattle.std.specs.Option.{option_map_or, ok_or}
use Rattle.std.proofs.lemmas.List.Elements.{All-append, All-map, All-push, All-weaker, All-nil}
use Rattle.std.proofs.lemmas.List.Quantifiers.{all_pairs_push}
use Rattle.std.proofs.lemmas.List.Sums.{AllPass-from_list_all}
use Rattle.std.proofs.lemmas.Option.{slice_get_within}
use Rattle.hz_base_model.specs.Lines.{separated}
use Rattle.hz_base_model.specs.Names.{is_name}
use Rattle.hz_description_model.specs.Reservations.Sets.{SetKind}
use Rattle.hz_base_model.specs.Forms.Trees.{Tree, Trees, none, more, line_of}
use Rattle.hz_description_model.specs.Reading.Descriptions.{AutomatonItem, UnitItem, ReservationItem, ClassItem, SetItem, AttributeItem, Description, no_options, no_items}
use Rattle.hz_description_model.specs.Reading.DescriptionShape.{FormKind, define_automaton, define_cpu_unit, define_reservation, define_insn_reservation, define_bypass, automata_option, define_attr, set_form, are_names, IsForm, IsAutomaton, IsUnit, IsReservation, IsClass, IsBypass, IsSet, IsAttribute, SharesAutomaton, IsWellFormed}
use Rattle.hz_description_model.specs.Reading.DescriptionForms.{DescriptionFault, bad_shape, bad_condition, unknown_form, unknown_option, quoted_bytes, with_options, shaped, name_in, names_in, set_patterns, limited_number, fallback_in, condition_in, Said, IsReading, expression_in, Addition, automata, units, reservation, class, bypass, set, options, attribute, automaton_items, unit_items, automata_form, units_form, reservation_form, class_form, bypass_form, set_form_of, options_form, attribute_form, form_of_kind, headed, kind_of, form_says, with_addition, at_line, forms_say, Reads, form_count}
use Rattle.hz_description_model.proofs.Reading.DescriptionFormed.{then_ok, or_ok, name_formed, names_formed, set_patterns_formed, number_formed, fallback_formed, condition_formed, expression_formed, bypass_says}

-- names that are all names
all_named : (names : List (List ℕ)) → are_names names ≡ true → All (λ name. is_name name ≡ true) names
all_named [] h = All-nil (λ name. is_name name ≡ true)
all_named (name ∷ names) h = AllPass-from_list_all is_name (name ∷ names) h

-- what is made of each name
made_of : {X : Type 0} (P : X → Type 0) (make : List ℕ → X) (names : List (List ℕ)) → are_names names ≡ true → ((name : List ℕ) → is_name name ≡ true → P (make name)) → All P (map make names)
made_of P make names are each = All-map P make names (All-weaker (λ name. is_name name ≡ true) (λ name. P (make name)) each names (all_named names are))

-- What a form adds is well formed, where it has this number among forms of these kinds.
module _ (kinds : List FormKind) (n : ℕ) where
  abbrev pub IsAddition : Addition → Type 0
  IsAddition (automata items) = All (λ (i : AutomatonItem). (i.form ≡ n) × IsAutomaton kinds i) items
  IsAddition (units items) = (automaton : Option (List ℕ)) × All (λ (i : UnitItem). (i.form ≡ n) × IsUnit kinds i) items × All (λ (i : UnitItem). (i.form ≡ n) × (i.automaton ≡ automaton)) items
  IsAddition (reservation item) = (item.form ≡ n) × IsReservation kinds item
  IsAddition (class item) = (item.form ≡ n) × IsClass kinds item
  IsAddition (bypass item) = (item.form ≡ n) × IsBypass kinds item
  IsAddition (set item) = (item.form ≡ n) × IsSet kinds item
  IsAddition (options o) = Unit {0}
  IsAddition (attribute item) = (item.form ≡ n) × IsAttribute kinds item

  automata_formed : (line : ℕ) (operands : Trees) (added : Addition) → IsForm kinds n define_automaton → automata_form line n operands ≡ Ok added → IsAddition added
  automata_formed line (more names none) added form h =
      let (found, is, made) = then_ok (shaped (names_in names)) _ added h in
      let same : automata (automaton_items line n found) ≡ added = cc in
      rw (← same) (made_of (λ (i : AutomatonItem). (i.form ≡ n) × IsAutomaton kinds i) _ found (names_formed names found (or_ok (names_in names) bad_shape found is)) (λ name named. (refl, record { form = form; name = named })))
  automata_formed line _ added form h = absurd (cc)

  some_units : (line : ℕ) (query : Bool) (automaton : Option (List ℕ)) (found : List (List ℕ)) → IsForm kinds n (define_cpu_unit query) → option_map_or is_name automaton true ≡ true → are_names found ≡ true → IsAddition (units (unit_items line n query automaton found))
  some_units line query automaton found form named are = (
    automaton,
    made_of (λ (i : UnitItem). (i.form ≡ n) × IsUnit kinds i) _ found are (λ name is. (refl, record { form = form; name = is; automaton = named })),
    made_of (λ (i : UnitItem). (i.form ≡ n) × (i.automaton ≡ automaton)) _ found are (λ name is. (refl, refl)),
  )

  units_formed : (line : ℕ) (query : Bool) (operands : Trees) (added : Addition) → IsForm kinds n (define_cpu_unit query) → units_form line n query operands ≡ Ok added → IsAddition added
  units_formed line query (more names none) added form h =
      let (found, is, made) = then_ok (shaped (names_in names)) _ added h in
      let same : units (unit_items line n query None found) ≡ added = cc in
      rw (← same) (some_units line query None found form refl (names_formed names found (or_ok (names_in names) bad_shape found is)))
  units_formed line query (more names (more automaton none)) added form h =
      let (found, is, k) = then_ok (shaped (names_in names)) _ added h in
      let (name, named, made) = then_ok (shaped (name_in automaton)) _ added k in
      let same : units (unit_items line n query (Some name) found) ≡ added = cc in
      rw (← same) (some_units line query (Some name) found form (name_formed automaton name (or_ok (name_in automaton) bad_shape name named)) (names_formed names found (or_ok (names_in names) bad_shape found is)))
  units_formed line query _ added form h = absurd (cc)

  reservation_formed : (line : ℕ) (read : List ℕ → Said) (operands : Trees) (added : Addition) → IsReading read → IsForm kinds n define_reservation → reservation_form line n read operands ≡ Ok added → IsAddition added
  reservation_formed line read (more name (more regexp none)) added reading form h =
      let (bytes, is, k) = then_ok (shaped (name_in name)) _ added h in
      let (value, reads, made) = then_ok (expression_in read regexp) _ added k in
      let item : ReservationItem = record { line = line; form = n; name = bytes; expression = value } in
      let same : reservation item ≡ added = cc in
      rw (← same) (refl, record { form = form; name = name_formed name bytes (or_ok (name_in name) bad_shape bytes is); expression = expression_formed read regexp value reading reads })
  reservation_formed line read _ added reading form h = absurd (cc)

  class_formed : (line : ℕ) (read : List ℕ → Said) (operands : Trees) (added : Addition) → IsReading read → IsForm kinds n define_insn_reservation → class_form line n read operands ≡ Ok added → IsAddition added
  class_formed line read (more name (more latency (more condition (more regexp none)))) added reading form h =
      let (bytes, is, h1) = then_ok (shaped (name_in name)) _ added h in
      let (cycles, low, h2) = then_ok (limited_number latency) _ added h1 in
      let (test, tested, h3) = then_ok _ _ added h2 in
      let (value, reads, made) = then_ok (expression_in read regexp) _ added h3 in
      let item : ClassItem = record { line = line; form = n; name = bytes; latency = cycles; condition = test; expression = value } in
      let same : class item ≡ added = cc in
      rw (← same) (
        refl,
        record {
          form = form;
          name = name_formed name bytes (or_ok (name_in name) bad_shape bytes is);
          latency = number_formed latency cycles low;
          condition = condition_formed condition test (or_ok (condition_in condition) bad_condition test tested);
          expression = expression_formed read regexp value reading reads;
        },
      )
  class_formed line read _ added reading form h = absurd (cc)

  bypass_formed : (line : ℕ) (operands : Trees) (added : Addition) → IsForm kinds n define_bypass → bypass_form line n operands ≡ Ok added → IsAddition added
  bypass_formed line operands added form h =
      let said = bypass_says line n operands added h in
      rw (← said.made) (
        refl,
        record {
          form = form;
          number = number_formed said.latency said.number said.limited;
          outs = names_formed said.out_names said.outs said.from;
          ins = names_formed said.in_names said.ins said.to;
        },
      )

  set_formed : (line : ℕ) (kind : SetKind) (operands : Trees) (added : Addition) → IsForm kinds n (set_form kind) → set_form_of line n kind operands ≡ Ok added → IsAddition added
  set_formed line kind (more names (more patterns none)) added form h =
      let (us, are, h1) = then_ok (shaped (names_in names)) _ added h in
      let (ps, also, made) = then_ok (shaped (set_patterns kind patterns)) _ added h1 in
      let item : SetItem = record { line = line; form = n; kind = kind; units = us; patterns = ps } in
      let same : set item ≡ added = cc in
      rw (← same) (
        refl,
        record {
          form = form;
          units = names_formed names us (or_ok (names_in names) bad_shape us are);
          patterns = set_patterns_formed kind patterns ps (or_ok (set_patterns kind patterns) bad_shape ps also);
        },
      )
  set_formed line kind _ added form h = absurd (cc)

  options_formed : (operands : Trees) (added : Addition) → options_form operands ≡ Ok added → IsAddition added
  options_formed (more words none) added h =
      let (bytes, is, k) = then_ok (shaped (quoted_bytes words)) _ added h in
      let (o, are, made) = then_ok (ok_or (with_options no_options (separated bytes)) unknown_option) _ added k in
      let same : options o ≡ added = cc in
      rw (← same) tt
  options_formed _ added h = absurd (cc)

  attribute_formed : (line : ℕ) (operands : Trees) (added : Addition) → IsForm kinds n define_attr → attribute_form line n operands ≡ Ok added → IsAddition added
  attribute_formed line (more name (more values (more fallback none))) added form h =
      let (bytes, is, h1) = then_ok (shaped (name_in name)) _ added h in
      let (vs, are, h2) = then_ok (shaped (names_in values)) _ added h1 in
      let (f, also, made) = then_ok (shaped (fallback_in fallback)) _ added h2 in
      let item : AttributeItem = record { line = line; form = n; name = bytes; values = vs; fallback = f } in
      let same : attribute item ≡ added = cc in
      rw (← same) (
        refl,
        record {
          form = form;
          name = name_formed name bytes (or_ok (name_in name) bad_shape bytes is);
          values = names_formed values vs (or_ok (names_in values) bad_shape vs are);
          fallback = fallback_formed fallback f (or_ok (fallback_in fallback) bad_shape f also);
        },
      )
  attribute_formed line _ added form h = absurd (cc)

  kind_formed : (line : ℕ) (read : List ℕ → Said) (kind : FormKind) (operands : Trees) (added : Addition) → IsReading read → IsForm kinds n kind → form_of_kind line n read kind operands ≡ Ok added → IsAddition added
  kind_formed line read define_automaton operands added reading form h = automata_formed line operands added form h
  kind_formed line read (define_cpu_unit query) operands added reading form h = units_formed line query operands added form h
  kind_formed line read define_reservation operands added reading form h = reservation_formed line read operands added reading form h
  kind_formed line read define_insn_reservation operands added reading form h = class_formed line read operands added reading form h
  kind_formed line read define_bypass operands added reading form h = bypass_formed line operands added form h
  kind_formed line read (set_form kind) operands added reading form h = set_formed line kind operands added form h
  kind_formed line read automata_option operands added reading form h = options_formed operands added h
  kind_formed line read define_attr operands added reading form h = attribute_formed line operands added form h

-- a form that says something is of a kind, and what it adds is well formed
form_formed : (read : List ℕ → Said) (n : ℕ) (form : Tree) (added : Addition) → IsReading read → form_says read n form ≡ Ok added
    → (kind : FormKind) × ((kinds : List FormKind) → IsForm kinds n kind → IsAddition kinds n added)
form_formed read n form added reading h =
    let (parts, is, k) = then_ok (ok_or (headed form) unknown_form) _ added h in
    let (kind, of, made) = then_ok (ok_or (kind_of parts.0) unknown_form) _ added k in
    (kind, λ kinds at. kind_formed kinds n (line_of form) read kind parts.1 added reading at made)

-- Forms of one more kind.

-- the kind of a form stays where one more form follows
form_stays : (kinds : List FormKind) (kind : FormKind) (n : ℕ) (of : FormKind) → IsForm kinds n of → IsForm (kinds ++ kind ∷ []) n of
form_stays [] kind n of h = absurd (cc)
form_stays (first ∷ kinds) kind zero of h = h
form_stays (first ∷ kinds) kind (suc n) of h = form_stays kinds kind n of h

-- the last form is of its kind
last_form : (kinds : List FormKind) (kind : FormKind) → IsForm (kinds ++ kind ∷ []) (length kinds) kind
last_form [] kind = refl
last_form (first ∷ kinds) kind = last_form kinds kind

-- a form that has a kind is one of them
form_within : (kinds : List FormKind) (n : ℕ) (of : FormKind) → IsForm kinds n of → n < length kinds
form_within kinds n of h = slice_get_within kinds n of h

-- items of one number come after items of no greater numbers
in_order : {X : Type 0} (key : X → ℕ) (n : ℕ) (xs ys : List X) → AllPairs (λ x y. key x ≤ key y) xs → All (λ x. key x ≤ n) xs → All (λ y. key y ≡ n) ys → AllPairs (λ x y. key x ≤ key y) (xs ++ ys)
in_order key n xs [] pairs low same = rw (append-nil xs) pairs
in_order {X} key n xs (y ∷ ys) pairs low same =
    let last : key y ≡ n = same 0 y (omega arith) in
    let more = all_pairs_push (λ x z. key x ≤ key z) xs y pairs (λ k d inside. rw last (low k d inside)) in
    let high : All (λ x. key x ≤ n) (xs ++ y ∷ []) = All-push (λ x. key x ≤ n) xs y low (omega (arith, last)) in
    subst (λ (zs : List X). AllPairs (λ x z. key x ≤ key z) zs) (append_assoc xs (y ∷ []) ys) (in_order key n (xs ++ y ∷ []) ys more high (λ k d inside. same (suc k) d (omega arith)))

-- units of the form n, which have one automaton, after units of other forms
shared_more : (n : ℕ) (automaton : Option (List ℕ)) (xs ys : List UnitItem) → AllPairs SharesAutomaton xs → All (λ (x : UnitItem). x.form ≡ n → x.automaton ≡ automaton) xs → All (λ (y : UnitItem). (y.form ≡ n) × (y.automaton ≡ automaton)) ys
    → AllPairs SharesAutomaton (xs ++ ys)
shared_more n automaton xs [] pairs before same = rw (append-nil xs) pairs
shared_more n automaton xs (y ∷ ys) pairs before same =
    let last = same 0 y (omega arith) in
    let more = all_pairs_push SharesAutomaton xs y pairs (λ k d inside e. before k d inside (e ∙ last.0) ∙ sym last.1) in
    let known = All-push (λ (x : UnitItem). x.form ≡ n → x.automaton ≡ automaton) xs y before (λ e. last.1) in
    subst (λ (zs : List UnitItem). AllPairs SharesAutomaton zs) (append_assoc xs (y ∷ []) ys) (shared_more n automaton (xs ++ y ∷ []) ys more known (λ k d inside. same (suc k) d (omega arith)))

-- Items of forms that are there stay such where a form of the number n follows.
record Stay {X : Type 0} (form : X → ℕ) (Is Stays : X → Type 0) (n : ℕ) : Type 0 where
  stay : (x : X) → Is x → Stays x
  below : (x : X) → Is x → form x < n

module _ {X : Type 0} (form : X → ℕ) where
  -- items by themselves and in their order: each form has several, or one
  abbrev Several : (X → Type 0) → List X → Type 0
  Several Is xs = All Is xs × AllPairs (λ x y. form x ≤ form y) xs

  abbrev OneEach : (X → Type 0) → List X → Type 0
  OneEach Is xs = All Is xs × AllPairs (λ x y. form x < form y) xs

  module _ (Is Stays : X → Type 0) (n : ℕ) (s : Stay form Is Stays n) (xs : List X) where
    several_stay : Several Is xs → Several Stays xs
    several_stay p = (All-weaker Is Stays s.stay xs p.0, p.1)

    each_stay : OneEach Is xs → OneEach Stays xs
    each_stay p = (All-weaker Is Stays s.stay xs p.0, p.1)

    several_more : (ys : List X) → Several Is xs → All (λ y. (form y ≡ n) × Stays y) ys → Several Stays (xs ++ ys)
    several_more ys p are = (
      All-append Stays xs ys (All-weaker Is Stays s.stay xs p.0) (All-weaker (λ y. (form y ≡ n) × Stays y) Stays (λ y q. q.1) ys are),
      in_order form n xs ys p.1 (All-weaker Is (λ x. form x ≤ n) (λ x q. let h = s.below x q in omega arith) xs p.0) (All-weaker (λ y. (form y ≡ n) × Stays y) (λ y. form y ≡ n) (λ y q. q.0) ys are),
    )

    one_more : (y : X) → OneEach Is xs → (form y ≡ n) × Stays y → OneEach Stays (xs ++ y ∷ [])
    one_more y p is = (
      All-push Stays xs y (All-weaker Is Stays s.stay xs p.0) is.1,
      all_pairs_push (λ x z. form x < form z) xs y p.1 (λ k d inside. rw (is.0) (s.below _ (p.0 k d inside))),
    )

-- The lists of a description of forms of these kinds.
record Formed (kinds : List FormKind) (d : Description) : Type 0 where
  automata : Several (λ i. i.form) (IsAutomaton kinds) d.automata
  units : Several (λ i. i.form) (IsUnit kinds) d.units
  shared : AllPairs SharesAutomaton d.units
  reservations : OneEach (λ i. i.form) (IsReservation kinds) d.reservations
  classes : OneEach (λ i. i.form) (IsClass kinds) d.classes
  bypasses : OneEach (λ i. i.form) (IsBypass kinds) d.bypasses
  sets : OneEach (λ i. i.form) (IsSet kinds) d.sets
  attributes : OneEach (λ i. i.form) (IsAttribute kinds) d.attributes

module _ (kinds : List FormKind) (kind : FormKind) where
  abbrev after : List FormKind
  after = kinds ++ kind ∷ []

  automaton_stay : Stay (λ i. i.form) (IsAutomaton kinds) (IsAutomaton after) (length kinds)
  automaton_stay = record { stay = λ i is. record { form = form_stays kinds kind i.form define_automaton is.form; name = is.name }; below = λ i is. form_within kinds i.form define_automaton is.form }

  unit_stay : Stay (λ i. i.form) (IsUnit kinds) (IsUnit after) (length kinds)
  unit_stay = record { stay = λ i is. record { form = form_stays kinds kind i.form (define_cpu_unit i.query) is.form; name = is.name; automaton = is.automaton }; below = λ i is. form_within kinds i.form (define_cpu_unit i.query) is.form }

  reservation_stay : Stay (λ i. i.form) (IsReservation kinds) (IsReservation after) (length kinds)
  reservation_stay = record { stay = λ i is. record { form = form_stays kinds kind i.form define_reservation is.form; name = is.name; expression = is.expression }; below = λ i is. form_within kinds i.form define_reservation is.form }

  class_stay : Stay (λ i. i.form) (IsClass kinds) (IsClass after) (length kinds)
  class_stay = record {
    stay = λ i is. record { form = form_stays kinds kind i.form define_insn_reservation is.form; name = is.name; latency = is.latency; condition = is.condition; expression = is.expression };
    below = λ i is. form_within kinds i.form define_insn_reservation is.form;
  }

  bypass_stay : Stay (λ i. i.form) (IsBypass kinds) (IsBypass after) (length kinds)
  bypass_stay = record { stay = λ i is. record { form = form_stays kinds kind i.form define_bypass is.form; number = is.number; outs = is.outs; ins = is.ins }; below = λ i is. form_within kinds i.form define_bypass is.form }

  set_stay : Stay (λ i. i.form) (IsSet kinds) (IsSet after) (length kinds)
  set_stay = record { stay = λ i is. record { form = form_stays kinds kind i.form (set_form i.kind) is.form; units = is.units; patterns = is.patterns }; below = λ i is. form_within kinds i.form (set_form i.kind) is.form }

  attribute_stay : Stay (λ i. i.form) (IsAttribute kinds) (IsAttribute after) (length kinds)
  attribute_stay = record { stay = λ i is. record { form = form_stays kinds kind i.form define_attr is.form; name = is.name; values = is.values; fallback = is.fallback }; below = λ i is. form_within kinds i.form define_attr is.form }

  -- no form adds nothing: all that is there stays
  module _ (d : Description) (p : Formed kinds d) where
    stays : Formed after d
    stays = record {
      automata = several_stay (λ i. i.form) (IsAutomaton kinds) (IsAutomaton after) (length kinds) automaton_stay d.automata p.automata;
      units = several_stay (λ i. i.form) (IsUnit kinds) (IsUnit after) (length kinds) unit_stay d.units p.units;
      shared = p.shared;
      reservations = each_stay (λ i. i.form) (IsReservation kinds) (IsReservation after) (length kinds) reservation_stay d.reservations p.reservations;
      classes = each_stay (λ i. i.form) (IsClass kinds) (IsClass after) (length kinds) class_stay d.classes p.classes;
      bypasses = each_stay (λ i. i.form) (IsBypass kinds) (IsBypass after) (length kinds) bypass_stay d.bypasses p.bypasses;
      sets = each_stay (λ i. i.form) (IsSet kinds) (IsSet after) (length kinds) set_stay d.sets p.sets;
      attributes = each_stay (λ i. i.form) (IsAttribute kinds) (IsAttribute after) (length kinds) attribute_stay d.attributes p.attributes;
    }

    -- what a form adds comes after all others
    joins : (added : Addition) → IsAddition after (length kinds) added → Formed after (with_addition d added)
    joins (automata items) is = record { automata = several_more (λ i. i.form) (IsAutomaton kinds) (IsAutomaton after) (length kinds) automaton_stay d.automata items p.automata is; units = stays.units; shared = stays.shared; reservations = stays.reservations; classes = stays.classes; bypasses = stays.bypasses; sets = stays.sets; attributes = stays.attributes }
    joins (units items) is = record { automata = stays.automata; units = several_more (λ i. i.form) (IsUnit kinds) (IsUnit after) (length kinds) unit_stay d.units items p.units is.1; shared = shared_more (length kinds) is.0 d.units items p.shared (All-weaker (IsUnit kinds) (λ (x : UnitItem). x.form ≡ length kinds → x.automaton ≡ is.0) (λ x q e. absurd (let h = unit_stay.below x q in omega (arith, e, h))) d.units p.units.0) is.2; reservations = stays.reservations; classes = stays.classes; bypasses = stays.bypasses; sets = stays.sets; attributes = stays.attributes }
    joins (reservation item) is = record { automata = stays.automata; units = stays.units; shared = stays.shared; reservations = one_more (λ i. i.form) (IsReservation kinds) (IsReservation after) (length kinds) reservation_stay d.reservations item p.reservations is; classes = stays.classes; bypasses = stays.bypasses; sets = stays.sets; attributes = stays.attributes }
    joins (class item) is = record { automata = stays.automata; units = stays.units; shared = stays.shared; reservations = stays.reservations; classes = one_more (λ i. i.form) (IsClass kinds) (IsClass after) (length kinds) class_stay d.classes item p.classes is; bypasses = stays.bypasses; sets = stays.sets; attributes = stays.attributes }
    joins (bypass item) is = record { automata = stays.automata; units = stays.units; shared = stays.shared; reservations = stays.reservations; classes = stays.classes; bypasses = one_more (λ i. i.form) (IsBypass kinds) (IsBypass after) (length kinds) bypass_stay d.bypasses item p.bypasses is; sets = stays.sets; attributes = stays.attributes }
    joins (set item) is = record { automata = stays.automata; units = stays.units; shared = stays.shared; reservations = stays.reservations; classes = stays.classes; bypasses = stays.bypasses; sets = one_more (λ i. i.form) (IsSet kinds) (IsSet after) (length kinds) set_stay d.sets item p.sets is; attributes = stays.attributes }
    joins (attribute item) is = record { automata = stays.automata; units = stays.units; shared = stays.shared; reservations = stays.reservations; classes = stays.classes; bypasses = stays.bypasses; sets = stays.sets; attributes = one_more (λ i. i.form) (IsAttribute kinds) (IsAttribute after) (length kinds) attribute_stay d.attributes item p.attributes is }
    joins (options o) is = record { automata = stays.automata; units = stays.units; shared = stays.shared; reservations = stays.reservations; classes = stays.classes; bypasses = stays.bypasses; sets = stays.sets; attributes = stays.attributes }

-- forms that are left, after forms of these kinds
all_formed : (read : List ℕ → Said) (reading : IsReading read) (kinds : List FormKind) (d e : Description) (forms : Trees) → Formed kinds d → forms_say read (length kinds) d forms ≡ Ok e
    → (all : List FormKind) × Formed all e × (length all ≡ length kinds + form_count forms)
all_formed read reading kinds d e none p h =
    let same : d ≡ e = cc in
    let count : length kinds ≡ length kinds + 0 = omega arith in
    (kinds, subst (λ (f : Description). Formed kinds f) same p, count)
all_formed read reading kinds d e (more first others) p h =
    let (added, is, k) = then_ok (at_line (line_of first) (form_says read (length kinds) first)) _ e h in
    let (kind, formed) = form_formed read (length kinds) first added reading (good_at (line_of first) (form_says read (length kinds) first) added is) in
    let now = joins kinds kind d p added (formed (kinds ++ kind ∷ []) (last_form kinds kind)) in
    let longer : length kinds + 1 ≡ length (kinds ++ kind ∷ []) = omega (arith, length-append kinds (kind ∷ [])) in
    let (all, whole, count) = all_formed read reading (kinds ++ kind ∷ []) (with_addition d added) e others now (subst (λ (n : ℕ). forms_say read n (with_addition d added) others ≡ Ok e) longer k) in
    (all, whole, omega (arith, count, longer))
  where
    good_at : {A : Type 0} (line : ℕ) (r : Result A DescriptionFault) (x : A) → at_line line r ≡ Ok x → r ≡ Ok x
    good_at line (Ok y) x h = cc
    good_at line (Err f) x h = absurd (cc)

pub well_formed : (forms : Trees) (d : Description) → Reads forms d → (formed : IsWellFormed d) × (length formed.kinds ≡ form_count forms)
well_formed forms d r =
    let (kinds, p, count) = all_formed r.read r.reading [] no_items d forms none_formed r.says in (
      record {
        kinds = kinds;
        automata = p.automata.0;
        units = p.units.0;
        reservations = p.reservations.0;
        classes = p.classes.0;
        bypasses = p.bypasses.0;
        sets = p.sets.0;
        attributes = p.attributes.0;
        automata_in_order = p.automata.1;
        units_in_order = p.units.1;
        units_share = p.shared;
        reservations_in_order = p.reservations.1;
        classes_in_order = p.classes.1;
        bypasses_in_order = p.bypasses.1;
        sets_in_order = p.sets.1;
        attributes_in_order = p.attributes.1;
      },
      count ∙ zero-add (form_count forms),
    )
  where
    none_formed : Formed [] no_items
    none_formed = record {
      automata = (All-nil (IsAutomaton []), λ i j e h k. absurd (omega arith));
      units = (All-nil (IsUnit []), λ i j e h k. absurd (omega arith));
      shared = λ i j e h k same. absurd (omega arith);
      reservations = (All-nil (IsReservation []), λ i j e h k. absurd (omega arith));
      classes = (All-nil (IsClass []), λ i j e h k. absurd (omega arith));
      bypasses = (All-nil (IsBypass []), λ i j e h k. absurd (omega arith));
      sets = (All-nil (IsSet []), λ i j e h k. absurd (omega arith));
      attributes = (All-nil (IsAttribute []), λ i j e h k. absurd (omega arith));
    }
