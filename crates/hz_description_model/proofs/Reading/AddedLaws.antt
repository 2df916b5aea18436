-- Each list of a description that is read has what the forms add, and a fault comes after a front that is read.
use Rattle.std.proofs.Common.{◌≡◌, ℕ, ◌+◌, List, [], ◌∷◌, ◌++◌, Result, Ok, Err, refl, sym, ap, ◌∙◌, subst, arith, append_assoc}
use Rattle.std.proofs.lemmas.List.{append-nil}
use Rattle.std.specs.List.{flat_map}
use Rattle.hz_base_model.specs.Forms.Trees.{Tree, Trees, none, more, line_of, joined}
use Rattle.hz_description_model.specs.Reading.Descriptions.{Description, no_items}
use Rattle.hz_description_model.specs.Reading.DescriptionForms.{DescriptionFault, Said, Addition, automata, units, reservation, class, bypass, set, options, attribute, and_then, at_line, form_says, forms_say, form_count, with_addition, Reads, FaultAt}
use Rattle.hz_description_model.specs.Reading.AddedItems.{Add, nothing, adds, added_automata, added_units, added_reservations, added_classes, added_bypasses, added_sets, added_attributes, HasItems, StandsAfter}
use Rattle.hz_description_model.proofs.Reading.DescriptionFormed.{then_ok}

pub line_ok : {A : Type 0} (line : ℕ) (r : Result A DescriptionFault) (x : A) → at_line line r ≡ Ok x → r ≡ Ok x
line_ok line (Ok y) x h = cc
line_ok line (Err f) x h = absurd (cc)

-- What items are joined by.

-- one description has the items of another, and then these
record Grown (d e : Description) (additions : List Addition) : Type 0 where
  automata : e.automata ≡ d.automata ++ flat_map added_automata additions
  units : e.units ≡ d.units ++ flat_map added_units additions
  reservations : e.reservations ≡ d.reservations ++ flat_map added_reservations additions
  classes : e.classes ≡ d.classes ++ flat_map added_classes additions
  bypasses : e.bypasses ≡ d.bypasses ++ flat_map added_bypasses additions
  sets : e.sets ≡ d.sets ++ flat_map added_sets additions
  attributes : e.attributes ≡ d.attributes ++ flat_map added_attributes additions

none_grown : (d : Description) → Grown d d []
none_grown d = record {
  automata = sym (append-nil d.automata);
  units = sym (append-nil d.units);
  reservations = sym (append-nil d.reservations);
  classes = sym (append-nil d.classes);
  bypasses = sym (append-nil d.bypasses);
  sets = sym (append-nil d.sets);
  attributes = sym (append-nil d.attributes);
}

-- one list, by one addition and then by others
one_more : {X : Type 0} (added : Addition → List X) (of : Description → List X) → ((d : Description) (a : Addition) → of (with_addition d a) ≡ of d ++ added a)
    → (d e : Description) (a : Addition) (additions : List Addition) → of e ≡ of (with_addition d a) ++ flat_map added additions → of e ≡ of d ++ flat_map added (a ∷ additions)
one_more added of one d e a additions h = h ∙ (ap (λ xs. xs ++ flat_map added additions) (one d a) ∙ append_assoc (of d) (added a) (flat_map added additions))

automata_one : (d : Description) (a : Addition) → (with_addition d a).automata ≡ d.automata ++ added_automata a
automata_one d (automata items) = refl
automata_one d (units items) = sym (append-nil d.automata)
automata_one d (reservation item) = sym (append-nil d.automata)
automata_one d (class item) = sym (append-nil d.automata)
automata_one d (bypass item) = sym (append-nil d.automata)
automata_one d (set item) = sym (append-nil d.automata)
automata_one d (options o) = sym (append-nil d.automata)
automata_one d (attribute item) = sym (append-nil d.automata)

units_one : (d : Description) (a : Addition) → (with_addition d a).units ≡ d.units ++ added_units a
units_one d (automata items) = sym (append-nil d.units)
units_one d (units items) = refl
units_one d (reservation item) = sym (append-nil d.units)
units_one d (class item) = sym (append-nil d.units)
units_one d (bypass item) = sym (append-nil d.units)
units_one d (set item) = sym (append-nil d.units)
units_one d (options o) = sym (append-nil d.units)
units_one d (attribute item) = sym (append-nil d.units)

reservations_one : (d : Description) (a : Addition) → (with_addition d a).reservations ≡ d.reservations ++ added_reservations a
reservations_one d (automata items) = sym (append-nil d.reservations)
reservations_one d (units items) = sym (append-nil d.reservations)
reservations_one d (reservation item) = refl
reservations_one d (class item) = sym (append-nil d.reservations)
reservations_one d (bypass item) = sym (append-nil d.reservations)
reservations_one d (set item) = sym (append-nil d.reservations)
reservations_one d (options o) = sym (append-nil d.reservations)
reservations_one d (attribute item) = sym (append-nil d.reservations)

classes_one : (d : Description) (a : Addition) → (with_addition d a).classes ≡ d.classes ++ added_classes a
classes_one d (automata items) = sym (append-nil d.classes)
classes_one d (units items) = sym (append-nil d.classes)
classes_one d (reservation item) = sym (append-nil d.classes)
classes_one d (class item) = refl
classes_one d (bypass item) = sym (append-nil d.classes)
classes_one d (set item) = sym (append-nil d.classes)
classes_one d (options o) = sym (append-nil d.classes)
classes_one d (attribute item) = sym (append-nil d.classes)

bypasses_one : (d : Description) (a : Addition) → (with_addition d a).bypasses ≡ d.bypasses ++ added_bypasses a
bypasses_one d (automata items) = sym (append-nil d.bypasses)
bypasses_one d (units items) = sym (append-nil d.bypasses)
bypasses_one d (reservation item) = sym (append-nil d.bypasses)
bypasses_one d (class item) = sym (append-nil d.bypasses)
bypasses_one d (bypass item) = refl
bypasses_one d (set item) = sym (append-nil d.bypasses)
bypasses_one d (options o) = sym (append-nil d.bypasses)
bypasses_one d (attribute item) = sym (append-nil d.bypasses)

sets_one : (d : Description) (a : Addition) → (with_addition d a).sets ≡ d.sets ++ added_sets a
sets_one d (automata items) = sym (append-nil d.sets)
sets_one d (units items) = sym (append-nil d.sets)
sets_one d (reservation item) = sym (append-nil d.sets)
sets_one d (class item) = sym (append-nil d.sets)
sets_one d (bypass item) = sym (append-nil d.sets)
sets_one d (set item) = refl
sets_one d (options o) = sym (append-nil d.sets)
sets_one d (attribute item) = sym (append-nil d.sets)

attributes_one : (d : Description) (a : Addition) → (with_addition d a).attributes ≡ d.attributes ++ added_attributes a
attributes_one d (automata items) = sym (append-nil d.attributes)
attributes_one d (units items) = sym (append-nil d.attributes)
attributes_one d (reservation item) = sym (append-nil d.attributes)
attributes_one d (class item) = sym (append-nil d.attributes)
attributes_one d (bypass item) = sym (append-nil d.attributes)
attributes_one d (set item) = sym (append-nil d.attributes)
attributes_one d (options o) = sym (append-nil d.attributes)
attributes_one d (attribute item) = refl

grown_by : (d e : Description) (a : Addition) (additions : List Addition) → Grown (with_addition d a) e additions → Grown d e (a ∷ additions)
grown_by d e a additions g = record {
  automata = one_more added_automata (λ x. x.automata) automata_one d e a additions g.automata;
  units = one_more added_units (λ x. x.units) units_one d e a additions g.units;
  reservations = one_more added_reservations (λ x. x.reservations) reservations_one d e a additions g.reservations;
  classes = one_more added_classes (λ x. x.classes) classes_one d e a additions g.classes;
  bypasses = one_more added_bypasses (λ x. x.bypasses) bypasses_one d e a additions g.bypasses;
  sets = one_more added_sets (λ x. x.sets) sets_one d e a additions g.sets;
  attributes = one_more added_attributes (λ x. x.attributes) attributes_one d e a additions g.attributes;
}

-- what forms say is what they add
said_adds : (read : List ℕ → Said) (n : ℕ) (d e : Description) (forms : Trees) → forms_say read n d forms ≡ Ok e → (additions : List Addition) × Add read n forms additions × Grown d e additions
said_adds read n d e none h = let same : d ≡ e = cc in ([], nothing, subst (λ x. Grown d x []) same (none_grown d))
said_adds read n d e (more first others) h =
    let (a, is, rest) = then_ok (at_line (line_of first) (form_says read n first)) _ e h in
    let (additions, add, grown) = said_adds read (n + 1) (with_addition d a) e others rest in
    (a ∷ additions, adds (line_ok (line_of first) (form_says read n first) a is) add, grown_by d e a additions grown)

pub items_added : (forms : Trees) (d : Description) (r : Reads forms d) → (additions : List Addition) × Add r.read 0 forms additions × HasItems d additions
items_added forms d r =
    let (additions, add, g) = said_adds r.read 0 no_items d forms r.says in
    (additions, add, record { automata = g.automata; units = g.units; reservations = g.reservations; classes = g.classes; bypasses = g.bypasses; sets = g.sets; attributes = g.attributes })

-- Where a fault stands.

-- a front that says a description, the wrong form, and the rest
record Beyond (read : List ℕ → Said) (n : ℕ) (d : Description) (forms : Trees) (w : DescriptionFault × ℕ) : Type 0 where
  front : Trees
  form : Tree
  rest : Trees
  e : Description
  parts : forms ≡ joined front (more form rest)
  says : forms_say read n d front ≡ Ok e
  wrong : form_says read (n + form_count front) form ≡ Err w.0
  there : w.1 ≡ line_of form

said_line : {A B : Type 0} (line : ℕ) (r : Result A DescriptionFault) (x : A) (next : A → Result B (DescriptionFault × ℕ)) → r ≡ Ok x → and_then (at_line line r) next ≡ next x
said_line line (Ok y) x next e = let same : y ≡ x = cc in ap next same
said_line line (Err f) x next e = absurd (cc)

fault_after : (read : List ℕ → Said) (n : ℕ) (d : Description) (forms : Trees) (w : DescriptionFault × ℕ) → forms_say read n d forms ≡ Err w → Beyond read n d forms w
fault_after read n d none w h = absurd (cc)
fault_after read n d (more first others) w h = go (λ a. fault_after read (n + 1) (with_addition d a) others w) (form_says read n first) refl
  where
    go : ((a : Addition) → forms_say read (n + 1) (with_addition d a) others ≡ Err w → Beyond read (n + 1) (with_addition d a) others w) → (r : Result Addition DescriptionFault) → form_says read n first ≡ r → Beyond read n d (more first others) w
    go later (Ok a) e =
        let b = later a (sym (said_line (line_of first) (form_says read n first) a (λ x. forms_say read (n + 1) (with_addition d x) others) e) ∙ h) in
        let count : (n + 1) + form_count b.front ≡ n + (form_count b.front + 1) = omega arith in
        record {
          front = more first b.front;
          form = b.form;
          rest = b.rest;
          e = b.e;
          parts = ap (more first) b.parts;
          says = said_line (line_of first) (form_says read n first) a (λ x. forms_say read (n + 1) (with_addition d x) b.front) e ∙ b.says;
          wrong = subst (λ m. form_says read m b.form ≡ Err w.0) count b.wrong;
          there = b.there;
        }
    go later (Err f) e =
        let at : ◌≡◌ {A = Result Description (DescriptionFault × ℕ)} (Err (f, line_of first)) (Err w) = subst (λ r. and_then (at_line (line_of first) r) (λ x. forms_say read (n + 1) (with_addition d x) others) ≡ Err w) e h in
        let same : ◌≡◌ {A = DescriptionFault × ℕ} (f, line_of first) w = cc in
        let zero_more : n + 0 ≡ n = omega arith in
        record {
          front = none;
          form = first;
          rest = others;
          e = d;
          parts = refl;
          says = refl;
          wrong = subst (λ m. form_says read m first ≡ Err w.0) (sym zero_more) (e ∙ ap (λ x. Err x.0) same);
          there = sym (ap (λ x. x.1) same);
        }

pub stands_after : (forms : Trees) (fault : DescriptionFault) (line : ℕ) → FaultAt forms fault line → StandsAfter forms fault line
stands_after forms fault line f =
    let b = fault_after f.read 0 no_items forms (fault, line) f.says in
    let count : 0 + form_count b.front ≡ form_count b.front = omega arith in
    record {
      front = b.front;
      form = b.form;
      rest = b.rest;
      parts = b.parts;
      d = b.e;
      reads = record { read = f.read; reading = f.reading; says = b.says };
      wrong = subst (λ m. form_says f.read m b.form ≡ Err fault) count b.wrong;
      there = b.there;
    }

-- forms after a front that says a description
after_front : (read : List ℕ → Said) (n : ℕ) (d e : Description) (front after : Trees) → forms_say read n d front ≡ Ok e → forms_say read n d (joined front after) ≡ forms_say read (n + form_count front) e after
after_front read n d e none after h =
    let same : d ≡ e = cc in
    let count : n ≡ n + 0 = omega arith in
    ap (λ m. forms_say read m d after) count ∙ ap (λ x. forms_say read (n + 0) x after) same
after_front read n d e (more first others) after h =
    let (a, is, rest) = then_ok (at_line (line_of first) (form_says read n first)) _ e h in
    let says = line_ok (line_of first) (form_says read n first) a is in
    let count : (n + 1) + form_count others ≡ n + (form_count others + 1) = omega arith in
    said_line (line_of first) (form_says read n first) a (λ x. forms_say read (n + 1) (with_addition d x) (joined others after)) says
    ∙ (after_front read (n + 1) (with_addition d a) e others after rest ∙ ap (λ m. forms_say read m e after) count)

wrong_first : (read : List ℕ → Said) (n : ℕ) (e : Description) (form : Tree) (rest : Trees) (fault : DescriptionFault) → form_says read n form ≡ Err fault → forms_say read n e (more form rest) ≡ Err (fault, line_of form)
wrong_first read n e form rest fault h = ap (λ r. and_then (at_line (line_of form) r) (λ x. forms_say read (n + 1) (with_addition e x) rest)) h

pub fault_there : (forms : Trees) (fault : DescriptionFault) (line : ℕ) → StandsAfter forms fault line → FaultAt forms fault line
fault_there forms fault line s =
    let r = s.reads in
    let count : 0 + form_count s.front ≡ form_count s.front = omega arith in
    let there = wrong_first r.read (form_count s.front) s.d s.form s.rest fault s.wrong in
    record {
      read = r.read;
      reading = r.reading;
      says = ap (forms_say r.read 0 no_items) s.parts
          ∙ (after_front r.read 0 no_items s.d s.front (more s.form s.rest) r.says
          ∙ (ap (λ m. forms_say r.read m s.d (more s.form s.rest)) count
          ∙ (there ∙ ap (λ l. Err (fault, l)) (sym s.there))));
    }
