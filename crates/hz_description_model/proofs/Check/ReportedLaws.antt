-- What is reported after what stands before: names given twice, units past their limit, sizes, and numbers of bypasses.
use Rattle.std.proofs.Common.{◌≡◌, ◌≢◌, ℕ, ◌+◌, ◌<◌, ◌≤◌, ◌⊎◌, inl, inr, ⊎_elim, Bool, true, false, cond, nat_lt, List, [], ◌∷◌, ◌++◌, length, filter, Contains, Some, slice_get, refl, sym, ap, ◌∙◌, subst, arith, append_assoc}
use Rattle.std.specs.Prelude.{◌||◌, ◌&&◌, ◌==◌, ◌↔◌, not}
use Rattle.std.specs.List.{list_any, sum_by}
use Rattle.std.specs.Str.{bytes_eq}
use Rattle.std.proofs.lemmas.Bool.{or_cases, ltb-true, ltb-false, lt-ltb, eqb-true, eq-eqb}
use Rattle.std.proofs.Math.Bool.{or-true}
use Rattle.std.proofs.lemmas.Slice.Eq.{bytes_eq-Decides}
use Rattle.std.proofs.lemmas.List.{append-nil}
use Rattle.std.proofs.lemmas.List.Sums.{sum_by-append}
use Rattle.std.proofs.lemmas.List.Elements.{Contains-append_left, Contains-append_right, Contains-append_cases}
use Rattle.hz_base_model.specs.Limits.{unit_limit}
use Rattle.hz_description_model.specs.Reservations.Limits.{size_limit}
use Rattle.hz_base_model.proofs.Elements.{Contains-nil, Contains-head, Contains-tail, Contains-cons_cases, Contains-filter, Contains-from_filter, Contains-map, Contains-from_map}
use Rattle.hz_description_model.specs.Reservations.Automata.{total_size}
use Rattle.hz_description_model.specs.Reading.Descriptions.{Description, UnitItem, BypassItem, unguarded}
use Rattle.hz_description_model.specs.Check.Sites.{Site, is_among, is_preceded, repeated}
use Rattle.hz_description_model.specs.Check.Places.{automaton_number, place_after, places_after, unit_places, Known}
use Rattle.hz_description_model.specs.Check.CheckFaults.{past_units, differs, renumbered, renumbered_after, second_numbers, unit_site}
use Rattle.hz_description_model.specs.Check.CountingOrder.{Reserving, alternatives_in, past_size}
use Rattle.hz_description_model.specs.Check.ReportedPlaces.{ReportedAfter, ends, tells, passes, StandsBefore, units_beside, IsPastUnits, size_together, PassesSize, IsRenumbered, TellsSecondNumber}
use Rattle.hz_description_model.proofs.Check.KeptLaws.{among, from_among, number_of}

and_first : (a b : Bool) → (a && b) ≡ true → a ≡ true
and_first true b h = refl
and_first false b h = h

and_second : (a b : Bool) → (a && b) ≡ true → b ≡ true
and_second true b h = h
and_second false b h = absurd (cc)

and_both : (a b : Bool) → a ≡ true → b ≡ true → (a && b) ≡ true
and_both a b p q = ap (λ x. x && b) p ∙ q

any_item : {A : Type 0} (p : A → Bool) (xs : List A) → list_any p xs ≡ true → (x : A) × Contains xs x × (p x ≡ true)
any_item p [] h = absurd (cc)
any_item p (x ∷ xs) h = ⊎_elim
    (λ (here : p x ≡ true). (x, Contains-head x xs, here))
    (λ (later : list_any p xs ≡ true). let found = any_item p xs later in (found.0, Contains-tail x found.0 xs found.1, found.2))
    (or_cases (p x) (list_any p xs) h)

item_any : {A : Type 0} (p : A → Bool) (xs : List A) (x : A) → Contains xs x → p x ≡ true → list_any p xs ≡ true
item_any p [] x c h = absurd (Contains-nil x c)
item_any p (y ∷ xs) x c h = ⊎_elim
    (λ (same : y ≡ x). ap (λ b. b || list_any p xs) (ap p same ∙ h))
    (λ (k : Contains xs x). ap (λ b. p y || b) (item_any p xs x k h) ∙ or-true (p y))
    (Contains-cons_cases y x xs c)

-- Names.

-- these names are those of the sites
abbrev AreNamesOf : List (List ℕ) → List Site → Type 0
AreNamesOf names before = (name : List ℕ) → (is_among name names ≡ true → (o : Site) × Contains before o × (o.name ≡ name)) × ((o : Site) → Contains before o → o.name ≡ name → is_among name names ≡ true)

one_name_more : (names : List (List ℕ)) (before : List Site) (s : Site) → AreNamesOf names before → AreNamesOf (s.name ∷ names) (before ++ s ∷ [])
one_name_more names before s are name = (there, back)
  where
    there : is_among name (s.name ∷ names) ≡ true → (o : Site) × Contains (before ++ s ∷ []) o × (o.name ≡ name)
    there h = ⊎_elim
        (λ (same : s.name ≡ name). (s, Contains-append_right before (s ∷ []) s (Contains-head s []), same))
        (λ (k : Contains names name). let found = (are name).0 (among name names k) in (found.0, Contains-append_left before (s ∷ []) found.0 found.1, found.2))
        (Contains-cons_cases (s.name) name names (from_among name (s.name ∷ names) h))

    back : (o : Site) → Contains (before ++ s ∷ []) o → o.name ≡ name → is_among name (s.name ∷ names) ≡ true
    back o c same = ⊎_elim
        (λ (k : Contains before o). among name (s.name ∷ names) (Contains-tail (s.name) name names (from_among name names ((are name).1 o k same))))
        (λ (k : Contains (s ∷ []) o). ⊎_elim
        (λ (e : s ≡ o). among name (s.name ∷ names) (subst (λ x. Contains (s.name ∷ names) x) (ap (λ (x : Site). x.name) e ∙ same) (Contains-head (s.name) names)))
        (λ (e : Contains [] o). absurd (Contains-nil o e))
        (Contains-cons_cases s o [] k))
        (Contains-append_cases before (s ∷ []) o c)

preceded_by : (others : List Site) (s : Site) → is_preceded others s ≡ true → (o : Site) × Contains others o × (o.name ≡ s.name) × (o.form < s.form)
preceded_by others s h =
    let found = any_item (λ o. bytes_eq o.name s.name && nat_lt o.form s.form) others h in
    let o = found.0 in
    (o, found.1, (bytes_eq-Decides o.name s.name).0 (and_first (bytes_eq o.name s.name) (nat_lt o.form s.form) found.2), ltb-true o.form s.form (and_second (bytes_eq o.name s.name) (nat_lt o.form s.form) found.2))

second_reported : (others before sites : List Site) (names : List (List ℕ)) → AreNamesOf names before → ReportedAfter (StandsBefore others) (λ s. s) before sites (repeated others names sites)
second_reported others before [] names are = ends
second_reported others before (s ∷ sites) names are = by_test (is_among s.name names || is_preceded others s) refl (second_reported others (before ++ s ∷ []) sites (s.name ∷ names) (one_name_more names before s are))
  where
    stands : (is_among s.name names || is_preceded others s) ≡ true → StandsBefore others before s
    stands h = ⊎_elim
        (λ (x : is_among s.name names ≡ true). inl ((are s.name).0 x))
        (λ (x : is_preceded others s ≡ true). inr (preceded_by others s x))
        (or_cases (is_among s.name names) (is_preceded others s) h)

    reported : StandsBefore others before s → (is_among s.name names || is_preceded others s) ≡ true
    reported h = ⊎_elim
        (λ (x : (o : Site) × Contains before o × (o.name ≡ s.name)). ap (λ b. b || is_preceded others s) ((are s.name).1 x.0 x.1 x.2))
        (λ (x : (o : Site) × Contains others o × (o.name ≡ s.name) × (o.form < s.form)).
        ap (λ b. is_among s.name names || b) (item_any (λ o. bytes_eq o.name s.name && nat_lt o.form s.form) others x.0 x.1 (and_both (bytes_eq (x.0).name s.name) (nat_lt (x.0).form s.form) ((bytes_eq-Decides (x.0).name s.name).1 x.2) (lt-ltb (x.0).form s.form x.3)))
        ∙ or-true (is_among s.name names))
        h

    by_test : (b : Bool) → (is_among s.name names || is_preceded others s) ≡ b → ReportedAfter (StandsBefore others) (λ s. s) (before ++ s ∷ []) sites (repeated others (s.name ∷ names) sites)
        → ReportedAfter (StandsBefore others) (λ s. s) before (s ∷ sites) (repeated others names (s ∷ sites))
    by_test true e rest = subst (λ b. ReportedAfter (StandsBefore others) (λ s. s) before (s ∷ sites) (cond b (s ∷ repeated others (s.name ∷ names) sites) (repeated others (s.name ∷ names) sites))) (sym e) (tells (stands e) rest)
    by_test false e rest = subst (λ b. ReportedAfter (StandsBefore others) (λ s. s) before (s ∷ sites) (cond b (s ∷ repeated others (s.name ∷ names) sites) (repeated others (s.name ∷ names) sites))) (sym e) (passes (λ h. let bad : false ≡ true = sym e ∙ reported h in absurd (cc)) rest)

pub second_names : (others sites : List Site) → ReportedAfter (StandsBefore others) (λ s. s) [] sites (repeated others [] sites)
second_names others sites = second_reported others [] sites [] (λ name. (λ h. absurd (cc), λ o c same. absurd (Contains-nil o c)))

-- Units.

module _ (d : Description) where
  units_reported : (before units : List UnitItem) → ReportedAfter (IsPastUnits d) unit_site before units (past_units units (places_after d before units))
  units_reported before [] = ends
  units_reported before (u ∷ units) = by_test (nat_lt (place_after d before u).unit unit_limit) refl (units_reported (before ++ u ∷ []) units)
    where
      by_test : (b : Bool) → nat_lt (place_after d before u).unit unit_limit ≡ b → ReportedAfter (IsPastUnits d) unit_site (before ++ u ∷ []) units (past_units units (places_after d (before ++ u ∷ []) units))
          → ReportedAfter (IsPastUnits d) unit_site before (u ∷ units) (past_units (u ∷ units) (places_after d before (u ∷ units)))
      by_test true e reported = subst (λ b. ReportedAfter (IsPastUnits d) unit_site before (u ∷ units) (cond b (past_units units (places_after d (before ++ u ∷ []) units)) (unit_site u ∷ past_units units (places_after d (before ++ u ∷ []) units)))) (sym e)
          (passes (λ (h : IsPastUnits d before u). let low = ltb-true (place_after d before u).unit unit_limit e in let same = number_of d before u in omega (arith, h, low, same)) reported)
      by_test false e reported = subst (λ b. ReportedAfter (IsPastUnits d) unit_site before (u ∷ units) (cond b (past_units units (places_after d (before ++ u ∷ []) units)) (unit_site u ∷ past_units units (places_after d (before ++ u ∷ []) units)))) (sym e)
          (tells (let high = ltb-false (place_after d before u).unit unit_limit e in let same = number_of d before u in omega (arith, high, same)) reported)

  pub units_past : ReportedAfter (IsPastUnits d) unit_site [] d.units (past_units d.units (unit_places d))
  units_past = units_reported [] d.units

  place_at : (first before after : List UnitItem) (u : UnitItem) → slice_get (places_after d first (before ++ u ∷ after)) (length before) ≡ Some (place_after d (first ++ before) u)
  place_at first [] after u = ap (λ us. Some (place_after d us u)) (sym (append-nil first))
  place_at first (v ∷ before) after u = place_at (first ++ v ∷ []) before after u ∙ ap (λ us. Some (place_after d us u)) (append_assoc first (v ∷ []) before)

  pub places_count : (before after : List UnitItem) (u : UnitItem) → d.units ≡ before ++ u ∷ after → slice_get (unit_places d) (length before) ≡ Some (record { automaton = automaton_number d u.automaton; unit = units_beside d before u })
  places_count before after u e = ap (λ us. slice_get (places_after d [] us) (length before)) e ∙ (place_at [] before after u ∙ ap (λ n. Some (record { automaton = automaton_number d u.automaton; unit = n })) (number_of d before u))

-- Sizes.

module _ (known : Known) where
  abbrev size_of_item : Reserving → ℕ
  size_of_item r = total_size (alternatives_in known r)

  -- the size of items after others
  record Passes (beyond : ℕ) (order : List Reserving) (s : Site) : Type 0 where
    before : List Reserving
    item : Reserving
    after : List Reserving
    parts : order ≡ before ++ item ∷ after
    is : s ≡ item.site
    within : beyond + sum_by size_of_item before ≤ size_limit
    past : size_limit < beyond + sum_by size_of_item before + size_of_item item

  sum_cons : (r : Reserving) (order : List Reserving) → sum_by size_of_item (r ∷ order) ≡ size_of_item r + sum_by size_of_item order
  sum_cons r order = sum_by-append size_of_item (r ∷ []) order ∙ ap (λ n. n + sum_by size_of_item order) (omega arith)

  size_passes : (beyond : ℕ) (order : List Reserving) (s : Site) → beyond ≤ size_limit → past_size known beyond order ≡ s ∷ [] → Passes beyond order s
  size_passes beyond [] s low h = absurd (cc)
  size_passes beyond (r ∷ order) s low h = by_test (nat_lt size_limit (beyond + size_of_item r)) refl h (λ low h. size_passes (beyond + size_of_item r) order s low h)
    where
      by_test : (b : Bool) → nat_lt size_limit (beyond + size_of_item r) ≡ b → past_size known beyond (r ∷ order) ≡ s ∷ []
          → (beyond + size_of_item r ≤ size_limit → past_size known (beyond + size_of_item r) order ≡ s ∷ [] → Passes (beyond + size_of_item r) order s) → Passes beyond (r ∷ order) s
      by_test true e h later =
          let reported : r.site ∷ [] ≡ s ∷ [] = subst (λ b. cond b (r.site ∷ []) (past_size known (beyond + size_of_item r) order) ≡ s ∷ []) e h in
          let same : r.site ≡ s = cc in
          let past = ltb-true size_limit (beyond + size_of_item r) e in
          let nothing : sum_by size_of_item [] ≡ 0 = refl in
          record { before = []; item = r; after = order; parts = refl; is = sym same; within = omega (arith, low, nothing); past = omega (arith, past, nothing) }
      by_test false e h later =
          let reported = subst (λ b. cond b (r.site ∷ []) (past_size known (beyond + size_of_item r) order) ≡ s ∷ []) e h in
          let small = ltb-false size_limit (beyond + size_of_item r) e in
          let p = later small reported in
          let sum = sum_cons r p.before in
          record { before = r ∷ p.before; item = p.item; after = p.after; parts = ap (λ rs. r ∷ rs) p.parts; is = p.is; within = omega (arith, p.within, sum); past = omega (arith, p.past, sum) }

  passes_size : (beyond : ℕ) (order : List Reserving) (s : Site) → Passes beyond order s → past_size known beyond order ≡ s ∷ []
  passes_size beyond order s p = subst (λ rs. past_size known beyond rs ≡ s ∷ []) (sym p.parts) (go beyond p.before p.within p.past)
    where
      here : (beyond : ℕ) (b : Bool) → nat_lt size_limit (beyond + size_of_item p.item) ≡ b → size_limit < beyond + size_of_item p.item → past_size known beyond (p.item ∷ p.after) ≡ s ∷ []
      here beyond true e past = subst (λ b. cond b ((p.item).site ∷ []) (past_size known (beyond + size_of_item p.item) p.after) ≡ s ∷ []) (sym e) (ap (λ x. x ∷ []) (sym p.is))
      here beyond false e past = let low = ltb-false size_limit (beyond + size_of_item p.item) e in absurd (omega (arith, low, past))

      step : (beyond : ℕ) (r : Reserving) (rest : List Reserving) (b : Bool) → nat_lt size_limit (beyond + size_of_item r) ≡ b → beyond + size_of_item r ≤ size_limit → past_size known (beyond + size_of_item r) rest ≡ s ∷ [] → past_size known beyond (r ∷ rest) ≡ s ∷ []
      step beyond r rest true e low h = let past = ltb-true size_limit (beyond + size_of_item r) e in absurd (omega (arith, low, past))
      step beyond r rest false e low h = subst (λ b. cond b (r.site ∷ []) (past_size known (beyond + size_of_item r) rest) ≡ s ∷ []) (sym e) h

      go : (beyond : ℕ) (before : List Reserving) → beyond + sum_by size_of_item before ≤ size_limit → size_limit < beyond + sum_by size_of_item before + size_of_item p.item → past_size known beyond (before ++ p.item ∷ p.after) ≡ s ∷ []
      go beyond [] within past = let nothing : sum_by size_of_item [] ≡ 0 = refl in here beyond (nat_lt size_limit (beyond + size_of_item p.item)) refl (omega (arith, past, nothing))
      go beyond (r ∷ before) within past =
          let sum = sum_cons r before in
          step beyond r (before ++ p.item ∷ p.after) (nat_lt size_limit (beyond + size_of_item r)) refl (omega (arith, within, sum)) (go (beyond + size_of_item r) before (omega (arith, within, sum)) (omega (arith, past, sum)))

  pub size_reported : (order : List Reserving) (s : Site) → past_size known 0 order ≡ s ∷ [] ↔ PassesSize known order s
  size_reported order s = (there, back)
    where
      there : past_size known 0 order ≡ s ∷ [] → PassesSize known order s
      there h =
          let p = size_passes 0 order s (omega arith) h in
          let sum = sum_by-append size_of_item p.before (p.item ∷ []) in
          let one = sum_cons p.item [] in
          let nothing : sum_by size_of_item [] ≡ 0 = refl in
          record { before = p.before; item = p.item; after = p.after; parts = p.parts; is = p.is; within = omega (arith, p.within); past = omega (arith, p.past, sum, one, nothing) }

      back : PassesSize known order s → past_size known 0 order ≡ s ∷ []
      back p =
          let sum = sum_by-append size_of_item p.before (p.item ∷ []) in
          let one = sum_cons p.item [] in
          let nothing : sum_by size_of_item [] ≡ 0 = refl in
          passes_size 0 order s (record { before = p.before; item = p.item; after = p.after; parts = p.parts; is = p.is; within = omega (arith, p.within); past = omega (arith, p.past, sum, one, nothing) })

  none_past : (beyond : ℕ) (order : List Reserving) → beyond ≤ size_limit → past_size known beyond order ≡ [] ↔ (beyond + sum_by size_of_item order ≤ size_limit)
  none_past beyond [] low = let nothing : sum_by size_of_item [] ≡ 0 = refl in (λ _. omega (arith, low, nothing), λ _. refl)
  none_past beyond (r ∷ order) low = by_test (nat_lt size_limit (beyond + size_of_item r)) refl (λ low. none_past (beyond + size_of_item r) order low)
    where
      by_test : (b : Bool) → nat_lt size_limit (beyond + size_of_item r) ≡ b → (beyond + size_of_item r ≤ size_limit → past_size known (beyond + size_of_item r) order ≡ [] ↔ (beyond + size_of_item r + sum_by size_of_item order ≤ size_limit))
          → past_size known beyond (r ∷ order) ≡ [] ↔ (beyond + sum_by size_of_item (r ∷ order) ≤ size_limit)
      by_test true e later =
          let past = ltb-true size_limit (beyond + size_of_item r) e in
          let sum = sum_cons r order in
          (λ h. let reported = subst (λ b. cond b (r.site ∷ []) (past_size known (beyond + size_of_item r) order) ≡ []) e h in absurd (cc), λ h. absurd (omega (arith, past, sum, h)))
      by_test false e later =
          let small = ltb-false size_limit (beyond + size_of_item r) e in
          let sum = sum_cons r order in
          let rest = later small in (
            λ h. let reported = subst (λ b. cond b (r.site ∷ []) (past_size known (beyond + size_of_item r) order) ≡ []) e h in let k = rest.0 reported in omega (arith, k, sum),
            λ h. subst (λ b. cond b (r.site ∷ []) (past_size known (beyond + size_of_item r) order) ≡ []) (sym e) (rest.1 (omega (arith, h, sum))),
          )

  pub no_size_reported : (order : List Reserving) → past_size known 0 order ≡ [] ↔ (size_together known order ≤ size_limit)
  no_size_reported order = let both = none_past 0 order (omega arith) in (λ h. let k = both.0 h in omega (arith, k), λ h. both.1 (omega (arith, h)))

-- Numbers of bypasses.

not_same : (a b : ℕ) → not (a == b) ≡ true → a ≢ b
not_same a b h same = let e : (a == b) ≡ true = eq-eqb a b same in let bad : not true ≡ true = subst (λ x. not x ≡ true) e h in absurd (cc)

same_not : (a b : ℕ) → a ≢ b → not (a == b) ≡ true
same_not a b h = by_test (a == b) refl
  where
    by_test : (x : Bool) → (a == b) ≡ x → not x ≡ true
    by_test true e = absurd (h (eqb-true a b e))
    by_test false e = refl

renumbers : (before : List BypassItem) (b : BypassItem) (out : List ℕ) → list_any (λ «in». list_any (differs b.number out «in») before) b.ins ≡ true ↔ ((e : BypassItem) × (c : List ℕ) × Contains before e × Contains b.ins c × Contains e.outs out × Contains e.ins c × (e.number ≢ b.number))
renumbers before b out = (there, back)
  where
    there : list_any (λ «in». list_any (differs b.number out «in») before) b.ins ≡ true → (e : BypassItem) × (c : List ℕ) × Contains before e × Contains b.ins c × Contains e.outs out × Contains e.ins c × (e.number ≢ b.number)
    there h =
        let (c, within, some) = any_item (λ «in». list_any (differs b.number out «in») before) b.ins h in
        let (e, stands, differ) = any_item (differs b.number out c) before some in
        let front = and_first (not (e.number == b.number) && is_among out e.outs) (is_among c e.ins) differ in (
          e,
          c,
          stands,
          within,
          from_among out e.outs (and_second (not (e.number == b.number)) (is_among out e.outs) front),
          from_among c e.ins (and_second (not (e.number == b.number) && is_among out e.outs) (is_among c e.ins) differ),
          not_same e.number b.number (and_first (not (e.number == b.number)) (is_among out e.outs) front),
        )

    back : ((e : BypassItem) × (c : List ℕ) × Contains before e × Contains b.ins c × Contains e.outs out × Contains e.ins c × (e.number ≢ b.number)) → list_any (λ «in». list_any (differs b.number out «in») before) b.ins ≡ true
    back (e, c, stands, within, gave, to, other) = item_any (λ «in». list_any (differs b.number out «in») before) b.ins c within
        (item_any (differs b.number out c) before e stands
        (and_both (not (e.number == b.number) && is_among out e.outs) (is_among c e.ins)
        (and_both (not (e.number == b.number)) (is_among out e.outs) (same_not e.number b.number other) (among out e.outs gave))
        (among c e.ins to)))

-- the sites of one bypass
renumbered_reported : (before : List BypassItem) (b : BypassItem) (s : Site) → Contains (renumbered before b) s ↔ (IsRenumbered before b s.name × (s.line ≡ b.line) × (s.form ≡ b.form))
renumbered_reported before b s = (there, back)
  where
    there : Contains (renumbered before b) s → IsRenumbered before b s.name × (s.line ≡ b.line) × (s.form ≡ b.form)
    there c =
        let (out, is, made) = Contains-from_map (λ name. record { line = b.line; form = b.form; name = name }) (filter (λ out. list_any (λ «in». list_any (differs b.number out «in») before) b.ins) b.outs) s c in
        let (stands, good) = Contains-from_filter (λ out. list_any (λ «in». list_any (differs b.number out «in») before) b.ins) out b.outs is in
        let (e, consumer, there, within, gave, to, other) = (renumbers before b out).0 good in
        let name : out ≡ s.name = ap (λ (x : Site). x.name) made in
        (subst (IsRenumbered before b) name (record { earlier = e; consumer = consumer; stands = there; from = stands; to = within; from_earlier = gave; to_earlier = to; other = other }), sym (ap (λ (x : Site). x.line) made), sym (ap (λ (x : Site). x.form) made))

    back : IsRenumbered before b s.name × (s.line ≡ b.line) × (s.form ≡ b.form) → Contains (renumbered before b) s
    back (r, line, form) =
        let good = (renumbers before b s.name).1 (r.earlier, r.consumer, r.stands, r.to, r.from_earlier, r.to_earlier, r.other) in
        let there = Contains-map (λ name. record { line = b.line; form = b.form; name = name }) (filter (λ out. list_any (λ «in». list_any (differs b.number out «in») before) b.ins) b.outs) s.name
        (Contains-filter (λ out. list_any (λ «in». list_any (differs b.number out «in») before) b.ins) s.name good b.outs r.from) in
        let same : ◌≡◌ {A = Site} (record { line = b.line; form = b.form; name = s.name }) s = λ i. record { line = sym line i; form = sym form i; name = s.name } in
        subst (λ x. Contains (renumbered before b) x) same there

-- a second number reported of bypasses after others
record TellsAfter (before bypasses : List BypassItem) (s : Site) : Type 0 where
  front : List BypassItem
  b : BypassItem
  after : List BypassItem
  parts : bypasses ≡ front ++ b ∷ after
  pair : IsRenumbered (before ++ front) b s.name
  line : s.line ≡ b.line
  form : s.form ≡ b.form

tells_later : (before bypasses : List BypassItem) (b : BypassItem) (s : Site) → TellsAfter (before ++ b ∷ []) bypasses s → TellsAfter before (b ∷ bypasses) s
tells_later before bypasses b s t = record {
  front = b ∷ t.front;
  b = t.b;
  after = t.after;
  parts = ap (λ xs. b ∷ xs) t.parts;
  pair = subst (λ xs. IsRenumbered xs t.b s.name) (append_assoc before (b ∷ []) t.front) t.pair;
  line = t.line;
  form = t.form;
}

tells_cases : (before bypasses : List BypassItem) (b : BypassItem) (s : Site) → TellsAfter before (b ∷ bypasses) s → Contains (renumbered before b) s ⊎ TellsAfter (before ++ b ∷ []) bypasses s
tells_cases before bypasses b s t = by_front t.front t.parts t.pair
  where
    by_front : (front : List BypassItem) → b ∷ bypasses ≡ front ++ t.b ∷ t.after → IsRenumbered (before ++ front) t.b s.name → Contains (renumbered before b) s ⊎ TellsAfter (before ++ b ∷ []) bypasses s
    by_front [] e pair =
        let same : t.b ≡ b = cc in
        inl ((renumbered_reported before b s).1 (subst (λ x. IsRenumbered x b s.name) (append-nil before) (subst (λ x. IsRenumbered (before ++ []) x s.name) same pair), t.line ∙ ap (λ (x : BypassItem). x.line) same, t.form ∙ ap (λ (x : BypassItem). x.form) same))
    by_front (x ∷ front) e pair =
        let first : x ≡ b = cc in
        let rest : bypasses ≡ front ++ t.b ∷ t.after = cc in
        let moved = subst (λ xs. IsRenumbered xs t.b s.name) (sym (append_assoc before (b ∷ []) front)) (subst (λ y. IsRenumbered (before ++ y ∷ front) t.b s.name) first pair) in
        inr (record { front = front; b = t.b; after = t.after; parts = rest; pair = moved; line = t.line; form = t.form })

second_number : (before bypasses : List BypassItem) (s : Site) → Contains (renumbered_after before bypasses) s ↔ TellsAfter before bypasses s
second_number before [] s = (λ c. absurd (Contains-nil s c), λ t. absurd (no_parts t.front t.b t.after t.parts))
  where
    no_parts : (front : List BypassItem) (b : BypassItem) (after : List BypassItem) → [] ≡ front ++ b ∷ after → ⊥
    no_parts [] b after e = absurd (cc)
    no_parts (x ∷ front) b after e = absurd (cc)
second_number before (b ∷ bypasses) s =
    let later = second_number (before ++ b ∷ []) bypasses s in (
      λ c. ⊎_elim
          (λ (k : Contains (renumbered before b) s).
          let reported = (renumbered_reported before b s).0 k in
          record { front = []; b = b; after = bypasses; parts = refl; pair = subst (λ x. IsRenumbered x b s.name) (sym (append-nil before)) reported.0; line = reported.1; form = reported.2 })
          (λ (k : Contains (renumbered_after (before ++ b ∷ []) bypasses) s). tells_later before bypasses b s (later.0 k))
          (Contains-append_cases (renumbered before b) (renumbered_after (before ++ b ∷ []) bypasses) s c),
      λ t. ⊎_elim
          (λ (k : Contains (renumbered before b) s). Contains-append_left (renumbered before b) (renumbered_after (before ++ b ∷ []) bypasses) s k)
          (λ (k : TellsAfter (before ++ b ∷ []) bypasses s). Contains-append_right (renumbered before b) (renumbered_after (before ++ b ∷ []) bypasses) s (later.1 k))
          (tells_cases before bypasses b s t),
    )

pub second_numbers_reported : (d : Description) (s : Site) → Contains (second_numbers d) s ↔ TellsSecondNumber (unguarded d.bypasses) s
second_numbers_reported d s =
    let both = second_number [] (unguarded d.bypasses) s in (
      λ c. let t = both.0 c in record { before = t.front; b = t.b; after = t.after; parts = t.parts; pair = t.pair; line = t.line; form = t.form },
      λ t. both.1 (record { front = t.before; b = t.b; after = t.after; parts = t.parts; pair = t.pair; line = t.line; form = t.form }),
    )
