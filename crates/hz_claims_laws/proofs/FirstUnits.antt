-- Of equal loads that of the first unit is reported.
use Rattle.std.proofs.Common.{◌≡◌, ◌⊎◌, inl, inr, ⊎_elim, ℕ, suc, ◌<◌, ◌≤◌, List, [], ◌∷◌, ◌++◌, length, All, Contains, Option, Some, None, refl, sym, ap, ◌∙◌, subst, arith}
use Rattle.std.specs.List.{AllPairs, filter_map, cons_option, range_with_len}
use Rattle.std.specs.Option.{option_map}
use Rattle.std.proofs.lemmas.List.Elements.{All-head, All-tail, Contains-append_cases}
use Rattle.hz_base_model.proofs.Ascending.{AllPairs-head, AllPairs-tail, AllPairs-append, AllPairs-map, AllPairs-range}
use Rattle.hz_base_model.proofs.Elements.{Contains-nil, Contains-cons_cases, Contains-from_map}
use Rattle.hz_description_model.specs.Reservations.Automata.{UnitPlace}
use Rattle.hz_description_model.proofs.Check.PlaceLaws.{from_filter_map}
use Rattle.hz_measure_model.specs.Bounds.Bounds.{UnitLoad, units_of, units_from, loads_of, heaviest}
use Rattle.hz_measure_model.specs.Bounds.Loads.{Load, load_of}
use Rattle.hz_measure_model.proofs.Bounds.HeaviestLaws.{first_of}
use Rattle.hz_claims_laws.specs.UnitOrder.{ComesBefore}

of_each : {A : Type 0} (P : A → Type 0) (xs : List A) → All P xs → (x : A) → Contains xs x → P x
of_each P [] h x k = absurd (Contains-nil x k)
of_each P (y ∷ xs) h x k = ⊎_elim
    (λ (same : y ≡ x). subst P same (All-head P y xs h))
    (λ (there : Contains xs x). of_each P xs (All-tail P y xs h) x there)
    (Contains-cons_cases y x xs k)

-- ---- units are in order

in_one : (a count : ℕ) → AllPairs ComesBefore (units_of a count)
in_one a count = AllPairs-map (λ (i j : ℕ). i < j) ComesBefore (λ (unit : ℕ). record { automaton = a; unit = unit }) (λ i j h. inr (refl, h)) 0 (range_with_len 0 count) (AllPairs-range count)

automaton_of : (a count : ℕ) (u : UnitPlace) → Contains (units_of a count) u → u.automaton ≡ a
automaton_of a count u h = let is = Contains-from_map (λ (unit : ℕ). record { automaton = a; unit = unit }) (range_with_len 0 count) u h in sym (ap (λ (u : UnitPlace). u.automaton) is.2)

automata_from : (a : ℕ) (names : List (List (List ℕ))) (u : UnitPlace) → Contains (units_from a names) u → a ≤ u.automaton
automata_from a [] u h = absurd (Contains-nil u h)
automata_from a (first ∷ names) u h = ⊎_elim
    (λ (k : Contains (units_of a (length first)) u). let is = automaton_of a (length first) u k in omega (arith, is))
    (λ (k : Contains (units_from (suc a) names) u). let is = automata_from (suc a) names u k in omega (arith, is))
    (Contains-append_cases (units_of a (length first)) (units_from (suc a) names) u h)

in_all : (a : ℕ) (names : List (List (List ℕ))) → AllPairs ComesBefore (units_from a names)
in_all a [] = λ i j d lt within. absurd (omega (arith, within))
in_all a (first ∷ names) =
    AllPairs-append ComesBefore (units_of a (length first)) (units_from (suc a) names) (in_one a (length first)) (in_all (suc a) names)
    (λ u v h k. inl (let is = automaton_of a (length first) u h in let low = automata_from (suc a) names v k in omega (arith, is, low)))

-- ---- what follows an item

record Beyond {A B : Type 0} (f : A → Option B) (xs : List A) (y : B) (back : List B) : Type 0 where
  front : List A
  item : A
  rest : List A
  parts : xs ≡ front ++ item ∷ rest
  is : f item ≡ Some y
  others : filter_map f rest ≡ back

beyond : {A B : Type 0} (f : A → Option B) (xs : List A) (front : List B) (y : B) (back : List B) → filter_map f xs ≡ front ++ y ∷ back → Beyond f xs y back
beyond f [] [] y back e = absurd (cc)
beyond f [] (z ∷ front) y back e = absurd (cc)
beyond {A} {B} f (x ∷ xs) front y back e = by_item (λ front k. beyond f xs front y back k) (f x) refl front e
  where
    later : Beyond f xs y back → Beyond f (x ∷ xs) y back
    later h = record { front = x ∷ h.front; item = h.item; rest = h.rest; parts = ap (λ (zs : List A). x ∷ zs) h.parts; is = h.is; others = h.others }

    by_item : ((front : List B) → filter_map f xs ≡ front ++ y ∷ back → Beyond f xs y back) → (o : Option B) → f x ≡ o → (front : List B) → cons_option o (filter_map f xs) ≡ front ++ y ∷ back → Beyond f (x ∷ xs) y back
    by_item again None is front k = later (again front k)
    by_item again (Some z) is [] k =
        let same : z ≡ y = cc in
        let others : filter_map f xs ≡ back = cc in
        record { front = []; item = x; rest = xs; parts = refl; is = is ∙ ap Some same; others = others }
    by_item again (Some z) is (w ∷ front) k =
        let others : filter_map f xs ≡ front ++ y ∷ back = cc in
        later (again front others)

in_order : (front : List UnitPlace) (u : UnitPlace) (rest : List UnitPlace) → AllPairs ComesBefore (front ++ u ∷ rest) → (v : UnitPlace) → Contains rest v → ComesBefore u v
in_order [] u rest h v k = of_each (ComesBefore u) rest (AllPairs-head ComesBefore u rest h) v k
in_order (x ∷ front) u rest h v k = in_order front u rest (AllPairs-tail ComesBefore x (front ++ u ∷ rest) h) v k

-- the unit of a load
unit_is : (u : UnitPlace) (o : Option Load) (l : UnitLoad) → option_map (λ (l : Load). record { unit = u; load = l }) o ≡ Some l → l.unit ≡ u
unit_is u None l e = absurd (cc)
unit_is u (Some load) l e = let same : record { unit = u; load = load } ≡ l = cc in sym (ap (λ (l : UnitLoad). l.unit) same)

pub first_unit : (taken : UnitPlace → ℕ → List (List ℕ)) (names : List (List (List ℕ))) (classes : List ℕ) (l o : UnitLoad) → heaviest (loads_of taken (units_from 0 names) classes) ≡ Some l
    → Contains (loads_of taken (units_from 0 names) classes) o → (o.load).value ≡ (l.load).value → (o ≡ l) ⊎ ComesBefore l.unit o.unit
first_unit taken names classes l o e there equal =
    let f : UnitPlace → Option UnitLoad = λ u. option_map (λ (l : Load). record { unit = u; load = l }) (load_of (taken u) classes) in
    let is = first_of (loads_of taken (units_from 0 names) classes) l e in
    let after = beyond f (units_from 0 names) is.front l is.back is.parts in
    ⊎_elim
    (λ (k : Contains is.front o). absurd (let low = of_each (λ o. (o.load).value < (l.load).value) is.front is.less o k in omega (arith, low, equal)))
    (λ (k : Contains (l ∷ is.back) o). ⊎_elim
    (λ (same : l ≡ o). inl (sym same))
    (λ (m : Contains is.back o).
    let from = from_filter_map f after.rest o (subst (λ (xs : List UnitLoad). Contains xs o) (sym after.others) m) in
    let order = in_order after.front after.item after.rest (subst (AllPairs ComesBefore) after.parts (in_all 0 names)) from.0 from.1 in
    inr (subst (λ (u : UnitPlace). ComesBefore u o.unit) (sym (unit_is after.item (load_of (taken after.item) classes) l after.is))
    (subst (λ (v : UnitPlace). ComesBefore after.item v) (sym (unit_is from.0 (load_of (taken from.0) classes) o from.2)) order)))
    (Contains-cons_cases l o is.back k))
    (Contains-append_cases is.front (l ∷ is.back) o (subst (λ (xs : List UnitLoad). Contains xs o) is.parts there))
