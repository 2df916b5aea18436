-- Units are taken in the cycles of their pairs, and each has its load.
use Rattle.std.proofs.Common.{◌≡◌, ◌↔◌, ⊎_elim, ℕ, zero, suc, ◌+◌, ◌<◌, Bool, true, IsTrue, List, [], ◌∷◌, map, filter, length, get_or, Contains, Option, Some, None, Ordering, refl, sym, ap, ◌∙◌, subst, arith, slice_index_or, ◌==◌}
use Rattle.std.specs.Bool.{Decides}
use Rattle.std.specs.Cmp.{nat_cmp_is}
use Rattle.std.specs.List.{AllPairs, filter_map, cons_option, range_with_len}
use Rattle.std.specs.Option.{option_map}
use Rattle.std.specs.Ordering.{nat_cmp, is_lt, ordering_then}
use Rattle.std.specs.declared.cmp.Ordering.TheVariants.{Less, Equal, Greater}
use Rattle.std.proofs.lemmas.Bool.{and_parts, and_from}
use Rattle.std.proofs.lemmas.Bool.Decides.{Decides-eqb}
use Rattle.std.proofs.lemmas.Cmp.{ranked}
use Rattle.std.proofs.lemmas.List.{length-map, get_or-map}
use Rattle.std.proofs.lemmas.List.Elements.{Contains-get_or, Contains-append_left, Contains-append_right, Contains-append_cases}
use Rattle.std.proofs.lemmas.List.Kept.{AllPairs-filter}
use Rattle.hz_base_model.specs.Pairs.{Pair, precedes_by, IsAscendingBy}
use Rattle.hz_base_model.proofs.Elements.{Contains-nil, Contains-head, Contains-tail, Contains-cons_cases, Contains-map, Contains-from_map, Contains-filter, Contains-from_filter, Contains-range, Contains-from_range}
use Rattle.hz_description_model.specs.Reservations.Alternatives.{Alternative}
use Rattle.hz_description_model.specs.Reservations.Automata.{UnitPlace, place_cmp, ascending}
use Rattle.hz_description_model.proofs.Check.PlaceLaws.{from_filter_map}
use Rattle.hz_description_model.proofs.Reservations.AscendingLaws.{IsAscending-ascending, Contains-ascending, Contains-from_ascending}
use Rattle.hz_pipeline_model.specs.Accepting.Replay.{Pipeline, alternatives_at}
use Rattle.hz_measure_model.specs.Bounds.Bounds.{UnitLoad, units_of, units_from, loads_of}
use Rattle.hz_measure_model.specs.Bounds.Loads.{takes, cycles_in, cycles_at, ways, Load, load_of}
use Rattle.hz_claims_laws.specs.Taking.{AreTaken, AreTakenInEach, no_alternative, one_more, IsLoadOf}

-- ---- pairs that ascend

module _ {U : Type 0} (unit_cmp : U → U → Ordering) (u : U) (tied : unit_cmp u u ≡ Equal) (test : Pair U → Bool) (decides : (p : Pair U) → Decides (test p) (p.unit ≡ u)) where
  -- of two pairs of one unit the first is in the earlier cycle
  earlier : (p q : Pair U) → p.unit ≡ u → q.unit ≡ u → IsTrue (precedes_by unit_cmp p q) → p.cycle < q.cycle
  earlier p q a b h = by_order (nat_cmp p.cycle q.cycle) refl (subst (λ (o : Ordering). is_lt (ordering_then (nat_cmp p.cycle q.cycle) o) ≡ true) same h)
    where
      same : unit_cmp p.unit q.unit ≡ Equal
      same = (λ i. unit_cmp (a i) (b i)) ∙ tied

      by_order : (r : Ordering) → r ≡ nat_cmp p.cycle q.cycle → is_lt (ordering_then r Equal) ≡ true → p.cycle < q.cycle
      by_order Less e k = ranked p.cycle q.cycle Less e
      by_order Equal e k = cc
      by_order Greater e k = cc

  module _ (pairs : List (Pair U)) where
    abbrev of_unit : List (Pair U)
    of_unit = filter test pairs

    unit_at : (i : ℕ) (d : Pair U) → i < length of_unit → (get_or of_unit i d).unit ≡ u
    unit_at i d within = (decides (get_or of_unit i d)).0 (Contains-from_filter test (get_or of_unit i d) pairs (Contains-get_or of_unit i d within)).1

    from_pair : (c : ℕ) → Contains (map (λ p. p.cycle) of_unit) c → Contains pairs (record { unit = u; cycle = c })
    from_pair c h =
        let (p, there, same) = Contains-from_map (λ (p : Pair U). p.cycle) of_unit c h in
        let (inside, passes) = Contains-from_filter test p pairs there in
        let unit = (decides p).0 passes in
        let pair : p ≡ record { unit = u; cycle = c } = λ i. record { unit = unit i; cycle = same i } in
        subst (Contains pairs) pair inside

    of_pair : (c : ℕ) → Contains pairs (record { unit = u; cycle = c }) → Contains (map (λ p. p.cycle) of_unit) c
    of_pair c h =
        let p : Pair U = record { unit = u; cycle = c } in
        Contains-map (λ (p : Pair U). p.cycle) of_unit p (Contains-filter test p ((decides p).1 refl) pairs h)

    cycles_ascend : IsAscendingBy unit_cmp pairs → AllPairs (λ c e. c < e) (map (λ p. p.cycle) of_unit)
    cycles_ascend up i j d lt within =
        let long = length-map of_unit (λ (p : Pair U). p.cycle) in
        let inside : j < length of_unit = omega arith in
        let first : i < length of_unit = omega arith in
        let p : Pair U = record { unit = u; cycle = 0 } in
        rw (get_or-map (λ (p : Pair U). p.cycle) of_unit i p d first, get_or-map (λ (p : Pair U). p.cycle) of_unit j p d inside)
        (earlier (get_or of_unit i p) (get_or of_unit j p) (unit_at i p first) (unit_at j p inside) (AllPairs-filter (λ p q. IsTrue (precedes_by unit_cmp p q)) test pairs up i j p lt inside))

    taken_so : IsAscendingBy unit_cmp pairs → AreTaken u pairs (map (λ p. p.cycle) of_unit)
    taken_so up = record { there = λ c. (from_pair c, of_pair c); ascend = cycles_ascend up }

-- ---- alternatives and grids

pub takes_it : (u : UnitPlace) (p : Pair UnitPlace) → IsTrue (takes u p) ↔ (p.unit ≡ u)
takes_it u p = (
  λ h.
      let parts = and_parts ((p.unit).automaton == u.automaton) ((p.unit).unit == u.unit) h in
      let same = (Decides-eqb (p.unit).automaton u.automaton).0 parts.0 in
      let equal = (Decides-eqb (p.unit).unit u.unit).0 parts.1 in
      λ i. record { automaton = same i; unit = equal i },
  λ e. and_from ((p.unit).automaton == u.automaton) ((p.unit).unit == u.unit)
      ((Decides-eqb (p.unit).automaton u.automaton).1 (ap (λ (v : UnitPlace). v.automaton) e))
      ((Decides-eqb (p.unit).unit u.unit).1 (ap (λ (v : UnitPlace). v.unit) e)),
)

tied_number : (n : ℕ) → nat_cmp n n ≡ Equal
tied_number n = sym (nat_cmp_is n n Equal refl)

tied_place : (u : UnitPlace) → place_cmp u u ≡ Equal
tied_place u = rw (tied_number u.automaton, tied_number u.unit) refl

pub taken_in : (u : UnitPlace) (a : Alternative UnitPlace) → AreTaken u a.pairs (cycles_in u a)
taken_in u a =
    let is = taken_so place_cmp u (tied_place u) (takes u) (takes_it u) (ascending a.pairs) (IsAscending-ascending a.pairs) in
    record {
      there = λ c. (λ h. Contains-from_ascending (record { unit = u; cycle = c }) a.pairs ((is.there c).0 h), λ h. (is.there c).1 (Contains-ascending (record { unit = u; cycle = c }) a.pairs h));
      ascend = is.ascend;
    }

taken_in_each : (u : UnitPlace) (alternatives : List (Alternative UnitPlace)) → AreTakenInEach u alternatives (map (cycles_in u) alternatives)
taken_in_each u [] = no_alternative
taken_in_each u (a ∷ alternatives) = one_more a (cycles_in u a) alternatives (map (cycles_in u) alternatives) (taken_in u a) (taken_in_each u alternatives)

pub taken_by_class : (m : Pipeline UnitPlace) (u : UnitPlace) (k : ℕ) → AreTakenInEach u (alternatives_at m k) (ways m u k)
taken_by_class m u k = taken_in_each u (alternatives_at m k)

pub taken_at : (unit : ℕ) (grid : List (Pair ℕ)) → IsAscendingBy nat_cmp grid → AreTaken unit grid (cycles_at unit grid)
taken_at unit grid up = taken_so nat_cmp unit (tied_number unit) (λ (p : Pair ℕ). p.unit == unit) (λ p. Decides-eqb p.unit unit) grid up

-- ---- units that have a name

record HasName (n : ℕ) (names : List (List (List ℕ))) (u : UnitPlace) : Type 0 where
  automaton : ℕ
  is : u.automaton ≡ n + automaton
  within : automaton < length names
  unit : u.unit < length (slice_index_or names automaton [])

named : (n : ℕ) (names : List (List (List ℕ))) (u : UnitPlace) → Contains (units_from n names) u → HasName n names u
named n [] u h = absurd (Contains-nil u h)
named n (first ∷ names) u h = ⊎_elim
    (λ (here : Contains (units_of n (length first)) u).
    let (k, held, e) = Contains-from_map (λ (k : ℕ). record { automaton = n; unit = k }) (range_with_len 0 (length first)) u here in
    let low = Contains-from_range (length first) k held in
    let automaton = ap (λ (v : UnitPlace). v.automaton) e in
    let unit = ap (λ (v : UnitPlace). v.unit) e in
    record { automaton = zero; is = omega (arith, automaton); within = omega arith; unit = subst (λ (m : ℕ). m < length first) unit low })
    (λ (later : Contains (units_from (suc n) names) u).
    let rest = named (suc n) names u later in
    let is = rest.is in
    let within = rest.within in
    record { automaton = suc rest.automaton; is = omega (arith, is); within = omega (arith, within); unit = rest.unit })
    (Contains-append_cases (units_of n (length first)) (units_from (suc n) names) u h)

unit_there : (n a i : ℕ) (names : List (List (List ℕ))) (unit : ℕ) → a ≡ n + i → i < length names → unit < length (slice_index_or names i []) → Contains (units_from n names) (record { automaton = a; unit = unit })
unit_there n a i [] unit e within low = absurd (omega (arith, within))
unit_there n a zero (first ∷ names) unit e within low =
    let same : n ≡ a = omega (arith, e) in
    let here = Contains-map (λ (k : ℕ). record { automaton = n; unit = k }) (range_with_len 0 (length first)) unit (Contains-range (length first) unit low) in
    subst (λ (b : ℕ). Contains (units_from n (first ∷ names)) (record { automaton = b; unit = unit })) same
    (Contains-append_left (units_of n (length first)) (units_from (suc n) names) (record { automaton = n; unit = unit }) here)
unit_there n a (suc i) (first ∷ names) unit e within low =
    Contains-append_right (units_of n (length first)) (units_from (suc n) names) (record { automaton = a; unit = unit })
    (unit_there (suc n) a i names unit (omega (arith, e)) (omega (arith, within)) low)

-- ---- their loads

in_filter_map : {A B : Type 0} (f : A → Option B) (xs : List A) (x : A) (y : B) → Contains xs x → f x ≡ Some y → Contains (filter_map f xs) y
in_filter_map f [] x y h e = absurd (Contains-nil x h)
in_filter_map {A} {B} f (z ∷ xs) x y h e = ⊎_elim
    (λ (same : z ≡ x). subst (λ (o : Option B). Contains (cons_option o (filter_map f xs)) y) (sym (ap f same ∙ e)) (Contains-head y (filter_map f xs)))
    (λ (there : Contains xs x). later (f z) (in_filter_map f xs x y there e))
    (Contains-cons_cases z x xs h)
  where
    later : (o : Option B) → Contains (filter_map f xs) y → Contains (cons_option o (filter_map f xs)) y
    later None k = k
    later (Some w) k = Contains-tail w y (filter_map f xs) k

load_is : (u : UnitPlace) (o : Option Load) (l : UnitLoad) → option_map (λ (l : Load). record { unit = u; load = l }) o ≡ Some l → (u ≡ l.unit) × (o ≡ Some l.load)
load_is u None l e = absurd (cc)
load_is u (Some load) l e = let same : record { unit = u; load = load } ≡ l = cc in (ap (λ (l : UnitLoad). l.unit) same, ap (λ (l : UnitLoad). Some l.load) same)

module _ (taken : UnitPlace → ℕ → List (List ℕ)) (names : List (List (List ℕ))) (classes : List ℕ) (l : UnitLoad) where
  abbrev load_at : UnitPlace → Option UnitLoad
  load_at u = option_map (λ (l : Load). record { unit = u; load = l }) (load_of (taken u) classes)

  load_there : Contains (loads_of taken (units_from 0 names) classes) l → IsLoadOf taken names classes l
  load_there h =
      let (u, there, e) = from_filter_map load_at (units_from 0 names) l h in
      let is = load_is u (load_of (taken u) classes) l e in
      let name = named 0 names l.unit (subst (Contains (units_from 0 names)) is.0 there) in
      let same : name.automaton ≡ (l.unit).automaton = omega (arith, name.is) in
      record {
        automaton = subst (λ (a : ℕ). a < length names) same name.within;
        unit = subst (λ (a : ℕ). (l.unit).unit < length (slice_index_or names a [])) same name.unit;
        load = ap (λ (v : UnitPlace). load_of (taken v) classes) (sym is.0) ∙ is.1;
      }

  load_back : IsLoadOf taken names classes l → Contains (loads_of taken (units_from 0 names) classes) l
  load_back h =
      in_filter_map load_at (units_from 0 names) l.unit l
      (unit_there 0 (l.unit).automaton (l.unit).automaton names (l.unit).unit (omega arith) h.automaton h.unit)
      (ap (option_map (λ (x : Load). record { unit = l.unit; load = x })) h.load)

  pub loads_are : Contains (loads_of taken (units_from 0 names) classes) l ↔ IsLoadOf taken names classes l
  loads_are = (load_there, load_back)
