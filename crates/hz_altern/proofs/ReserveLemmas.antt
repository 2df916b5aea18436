-- What names reserve, from the cycles on in which they begin.
use Rattle.std.proofs.Common.{◌≡◌, ◌↔◌, ◌⊎◌, inl, inr, ⊎_elim, ℕ, ◌+◌, ◌<◌, ◌≤◌, Bool, true, false, true≢false, List, [], ◌∷◌, ◌++◌, length, take, get_or, slice_get, Some, All, Contains, refl, sym, ap, ◌∙◌, subst, arith}
use Rattle.std.specs.List.{list_any}
use Rattle.std.proofs.lemmas.Bool.{cases_lt}
use Rattle.std.proofs.lemmas.List.{append-nil, map-append, take_more}
use Rattle.std.proofs.lemmas.List.Elements.{All-contains, All-head, All-push, Contains-append_left, Contains-append_cases, Contains-push}
use Rattle.std.proofs.lemmas.Map.Views.{list_any-from_Contains}
use Rattle.indexmap.proofs.CallerLemmas.{Contains-list_any}
use Rattle.hz_base_model.specs.Limits.{automaton_limit, cycle_limit, unit_limit}
use Rattle.hz_base_model.specs.Pairs.{Pair, later, placed}
use Rattle.hz_base_model.proofs.Elements.{Contains-nil, Contains-cons_cases, Contains-map, Contains-from_map}
use Rattle.hz_grid.specs.Sets.{HasCycle, IsLater}
use Rattle.hz_grid.specs.Tables.{IsTaken}
use Rattle.hz_grid.specs.declared.cycles.Cycles.{Cycles}
use Rattle.hz_altern.specs.declared.alternative.Alt.{Alt}
use Rattle.hz_altern.specs.declared.alternative.Pair.{Pair as StoredPair}
use Rattle.hz_altern.specs.declared.known.Known.{Known}
use Rattle.hz_altern.specs.declared.listing.reserving.Reserved.{Reserved}
use Rattle.hz_altern.specs.Leaves.{all_pairs, BeginsIn, TakesIn, EndsBy}
use Rattle.hz_altern.specs.Reserved.{IsReserved, AreUnits, IsOfPairs, ReservesToo, IsOfUnit, IsOfUnits}
use Rattle.hz_altern.specs.Shapes.{pair_of, pairs_of, alternative_of, alternatives}
use Rattle.hz_altern.specs.Tables.{known_alternatives}
use Rattle.hz_altern.proofs.LeafLemmas.{begins_front, begins_back, begins_cases, next_entry, taken_again}
use Rattle.hz_altern.proofs.OrderLemmas.{same, same_equiv, same_is}
use Rattle.hz_description_model.specs.Reservations.AlternativeLists.{IsSound, greatest_length}
use Rattle.hz_description_model.specs.Reservations.Automata.{UnitPlace}

abbrev Pairs : Type 0
Pairs = List (Pair UnitPlace)

-- ---- what is reserved

pub nothing_reserved : (A : Pair UnitPlace → Type 0) (held : Reserved) → ((p : Pair UnitPlace) → A p → ⊥) → ReservesToo A held held
nothing_reserved A held none = record { pairs = λ p. (λ r. inl r, λ c. ⊎_elim (λ (r : IsReserved held p). r) (λ (a : A p). absurd (none p a)) c); units = λ are. are }

pub reserved_then : (A B C : Pair UnitPlace → Type 0) (old mid new : Reserved) → ReservesToo A old mid → ReservesToo B mid new → ((p : Pair UnitPlace) → C p ↔ (A p ⊎ B p)) → ReservesToo C old new
reserved_then A B C old mid new first second both = record { pairs = λ p. (there p, back p); units = λ are. second.units (first.units are) }
  where
    there : (p : Pair UnitPlace) → IsReserved new p → IsReserved old p ⊎ C p
    there p r = ⊎_elim
        (λ (m : IsReserved mid p). ⊎_elim (λ (o : IsReserved old p). inl o) (λ (a : A p). inr ((both p).1 (inl a))) ((first.pairs p).0 m))
        (λ (b : B p). inr ((both p).1 (inr b)))
        ((second.pairs p).0 r)

    back : (p : Pair UnitPlace) → IsReserved old p ⊎ C p → IsReserved new p
    back p (inl o) = (second.pairs p).1 (inl ((first.pairs p).1 (inl o)))
    back p (inr c) = ⊎_elim (λ (a : A p). (second.pairs p).1 (inl ((first.pairs p).1 (inr a)))) (λ (b : B p). (second.pairs p).1 (inr b)) ((both p).0 c)

pub reserved_same : (A B : Pair UnitPlace → Type 0) (old new : Reserved) → ReservesToo A old new → ((p : Pair UnitPlace) → B p ↔ A p) → ReservesToo B old new
reserved_same A B old new reserves is = record {
  pairs = λ p. (
    λ r. ⊎_elim (λ (o : IsReserved old p). inl o) (λ (a : A p). inr ((is p).1 a)) ((reserves.pairs p).0 r),
    λ c. ⊎_elim (λ (o : IsReserved old p). (reserves.pairs p).1 (inl o)) (λ (b : B p). (reserves.pairs p).1 (inr ((is p).0 b))) c,
  );
  units = reserves.units;
}

-- ---- one unit

module _ (old new : Reserved) (automaton unit : ℕ) (cycles : Cycles) (small : automaton < automaton_limit) (low : unit < unit_limit)
    (takes : (other place cycle : ℕ) → IsTaken new.table other place cycle ↔ (IsTaken old.table other place cycle ⊎ ((other ≡ automaton) × (place ≡ unit) × HasCycle cycles cycle))) where
  abbrev Taken : Pair UnitPlace → Type 0
  Taken p = (p.unit.automaton ≡ automaton) × (p.unit.unit ≡ unit) × HasCycle cycles p.cycle

  -- units with the one among them, of which each that was taken is one
  complete_with : (units : List (ℕ × ℕ)) → Contains units (automaton, unit) → ((p : Pair UnitPlace) → IsReserved old p → Contains units (p.unit.automaton, p.unit.unit)) → (p : Pair UnitPlace) → IsReserved new p → Contains units (p.unit.automaton, p.unit.unit)
  complete_with units this each p r = ⊎_elim
      (each p)
      (λ (h : Taken p). subst (Contains units) (λ i. (sym h.0 i, sym h.1 i)) this)
      ((takes p.unit.automaton p.unit.unit p.cycle).0 r)

  pub unit_pushed : new.units.items ≡ old.units.items ++ (automaton, unit) ∷ [] → ReservesToo Taken old new
  unit_pushed is = record {
    pairs = λ p. takes p.unit.automaton p.unit.unit p.cycle;
    units = λ are. record {
      complete = subst (λ (us : List (ℕ × ℕ)). (p : Pair UnitPlace) → IsReserved new p → Contains us (p.unit.automaton, p.unit.unit)) (sym is)
          (complete_with (old.units.items ++ (automaton, unit) ∷ []) (Contains-push old.units.items (automaton, unit)) (λ p r. Contains-append_left old.units.items ((automaton, unit) ∷ []) _ (are.complete p r)));
      bounded = subst (All (λ (u : ℕ × ℕ). (u.0 < automaton_limit) × (u.1 < unit_limit))) (sym is) (All-push (λ (u : ℕ × ℕ). (u.0 < automaton_limit) × (u.1 < unit_limit)) old.units.items (automaton, unit) are.bounded (small, low));
    };
  }

  -- a unit that is taken in some cycle is among the units
  found : AreUnits old → (((cycle : ℕ) → IsTaken old.table automaton unit cycle → ⊥) → ⊥) → Contains old.units.items (automaton, unit)
  found are taken = by (list_any (same (automaton, unit)) old.units.items) refl
    where
      by : (b : Bool) → list_any (same (automaton, unit)) old.units.items ≡ b → Contains old.units.items (automaton, unit)
      by true e = Contains-list_any same same_is old.units.items (automaton, unit) e
      by false e = absurd (taken (λ cycle t. true≢false (sym (list_any-from_Contains same_equiv (automaton, unit) old.units.items (are.complete (record { unit = record { automaton = automaton; unit = unit }; cycle = cycle }) t)) ∙ e)))

  pub unit_kept : new.units.items ≡ old.units.items → (((cycle : ℕ) → IsTaken old.table automaton unit cycle → ⊥) → ⊥) → ReservesToo Taken old new
  unit_kept is taken = record {
    pairs = λ p. takes p.unit.automaton p.unit.unit p.cycle;
    units = λ are. record {
      complete = subst (λ (us : List (ℕ × ℕ)). (p : Pair UnitPlace) → IsReserved new p → Contains us (p.unit.automaton, p.unit.unit)) (sym is) (complete_with old.units.items (found are taken) are.complete);
      bounded = subst (All (λ (u : ℕ × ℕ). (u.0 < automaton_limit) × (u.1 < unit_limit))) (sym is) are.bounded;
    };
  }

-- ---- pairs

pub no_pairs : (starts : Cycles) (p : Pair UnitPlace) → IsOfPairs [] starts p → ⊥
no_pairs starts p is = Contains-nil is.first is.among

-- pairs up to one more
pub pairs_next : (pairs : List StoredPair) (i : ℕ) (d : StoredPair) → i < length pairs → pairs_of (take (i + 1) pairs) ≡ pairs_of (take i pairs) ++ pair_of (get_or pairs i d) ∷ []
pairs_next pairs i d lt = ap pairs_of (take_more pairs i d lt) ∙ map-append pair_of (take i pairs) (get_or pairs i d ∷ [])

module _ (front : Pairs) (pair : Pair UnitPlace) (starts from : Cycles) (are_later : (c : ℕ) → HasCycle from c ↔ IsLater starts pair.cycle c) where
  abbrev One : Pair UnitPlace → Type 0
  One p = (p.unit.automaton ≡ pair.unit.automaton) × (p.unit.unit ≡ pair.unit.unit) × HasCycle from p.cycle

  one_there : (p : Pair UnitPlace) → One p → IsOfPairs (front ++ pair ∷ []) starts p
  one_there p h =
      let l = (are_later p.cycle).0 h.2 in
      let at = l.3 in
      let cycle : l.1 + pair.cycle ≡ p.cycle = omega arith in
      record { inside = l.0; first = pair; among = Contains-push front pair; start = l.1; begins = l.2; is = λ i. record { unit = record { automaton = sym h.0 i; unit = sym h.1 i }; cycle = cycle i } }

  one_back : (p : Pair UnitPlace) (first : Pair UnitPlace) (start : ℕ) → p.cycle < cycle_limit → pair ≡ first → HasCycle starts start → later start first ≡ p → One p
  one_back p first start inside e begins is =
      let same_pair : later start pair ≡ p = ap (later start) e ∙ is in
      let cycle = ap (λ (q : Pair UnitPlace). q.cycle) same_pair in
      (sym (ap (λ (q : Pair UnitPlace). q.unit.automaton) same_pair), sym (ap (λ (q : Pair UnitPlace). q.unit.unit) same_pair), (are_later p.cycle).1 (inside, start, begins, omega arith))

  pub pairs_more : (p : Pair UnitPlace) → IsOfPairs (front ++ pair ∷ []) starts p ↔ (IsOfPairs front starts p ⊎ One p)
  pairs_more p = (there, back)
    where
      there : IsOfPairs (front ++ pair ∷ []) starts p → IsOfPairs front starts p ⊎ One p
      there is = ⊎_elim
          (λ (c : Contains front is.first). inl (record { inside = is.inside; first = is.first; among = c; start = is.start; begins = is.begins; is = is.is }))
          (λ (c : Contains (pair ∷ []) is.first). ⊎_elim
          (λ (e : pair ≡ is.first). inr (one_back p is.first is.start is.inside e is.begins is.is))
          (λ (none : Contains [] is.first). absurd (Contains-nil is.first none))
          (Contains-cons_cases pair is.first [] c))
          (Contains-append_cases front (pair ∷ []) is.first is.among)

      back : IsOfPairs front starts p ⊎ One p → IsOfPairs (front ++ pair ∷ []) starts p
      back (inl is) = record { inside = is.inside; first = is.first; among = Contains-append_left front (pair ∷ []) is.first is.among; start = is.start; begins = is.begins; is = is.is }
      back (inr h) = one_there p h

pub pair_reserved : (pairs : List StoredPair) (i : ℕ) (d : StoredPair) (starts from : Cycles) (old mid new : Reserved) → i < length pairs → ((c : ℕ) → HasCycle from c ↔ IsLater starts (get_or pairs i d).cycle c)
    → ReservesToo (IsOfPairs (pairs_of (take i pairs)) starts) old mid → ReservesToo (λ p. (p.unit.automaton ≡ (get_or pairs i d).automaton) × (p.unit.unit ≡ (get_or pairs i d).unit) × HasCycle from p.cycle) mid new
    → ReservesToo (IsOfPairs (pairs_of (take (i + 1) pairs)) starts) old new
pair_reserved pairs i d starts from old mid new lt are_later first second =
    subst (λ (ps : Pairs). ReservesToo (IsOfPairs ps starts) old new) (sym (pairs_next pairs i d lt))
    (reserved_then _ _ _ old mid new first second (pairs_more (pairs_of (take i pairs)) (pair_of (get_or pairs i d)) starts from are_later))

-- ---- names

-- what is held for a name with one alternative
pub only_alt : (known : Known) (name : List ℕ) (alts : List Alt) (alt : Alt) → length (known_alternatives known name) ≡ 1 → known_alternatives known name ≡ alternatives alts → alt ≡ get_or alts 0 alt → known_alternatives known name ≡ alternative_of alt ∷ []
only_alt known name [] alt one is first = absurd (let none = sym (ap length is) ∙ one in omega (arith, none))
only_alt known name (x ∷ y ∷ alts) alt one is first = absurd (let two = sym (ap length is) ∙ one in omega (arith, two))
only_alt known name (x ∷ []) alt one is first = is ∙ ap (λ (y : Alt). alternative_of y ∷ []) (sym first)

pub first_sound : (alts : List Alt) (alt : Alt) → 0 < length alts → alt ≡ get_or alts 0 alt → All IsSound (alternatives alts) → IsSound (alternative_of alt)
first_sound [] alt some first sound = absurd (omega arith)
first_sound (x ∷ alts) alt some first sound = subst (λ (y : Alt). IsSound (alternative_of y)) (sym first) (All-head IsSound (alternative_of x) (alternatives alts) sound)

-- the pairs of a name with one alternative, from some cycles on
module _ (known : Known) (name : List ℕ) (starts : Cycles) (alts : List Alt) (alt : Alt) (ends : (start : ℕ) → HasCycle starts start → EndsBy known cycle_limit name start)
    (is : known_alternatives known name ≡ alternatives alts) (first : alt ≡ get_or alts 0 alt) (sound : IsSound (alternative_of alt)) where
  name_pairs : (start : ℕ) → HasCycle starts start → all_pairs (known_alternatives known name) ≡ pairs_of alt.pairs.items
  name_pairs start has = ap all_pairs (only_alt known name alts alt (ends start has).one is first) ∙ append-nil (pairs_of alt.pairs.items)

  pub name_taken : (p : Pair UnitPlace) → TakesIn known ((name, starts) ∷ []) p ↔ IsOfPairs (pairs_of alt.pairs.items) starts p
  name_taken p = (λ t. there t t.begins, back)
    where
      there : (t : TakesIn known ((name, starts) ∷ []) p) → BeginsIn ((name, starts) ∷ []) t.name t.start → IsOfPairs (pairs_of alt.pairs.items) starts p
      there t (inr none) = absurd none
      there t (inl h) =
          let this = subst (λ (n : List ℕ). Contains (placed t.start (all_pairs (known_alternatives known n))) p) (sym h.0) t.taken in
          let from = Contains-from_map (later t.start) (pairs_of alt.pairs.items) p (subst (λ (ps : Pairs). Contains (placed t.start ps) p) (name_pairs t.start h.1) this) in
          let held = only_alt known name alts alt (ends t.start h.1).one is first in
          let long = ap greatest_length held in
          let late = (ends t.start h.1).ends in
          let early = All-contains (λ (q : Pair UnitPlace). q.cycle < alt.length) (pairs_of alt.pairs.items) from.0 sound.placed.within from.1 in
          let cycle = ap (λ (q : Pair UnitPlace). q.cycle) from.2 in
          record { inside = omega arith; first = from.0; among = from.1; start = t.start; begins = h.1; is = from.2 }

      back : IsOfPairs (pairs_of alt.pairs.items) starts p → TakesIn known ((name, starts) ∷ []) p
      back o =
          let there = subst (Contains (placed o.start (pairs_of alt.pairs.items))) o.is (Contains-map (later o.start) (pairs_of alt.pairs.items) o.first o.among) in
          record { name = name; start = o.start; begins = inl (refl, o.begins); taken = subst (λ (ps : Pairs). Contains (placed o.start ps) p) (sym (name_pairs o.start o.begins)) there }

-- a name for which nothing is held begins in no cycle
pub unknown_begins : (known : Known) (name : List ℕ) (starts : Cycles) → ((start : ℕ) → HasCycle starts start → EndsBy known cycle_limit name start) → known_alternatives known name ≡ [] → (p : Pair UnitPlace) → TakesIn known ((name, starts) ∷ []) p → ⊥
unknown_begins known name starts ends none p t = by t.begins
  where
    by : BeginsIn ((name, starts) ∷ []) t.name t.start → ⊥
    by (inr h) = h
    by (inl h) = let one = sym (ap length none) ∙ (ends t.start h.1).one in omega (arith, one)

-- names up to one more
pub names_more : (known : Known) (es : List (List ℕ × Cycles)) (i : ℕ) (e : List ℕ × Cycles) → slice_get es i ≡ Some e → (p : Pair UnitPlace) → TakesIn known (take (i + 1) es) p ↔ (TakesIn known (take i es) p ⊎ TakesIn known (e ∷ []) p)
names_more known es i e at p = subst (λ (fs : List (List ℕ × Cycles)). TakesIn known fs p ↔ (TakesIn known (take i es) p ⊎ TakesIn known (e ∷ []) p)) (sym (next_entry es i e at)) (there, back)
  where
    there : TakesIn known (take i es ++ e ∷ []) p → TakesIn known (take i es) p ⊎ TakesIn known (e ∷ []) p
    there t = ⊎_elim
        (λ (b : BeginsIn (take i es) t.name t.start). inl (record { name = t.name; start = t.start; begins = b; taken = t.taken }))
        (λ (b : BeginsIn (e ∷ []) t.name t.start). inr (record { name = t.name; start = t.start; begins = b; taken = t.taken }))
        (begins_cases t.name t.start (take i es) (e ∷ []) t.begins)

    back : TakesIn known (take i es) p ⊎ TakesIn known (e ∷ []) p → TakesIn known (take i es ++ e ∷ []) p
    back (inl t) = taken_again known (take i es) (take i es ++ e ∷ []) p (λ name cycle. begins_front name cycle (take i es) (e ∷ [])) t
    back (inr t) = taken_again known (e ∷ []) (take i es ++ e ∷ []) p (λ name cycle. begins_back name cycle (take i es) (e ∷ [])) t

-- no name is taken
pub no_names : (known : Known) (p : Pair UnitPlace) → TakesIn known [] p → ⊥
no_names known p t = t.begins

-- one more name is reserved
pub all_more : (known : Known) (es : List (List ℕ × Cycles)) (i : ℕ) (e : List ℕ × Cycles) (mid new : Reserved) → slice_get es i ≡ Some e → ((p : Pair UnitPlace) → IsReserved mid p ↔ TakesIn known (take i es) p) → ReservesToo (TakesIn known (e ∷ [])) mid new
    → (p : Pair UnitPlace) → IsReserved new p ↔ TakesIn known (take (i + 1) es) p
all_more known es i e mid new at before this p = (there, back)
  where
    there : IsReserved new p → TakesIn known (take (i + 1) es) p
    there r = (names_more known es i e at p).1 (⊎_elim (λ (m : IsReserved mid p). inl ((before p).0 m)) (λ (t : TakesIn known (e ∷ []) p). inr t) ((this.pairs p).0 r))

    back : TakesIn known (take (i + 1) es) p → IsReserved new p
    back t = (this.pairs p).1 (⊎_elim (λ (f : TakesIn known (take i es) p). inl ((before p).1 f)) (λ (l : TakesIn known (e ∷ []) p). inr l) ((names_more known es i e at p).0 t))

-- ---- lists of pairs

-- what is listed, with one pair more
pub pushed_more : (old new : List StoredPair) (pair : StoredPair) → new ≡ old ++ pair ∷ [] → (p : Pair UnitPlace) → Contains (pairs_of new) p ↔ (Contains (pairs_of old) p ⊎ (pair_of pair ≡ p))
pushed_more old new pair is p = subst (λ (ps : Pairs). Contains ps p ↔ (Contains (pairs_of old) p ⊎ (pair_of pair ≡ p))) (sym (ap pairs_of is ∙ map-append pair_of old (pair ∷ []))) (there, back)
  where
    there : Contains (pairs_of old ++ pair_of pair ∷ []) p → Contains (pairs_of old) p ⊎ (pair_of pair ≡ p)
    there c = ⊎_elim
        (λ (o : Contains (pairs_of old) p). inl o)
        (λ (l : Contains (pair_of pair ∷ []) p). ⊎_elim (λ (e : pair_of pair ≡ p). inr e) (λ (none : Contains [] p). absurd (Contains-nil p none)) (Contains-cons_cases (pair_of pair) p [] l))
        (Contains-append_cases (pairs_of old) (pair_of pair ∷ []) p c)

    back : Contains (pairs_of old) p ⊎ (pair_of pair ≡ p) → Contains (pairs_of old ++ pair_of pair ∷ []) p
    back (inl o) = Contains-append_left (pairs_of old) (pair_of pair ∷ []) p o
    back (inr e) = subst (Contains (pairs_of old ++ pair_of pair ∷ [])) e (Contains-push (pairs_of old) (pair_of pair))

module _ (automaton unit : ℕ) (cycles : Cycles) where
  abbrev Of : ℕ → Pair UnitPlace → Type 0
  Of length p = IsOfUnit automaton unit cycles length p

  pub no_cycles : (old : List StoredPair) (p : Pair UnitPlace) → Contains (pairs_of old) p ↔ (Contains (pairs_of old) p ⊎ Of 0 p)
  no_cycles old p = (λ c. inl c, λ h. ⊎_elim (λ (c : Contains (pairs_of old) p). c) (λ (o : Of 0 p). absurd (let none = o.within in omega arith)) h)

  module _ (old mid : List StoredPair) (cycle : ℕ) (before : (p : Pair UnitPlace) → Contains (pairs_of mid) p ↔ (Contains (pairs_of old) p ⊎ Of cycle p)) where
    longer : (p : Pair UnitPlace) → Of cycle p → Of (cycle + 1) p
    longer p o = let low = o.within in record { automaton_is = o.automaton_is; unit_is = o.unit_is; has = o.has; within = omega arith }

    -- the pair of the cycle is added where the unit has it
    pub unit_holds : (new : List StoredPair) (pair : StoredPair) → HasCycle cycles cycle → pair_of pair ≡ record { unit = record { automaton = automaton; unit = unit }; cycle = cycle } → new ≡ mid ++ pair ∷ []
        → (p : Pair UnitPlace) → Contains (pairs_of new) p ↔ (Contains (pairs_of old) p ⊎ Of (cycle + 1) p)
    unit_holds new pair has is added p = (there, back)
      where
        there : Contains (pairs_of new) p → Contains (pairs_of old) p ⊎ Of (cycle + 1) p
        there c = ⊎_elim
            (λ (m : Contains (pairs_of mid) p). ⊎_elim (λ (o : Contains (pairs_of old) p). inl o) (λ (o : Of cycle p). inr (longer p o)) ((before p).0 m))
            (λ (e : pair_of pair ≡ p). inr (subst (Of (cycle + 1)) (sym is ∙ e) (record { automaton_is = refl; unit_is = refl; has = has; within = omega arith })))
            ((pushed_more mid new pair added p).0 c)

        back : Contains (pairs_of old) p ⊎ Of (cycle + 1) p → Contains (pairs_of new) p
        back (inl o) = (pushed_more mid new pair added p).1 (inl ((before p).1 (inl o)))
        back (inr o) = ⊎_elim
            (λ (lt : p.cycle < cycle). (pushed_more mid new pair added p).1 (inl ((before p).1 (inr (record { automaton_is = o.automaton_is; unit_is = o.unit_is; has = o.has; within = lt })))))
            (λ (le : cycle ≤ p.cycle).
            let low = o.within in
            let at : cycle ≡ p.cycle = omega arith in
            (pushed_more mid new pair added p).1 (inr (is ∙ λ i. record { unit = record { automaton = sym o.automaton_is i; unit = sym o.unit_is i }; cycle = at i })))
            (cases_lt p.cycle cycle)

    -- and nothing where it hasn't
    pub unit_lacks : (HasCycle cycles cycle → ⊥) → (p : Pair UnitPlace) → Contains (pairs_of mid) p ↔ (Contains (pairs_of old) p ⊎ Of (cycle + 1) p)
    unit_lacks lacks p = (there, back)
      where
        there : Contains (pairs_of mid) p → Contains (pairs_of old) p ⊎ Of (cycle + 1) p
        there m = ⊎_elim (λ (o : Contains (pairs_of old) p). inl o) (λ (o : Of cycle p). inr (longer p o)) ((before p).0 m)

        back : Contains (pairs_of old) p ⊎ Of (cycle + 1) p → Contains (pairs_of mid) p
        back (inl o) = (before p).1 (inl o)
        back (inr o) = ⊎_elim
            (λ (lt : p.cycle < cycle). (before p).1 (inr (record { automaton_is = o.automaton_is; unit_is = o.unit_is; has = o.has; within = lt })))
            (λ (le : cycle ≤ p.cycle). let low = o.within in let at : p.cycle ≡ cycle = omega arith in absurd (lacks (subst (λ (c : ℕ). HasCycle cycles c) at o.has)))
            (cases_lt p.cycle cycle)

-- ---- units

pub no_units : (held : Reserved) (length : ℕ) (p : Pair UnitPlace) → IsOfUnits held [] length p → ⊥
no_units held length p o = Contains-nil _ o.among

-- one more unit
pub units_more : (held : Reserved) (units : List (ℕ × ℕ)) (i : ℕ) (d : ℕ × ℕ) (cycles : Cycles) (most : ℕ) (mid new : List StoredPair) → i < length units → ((cycle : ℕ) → HasCycle cycles cycle ↔ IsTaken held.table (get_or units i d).0 (get_or units i d).1 cycle)
    → ((p : Pair UnitPlace) → Contains (pairs_of mid) p ↔ IsOfUnits held (take i units) most p) → ((p : Pair UnitPlace) → Contains (pairs_of new) p ↔ (Contains (pairs_of mid) p ⊎ IsOfUnit (get_or units i d).0 (get_or units i d).1 cycles most p))
    → (p : Pair UnitPlace) → Contains (pairs_of new) p ↔ IsOfUnits held (take (i + 1) units) most p
units_more held units i d cycles most mid new lt are before this p = subst (λ (us : List (ℕ × ℕ)). Contains (pairs_of new) p ↔ IsOfUnits held us most p) (sym (take_more units i d lt)) (there, back)
  where
    u : ℕ × ℕ
    u = get_or units i d

    there : Contains (pairs_of new) p → IsOfUnits held (take i units ++ u ∷ []) most p
    there c = ⊎_elim
        (λ (m : Contains (pairs_of mid) p). let o = (before p).0 m in record { among = Contains-append_left (take i units) (u ∷ []) _ o.among; taken = o.taken; within = o.within })
        (λ (o : IsOfUnit u.0 u.1 cycles most p). record {
          among = subst (Contains (take i units ++ u ∷ [])) (λ j. (sym o.automaton_is j, sym o.unit_is j)) (Contains-push (take i units) u);
          taken = subst (λ (place : ℕ × ℕ). IsTaken held.table place.0 place.1 p.cycle) (λ j. (sym o.automaton_is j, sym o.unit_is j)) ((are p.cycle).0 o.has);
          within = o.within;
        })
        ((this p).0 c)

    back : IsOfUnits held (take i units ++ u ∷ []) most p → Contains (pairs_of new) p
    back o = ⊎_elim
        (λ (front : Contains (take i units) (p.unit.automaton, p.unit.unit)). (this p).1 (inl ((before p).1 (record { among = front; taken = o.taken; within = o.within }))))
        (λ (last : Contains (u ∷ []) (p.unit.automaton, p.unit.unit)). ⊎_elim
        (λ (e : u ≡ (p.unit.automaton, p.unit.unit)). (this p).1 (inr (record {
          automaton_is = sym (ap (λ (w : ℕ × ℕ). w.0) e);
          unit_is = sym (ap (λ (w : ℕ × ℕ). w.1) e);
          has = (are p.cycle).1 (subst (λ (w : ℕ × ℕ). IsTaken held.table w.0 w.1 p.cycle) (sym e) o.taken);
          within = o.within;
        })))
        (λ (none : Contains [] (p.unit.automaton, p.unit.unit)). absurd (Contains-nil _ none))
        (Contains-cons_cases u _ [] last))
        (Contains-append_cases (take i units) (u ∷ []) _ o.among)
