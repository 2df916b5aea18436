-- No legal schedule ends before the value of a load.
use Rattle.std.proofs.Common.{◌≡◌, ℕ, suc, ◌+◌, ◌-◌, ◌<◌, ◌≤◌, ◌⊎◌, inl, inr, ⊎_elim, Bool, true, false, cond, List, [], ◌∷◌, ◌++◌, map, filter, length, get_or, sum_by, Contains, Some, None, refl, sym, ap, ◌∙◌, subst, arith, zero-add}
use Rattle.std.specs.Prelude.{nat_lt}
use Rattle.std.specs.List.{AllPairs, flat_map}
use Rattle.std.proofs.lemmas.Bool.{and_parts, eqb-true, lt-ltb, ltb-false, cases_lt}
use Rattle.std.proofs.lemmas.List.{length-map, get_or-map, get_or_default}
use Rattle.std.proofs.lemmas.List.Kept.{AllPairs-filter}
use Rattle.std.proofs.lemmas.List.Sums.{sum_by-cons}
use Rattle.std.proofs.lemmas.List.Elements.{Contains-get_or, Contains-append_right, Contains-append_cases}
use Rattle.std.specs.Ordering.{nat_cmp, is_lt}
use Rattle.std.specs.Cmp.{nat_cmp_is}
use Rattle.std.specs.declared.cmp.Ordering.TheVariants.{Equal}
use Rattle.hz_base_model.specs.Pairs.{Pair}
use Rattle.hz_base_model.proofs.Elements.{Contains-nil, Contains-head, Contains-tail, Contains-cons_cases, Contains-map, Contains-from_map, Contains-filter, Contains-from_filter}
use Rattle.hz_description_model.specs.Reservations.Alternatives.{Alternative}
use Rattle.hz_description_model.specs.Reservations.Automata.{UnitPlace, ascending}
use Rattle.hz_description_model.proofs.Reservations.FirstPlaces.{numbered}
use Rattle.hz_description_model.proofs.Reservations.AscendingLaws.{Precedes, IsAscending-ascending, Contains-from_ascending}
use Rattle.hz_pipeline_model.specs.Accepting.Events.{Event, issue, advance, ask}
use Rattle.hz_pipeline_model.specs.Accepting.Replay.{Pipeline, alternatives_at, chosen, Accepted}
use Rattle.hz_block_model.specs.Scheduling.Schedules.{Node, Graph, Slot, class_at, places, present, advance_to, spelled, spell, Legal}
use Rattle.hz_block_model.proofs.Scheduling.TraceLaws.{cycles_spelled}
use Rattle.hz_measure_model.specs.Bounds.Paths.{greatest}
use Rattle.hz_measure_model.specs.Bounds.Loads.{least, takes, cycles_in, ways, Load, force, users, cycles_of_users, count, span, asked_load, load_of}
use Rattle.hz_measure_model.proofs.Bounds.Numbers.{Differs, greatest_above, least_below, least_low}
use Rattle.hz_pipeline_model.proofs.Decidable.FlatLists.{in_flat_map}
use Rattle.hz_measure_model.proofs.Bounds.Held.{asked, Offers, room}

-- ---- what an alternative offers

same_equal : (n : ℕ) → nat_cmp n n ≡ Equal
same_equal n = sym (nat_cmp_is n n Equal refl)

Precedes_irreflexive : (p : Pair UnitPlace) → Precedes p p → ⊥
Precedes_irreflexive p h = let less : is_lt Equal ≡ true = rw (same_equal p.cycle, same_equal p.unit.automaton, same_equal p.unit.unit) at h in absurd (cc)

-- a pair that is taken has the unit
unit_of_taken : (u : UnitPlace) (p : Pair UnitPlace) → takes u p ≡ true → p.unit ≡ u
unit_of_taken u p h =
    let (a, b) = and_parts _ _ h in
    let same = eqb-true p.unit.automaton u.automaton a in
    let equal = eqb-true p.unit.unit u.unit b in
    λ i. record { automaton = same i; unit = equal i }

same_pair_of : (u : UnitPlace) (p q : Pair UnitPlace) → p.unit ≡ u → q.unit ≡ u → p.cycle ≡ q.cycle → p ≡ q
same_pair_of u p q a b e = λ i. record { unit = (a ∙ sym b) i; cycle = e i }

module _ (u : UnitPlace) (a : Alternative UnitPlace) where
  abbrev of_unit : List (Pair UnitPlace)
  of_unit = filter (takes u) (ascending a.pairs)

  pub cycles_there : (c : ℕ) → Contains (cycles_in u a) c → Contains a.pairs (record { unit = u; cycle = c })
  cycles_there c is =
      let (p, there, same) = Contains-from_map (λ (p : Pair UnitPlace). p.cycle) of_unit c is in
      let (inside, passes) = Contains-from_filter (takes u) p (ascending a.pairs) there in
      let unit = unit_of_taken u p passes in
      let pair : p ≡ record { unit = u; cycle = c } = λ i. record { unit = unit i; cycle = same i } in
      subst (Contains a.pairs) pair (Contains-from_ascending p a.pairs inside)

  differ : (p q : Pair UnitPlace) → Contains of_unit p → Contains of_unit q → Precedes p q → p.cycle ≡ q.cycle → ⊥
  differ p q there here before e =
      let (_, one) = Contains-from_filter (takes u) p (ascending a.pairs) there in
      let (_, two) = Contains-from_filter (takes u) q (ascending a.pairs) here in
      let same = same_pair_of u p q (unit_of_taken u p one) (unit_of_taken u q two) e in
      Precedes_irreflexive p (subst (Precedes p) (sym same) before)

  pub cycles_differ : AllPairs Differs (cycles_in u a)
  cycles_differ i j d lt within =
      let long = length-map of_unit (λ (p : Pair UnitPlace). p.cycle) in
      let inside : j < length of_unit = omega arith in
      let none : Pair UnitPlace = record { unit = u; cycle = 0 } in
      rw (get_or-map (λ (p : Pair UnitPlace). p.cycle) of_unit i none d (omega arith), get_or-map (λ (p : Pair UnitPlace). p.cycle) of_unit j none d inside)
      (differ (get_or of_unit i none) (get_or of_unit j none) (Contains-get_or of_unit i none (omega arith)) (Contains-get_or of_unit j none inside)
      (AllPairs-filter Precedes (takes u) (ascending a.pairs) (IsAscending-ascending a.pairs) i j none lt inside))

-- ---- traces of slots

pub spelled_issues : (g : Graph) (cycle : ℕ) (slots : List Slot) (k : ℕ) → Contains (spelled g cycle slots) (issue k) → (x : Slot) × Contains slots x × (class_at g x.place ≡ k)
spelled_issues g cycle [] k there = absurd (Contains-nil (issue k) there)
spelled_issues g cycle (x ∷ slots) k there = ⊎_elim
    (λ (h : Contains (advance_to cycle x.cycle) (issue k)). absurd (no_advance (nat_lt cycle x.cycle) h))
    (λ (h : Contains (issue (class_at g x.place) ∷ spelled g x.cycle slots) (issue k)). ⊎_elim
    (λ (e : issue (class_at g x.place) ≡ issue k). (x, Contains-head x slots, same_issue (class_at g x.place) k e))
    (λ (h : Contains (spelled g x.cycle slots) (issue k)). let (y, m, e) = spelled_issues g x.cycle slots k h in (y, Contains-tail x y slots m, e))
    (Contains-cons_cases (issue (class_at g x.place)) (issue k) (spelled g x.cycle slots) h))
    (Contains-append_cases (advance_to cycle x.cycle) (issue (class_at g x.place) ∷ spelled g x.cycle slots) (issue k) there)
  where
    same_issue : (j k : ℕ) → issue j ≡ issue k → j ≡ k
    same_issue j k h = cc

    no_issue : (n : ℕ) → advance n ≡ issue k → ⊥
    no_issue n e = cc

    no_advance : (b : Bool) → Contains (cond b (advance (x.cycle - cycle) ∷ []) []) (issue k) → ⊥
    no_advance true h = ⊎_elim (λ (e : advance (x.cycle - cycle) ≡ issue k). no_issue (x.cycle - cycle) e) (λ (m : Contains [] (issue k)). Contains-nil (issue k) m) (Contains-cons_cases (advance (x.cycle - cycle)) (issue k) [] h)
    no_advance false h = Contains-nil (issue k) h

module _ (force : ℕ → ℕ) where
  asked-append : (xs ys : List Event) → asked force (xs ++ ys) ≡ asked force xs + asked force ys
  asked-append [] ys = omega arith
  asked-append (issue k ∷ xs) ys = omega (arith, asked-append xs ys)
  asked-append (advance n ∷ xs) ys = asked-append xs ys
  asked-append (ask a q ∷ xs) ys = asked-append xs ys

  pub asked_spelled : (g : Graph) (cycle : ℕ) (slots : List Slot) → asked force (spelled g cycle slots) ≡ sum_by (λ p. force (class_at g p)) (places slots)
  asked_spelled g cycle [] = refl
  asked_spelled g cycle (x ∷ slots) = omega (
    arith,
    asked-append (advance_to cycle x.cycle) (issue (class_at g x.place) ∷ spelled g x.cycle slots),
    none (nat_lt cycle x.cycle),
    asked_spelled g x.cycle slots,
    sum_by-cons (λ (p : ℕ). force (class_at g p)) x.place (places slots),
  )
    where
      none : (b : Bool) → asked force (cond b (advance (x.cycle - cycle) ∷ []) []) ≡ 0
      none true = refl
      none false = refl

  -- a list of numbers without one of them
  record Without (ps : List ℕ) (p : ℕ) (f : ℕ → ℕ) : Type 0 where
    pub rest : List ℕ
    pub sum : sum_by f ps ≡ f p + sum_by f rest
    pub others : (q : ℕ) → Contains ps q → (p ≡ q) ⊎ Contains rest q

  without : (ps : List ℕ) (p : ℕ) (f : ℕ → ℕ) → Contains ps p → Without ps p f
  without [] p f there = absurd (Contains-nil p there)
  without (q ∷ ps) p f there = ⊎_elim
      (λ (e : q ≡ p). record {
        rest = ps;
        sum = sum_by-cons f q ps ∙ ap (λ (z : ℕ). f z + sum_by f ps) e;
        others = λ r h. ⊎_elim (λ (same : q ≡ r). inl (sym e ∙ same)) (λ (m : Contains ps r). inr m) (Contains-cons_cases q r ps h);
      })
      (λ (m : Contains ps p). let w = without ps p f m in record {
        rest = q ∷ w.rest;
        sum = omega (arith, sum_by-cons f q ps, w.sum, sum_by-cons f q w.rest);
        others = λ r h. ⊎_elim
            (λ (same : q ≡ r). inr (subst (λ (z : ℕ). Contains (z ∷ w.rest) r) (sym same) (Contains-head r w.rest)))
            (λ (n : Contains ps r). ⊎_elim (λ (e : p ≡ r). inl e) (λ (k : Contains w.rest r). inr (Contains-tail q r w.rest k)) (w.others r n))
            (Contains-cons_cases q r ps h);
      })
      (Contains-cons_cases q p ps there)

  -- classes of places from one on, all of which an order holds
  pub sum_held : (classes : List ℕ) (first : ℕ) (class : ℕ → ℕ) → ((i d : ℕ) → i < length classes → class (first + i) ≡ get_or classes i d) → (order : List ℕ) → ((i : ℕ) → i < length classes → Contains order (first + i)) → sum_by force classes ≤ sum_by (λ p. force (class p)) order
  sum_held [] first class is order there = omega arith
  sum_held (c ∷ classes) first class is order there =
      let w = without order (first + 0) (λ p. force (class p)) (there 0 (omega arith)) in
      let rest = sum_held classes (suc first) class
      (λ i d lt. subst (λ (z : ℕ). class z ≡ get_or classes i d) (next i) (is (suc i) d (omega arith)))
      w.rest
      (λ i lt. ⊎_elim (λ (e : first + 0 ≡ first + suc i). absurd (omega (arith, e))) (λ (m : Contains w.rest (first + suc i)). subst (Contains w.rest) (next i) m) (w.others (first + suc i) (there (suc i) (omega arith)))) in
      let here = ap force (is 0 0 (omega arith)) in
      omega (arith, w.sum, rest, here, sum_by-cons force c classes)
    where
      next : (i : ℕ) → first + suc i ≡ suc first + i
      next i = omega arith

-- ---- the load of a unit

module _ (m : Pipeline UnitPlace) (u : UnitPlace) (classes : List ℕ) where
  abbrev cycles : List ℕ
  cycles = cycles_of_users (ways m u) classes

  abbrev Offered : ℕ → List (Pair UnitPlace) → Type 0
  Offered = Offers u (least cycles) (greatest cycles)

  -- what is in a way of a class that can't do without the unit is among the cycles of the users
  among : (k : ℕ) (a : Alternative UnitPlace) (c : ℕ) → Contains classes k → 0 < force (ways m u) k → Contains (alternatives_at m k) a → Contains (cycles_in u a) c → Contains cycles c
  among k a c there some inside is =
      in_flat_map (λ (k : ℕ). flat_map (λ (cs : List ℕ). cs) (ways m u k)) (users (ways m u) classes) k c
      (Contains-filter (λ (k : ℕ). nat_lt 0 (force (ways m u) k)) k (lt-ltb 0 (force (ways m u) k) some) classes there)
      (in_flat_map (λ (cs : List ℕ). cs) (ways m u k) (cycles_in u a) c (Contains-map (cycles_in u) (alternatives_at m k) a inside) is)

  nothing_offered : (pairs : List (Pair UnitPlace)) (n : ℕ) → n ≡ 0 → Offered n pairs
  nothing_offered pairs n e = record { cycles = []; enough = omega arith; different = λ i j d lt inside. absurd (omega (arith, inside)); there = λ c h. absurd (Contains-nil c h); within = λ c h. absurd (Contains-nil c h) }

  offered_by : (k : ℕ) (a : Alternative UnitPlace) → Contains classes k → Contains (alternatives_at m k) a → Offered (force (ways m u) k) a.pairs
  offered_by k a there inside = ⊎_elim
      (λ (some : 0 < force (ways m u) k). record {
        cycles = cycles_in u a;
        enough = least_below (map length (ways m u k)) (length (cycles_in u a)) (Contains-map length (ways m u k) (cycles_in u a) (Contains-map (cycles_in u) (alternatives_at m k) a inside));
        different = cycles_differ u a;
        there = cycles_there u a;
        within = λ c is. let at = among k a c there some inside is in (least_below cycles c at, greatest_above cycles c at);
      })
      (λ (none : force (ways m u) k ≤ 0). nothing_offered a.pairs (force (ways m u) k) (omega arith))
      (cases_lt 0 (force (ways m u) k))

  offers : (k i : ℕ) → Contains classes k → i < length (alternatives_at m k) → Offered (force (ways m u) k) (chosen m k i)
  offers k i there lt =
      let n = numbered (alternatives_at m k) i lt in
      let inside : Contains (alternatives_at m k) n.item = subst (λ (xs : List (Alternative UnitPlace)). Contains xs n.item) (sym n.parts) (Contains-append_right n.before (n.item ∷ n.after) n.item (Contains-head n.item n.after)) in
      rw n.is (offered_by k n.item there inside)

-- the count of the users is that of all
pub count_all : (f : ℕ → ℕ) (classes : List ℕ) → sum_by f (filter (λ k. nat_lt 0 (f k)) classes) ≡ sum_by f classes
count_all f [] = refl
count_all f (k ∷ classes) = go (nat_lt 0 (f k)) refl (count_all f classes)
  where
    go : (b : Bool) → nat_lt 0 (f k) ≡ b → sum_by f (filter (λ j. nat_lt 0 (f j)) classes) ≡ sum_by f classes → sum_by f (cond b (k ∷ filter (λ j. nat_lt 0 (f j)) classes) (filter (λ j. nat_lt 0 (f j)) classes)) ≡ sum_by f (k ∷ classes)
    go true e rest = omega (arith, rest, sum_by-cons f k (filter (λ (j : ℕ). nat_lt 0 (f j)) classes), sum_by-cons f k classes)
    go false e rest = omega (arith, rest, sum_by-cons f k classes, ltb-false 0 (f k) e)

-- No legal schedule ends before the value of a unit's load.
module _ (m : Pipeline UnitPlace) (g : Graph) (slots : List Slot) (legal : Legal (Accepted m) g slots) (u : UnitPlace) where
  abbrev classes : List ℕ
  classes = map (λ n. n.class) g.nodes

  abbrev f : ℕ → ℕ
  f = force (ways m u)

  in_classes : (k : ℕ) → Contains (spell g slots) (issue k) → Contains classes k
  in_classes k there =
      let (x, inside, e) = spelled_issues g 0 slots k there in
      let lt = (legal.order).only x.place (Contains-map (λ (x : Slot). x.place) slots x inside) in
      let long = length-map g.nodes (λ (n : Node). n.class) in
      subst (Contains classes) e (Contains-get_or classes x.place 0 (omega arith))

  least_at_most : least (cycles m u classes) ≤ greatest (cycles m u classes)
  least_at_most = least_low (cycles m u classes)

  asked_for : asked f (spell g slots) ≤ present 0 slots + (greatest (cycles m u classes) - least (cycles m u classes)) + 1
  asked_for =
      let fits = room m u f (least (cycles m u classes)) (greatest (cycles m u classes)) (spell g slots) (λ k i there lt. offers m u classes k i (in_classes k there) lt) legal.accepted least_at_most in
      omega (arith, fits, cycles_spelled g slots legal.rising)

  all_held : sum_by f classes ≤ asked f (spell g slots)
  all_held =
      let long = length-map g.nodes (λ (n : Node). n.class) in
      let held = sum_held f classes 0 (class_at g) (λ i d lt. at i d lt) (places slots) (λ i lt. rw zero-add ((legal.order).each i (omega arith))) in
      omega (arith, held, asked_spelled f g 0 slots)
    where
      at : (i d : ℕ) → i < length classes → class_at g (0 + i) ≡ get_or classes i d
      at i d lt = rw zero-add (get_or_default classes i 0 d lt)

  -- what all ask for finds room
  pub count_below : count (ways m u) classes ≤ present 0 slots + span (ways m u) classes + 1
  count_below = omega (arith, asked_for, all_held, count_all f classes)

  pub load_below : (load : Load) → load_of (ways m u) classes ≡ Some load → load.value ≤ present 0 slots
  load_below load is = go (nat_lt 0 (length (users (ways m u) classes))) is
    where
      go : (b : Bool) → cond b (Some (asked_load (ways m u) classes)) None ≡ Some load → load.value ≤ present 0 slots
      go true e =
          let same : asked_load (ways m u) classes ≡ load = cc in
          let value = ap (λ (l : Load). l.value) same in
          omega (arith, value, asked_for, all_held, count_all f classes)
      go false e = absurd (cc)
