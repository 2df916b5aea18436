-- The load of a unit by the lists of its automaton is that by the alternatives of classes.
use Rattle.std.proofs.Common.{◌≡◌, ℕ, ◌<◌, ◌≤◌, ⊎_elim, Bool, true, false, cond, List, [], ◌∷◌, map, filter, length, Contains, Some, None, ◌-◌, refl, sym, ap, ◌∙◌, subst, arith}
use Rattle.std.specs.Prelude.{◌==◌, ◌&&◌, nat_lt, sum_by}
use Rattle.std.specs.List.{flat_map}
use Rattle.std.proofs.lemmas.Bool.{cases_lt}
use Rattle.std.proofs.lemmas.List.Sums.{sum_by-cons}
use Rattle.hz_base_model.specs.Pairs.{Pair}
use Rattle.hz_base_model.proofs.Elements.{Contains-nil, Contains-head, Contains-tail, Contains-map, Contains-from_map, Contains-from_filter}
use Rattle.hz_description_model.specs.Reservations.Alternatives.{Alternative}
use Rattle.hz_description_model.specs.Reservations.Automata.{UnitPlace, ascending, is_of, inside, cut, list_in}
use Rattle.hz_pipeline_model.specs.Accepting.Replay.{Pipeline, alternatives_at}
use Rattle.hz_description_model.proofs.Reservations.ListInLaws.{Contains-list_in, Contains-from_list_in}
use Rattle.hz_measure_model.specs.Bounds.Paths.{greatest}
use Rattle.hz_measure_model.specs.Bounds.Loads.{least, takes, cycles_in, cycles_at, ways, ways_in, Load, force, users, cycles_of_users, span, count, asked_load, load_of}
use Rattle.hz_pipeline_model.proofs.Decidable.FlatLists.{in_flat_map, from_flat_map}
use Rattle.hz_measure_model.proofs.Bounds.Numbers.{greatest_above, least_below}

-- ---- one grid

-- the pairs of an automaton's unit are those of the unit in what is cut
cut_takes : (u : UnitPlace) (pairs : List (Pair UnitPlace)) → map (λ p. p.cycle) (filter (takes u) pairs) ≡ cycles_at u.unit (map inside (filter (is_of u.automaton) pairs))
cut_takes u [] = refl
cut_takes u (p ∷ pairs) = go (p.unit.automaton == u.automaton) (p.unit.unit == u.unit) refl (cut_takes u pairs)
  where
    go : (a b : Bool) → (p.unit.unit == u.unit) ≡ b → map (λ p. p.cycle) (filter (takes u) pairs) ≡ cycles_at u.unit (map inside (filter (is_of u.automaton) pairs))
        → map (λ p. p.cycle) (cond (a && b) (p ∷ filter (takes u) pairs) (filter (takes u) pairs)) ≡ cycles_at u.unit (map inside (cond a (p ∷ filter (is_of u.automaton) pairs) (filter (is_of u.automaton) pairs)))
    go true true e rest = ap (λ (cs : List ℕ). p.cycle ∷ cs) rest ∙ ap (λ (b : Bool). map (λ (q : Pair ℕ). q.cycle) (cond b (inside p ∷ filter (λ (q : Pair ℕ). q.unit == u.unit) (map inside (filter (is_of u.automaton) pairs))) (filter (λ (q : Pair ℕ). q.unit == u.unit) (map inside (filter (is_of u.automaton) pairs))))) (sym e)
    go true false e rest = rest ∙ ap (λ (b : Bool). map (λ (q : Pair ℕ). q.cycle) (cond b (inside p ∷ filter (λ (q : Pair ℕ). q.unit == u.unit) (map inside (filter (is_of u.automaton) pairs))) (filter (λ (q : Pair ℕ). q.unit == u.unit) (map inside (filter (is_of u.automaton) pairs))))) (sym e)
    go false b e rest = rest

pub cut_is : (u : UnitPlace) (a : Alternative UnitPlace) → cycles_in u a ≡ cycles_at u.unit (cut u.automaton a.pairs)
cut_is u a = cut_takes u (ascending a.pairs)

-- ---- all of them

-- two lists have the same items
pub record SameItems {X : Type 0} (xs ys : List X) : Type 0 where
  pub there : (x : X) → Contains xs x → Contains ys x
  pub back : (x : X) → Contains ys x → Contains xs x

pub same_ways : (u : UnitPlace) (alternatives : List (Alternative UnitPlace)) → SameItems (map (cycles_in u) alternatives) (map (cycles_at u.unit) (list_in u.automaton alternatives))
same_ways u alternatives = record {
  there = λ cs is.
      let (a, held, e) = Contains-from_map (cycles_in u) alternatives cs is in
      subst (Contains (map (cycles_at u.unit) (list_in u.automaton alternatives))) (sym (cut_is u a) ∙ e) (Contains-map (cycles_at u.unit) (list_in u.automaton alternatives) (cut u.automaton a.pairs) (Contains-list_in u.automaton alternatives a held));
  back = λ cs is.
      let (grid, held, e) = Contains-from_map (cycles_at u.unit) (list_in u.automaton alternatives) cs is in
      let (a, inside, f) = Contains-from_list_in u.automaton alternatives grid held in
      subst (Contains (map (cycles_in u) alternatives)) (cut_is u a ∙ (ap (cycles_at u.unit) f ∙ e)) (Contains-map (cycles_in u) alternatives a inside);
}

pub same_map : {X Y : Type 0} (f : X → Y) (xs ys : List X) → SameItems xs ys → SameItems (map f xs) (map f ys)
same_map f xs ys same = record {
  there = λ y is. let (x, held, e) = Contains-from_map f xs y is in subst (Contains (map f ys)) e (Contains-map f ys x (same.there x held));
  back = λ y is. let (x, held, e) = Contains-from_map f ys y is in subst (Contains (map f xs)) e (Contains-map f xs x (same.back x held));
}

least_held : (ns : List ℕ) → 0 < length ns → Contains ns (least ns)
least_held [] lt = absurd (omega (arith, lt))
least_held (m ∷ []) lt = Contains-head m []
least_held (m ∷ n ∷ ns) lt =
    let rest = least_held (n ∷ ns) (omega arith) in
    ⊎_elim
    (λ (less : m < least (n ∷ ns)). let e : m ≡ least (m ∷ n ∷ ns) = omega (arith, less) in subst (Contains (m ∷ n ∷ ns)) e (Contains-head m (n ∷ ns)))
    (λ (le : least (n ∷ ns) ≤ m). let e : least (n ∷ ns) ≡ least (m ∷ n ∷ ns) = omega (arith, le) in subst (Contains (m ∷ n ∷ ns)) e (Contains-tail m (least (n ∷ ns)) (n ∷ ns) rest))
    (cases_lt m (least (n ∷ ns)))

pub greatest_held : (ns : List ℕ) → 0 < length ns → Contains ns (greatest ns)
greatest_held [] lt = absurd (omega (arith, lt))
greatest_held (m ∷ []) lt = let e : m ≡ greatest (m ∷ []) = omega arith in subst (Contains (m ∷ [])) e (Contains-head m [])
greatest_held (m ∷ n ∷ ns) lt =
    let rest = greatest_held (n ∷ ns) (omega arith) in
    ⊎_elim
    (λ (less : m < greatest (n ∷ ns)). let e : greatest (n ∷ ns) ≡ greatest (m ∷ n ∷ ns) = omega (arith, less) in subst (Contains (m ∷ n ∷ ns)) e (Contains-tail m (greatest (n ∷ ns)) (n ∷ ns) rest))
    (λ (le : greatest (n ∷ ns) ≤ m). let e : m ≡ greatest (m ∷ n ∷ ns) = omega (arith, le) in subst (Contains (m ∷ n ∷ ns)) e (Contains-head m (n ∷ ns)))
    (cases_lt m (greatest (n ∷ ns)))

has_some : {X : Type 0} (xs : List X) (x : X) → Contains xs x → 0 < length xs
has_some [] x there = absurd (Contains-nil x there)
has_some (y ∷ xs) x there = omega arith

no_items : {X : Type 0} (xs ys : List X) → SameItems xs ys → length xs ≡ 0 → length ys ≡ 0
no_items xs [] same e = refl
no_items xs (y ∷ ys) same e = absurd (let some = has_some xs y (same.back y (Contains-head y ys)) in omega (arith, some, e))

pub same_least : (ns ms : List ℕ) → SameItems ns ms → least ns ≡ least ms
same_least [] [] same = refl
same_least [] (m ∷ ms) same = absurd (Contains-nil m (same.back m (Contains-head m ms)))
same_least (n ∷ ns) [] same = absurd (Contains-nil n (same.there n (Contains-head n ns)))
same_least (n ∷ ns) (m ∷ ms) same =
    let one = least_below (m ∷ ms) (least (n ∷ ns)) (same.there (least (n ∷ ns)) (least_held (n ∷ ns) (omega arith))) in
    let two = least_below (n ∷ ns) (least (m ∷ ms)) (same.back (least (m ∷ ms)) (least_held (m ∷ ms) (omega arith))) in
    omega (arith, one, two)

pub same_greatest : (ns ms : List ℕ) → SameItems ns ms → greatest ns ≡ greatest ms
same_greatest [] [] same = refl
same_greatest [] (m ∷ ms) same = absurd (Contains-nil m (same.back m (Contains-head m ms)))
same_greatest (n ∷ ns) [] same = absurd (Contains-nil n (same.there n (Contains-head n ns)))
same_greatest (n ∷ ns) (m ∷ ms) same =
    let one = greatest_above (m ∷ ms) (greatest (n ∷ ns)) (same.there (greatest (n ∷ ns)) (greatest_held (n ∷ ns) (omega arith))) in
    let two = greatest_above (n ∷ ns) (greatest (m ∷ ms)) (same.back (greatest (m ∷ ms)) (greatest_held (m ∷ ms) (omega arith))) in
    omega (arith, one, two)

-- ---- the load

module _ (f h : ℕ → List (List ℕ)) (classes : List ℕ) (same : (k : ℕ) → Contains classes k → SameItems (f k) (h k)) where
  same_force : (k : ℕ) → Contains classes k → force f k ≡ force h k
  same_force k there = same_least (map length (f k)) (map length (h k)) (same_map length (f k) (h k) (same k there))

  same_users : (ks : List ℕ) → ((k : ℕ) → Contains ks k → Contains classes k) → filter (λ k. nat_lt 0 (force f k)) ks ≡ filter (λ k. nat_lt 0 (force h k)) ks
  same_users [] all = refl
  same_users (k ∷ ks) all = rw (same_force k (all k (Contains-head k ks)), same_users ks (λ j there. all j (Contains-tail k j ks there))) refl

  sum_same : (ks : List ℕ) → ((k : ℕ) → Contains ks k → Contains classes k) → sum_by (force f) ks ≡ sum_by (force h) ks
  sum_same [] all = refl
  sum_same (k ∷ ks) all =
      omega (arith, same_force k (all k (Contains-head k ks)), sum_same ks (λ j there. all j (Contains-tail k j ks there)), sum_by-cons (force f) k ks, sum_by-cons (force h) k ks)

  users_are : users f classes ≡ users h classes
  users_are = same_users classes (λ k there. there)

  user_in : (k : ℕ) → Contains (users f classes) k → Contains classes k
  user_in k there = (Contains-from_filter (λ (k : ℕ). nat_lt 0 (force f k)) k classes there).0

  same_counts : count f classes ≡ count h classes
  same_counts = sum_same (users f classes) user_in ∙ ap (λ (ks : List ℕ). sum_by (force h) ks) users_are

  same_cycles : SameItems (cycles_of_users f classes) (cycles_of_users h classes)
  same_cycles = record {
    there = λ c is.
        let (k, user, held) = from_flat_map (λ (k : ℕ). flat_map (λ (cs : List ℕ). cs) (f k)) (users f classes) c is in
        let (cs, way, at) = from_flat_map (λ (cs : List ℕ). cs) (f k) c held in
        in_flat_map (λ (k : ℕ). flat_map (λ (cs : List ℕ). cs) (h k)) (users h classes) k c (subst (λ (ks : List ℕ). Contains ks k) users_are user)
        (in_flat_map (λ (cs : List ℕ). cs) (h k) cs c ((same k (user_in k user)).there cs way) at);
    back = λ c is.
        let (k, user, held) = from_flat_map (λ (k : ℕ). flat_map (λ (cs : List ℕ). cs) (h k)) (users h classes) c is in
        let (cs, way, at) = from_flat_map (λ (cs : List ℕ). cs) (h k) c held in
        let mine = subst (λ (ks : List ℕ). Contains ks k) (sym users_are) user in
        in_flat_map (λ (k : ℕ). flat_map (λ (cs : List ℕ). cs) (f k)) (users f classes) k c mine
        (in_flat_map (λ (cs : List ℕ). cs) (f k) cs c ((same k (user_in k mine)).back cs way) at);
  }

  same_span : span f classes ≡ span h classes
  same_span = omega (arith, same_greatest (cycles_of_users f classes) (cycles_of_users h classes) same_cycles, same_least (cycles_of_users f classes) (cycles_of_users h classes) same_cycles)

  same_asked : asked_load f classes ≡ asked_load h classes
  same_asked = λ i. record { count = same_counts i; span = same_span i; value = same_counts i - 1 - same_span i }

  -- where the ways of each class are the same, the load is
  pub same_load : load_of f classes ≡ load_of h classes
  same_load = ap (λ (ks : List ℕ). cond (nat_lt 0 (length ks)) (Some (asked_load f classes)) None) users_are ∙ ap (λ (l : Load). cond (nat_lt 0 (length (users h classes))) (Some l) None) same_asked

pub load_of_lists : (m : Pipeline UnitPlace) (u : UnitPlace) (classes : List ℕ) → load_of (ways m u) classes ≡ load_of (λ k. ways_in u.unit (list_in u.automaton (alternatives_at m k))) classes
load_of_lists m u classes = same_load (ways m u) (λ k. ways_in u.unit (list_in u.automaton (alternatives_at m k))) classes (λ k there. same_ways u (alternatives_at m k))
