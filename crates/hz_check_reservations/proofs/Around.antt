-- Which nodes lead to themselves, by an order that a walk has left them in.
use Rattle.std.proofs.Common.{◌≡◌, ℕ, zero, suc, ◌<◌, ◌≤◌, ◌⊎◌, inl, inr, ⊎_elim, Bool, true, false, List, [], ◌∷◌, ◌++◌, length, get_or, set, replicate, Contains, Option, Some, None, refl, sym, ap, ◌∙◌, subst, arith, get_or-set_same, get_or-set_other, length-set}
use Rattle.std.proofs.lemmas.Bool.{cases_eq, cases_lt}
use Rattle.std.proofs.lemmas.List.{get_or_past, get_or-replicate, length-replicate}
use Rattle.hz_base_model.proofs.Elements.{Contains-nil, Contains-head, Contains-tail, Contains-cons_cases}
use Rattle.hz_check_reservations.specs.declared.ordering.circle.Lead.{Lead}
use Rattle.hz_check_reservations.specs.declared.ordering.circle.Lead.TheVariants.{Nowhere, Straight, Around}
use Rattle.hz_check_reservations.specs.Circles.{Knowledge, IsTurned, IsFirstWith, lead_of, lead_now, is_taken, IsReady, Takes}
use Rattle.hz_check_reservations.specs.Graphs.{At, IsOnce, Path, last, onward, Spans, AreInside, ends_in}
use Rattle.hz_check_reservations.proofs.Finding.{lead_cases}
use Rattle.hz_check_reservations.proofs.Paths.{path_join, path_push}
use Rattle.hz_check_reservations.proofs.Places.{At_from_Contains, Contains-from_At}

-- A node that leads to one that does not stand before it leads to itself.
module _ (edges : ℕ → List ℕ) (order : List ℕ) (once : IsOnce order) (spans : Spans edges order) (start p : ℕ) (at : At order p start) where
  -- the start leads to the node, or is it
  Leads : ℕ → Type 0
  Leads node = (start ≡ node) ⊎ Path edges start node

  led : (node next : ℕ) → (start ≡ node) ⊎ Path edges start node → Contains (edges node) next → Path edges start next
  led node next h e = ⊎_elim
      (λ (same : start ≡ node). last (subst (λ (x : ℕ). Contains (edges x) next) (sym same) e))
      (λ (way : Path edges start node). path_push edges way e)
      h

  around_from : {node to : ℕ} (i q : ℕ) → At order i node → i ≤ p → (start ≡ node) ⊎ Path edges start node → Path edges node to → At order q to → p ≤ q → Path edges start start
  around_from {node} {to} i q at_node le way (last e) at_to up =
      let span = spans.each i node to at_node e in
      let same = once.same span.0 q to span.1 at_to in
      path_join edges (led node to way e) (span.2 p start le (omega arith) at)
  around_from {node} {to} i q at_node le way (onward {middle = middle} e rest) at_to up =
      let span = spans.each i node middle at_node e in
      ⊎_elim
      (λ (below : span.0 < p). around_from span.0 q span.1 (omega arith) (inr (led node middle way e)) rest at_to up)
      (λ (above : p ≤ span.0). path_join edges (led node middle way e) (span.2 p start le above at))
      (cases_lt span.0 p)

  pub around_to : (to q : ℕ) → Path edges start to → At order q to → p ≤ q → Path edges start start
  around_to to q way at_to up = around_from p q at (omega arith) (inl refl) way at_to up

-- a node that doesn't come after another
not_after : (front : List ℕ) (node : ℕ) (back : List ℕ) (p v : ℕ) → At (front ++ node ∷ back) p v → (Contains back v → ⊥) → p ≤ length front
not_after [] node back zero v h apart = omega arith
not_after [] node back (suc p) v h apart = absurd (apart (Contains-from_At back p v h))
not_after (x ∷ front) node back zero v h apart = omega arith
not_after (x ∷ front) node back (suc p) v h apart = let rest = not_after front node back p v h apart in omega arith

at_middle : (front : List ℕ) (node : ℕ) (back : List ℕ) → At (front ++ node ∷ back) (length front) node
at_middle [] node back = refl
at_middle (x ∷ front) node back = at_middle front node back

-- the edges turned round stay inside
pub turned_inside : (edges starts : List (List ℕ)) → IsTurned edges starts → AreInside (length starts) starts
turned_inside edges starts t = λ node end h. ⊎_elim
    (λ (lt : end < length edges). omega (arith, t.size))
    (λ (past : length edges ≤ end). absurd (Contains-nil node (subst (λ (xs : List ℕ). Contains xs node) (get_or_past edges end [] past) ((t.each end node).0 h))))
    (cases_lt end (length edges))

-- a path along turned edges leads back
path_back : (edges starts : List (List ℕ)) → IsTurned edges starts → {from to : ℕ} → Path (ends_in starts) from to → Path (ends_in edges) to from
path_back edges starts t {from} {to} (last e) = last ((t.each to from).0 e)
path_back edges starts t {from} {to} (onward {middle = middle} e rest) = path_push (ends_in edges) (path_back edges starts t rest) ((t.each middle from).0 e)

path_turned : (edges starts : List (List ℕ)) → IsTurned edges starts → {from to : ℕ} → Path (ends_in edges) to from → Path (ends_in starts) from to
path_turned edges starts t {from} {to} (last e) = last ((t.each to from).1 e)
path_turned edges starts t {from} {to} (onward {middle = middle} e rest) = path_push (ends_in starts) (path_turned edges starts t rest) ((t.each to middle).1 e)

-- What is known once the nodes after some place of the order are taken: which nodes lead to one of them, and of these
-- which lead to themselves.
pub record IsKnownOf (edges starts : List (List ℕ)) (count : ℕ) (back : List ℕ) (k : Knowledge) : Type 0 where
  pub size : length k.leads ≡ count
  pub takings : length k.taken ≡ count
  pub taken : (node : ℕ) → is_taken k.taken node ≡ true → Contains back node
  pub all : (node : ℕ) → Contains back node → is_taken k.taken node ≡ true
  pub nowhere : (node to : ℕ) → lead_of k.leads node ≡ Nowhere → Contains back to → Path (ends_in edges) node to → ⊥
  pub straight : (node : ℕ) → lead_of k.leads node ≡ Straight → Path (ends_in edges) node node → ⊥
  pub around : (node : ℕ) → lead_of k.leads node ≡ Around → Path (ends_in edges) node node
  pub ready : IsReady (ends_in starts) k

-- an item of copies
copied : {A : Type 0} (count node : ℕ) (x : A) → get_or (replicate count x) node x ≡ x
copied count node x = ⊎_elim
    (λ (h : node < count). get_or-replicate count node x x h)
    (λ (h : count ≤ node). get_or_past (replicate count x) node x (omega (arith, length-replicate count x)))
    (cases_lt node count)

-- One more node is taken.
module _ (edges starts : List (List ℕ)) (turned : IsTurned edges starts) (count : ℕ) (order front : List ℕ) (node : ℕ) (back : List ℕ) (is : order ≡ front ++ node ∷ back) (once : IsOnce order) (spans : Spans (ends_in edges) order)
    (complete : (v : ℕ) → v < count → Contains order v) (small : node < count) (k new : Knowledge) (w : IsKnownOf edges starts count back k) (t : Takes (ends_in starts) node k new) where
  mark_cases : (v : ℕ) → ((v ≡ node) × (is_taken new.taken v ≡ true)) ⊎ ((v ≡ node → ⊥) × (is_taken new.taken v ≡ is_taken k.taken v))
  mark_cases v = ⊎_elim
      (λ (e : v ≡ node). inl (e, ap (λ (b : List Bool). is_taken b v) t.taken ∙ (ap (is_taken (set k.taken node true)) e ∙ get_or-set_same k.taken node true false (omega (arith, w.takings)))))
      (λ (ne : v ≡ node → ⊥). inr (ne, ap (λ (b : List Bool). is_taken b v) t.taken ∙ get_or-set_other k.taken node v true false ne))
      (cases_eq v node)

  -- a node that led nowhere, and now somewhere
  now : (v : ℕ) → lead_of k.leads v ≡ Nowhere → (lead_of new.leads v ≡ Nowhere → ⊥) → Path (ends_in edges) v node × (lead_of new.leads v ≡ lead_now (is_taken k.taken v))
  now v nowhere somewhere = ⊎_elim
      (λ (h : lead_of new.leads v ≡ Nowhere). absurd (somewhere h))
      (λ (h : Path (ends_in starts) node v × (lead_of new.leads v ≡ lead_now (is_taken k.taken v))). (path_back edges starts turned h.0, h.1))
      (t.fresh v nowhere)

  in_range : (v : ℕ) → (lead_of new.leads v ≡ Nowhere → ⊥) → v < count
  in_range v h = ⊎_elim
      (λ (lt : v < count). lt)
      (λ (past : count ≤ v). absurd (h (get_or_past new.leads v Nowhere (omega (arith, w.size, t.size)))))
      (cases_lt v count)

  around_now : (v : ℕ) → v < count → is_taken k.taken v ≡ false → Path (ends_in edges) v node → Path (ends_in edges) v v
  around_now v lt free way =
      let place = At_from_Contains order v (complete v lt) in
      let at : At (front ++ node ∷ back) place.0 v = subst (λ (xs : List ℕ). At xs place.0 v) is place.1 in
      let low = not_after front node back place.0 v at (λ h. let e : true ≡ false = sym (w.all v h) ∙ free in absurd (cc)) in
      around_to (ends_in edges) order once spans v place.0 place.1 node (length front) way (subst (λ (xs : List ℕ). At xs (length front) node) (sym is) (at_middle front node back)) low

  straight_now : (v : ℕ) → lead_of k.leads v ≡ Nowhere → lead_of new.leads v ≡ Straight → (b : Bool) → is_taken k.taken v ≡ b → lead_of new.leads v ≡ lead_now b → Path (ends_in edges) v v → ⊥
  straight_now v nowhere e true is_taken' l way = w.nowhere v v nowhere (w.taken v is_taken') way
  straight_now v nowhere e false free l way = let g : Straight ≡ Around = sym e ∙ l in absurd (cc)

  around_here : (v : ℕ) → lead_of new.leads v ≡ Around → (b : Bool) → is_taken k.taken v ≡ b → lead_of new.leads v ≡ lead_now b → Path (ends_in edges) v node → Path (ends_in edges) v v
  around_here v e true is_taken' l way = let g : Around ≡ Straight = sym e ∙ l in absurd (cc)
  around_here v e false free l way = around_now v (in_range v (λ n. let g : Around ≡ Nowhere = sym e ∙ n in absurd (cc))) free way

  pub known_of_more : IsKnownOf edges starts count (node ∷ back) new
  known_of_more = record {
    size = t.size ∙ w.size;
    takings = ap length t.taken ∙ (length-set k.taken node true ∙ w.takings);
    taken = λ v h. ⊎_elim
        (λ (m : (v ≡ node) × (is_taken new.taken v ≡ true)). subst (Contains (node ∷ back)) (sym m.0) (Contains-head node back))
        (λ (m : (v ≡ node → ⊥) × (is_taken new.taken v ≡ is_taken k.taken v)). Contains-tail node v back (w.taken v (sym m.1 ∙ h)))
        (mark_cases v);
    all = λ v h. ⊎_elim
        (λ (m : (v ≡ node) × (is_taken new.taken v ≡ true)). m.1)
        (λ (m : (v ≡ node → ⊥) × (is_taken new.taken v ≡ is_taken k.taken v)). ⊎_elim
        (λ (e : node ≡ v). absurd (m.0 (sym e)))
        (λ (old : Contains back v). m.1 ∙ w.all v old)
        (Contains-cons_cases node v back h))
        (mark_cases v);
    nowhere = λ v to h among way. ⊎_elim
        (λ (e : node ≡ to). t.others v h (path_turned edges starts turned (subst (Path (ends_in edges) v) (sym e) way)))
        (λ (old : Contains back to). ⊎_elim
        (λ (before : lead_of k.leads v ≡ Nowhere). w.nowhere v to before old way)
        (λ (before : lead_of k.leads v ≡ Nowhere → ⊥). before (sym (t.kept v before) ∙ h))
        (lead_cases (lead_of k.leads v)))
        (Contains-cons_cases node to back among);
    straight = λ v h way. ⊎_elim
        (λ (before : lead_of k.leads v ≡ Nowhere). let n = now v before (λ g. let e : Straight ≡ Nowhere = sym h ∙ g in absurd (cc)) in straight_now v before h (is_taken k.taken v) refl n.1 way)
        (λ (before : lead_of k.leads v ≡ Nowhere → ⊥). w.straight v (sym (t.kept v before) ∙ h) way)
        (lead_cases (lead_of k.leads v));
    around = λ v h. ⊎_elim
        (λ (before : lead_of k.leads v ≡ Nowhere). let n = now v before (λ g. let e : Around ≡ Nowhere = sym h ∙ g in absurd (cc)) in around_here v h (is_taken k.taken v) refl n.1 n.0)
        (λ (before : lead_of k.leads v ≡ Nowhere → ⊥). w.around v (sym (t.kept v before) ∙ h))
        (lead_cases (lead_of k.leads v));
    ready = t.ready;
  }

-- once all nodes are taken, each that leads to itself is known to
pub known_around : (edges starts : List (List ℕ)) (count : ℕ) (order : List ℕ) (k : Knowledge) → ((v : ℕ) → v < count → Contains order v) → IsKnownOf edges starts count order k → (v : ℕ) → v < count
    → Path (ends_in edges) v v → lead_of k.leads v ≡ Around
known_around edges starts count order k complete w v lt way = by_lead (lead_of k.leads v) refl
  where
    by_lead : (l : Lead) → lead_of k.leads v ≡ l → lead_of k.leads v ≡ Around
    by_lead Nowhere e = absurd (w.nowhere v v e (complete v lt) way)
    by_lead Straight e = absurd (w.straight v e way)
    by_lead Around e = e

pub first_known : (edges starts : List (List ℕ)) (count low : ℕ) (order : List ℕ) (k : Knowledge) → low ≤ count → ((v : ℕ) → v < count → Contains order v) → IsKnownOf edges starts count order k → (o : Option ℕ)
    → IsFirstWith (λ v. lead_of k.leads v ≡ Around) low o → IsFirstWith (λ v. Path (ends_in edges) v v) low o
first_known edges starts count low order k le complete w None h = λ v lt way. h v lt (known_around edges starts count order k complete w v (omega arith) way)
first_known edges starts count low order k le complete w (Some first) h =
    (h.0, w.around first h.1, λ v lt way. h.2 v lt (known_around edges starts count order k complete w v (omega (arith, h.0)) way))
