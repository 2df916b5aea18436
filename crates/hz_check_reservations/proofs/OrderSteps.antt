-- From the graph of a description and a walk through it to the counting order, or to the first reservation on a circle.
use Rattle.std.proofs.Common.{◌≡◌, ◌↔◌, ℕ, ◌+◌, ◌-◌, ◌<◌, ◌≤◌, ⊎_elim, Bool, true, false, List, [], ◌∷◌, ◌++◌, length, take, Contains, Some, None, refl, sym, ap, ◌∙◌, subst, arith, slice_get}
use Rattle.std.specs.Prelude.{IsSomeAnd}
use Rattle.std.specs.declared.alloc.Global.{Global}
use Rattle.std.specs.declared.vec.Vec.{Vec}
use Rattle.std.proofs.lemmas.Bool.{cases_lt}
use Rattle.std.proofs.lemmas.List.{take_at, length_push}
use Rattle.hz_description_model.specs.Check.CheckFaults.{IsCircular, IsFirst}
use Rattle.hz_description_model.specs.Reading.Descriptions.{Description}
use Rattle.hz_check_reservations.specs.Circles.{IsFirstWith}
use Rattle.hz_check_reservations.specs.Graphs.{AreInside, ends_in, Path, Visited, IsWalk}
use Rattle.hz_check_reservations.specs.Orders.{IsGraph, IsOrder}
use Rattle.hz_check_reservations.specs.Walks.{lists_of}
use Rattle.hz_check_reservations.proofs.Counting.{order_is}
use Rattle.hz_check_reservations.proofs.DescriptionNodes.{first_count, all_count, edges, edges_root, graph_count, graph_inside, in_file}
use Rattle.hz_check_reservations.proofs.Lists.{length-lists_of}
use Rattle.hz_check_reservations.proofs.NameFacts.{AreNamed}
use Rattle.hz_check_reservations.proofs.Places.{At_from_Contains, Contains-from_At}
use Rattle.hz_check_reservations.proofs.Reaching.{first_circular, some_circular}
use Rattle.hz_check_reservations.proofs.Visits.{visited_root}

module _ (d : Description) (lists : List (Vec ℕ Global)) (g : IsGraph d (lists_of lists)) where
  abbrev E : ℕ → List ℕ
  E = ends_in (lists_of lists)

  edges_same : E ≡ edges d g.file g.numbered
  edges_same = ap ends_in g.edges

  pub lists_count : length lists ≡ all_count d + 1
  lists_count = sym (length-lists_of lists) ∙ (ap length g.edges ∙ graph_count d g.file g.numbered)

  pub lists_inside : AreInside (length lists) (lists_of lists)
  lists_inside = subst (λ (n : ℕ). AreInside n (lists_of lists)) (length-lists_of lists)
      (subst (λ (xs : List (List ℕ)). AreInside (length xs) xs) (sym g.edges) (graph_inside d g.file g.numbered))

  -- a walk from the root leaves all nodes
  pub all_left : (order : List ℕ) (circular : Bool) → IsWalk E (all_count d) (length lists) order circular → (node : ℕ) → Contains order node ↔ (node < length lists)
  all_left order circular w node = (
    w.within node,
    λ lt. ⊎_elim
        (λ (low : node < all_count d).
        let root = At_from_Contains order (all_count d) w.reached in
        let edge : Contains (E (all_count d)) node = subst (λ (xs : List ℕ). Contains xs node) (sym (ap (λ (f : ℕ → List ℕ). f (all_count d)) edges_same ∙ edges_root d g.file g.numbered)) (in_file_any node low) in
        let place = (w.spans).each root.0 (all_count d) node root.1 edge in
        Contains-from_At order place.0 node place.1)
        (λ (high : all_count d ≤ node). let e : all_count d ≡ node = omega (arith, lists_count) in subst (Contains order) e w.reached)
        (cases_lt node (all_count d)),
  )
    where
      in_file_any : (v : ℕ) → v < all_count d → Contains g.file v
      in_file_any v lt = in_file d g.file g.numbered v lt

  -- where the walk met a circle, a reservation leads to itself
  pub circle_found : (order : List ℕ) → IsWalk E (all_count d) (length lists) order true → IsFirstWith (λ node. Path E node node) (first_count d) None → ⊥
  circle_found order w h =
      let around = w.around refl in
      some_circular d g.file g.numbered around.0 (subst (λ (f : ℕ → List ℕ). Path f around.0 around.0) edges_same around.1)
      (subst (λ (f : ℕ → List ℕ). IsFirstWith (λ node. Path f node node) (first_count d) None) edges_same h)

  module _ (named : AreNamed d) where
    -- the first node that leads to itself is the first circular reservation
    pub circle_reported : (place : ℕ) → IsFirstWith (λ node. Path E node node) (first_count d) (Some place) → IsSomeAnd (slice_get d.reservations place) (IsFirst (IsCircular d) d.reservations)
    circle_reported place h = first_circular d named g.file g.numbered place (subst (λ (f : ℕ → List ℕ). IsFirstWith (λ node. Path f node node) (first_count d) (Some place)) edges_same h)

    -- without a circle, what was left before the root is the counting order
    pub order_reported : (walked order : List ℕ) → IsWalk E (all_count d) (length lists) walked false → order ≡ take (length walked - 1) walked → IsOrder d order
    order_reported walked order w is =
        let visited : Visited (edges d g.file g.numbered) [] (all_count d ∷ []) walked = subst (λ (f : ℕ → List ℕ). Visited f [] (all_count d ∷ []) walked) edges_same (w.straight refl) in
        let root = visited_root (edges d g.file g.numbered) visited in
        let long = length_push root.0 (all_count d) in
        let front : take (length walked - 1) walked ≡ root.0 = ap (take (length walked - 1)) root.1 ∙ take_at root.0 (all_count d ∷ []) (length walked - 1) (omega (arith, ap length root.1)) in
        order_is d named.apart g.file g.numbered walked order w.once (root.1 ∙ ap (λ (xs : List ℕ). xs ++ all_count d ∷ []) (sym (is ∙ front))) visited
