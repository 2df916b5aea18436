use Rattle.std.proofs.Common.{◌≡◌, ℕ, ◌+◌, ◌-◌, ◌<◌, ◌≤◌, List, ◌∷◌, ◌++◌, length, get_or, take, drop, subst, sym, ap, ◌∙◌, arith}
use Rattle.std.specs.declared.alloc.Global.{Global}
use Rattle.std.specs.declared.vec.Vec.{Vec}
use Rattle.std.proofs.lemmas.List.{drop_more, take-append-drop}
use Rattle.std.proofs.lemmas.List.Elements.{Contains-get_or}
use Rattle.hz_check_reservations.specs.Circles.{Takes, knowledge_of}
use Rattle.hz_check_reservations.specs.Graphs.{AreInside, ends_in}
use Rattle.hz_check_reservations.specs.Walks.{lists_of}
use Rattle.hz_check_reservations.proofs.Around.{IsKnownOf, known_of_more, first_known, turned_inside}
use Rattle.hz_check_reservations.proofs.Lists.{length-lists_of}
use Rattle.hz_check_reservations.proofs.ordering.circle.first_around.Goals as goal

-- the last item of a front, and what comes after it
parts : (order : List ℕ) (i : ℕ) → 0 < i → i ≤ length order → drop (i - 1) order ≡ get_or order (i - 1) 0 ∷ drop i order
parts order i some within =
    let next : (i - 1) + 1 ≡ i = omega arith in
    drop_more order (i - 1) 0 (omega arith) ∙ ap (λ (n : ℕ). get_or order (i - 1) 0 ∷ drop n order) next

whole : (order : List ℕ) (i : ℕ) → 0 < i → i ≤ length order → order ≡ take (i - 1) order ++ get_or order (i - 1) 0 ∷ drop i order
whole order i some within = sym (take-append-drop (i - 1) order) ∙ ap (λ (xs : List ℕ). take (i - 1) order ++ xs) (parts order i some within)

pub take-requires-clause-node : goal.take-requires-clause-node
take-requires-clause-node c =
    let node = get_or c.args.order.now (c.loop-i.i - 1) 0 in
    let low = (c.requires.all node).0 (Contains-get_or c.args.order.now (c.loop-i.i - 1) 0 (omega arith)) in
    omega (arith, c.in_ok-starts.ensures.size, length-lists_of c.args.edges.now, length-lists_of c.in_ok-starts.starts.items, ap length c.deref.ensures.value)

pub take-requires-clause-inside : goal.take-requires-clause-inside
take-requires-clause-inside c =
    let inside = turned_inside (lists_of c.args.edges.now) (lists_of c.in_ok-starts.starts.items) c.in_ok-starts.ensures in
    subst (λ (xs : List (Vec ℕ Global)). AreInside (length xs) (lists_of xs)) (sym c.deref.ensures.value)
    (subst (λ (n : ℕ). AreInside n (lists_of c.in_ok-starts.starts.items)) (length-lists_of c.in_ok-starts.starts.items) inside)

pub loop-i-preserved : goal.loop-i-preserved
loop-i-preserved c =
    let edges = lists_of c.args.edges.now in
    let starts = lists_of c.in_ok-starts.starts.items in
    let order = c.args.order.now in
    let i = c.loop-i.i in
    let node = get_or order (i - 1) 0 in
    let taken = subst (λ (xs : List (Vec ℕ Global)). Takes (ends_in (lists_of xs)) node (knowledge_of c.loop-i.labels) (knowledge_of c.take.new.self)) c.deref.ensures.value c.in_ok-take.ensures in
    subst (λ (xs : List ℕ). IsKnownOf edges starts (length c.args.edges.now) xs (knowledge_of c.take.new.self)) (sym (parts order i (omega arith) (omega arith)))
    (known_of_more edges starts c.in_ok-starts.ensures (length c.args.edges.now) order (take (i - 1) order) node (drop i order) (whole order i (omega arith) (omega arith)) c.requires.once c.requires.spans
    (λ v lt. (c.requires.all v).1 lt) ((c.requires.all node).0 (Contains-get_or order (i - 1) 0 (omega arith))) (knowledge_of c.loop-i.labels) (knowledge_of c.take.new.self) c.loop-i.invariant taken)

pub returns : goal.returns
returns c =
    let edges = lists_of c.args.edges.now in
    let starts = lists_of c.in_ok-starts.starts.items in
    let order = c.args.order.now in
    let k = knowledge_of c.loop-i.labels in
    let none : c.loop-i.i ≡ 0 = omega arith in
    let all : drop c.loop-i.i order ≡ order = ap (λ (n : ℕ). drop n order) none in
    first_known edges starts (length c.args.edges.now) c.args.count order k c.requires.count (λ v lt. (c.requires.all v).1 lt)
    (subst (λ (xs : List ℕ). IsKnownOf edges starts (length c.args.edges.now) xs k) all c.loop-i.invariant) c.first_around.result c.first_around.ensures
