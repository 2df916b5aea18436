use Rattle.std.proofs.Common.{◌≡◌, ◌↔◌, ℕ, ◌-◌, ◌<◌, Bool, true, false, List, Contains, Option, Some, None, length, take, vec_len, subst, sym, ap, ◌∙◌, arith}
use Rattle.std.specs.declared.alloc.Global.{Global}
use Rattle.std.specs.declared.vec.Vec.{Vec}
use Rattle.std.proofs.lemmas.List.{length-map}
use Rattle.hz_mdread.specs.Shape.{description, reservation_item}
use Rattle.hz_description_model.specs.Reading.Descriptions.{Description}
use Rattle.hz_check_reservations.specs.Circles.{IsFirstWith}
use Rattle.hz_check_reservations.specs.Graphs.{ends_in, IsWalk, Path}
use Rattle.hz_check_reservations.specs.Orders.{IsGraph}
use Rattle.hz_check_reservations.specs.Walks.{lists_of}
use Rattle.hz_check_reservations.proofs.DescriptionNodes.{all_count, counts}
use Rattle.hz_check_reservations.proofs.NameFacts.{are_named}
use Rattle.hz_check_reservations.proofs.OrderSteps.{lists_count, lists_inside, all_left, circle_reported, circle_found, order_reported}
use Rattle.hz_check_reservations.proofs.Reaching.{order_unwinds}
use Rattle.hz_check_reservations.proofs.ordering.order.order_of.Goals as goal

-- the graph that is walked through
graph_now : (d : Description) (now : List (Vec ℕ Global)) (lists : Vec (Vec ℕ Global) Global) → now ≡ lists.items → IsGraph d (lists_of lists.items) → IsGraph d (lists_of now)
graph_now d now lists e g = subst (λ (xs : List (Vec ℕ Global)). IsGraph d (lists_of xs)) (sym e) g

-- the root is the last node
walk_now : (d : Description) (now : List (Vec ℕ Global)) → IsGraph d (lists_of now) → (order : List ℕ) (b circular : Bool) → b ≡ circular
    → IsWalk (ends_in (lists_of now)) (length now - 1) (length now) order b → IsWalk (ends_in (lists_of now)) (all_count d) (length now) order circular
walk_now d now g order b circular e w =
    subst (λ (t : Bool). IsWalk (ends_in (lists_of now)) (all_count d) (length now) order t) e
    (let root : length now - 1 ≡ all_count d = omega (arith, lists_count d now g) in subst (λ (r : ℕ). IsWalk (ends_in (lists_of now)) r (length now) order b) root w)

-- what is left once the root is taken away
popped : (walked : Vec ℕ Global) (rest : List ℕ) → rest ≡ take (vec_len walked - 1) walked.items → vec_len walked ≡ length walked.items → rest ≡ take (length walked.items - 1) walked.items
popped walked rest is long = is ∙ ap (λ (n : ℕ). take (n - 1) walked.items) long

pub walk_from-requires-clause-inside : goal.walk_from-requires-clause-inside
walk_from-requires-clause-inside c =
    let d = description c.args.description.now in
    let now = c.as_slice-edges.result.now in
    lists_inside d now (graph_now d now c.in_ok-lists.lists c.as_slice-edges.ensures.value c.in_ok-lists.ensures)

pub walk_from-requires-clause-root : goal.walk_from-requires-clause-root
walk_from-requires-clause-root c =
    let d = description c.args.description.now in
    let now = c.as_slice-edges.result.now in
    omega (arith, lists_count d now (graph_now d now c.in_ok-lists.lists c.as_slice-edges.ensures.value c.in_ok-lists.ensures))

pub first_around-requires-clause-inside : goal.first_around-requires-clause-inside
first_around-requires-clause-inside c =
    let d = description c.args.description.now in
    let now = c.as_slice-edges.result.now in
    lists_inside d now (graph_now d now c.in_ok-lists.lists c.as_slice-edges.ensures.value c.in_ok-lists.ensures)

pub first_around-requires-clause-count : goal.first_around-requires-clause-count
first_around-requires-clause-count c =
    let d = description c.args.description.now in
    let now = c.as_slice-edges.result.now in
    omega (arith, lists_count d now (graph_now d now c.in_ok-lists.lists c.as_slice-edges.ensures.value c.in_ok-lists.ensures), counts d, length-map c.args.description.now.reservations.items reservation_item)

pub first_around-requires-clause-all : goal.first_around-requires-clause-all
first_around-requires-clause-all c =
    let d = description c.args.description.now in
    let now = c.as_slice-edges.result.now in
    let g = graph_now d now c.in_ok-lists.lists c.as_slice-edges.ensures.value c.in_ok-lists.ensures in
    let walk = walk_now d now g c.in_ok-walk.walk.order.items c.in_ok-walk.walk.circular true c.if-walk.true c.in_ok-walk.ensures in
    subst (λ (xs : List ℕ). (node : ℕ) → Contains xs node ↔ (node < length now)) (sym c.as_slice.ensures.value) (all_left d now g c.in_ok-walk.walk.order.items true walk)

pub unreachable-requires : goal.unreachable-requires
unreachable-requires c =
    let d = description c.args.description.now in
    let now = c.as_slice-edges.result.now in
    let g = graph_now d now c.in_ok-lists.lists c.as_slice-edges.ensures.value c.in_ok-lists.ensures in
    let walk = walk_now d now g c.in_ok-walk.walk.order.items c.in_ok-walk.walk.circular true c.if-walk.true c.in_ok-walk.ensures in
    let count : c.len-count.result ≡ length d.reservations = omega (arith, length-map c.args.description.now.reservations.items reservation_item) in
    let none = subst (λ (o : Option ℕ). IsFirstWith (λ node. Path (ends_in (lists_of now)) node node) c.len-count.result o) c.in-None.is c.in_ok-place.ensures in
    circle_found d now g c.in_ok-walk.walk.order.items walk (subst (λ (n : ℕ). IsFirstWith (λ node. Path (ends_in (lists_of now)) node node) n None) count none)

pub returns-then-walk-clause-err : goal.returns-then-walk-clause-err
returns-then-walk-clause-err c = λ reported formed.
    let d = description c.args.description.now in
    let now = c.as_slice-edges.result.now in
    let g = graph_now d now c.in_ok-lists.lists c.as_slice-edges.ensures.value c.in_ok-lists.ensures in
    let count : c.len-count.result ≡ length d.reservations = omega (arith, length-map c.args.description.now.reservations.items reservation_item) in
    let some = subst (λ (o : Option ℕ). IsFirstWith (λ node. Path (ends_in (lists_of now)) node node) c.len-count.result o) c.in-Some.is c.in_ok-place.ensures in
    circle_reported d now g (are_named d reported formed) c.in-Some.place (subst (λ (n : ℕ). IsFirstWith (λ node. Path (ends_in (lists_of now)) node node) n (Some c.in-Some.place)) count some)

pub returns-clause-ok : goal.returns-clause-ok
returns-clause-ok c = λ reported formed.
    let d = description c.args.description.now in
    let now = c.as_slice-edges.result.now in
    let g = graph_now d now c.in_ok-lists.lists c.as_slice-edges.ensures.value c.in_ok-lists.ensures in
    let walked = c.in_ok-walk.walk.order.items in
    let walk = walk_now d now g walked c.in_ok-walk.walk.circular false c.if-walk.false c.in_ok-walk.ensures in
    order_reported d now g (are_named d reported formed) walked c.pop.new.self.items walk (popped c.in_ok-walk.walk.order c.pop.new.self.items c.pop.ensures.rest (omega arith))

pub returns-clause-unwinds : goal.returns-clause-unwinds
returns-clause-unwinds c = λ reported formed.
    let d = description c.args.description.now in
    let now = c.as_slice-edges.result.now in
    let g = graph_now d now c.in_ok-lists.lists c.as_slice-edges.ensures.value c.in_ok-lists.ensures in
    let walked = c.in_ok-walk.walk.order.items in
    let walk = walk_now d now g walked c.in_ok-walk.walk.circular false c.if-walk.false c.in_ok-walk.ensures in
    order_unwinds d c.pop.new.self.items (order_reported d now g (are_named d reported formed) walked c.pop.new.self.items walk (popped c.in_ok-walk.walk.order c.pop.new.self.items c.pop.ensures.rest (omega arith)))
