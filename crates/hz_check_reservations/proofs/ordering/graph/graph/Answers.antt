use Rattle.std.proofs.Common.{◌≡◌, ℕ, List, [], ◌∷◌, ◌++◌, map, sym, ap, ◌∙◌}
use Rattle.std.proofs.lemmas.List.{map-append}
use Rattle.hz_mdread.specs.Shape.{description, class_item, reservation_item}
use Rattle.hz_mdread.specs.declared.items.ClassItem.{ClassItem as StoredClass}
use Rattle.hz_mdread.specs.declared.items.ReservationItem.{ReservationItem as StoredReservation}
use Rattle.hz_description_model.specs.Reservations.NamesIn.{names_in}
use Rattle.hz_description_model.specs.Reading.Descriptions.{ReservationItem}
use Rattle.hz_base_model.specs.Lines.{place_of}
use Rattle.hz_regexp.specs.Shape.{expression}
use Rattle.std.specs.declared.alloc.Global.{Global}
use Rattle.std.specs.declared.vec.Vec.{Vec}
use Rattle.std.specs.List.{filter_map}
use Rattle.hz_check_reservations.specs.Numbers.{number_in}
use Rattle.hz_check_reservations.specs.Orders.{number_of}
use Rattle.hz_check_reservations.specs.Walks.{lists_of}
use Rattle.hz_check_reservations.proofs.DescriptionGraph.{graph_is}
use Rattle.hz_check_reservations.proofs.ordering.graph.graph.Goals as goal

pub returns : goal.returns
returns c =
    let d = description c.args.description.now in
    let rs = c.as_slice-reservations.result.now in
    let cs = c.as_slice-classes.result.now in
    let these : d.reservations ≡ map reservation_item rs = ap (map reservation_item) (sym c.as_slice-reservations.ensures.value) in
    let those : d.classes ≡ map class_item cs = ap (map class_item) (sym c.as_slice-classes.ensures.value) in
    let right : (name : List ℕ) → number_in c.in_ok-numbers.numbers name ≡ number_of d name = λ name. c.in_ok-numbers.ensures name ∙ ap (λ (xs : List ReservationItem). place_of name (map (λ r. r.name) xs)) (sym these) in
    let lists = map (λ (item : StoredReservation). filter_map (number_in c.in_ok-numbers.numbers) (names_in (expression item.expr))) rs in
    let class_lists = map (λ (item : StoredClass). filter_map (number_in c.in_ok-numbers.numbers) (names_in (expression item.expr))) cs in
    let file = c.in_ok-file_order.field-0 in
    let first : lists_of c.add_reservations.new.edges.items ≡ lists = c.in_ok-add_reservations.ensures ∙ ap (λ (xs : List (Vec ℕ Global)). lists_of xs ++ lists) c.new-edges.ensures.items in
    let both : lists_of c.add_classes.new.edges.items ≡ lists ++ class_lists = c.in_ok-add_classes.ensures ∙ ap (λ (xs : List (List ℕ)). xs ++ class_lists) first in
    let all : lists_of c.push.new.self.items ≡ (lists ++ class_lists) ++ file.items ∷ [] =
    ap lists_of c.in_ok-push.ensures.items ∙ (map-append (λ (v : Vec ℕ Global). v.items) c.add_classes.new.edges.items (file ∷ []) ∙ ap (λ (xs : List (List ℕ)). xs ++ file.items ∷ []) both) in
    graph_is d (number_in c.in_ok-numbers.numbers) right rs cs these those file.items (lists_of c.push.new.self.items) c.in_ok-file_order.ensures all
