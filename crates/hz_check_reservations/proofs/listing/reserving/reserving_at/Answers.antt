use Rattle.std.proofs.Common.{◌≡◌, ◌-◌, ◌<◌, length, sym, ap, ◌∙◌, arith}
use Rattle.std.proofs.lemmas.List.{length-map, length-append, get_or_append_left, get_or-append_right, get_or-map}
use Rattle.hz_mdread.specs.Shape.{class_item, description, reservation_item}
use Rattle.hz_description_model.specs.Check.CountingOrder.{reserving_class, reserving_reservation, reservations_of, classes_of}
use Rattle.hz_check_reservations.specs.Orders.{nothing_reserved}
use Rattle.hz_check_reservations.proofs.listing.reserving.reserving_at.Goals as goal

pub returns-then-number-count : goal.returns-then-number-count
returns-then-number-count c =
    let d = description c.args.desc.now in
    let items = c.args.desc.now.reservations.items in
    let low : c.args.number < length items = omega (arith, c.len-count.ensures) in
    let long = length-map items reservation_item in
    let longer = length-map d.reservations reserving_reservation in
    c.reserving.ensures
    ∙ sym (get_or_append_left (reservations_of d) (classes_of d) nothing_reserved c.args.number (omega arith)
    ∙ (get_or-map reserving_reservation d.reservations c.args.number (reservation_item c.index.result.now) nothing_reserved (omega arith)
    ∙ ap reserving_reservation (get_or-map reservation_item items c.args.number c.index.result.now (reservation_item c.index.result.now) low ∙ ap reservation_item (sym c.index.ensures))))

pub returns-else-number-count : goal.returns-else-number-count
returns-else-number-count c =
    let d = description c.args.desc.now in
    let items = c.args.desc.now.reservations.items in
    let classes = c.args.desc.now.classes.items in
    let item = c.index-else-number-count.result.now in
    let long = length-map items reservation_item in
    let longer = length-map d.reservations reserving_reservation in
    let many = length-map classes class_item in
    let more = length-map d.classes reserving_class in
    let all = length-append (reservations_of d) (classes_of d) in
    let count : c.len-count.result ≡ length items = omega (arith, c.len-count.ensures) in
    let same : length (reservations_of d) ≡ c.len-count.result = omega arith in
    let low : c.args.number - c.len-count.result < length classes = omega (arith, c.requires) in
    c.reserving-else-number-count.ensures
    ∙ sym (get_or-append_right (reservations_of d) (classes_of d) c.len-count.result c.args.number nothing_reserved same (omega arith)
    ∙ (get_or-map reserving_class d.classes (c.args.number - c.len-count.result) (class_item item) nothing_reserved (omega arith)
    ∙ ap reserving_class (get_or-map class_item classes (c.args.number - c.len-count.result) item (class_item item) low ∙ ap class_item (sym c.index-else-number-count.ensures))))
