use Rattle.std.proofs.Common.{◌≡◌, ℕ, ◌-◌, ◌<◌, length, drop, subst, arith}
use Rattle.std.proofs.lemmas.List.{length-map}
use Rattle.hz_description_model.specs.Check.CountingOrder.{reserving_class, classes_of}
use Rattle.hz_check_reservations.proofs.Holding.{all_held}
use Rattle.hz_check_reservations.proofs.Ordered.{written, names_in_all}
use Rattle.hz_check_reservations.specs.Tables.{IsAfter}
use Rattle.hz_mdread.specs.Shape.{description, class_item}
use Rattle.hz_check_reservations.specs.HabitTables.{HasHabits, habits_in}
use Rattle.hz_check_reservations.proofs.BrokenClasses.{AreBrokenAmong, class_at, class_in, all_of_classes, broken_more, all_broken}
use Rattle.hz_check_reservations.proofs.rules.breaking.broken_rules.Goals as goal

pub habits_of-requires-clause-formed : goal.habits_of-requires-clause-formed
habits_of-requires-clause-formed c =
    let d = description c.args.desc.now in
    let items = c.args.desc.now.classes.items in
    let low : c.loop-i.i - 1 < length items = omega (arith, c.loop-i-test.true, c.loop-i.auto.i, c.len-i.ensures) in
    let q = reserving_class (class_item c.index-class.result.now) in
    written d c.requires.named c.requires.formed c.args.order.now c.requires.order q (all_of_classes d q (class_in items (c.loop-i.i - 1) c.index-class.result.now low c.index-class.ensures))

pub habits_of-requires-clause-held : goal.habits_of-requires-clause-held
habits_of-requires-clause-held c =
    let d = description c.args.desc.now in
    let order = c.args.order.now in
    let items = c.args.desc.now.classes.items in
    let low : c.loop-i.i - 1 < length items = omega (arith, c.loop-i-test.true, c.loop-i.auto.i, c.len-i.ensures) in
    let q = reserving_class (class_item c.index-class.result.now) in
    all_held (HasHabits d) (IsAfter d order) (habits_in c.add_reservations.new.table) c.in_ok-add_reservations.ensures q.expression
    (names_in_all d c.requires.named c.requires.formed order c.requires.order q (all_of_classes d q (class_in items (c.loop-i.i - 1) c.index-class.result.now low c.index-class.ensures)))

pub loop-i-preserved : goal.loop-i-preserved
loop-i-preserved c =
    let d = description c.args.desc.now in
    let items = c.args.desc.now.classes.items in
    let low : c.loop-i.i - 1 < length items = omega (arith, c.loop-i-test.true, c.loop-i.auto.i, c.len-i.ensures) in
    let q = reserving_class (class_item c.index-class.result.now) in
    let long = length-map items class_item in
    let longer = length-map d.classes reserving_class in
    broken_more d c.requires.named c.requires.formed c.args.order.now c.requires.order c.requires.extents (habits_in c.add_reservations.new.table) c.in_ok-add_reservations.ensures
    c.loop-i.i q c.habits_of.result c.loop-i.broken c.broken_before-broken.result (omega (arith, c.loop-i-test.true)) (omega (arith, low))
    (class_at items (c.loop-i.i - 1) c.index-class.result.now low c.index-class.ensures) (class_in items (c.loop-i.i - 1) c.index-class.result.now low c.index-class.ensures)
    c.habits_of.ensures c.broken_before-broken.ensures.mixed c.broken_before-broken.ensures.uneven c.loop-i.invariant

pub returns : goal.returns
returns c =
    let d = description c.args.desc.now in
    let none : c.loop-i.i ≡ 0 = omega (arith, c.loop-i-test.false) in
    all_broken d c.loop-i.broken (subst (λ (n : ℕ). AreBrokenAmong d (drop n (classes_of d)) c.loop-i.broken) none c.loop-i.invariant)
