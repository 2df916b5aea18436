use Rattle.std.proofs.Common.{◌≡◌, ℕ, ◌-◌, ◌<◌, length, drop, sym, ap, ◌∙◌, subst, rules, arith}
use Rattle.hz_altern.proofs.Shapes.{seq_is, oneof_is, allof_is, repeat_is}
use Rattle.hz_altern.specs.Tables.{is_held}
use Rattle.hz_description_model.specs.Reservations.Alternatives.{parts_of, sequence, one_of, all_of, repeat}
use Rattle.hz_regexp.specs.Shape.{expression, expressions}
use Rattle.hz_check_reservations.specs.declared.rules.habits.Habits.{Habits}
use Rattle.hz_check_reservations.specs.HabitTables.{habits_in}
use Rattle.hz_check_reservations.proofs.Says.{Says, says_same, says_sequence, says_one_of, says_all_of, says_repeat, SaysFrom, from_last, from_more, formed_part, named_part, fewer_nodes}
use Rattle.hz_check_reservations.proofs.rules.measuring.+measuring.Goals as goal

pub habits_of-returns-in-Seq : goal.habits_of-returns-in-Seq
habits_of-returns-in-Seq t c =
    let parts = parts_of (expressions c.in-Seq.parts.items) in
    says_same (habits_in c.args.table.now) (expression c.args.expr.now) (sequence parts) c.habits_of_parts.result (ap expression c.in-Seq.is ∙ seq_is c.in-Seq.parts)
    (says_sequence (habits_in c.args.table.now) parts c.habits_of_parts.result (rw c.deref.ensures.value at c.habits_of_parts.ensures))

pub habits_of-returns-in-Oneof : goal.habits_of-returns-in-Oneof
habits_of-returns-in-Oneof t c =
    let parts = parts_of (expressions c.in-Oneof.parts.items) in
    let kept = habits_in c.args.table.now in
    says_same kept (expression c.args.expr.now) (one_of parts) c.alternated.result (ap expression c.in-Oneof.is ∙ oneof_is c.in-Oneof.parts)
    (subst (λ (h : Habits). Says kept (one_of parts) h) (sym c.alternated.ensures)
    (says_one_of kept parts c.habits_of_parts-in-Oneof.result (rw c.deref-in-Oneof.ensures.value at c.habits_of_parts-in-Oneof.ensures)))

pub habits_of-returns-in-Allof : goal.habits_of-returns-in-Allof
habits_of-returns-in-Allof t c =
    let parts = parts_of (expressions c.in-Allof.parts.items) in
    says_same (habits_in c.args.table.now) (expression c.args.expr.now) (all_of parts) c.habits_of_parts-in-Allof.result (ap expression c.in-Allof.is ∙ allof_is c.in-Allof.parts)
    (says_all_of (habits_in c.args.table.now) parts c.habits_of_parts-in-Allof.result (rw c.deref-in-Allof.ensures.value at c.habits_of_parts-in-Allof.ensures))

pub habits_of-returns-in-Repeat : goal.habits_of-returns-in-Repeat
habits_of-returns-in-Repeat t c =
    let part = expression c.in-Repeat.part.value in
    let kept = habits_in c.args.table.now in
    let is = ap expression c.in-Repeat.is ∙ repeat_is c.in-Repeat.part c.in-Repeat.times in
    says_same kept (expression c.args.expr.now) (repeat part c.in-Repeat.times) c.repeated.result is
    (subst (λ (h : Habits). Says kept (repeat part c.in-Repeat.times) h) (sym c.repeated.ensures)
    (says_repeat kept part c.in-Repeat.times c.habits_of.result (rw is at c.requires.formed) (rw c.deref-in-Repeat.ensures at c.habits_of.ensures)))

pub habits_of_parts-habits_of-habits-requires : goal.habits_of_parts-habits_of-habits-requires
habits_of_parts-habits_of-habits-requires t c =
    let parts = c.args.parts.now in
    let low : length parts - 1 < length parts = omega (arith, c.requires.some) in
    let fewer = fewer_nodes parts (length parts - 1) c.index-parts-last.result low c.index-parts-last.is in
    let formed = formed_part parts (length parts - 1) c.index-parts-last.result low c.index-parts-last.is c.requires.formed in
    let named = named_part parts (length parts - 1) c.index-parts-last.result low c.index-parts-last.is (is_held (habits_in c.args.table.now)) c.requires.held in
    search rules

pub habits_of_parts-loop-i-init : goal.habits_of_parts-loop-i-init
habits_of_parts-loop-i-init t c =
    let parts = c.args.parts.now in
    from_last (habits_in c.args.table.now) c.args.mark parts (length parts - 1) c.index-parts-last.result c.habits_of-habits.result (omega (arith, c.requires.some)) (omega arith) c.index-parts-last.is c.habits_of-habits.ensures

pub habits_of_parts-habits_of-requires : goal.habits_of_parts-habits_of-requires
habits_of_parts-habits_of-requires t c =
    let parts = c.args.parts.now in
    let low : c.loop-i.i - 1 < length parts = omega (arith, c.loop-i-test.true, c.loop-i.auto.i) in
    let fewer = fewer_nodes parts (c.loop-i.i - 1) c.index-parts-i.result low c.index-parts-i.is in
    let formed = formed_part parts (c.loop-i.i - 1) c.index-parts-i.result low c.index-parts-i.is c.requires.formed in
    let named = named_part parts (c.loop-i.i - 1) c.index-parts-i.result low c.index-parts-i.is (is_held (habits_in c.args.table.now)) c.requires.held in
    search rules

pub habits_of_parts-loop-i-preserved : goal.habits_of_parts-loop-i-preserved
habits_of_parts-loop-i-preserved t c =
    let parts = c.args.parts.now in
    let kept = habits_in c.args.table.now in
    subst (λ (h : Habits). SaysFrom kept c.args.mark (drop (c.loop-i.i - 1) parts) h) (sym c.joined-habits.ensures)
    (from_more kept c.args.mark parts c.loop-i.i c.index-parts-i.result c.habits_of.result c.loop-i.habits (omega (arith, c.loop-i-test.true)) (omega (arith, c.loop-i-test.true, c.loop-i.auto.i)) c.index-parts-i.is c.requires.formed
    c.habits_of.ensures c.loop-i.invariant)

pub habits_of_parts-returns : goal.habits_of_parts-returns
habits_of_parts-returns t c =
    let parts = c.args.parts.now in
    let none : c.loop-i.i ≡ 0 = omega (arith, c.loop-i-test.false) in
    subst (λ (n : ℕ). SaysFrom (habits_in c.args.table.now) c.args.mark (drop n parts) c.loop-i.habits) none c.loop-i.invariant
