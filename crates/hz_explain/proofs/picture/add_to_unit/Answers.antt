use Rattle.std.proofs.Common.{arith}
use Rattle.hz_explain.proofs.GatherLaws.{holder_added}
use Rattle.hz_explain.proofs.picture.add_to_unit.Goals as goal

pub returns-clause-added : goal.returns-clause-added
returns-clause-added c =
    let made = c.mark_place-place.ensures in
    let a = made.automaton in
    let k = made.unit in
    let i = made.place in
    holder_added c.args.held.now.items c.args.unit.automaton c.args.unit.unit c.mark_place-place.result c.index_mut.result.now c.put.new.list c.args.holder (omega (arith, c.requires)) a k i c.index_mut.ensures.value c.in_ok-put.ensures
