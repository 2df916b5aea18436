use Rattle.std.proofs.Common.{◌+◌, get_or, take, sym, ◌∙◌, subst, arith}
use Rattle.std.proofs.lemmas.List.Elements.{Contains-get_or}
use Rattle.hz_minim.specs.Moves.{IsMoved, goes_to}
use Rattle.hz_minim.proofs.MoveLaws.{goes_once, moved_more}
use Rattle.hz_minim.proofs.partition.Partition.move_all.Goals as goal

pub move_one-requires-clause-state : goal.move_one-requires-clause-state
move_one-requires-clause-state c =
    let there = c.requires.states (get_or c.args.states.now c.loop-state.state-index 0) (Contains-get_or c.args.states.now c.loop-state.state-index 0 c.loop-state-test.true) in
    omega (arith, c.loop-state.invariant.moved.each)

pub loop-state-preserved : goal.loop-state-preserved
loop-state-preserved c =
    let states = c.args.states.now in
    let goes = goes_to c.args.marks.now c.args.old in
    let before = c.args.self.now.blocks.items in
    let i = c.loop-state.state-index in
    let there = c.requires.states (get_or states i 0) (Contains-get_or states i 0 c.loop-state-test.true) in
    record {
      moved = subst (IsMoved goes (take (i + 1) states) before) (sym c.in_ok-move_one.ensures.moved)
          (moved_more goes (goes_once c.args.marks.now c.args.old) states before c.loop-state.self.blocks.items i c.loop-state-test.true there c.loop-state.invariant.moved);
      listed = c.in_ok-move_one.ensures.listed;
      members = c.in_ok-move_one.ensures.members ∙ c.loop-state.invariant.members;
    }
