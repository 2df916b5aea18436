use Rattle.std.proofs.Common.{get_or}
use Rattle.std.proofs.lemmas.List.Elements.{Contains-get_or}
use Rattle.hz_minim.proofs.marks.Marks.count_all.Goals as goal

pub bounds-blocks-state : goal.bounds-blocks-state
bounds-blocks-state c = c.requires (get_or c.args.states.now c.loop-state.state-index 0) (Contains-get_or c.args.states.now c.loop-state.state-index 0 c.loop-state-test.true)
