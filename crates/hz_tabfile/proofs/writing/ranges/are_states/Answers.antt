use Rattle.std.proofs.Common.{ℕ, List, subst, arith}
use Rattle.std.specs.Prelude.{All}
use Rattle.hz_base_model.specs.Pairs.{Pair}
use Rattle.hz_grid.specs.Grids.{IsGrid}
use Rattle.std.specs.declared.alloc.Global.{Global}
use Rattle.std.specs.declared.vec.Vec.{Vec}
use Rattle.hz_tabfile.proofs.Ranges.{all_more, all_done}
use Rattle.hz_tabfile.proofs.writing.ranges.are_states.Goals as goal

pub loop-grids-preserved : goal.loop-grids-preserved
loop-grids-preserved c = all_more (λ (grids : Vec (List (Pair ℕ)) Global). All IsGrid grids.items) c.args.states.now c.loop-grids.grids-index c.grids-item.result (omega arith) c.grids-item.is c.loop-grids.invariant (subst (λ (grids : List (List (Pair ℕ))). All IsGrid grids) c.deref.ensures.value c.are_grids.ensures)

pub returns : goal.returns
returns c = all_done (λ (grids : Vec (List (Pair ℕ)) Global). All IsGrid grids.items) c.args.states.now c.loop-grids.grids-index (omega arith) c.loop-grids.invariant
