use Rattle.std.proofs.Common.{All, sym, subst, arith}
use Rattle.std.proofs.lemmas.List.Elements.{All-push}
use Rattle.hz_unitsets.specs.RowRules.{IsBlock}
use Rattle.hz_unitsets.proofs.rules.blocks_of.Goals as goal

pub loop-from-preserved : goal.loop-from-preserved
loop-from-preserved c =
    let rules = c.args.rules.now in
    record {
      blocks = subst (All (IsBlock rules)) (sym c.in_ok-push.ensures.items) (All-push (IsBlock rules) c.loop-from.blocks.items c.block_of.result c.loop-from.invariant.blocks c.block_of.ensures.block);
      within = omega (arith, c.loop-from-test.true);
    }
