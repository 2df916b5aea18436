use Rattle.std.proofs.Common.{◌<◌, [], length, get_or, map, All, sym, ap, ◌∙◌, subst, arith}
use Rattle.std.proofs.lemmas.List.{get_or_default, take_all}
use Rattle.std.proofs.lemmas.List.Elements.{All-push, All-get_or}
use Rattle.std.proofs.lemmas.List.Sorted.{All-permutation}
use Rattle.std.specs.Prelude.{IsPermutation}
use Rattle.hz_grid.specs.Grids.{IsGrid}
use Rattle.hz_pipeline_model.specs.Reaching.Built.{grid_at}
use Rattle.hz_auto.proofs.ReportLemmas.{copied_more}
use Rattle.hz_auto.proofs.report.arranged.Goals as goal

pub loop-number-preserved : goal.loop-number-preserved
loop-number-preserved c =
    let within = All-get_or (λ number. number < length c.args.grids.now) c.args.set.now c.loop-number.number-index 0 c.loop-number-test.true c.requires in
    record {
      copied = copied_more c.args.grids.now c.args.set.now c.loop-number.number-index c.loop-number.state.items c.push.new.self.items c.in_ok-copy.field-0 c.loop-number-test.true (c.in_ok-copy.ensures.same ∙ (c.index-grids-number.is ∙ get_or_default c.args.grids.now (get_or c.args.set.now c.loop-number.number-index 0) c.index-grids-number.result [] within)) c.in_ok-push.ensures.items c.loop-number.invariant.copied;
      each = subst (All IsGrid) (sym c.in_ok-push.ensures.items) (All-push IsGrid c.loop-number.state.items c.in_ok-copy.field-0 c.loop-number.invariant.each c.in_ok-copy.ensures.grid);
    }

pub returns : goal.returns
returns c =
    let end = c.loop-number-test.false in
    let whole = take_all c.loop-number.number-index c.args.set.now (omega (arith, end)) in
    record {
      moved = subst (λ xs. IsPermutation xs c.sort.new.self.items) (c.loop-number.invariant.copied ∙ ap (map (grid_at c.args.grids.now)) whole) c.in_ok-sort.ensures.permutation;
      sorted = c.in_ok-sort.ensures.sorted;
      each = All-permutation IsGrid c.loop-number.state.items c.sort.new.self.items c.in_ok-sort.ensures.permutation c.loop-number.invariant.each;
    }
