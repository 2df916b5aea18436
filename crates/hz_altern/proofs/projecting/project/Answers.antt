use Rattle.hz_altern.specs.Shapes.{alternative_of}
use Rattle.hz_altern.proofs.CutLemmas.{list_in_more, cut_joins}
use Rattle.hz_altern.proofs.ListLemmas.{item_holds}
use Rattle.hz_description_model.specs.Reservations.AlternativeLists.{IsCuttable}
use Rattle.hz_altern.proofs.projecting.project.Goals as goal

pub cut-requires : goal.cut-requires
cut-requires c = item_holds IsCuttable alternative_of c.args.alts.now c.loop-alt.alt-index c.alt-item.result c.loop-alt-test.true c.alt-item.is c.requires

pub loop-alt-preserved : goal.loop-alt-preserved
loop-alt-preserved c =
    let more = list_in_more c.args.automaton c.args.alts.now c.loop-alt.alt-index c.alt-item.result c.loop-alt-test.true c.alt-item.is in
    let grids = c.loop-alt.grids.items in
    let both = cut_joins _ _ _ _ grids _ _ _ c.in_ok-pairs.grid c.in_ok-new.new more c.in_ok-pairs.ensures.pairs c.in_ok-pairs.ensures.grid c.loop-alt.invariant.seen c.loop-alt.invariant.grids c.in_ok-new.ensures.new c.in_ok-new.ensures.seen c.in_ok-keep_new.ensures in
    record { grids = both.0; seen = both.1 }
