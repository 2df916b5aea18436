use Rattle.std.proofs.Common.{sym, ◌∙◌, arith}
use Rattle.hz_rtl.specs.States.{words}
use Rattle.hz_rtl.proofs.StateLemmas.{store_more, stores_end}
use Rattle.hz_rtl.proofs.running.evaluation.all_stored.Goals as goal

pub loop-store-preserved : goal.loop-store-preserved
loop-store-preserved c = store_more c.args.stores.now c.loop-store.store-index _ (words c.loop-store.state) (words c.in_ok-state.state) (omega arith) c.in_ok-state.ensures ∙ c.loop-store.invariant

pub returns : goal.returns
returns c = sym (stores_end c.args.stores.now c.loop-store.store-index (words c.loop-store.state) (omega arith)) ∙ c.loop-store.invariant
