use Rattle.std.proofs.Common.{◌≡◌, drop, map}
use Rattle.hz_block_model.specs.Running.States as model
use Rattle.hz_rtl.specs.States.{words}
use Rattle.hz_rtl.specs.Stores.{store}
use Rattle.hz_rtl.proofs.running.evaluation.all_stored.Given as goal

-- the stores that are left lead to the state that all lead to
abbrev pub invariant-loop-store : goal.invariant-loop-store
invariant-loop-store l = model.all_stored (words l.state) (map store (drop l.store-index l.stores)) ≡ model.all_stored (words l.fn.state) (map store l.stores)
