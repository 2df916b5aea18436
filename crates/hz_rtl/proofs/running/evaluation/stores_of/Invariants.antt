use Rattle.std.proofs.Common.{◌≡◌, ◌++◌, drop, map}
use Rattle.std.specs.List.{flat_map}
use Rattle.hz_block_model.specs.Running.States as model
use Rattle.hz_rtl.specs.Shape.{effect}
use Rattle.hz_rtl.specs.States.{words}
use Rattle.hz_rtl.specs.Stores.{store}
use Rattle.hz_rtl.proofs.running.evaluation.stores_of.Given as goal

-- the stores so far, with those of the effects that are left, are all of them
abbrev pub invariant-loop-effect : goal.invariant-loop-effect
invariant-loop-effect l =
    map store l.stores.items ++ flat_map (model.stores_of_effect (words l.state) l.insn.number) (map effect (drop l.effect-index l.insn.effects.items))
    ≡ flat_map (model.stores_of_effect (words l.state) l.insn.number) (map effect l.insn.effects.items)
