use Rattle.std.proofs.Common.{◌≡◌, take, map}
use Rattle.hz_sched.specs.Shape.{slots_of}
use Rattle.hz_measure_model.specs.TwoContexts.Joining as model
use Rattle.hz_duo.specs.Shape.{context_slot}
use Rattle.hz_duo.proofs.pairing.in_contexts.Given as goal

-- the slots so far
abbrev pub invariant-loop-slot : goal.invariant-loop-slot
invariant-loop-slot l = map context_slot l.made.items ≡ model.in_contexts l.count (slots_of (take l.slot-index l.slots))
