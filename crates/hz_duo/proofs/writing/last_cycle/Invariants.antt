use Rattle.std.proofs.Common.{◌≡◌, drop, map}
use Rattle.hz_measure_model.specs.TwoContexts.Texts as model
use Rattle.hz_duo.specs.Shape.{context_slot}
use Rattle.hz_duo.proofs.writing.last_cycle.Given as goal

-- the cycle so far, with the slots that are left, is that of the last
abbrev pub invariant-loop-slot : goal.invariant-loop-slot
invariant-loop-slot l = model.last_cycle l.cycle (map context_slot (drop l.slot-index l.slots)) ≡ model.last_cycle 0 (map context_slot l.slots)
