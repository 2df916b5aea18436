use Rattle.std.proofs.Common.{take, map}
use Rattle.hz_auto.specs.Reports.{AreArranged}
use Rattle.hz_auto.proofs.report.states_of.Given as goal

abbrev pub invariant-loop-set : goal.invariant-loop-set
invariant-loop-set l = AreArranged l.grids (map (λ set. set.items) (take l.set-index l.sets)) (map (λ state. state.items) l.states.items)
