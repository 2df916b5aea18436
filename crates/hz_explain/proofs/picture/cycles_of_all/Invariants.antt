use Rattle.std.proofs.Common.{◌≡◌, max, drop}
use Rattle.hz_explain.specs.Showing.{cycles_asked}
use Rattle.hz_explain.proofs.picture.cycles_of_all.Given as goal

abbrev pub invariant-loop-choice : goal.invariant-loop-choice
invariant-loop-choice l = cycles_asked l.choices ≡ max (cycles_asked (drop l.choice-index l.choices)) l.cycles
