use Rattle.std.proofs.Common.{◌≡◌, max, map, drop}
use Rattle.std.specs.Prelude.{decimal}
use Rattle.hz_why_model.specs.Pictures.{longest}
use Rattle.hz_explain.specs.Showing.{longest_shown}
use Rattle.hz_explain.proofs.picture.longest_cell.Given as goal

abbrev pub invariant-loop-holder : goal.invariant-loop-holder
invariant-loop-holder l = max l.most (longest (map (λ h. decimal h.line) (drop l.holder-index l.issues))) ≡ longest_shown l.issues l.cycles
