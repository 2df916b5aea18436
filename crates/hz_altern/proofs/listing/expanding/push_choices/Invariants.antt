use Rattle.std.proofs.Common.{◌≡◌, ◌≤◌}
use Rattle.hz_altern.specs.Answers.{total_weight}
use Rattle.hz_altern.specs.Joinings.{joined_by}
use Rattle.hz_altern.specs.Shapes.{alternative_of}
use Rattle.hz_altern.proofs.Weights.{made}
use Rattle.hz_altern.proofs.listing.expanding.push_choices.Given as goal

-- the choices so far, which are small enough
abbrev pub invariant-loop-second : goal.invariant-loop-second
invariant-loop-second l = (l.listing ≡ made l.initial.listing (joined_by l.joining (alternative_of l.first)) l.seconds l.second-index) × (total_weight l.listing ≤ l.most)
