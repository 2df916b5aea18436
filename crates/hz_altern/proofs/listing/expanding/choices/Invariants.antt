use Rattle.std.proofs.Common.{◌≡◌, ◌≤◌}
use Rattle.hz_altern.specs.Answers.{total_weight}
use Rattle.hz_altern.specs.Joinings.{joined_by}
use Rattle.hz_altern.specs.Shapes.{alternatives}
use Rattle.hz_altern.proofs.Weights.{chosen}
use Rattle.hz_altern.proofs.listing.expanding.choices.Given as goal

-- the choices with the first alternatives so far, which are small enough
abbrev pub invariant-loop-first : goal.invariant-loop-first
invariant-loop-first l = (l.listing ≡ chosen (joined_by l.joining) l.firsts (alternatives l.seconds) l.first-index) × (total_weight l.listing ≤ l.most)
