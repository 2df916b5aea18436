use Rattle.std.proofs.Common.{◌≡◌, ◌≤◌, []}
use Rattle.hz_altern.specs.Answers.{total_weight}
use Rattle.hz_altern.proofs.Weights.{made}
use Rattle.hz_altern.proofs.listing.expanding.copied.Given as goal

-- the copies so far, which are small enough
abbrev pub invariant-loop-alt : goal.invariant-loop-alt
invariant-loop-alt l = (l.listing ≡ made [] (λ a. a) l.alts l.alt-index) × (total_weight l.listing ≤ l.most)
