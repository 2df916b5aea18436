use Rattle.std.proofs.Common.{◌≡◌, ℕ, ◌<◌}
use Rattle.hz_check_reservations.specs.Circles.{lead_of}
use Rattle.hz_check_reservations.specs.declared.ordering.circle.Lead.TheVariants.{Around}
use Rattle.hz_check_reservations.proofs.ordering.circle.Labels.first_around.Given as goal

abbrev pub invariant-loop-node : goal.invariant-loop-node
invariant-loop-node l = (node : ℕ) → node < l.node → lead_of l.self.leads.items node ≡ Around → ⊥
