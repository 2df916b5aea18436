use Rattle.hz_grid.proofs.Steps.{IsRows-nil}
use Rattle.hz_grid.proofs.grid_of.GridOf.empty.Goals as goal

pub invariant_of-result : goal.invariant_of-result
invariant_of-result g c = record { few = c.requires; rows = IsRows-nil _ c.new.ensures.items }
