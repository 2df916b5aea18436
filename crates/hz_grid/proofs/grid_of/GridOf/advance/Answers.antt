use Rattle.hz_grid.proofs.Pairs.{IsGrid-pairs_from}
use Rattle.hz_grid.proofs.Steps.{IsRows-drop, IsAdvanced-rows}
use Rattle.hz_grid.proofs.grid_of.GridOf.advance.Goals as goal

pub returns-clause-grid : goal.returns-clause-grid
returns-clause-grid g c = rw c.drop_first.ensures (IsGrid-pairs_from _ (IsRows-drop _ c.self.invariant.rows))

pub returns-clause-pairs : goal.returns-clause-pairs
returns-clause-pairs g c = rw (c.drop_first.ensures, ← c.self.view_is) (record { pairs = IsAdvanced-rows _ c.self.invariant.rows })

pub invariant_of-self : goal.invariant_of-self
invariant_of-self g c = rw c.drop_first.ensures (record { few = c.self.invariant.few; rows = IsRows-drop _ c.self.invariant.rows })
