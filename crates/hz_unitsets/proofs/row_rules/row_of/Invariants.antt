use Rattle.std.proofs.Common.{take}
use Rattle.hz_unitsets.proofs.RowUnits.{HasJust}
use Rattle.hz_unitsets.proofs.row_rules.row_of.Given as goal

abbrev pub invariant-loop-unit : goal.invariant-loop-unit
invariant-loop-unit l = HasJust (take l.unit-index l.units) l.row
