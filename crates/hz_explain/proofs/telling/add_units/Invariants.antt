use Rattle.std.proofs.Common.{◌≡◌, ◌++◌, take}
use Rattle.hz_explain.specs.Telling.{wording_in, units_reported}
use Rattle.hz_explain.proofs.telling.add_units.Given as goal

abbrev pub invariant-loop-unit : goal.invariant-loop-unit
invariant-loop-unit l = l.text.items ≡ l.fn.text.items ++ units_reported (wording_in l.desc l.parts) (take l.unit-index l.units)
