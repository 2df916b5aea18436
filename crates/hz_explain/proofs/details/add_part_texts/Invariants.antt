use Rattle.std.proofs.Common.{◌≡◌, ◌++◌, map, take}
use Rattle.hz_explain.specs.Detailing.{texts_of, part_reported}
use Rattle.hz_explain.specs.Telling.{wording_in}
use Rattle.hz_explain.proofs.details.add_part_texts.Given as goal

abbrev pub invariant-loop-unit : goal.invariant-loop-unit
invariant-loop-unit l = texts_of l.texts.items ≡ texts_of l.fn.texts.items ++ map (part_reported (wording_in l.desc l.parts) l.plan l.issues l.cycle) (take l.unit-index l.units)
