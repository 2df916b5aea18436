use Rattle.std.proofs.Common.{◌≡◌, map, take}
use Rattle.hz_check.specs.Parts.Assembly.{placed_statement}
use Rattle.hz_reasons.specs.Plans.{statement_of}
use Rattle.hz_reasons.proofs.planning.sets.sets.Given as goal

abbrev pub invariant-loop-one : goal.invariant-loop-one
invariant-loop-one l = map statement_of l.sets.items ≡ map placed_statement (take l.one-index l.placed)
