use Rattle.std.proofs.Common.{◌≡◌, drop, filter}
use Rattle.hz_check.specs.Names.Held.{is_held}
use Rattle.hz_check.specs.Names.First.{first_of}
use Rattle.hz_check.proofs.names.tables.first_held.Given as goal

abbrev pub invariant-loop-name : goal.invariant-loop-name
invariant-loop-name g l = first_of (filter (is_held l.table) (drop l.name-index l.names)) ≡ first_of (filter (is_held l.table) l.names)
