use Rattle.std.proofs.Common.{◌≡◌, drop, filter, not}
use Rattle.hz_check.specs.Names.Held.{is_held}
use Rattle.hz_check.specs.Names.First.{first_of}
use Rattle.hz_check.proofs.names.tables.first_missing.Given as goal

abbrev pub invariant-loop-name : goal.invariant-loop-name
invariant-loop-name g l =
    first_of (filter (λ name. not (is_held l.table name)) (drop l.name-index l.names)) ≡ first_of (filter (λ name. not (is_held l.table name)) l.names)
