use Rattle.std.proofs.Common.{◌≡◌, ◌++◌, map, filter, take}
use Rattle.hz_tables.specs.Machines.{machine_of}
use Rattle.hz_same_model.specs.Common.{has_class, issue_of}
use Rattle.hz_product.specs.Symbols.{event_of}
use Rattle.hz_product.proofs.symbols.add_issues.Given as goal

abbrev pub invariant-loop-name : goal.invariant-loop-name
invariant-loop-name l =
    map event_of l.events.items ≡ map event_of l.fn.events.items ++ map (issue_of (machine_of l.machine)) (filter (has_class (machine_of l.second)) (take l.name-index l.classes))
