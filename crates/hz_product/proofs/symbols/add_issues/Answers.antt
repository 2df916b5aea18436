use Rattle.std.proofs.Common.{map}
use Rattle.hz_tables.specs.Machines.{machine_of}
use Rattle.hz_same_model.specs.Common.{has_class, issue_of}
use Rattle.hz_product.specs.Symbols.{event_of}
use Rattle.hz_product.proofs.EventLists.{more_events}
use Rattle.hz_product.proofs.symbols.add_issues.Goals as goal

pub loop-name-preserved : goal.loop-name-preserved
loop-name-preserved c =
    more_events (issue_of (machine_of c.args.machine.now)) (has_class (machine_of c.args.second.now)) c.args.classes.now c.loop-name.name-index c.name-item.result
    (map event_of c.args.events.now.items) (map event_of c.loop-name.events.items) (map event_of c.add_issue.new.events.items)
    c.loop-name-test.true c.name-item.is c.loop-name.invariant c.in_ok-add_issue.ensures
