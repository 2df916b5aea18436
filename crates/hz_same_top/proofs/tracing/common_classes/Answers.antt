use Rattle.std.proofs.Common.{[]}
use Rattle.hz_tables.specs.Machines.{machine_of}
use Rattle.hz_same_model.specs.Common.{has_class}
use Rattle.hz_same_top.specs.Names.{names_in}
use Rattle.hz_same_top.proofs.NameLaws.{name_more}
use Rattle.hz_same_top.proofs.tracing.common_classes.Goals as goal

pub loop-name-preserved : goal.loop-name-preserved
loop-name-preserved c =
    name_more (has_class (machine_of c.args.second.now)) c.args.classes.now c.loop-name.name-index c.name-item.result c.has_class.result [] (names_in c.loop-name.names.items) (names_in c.push_common.new.names.items)
    c.loop-name-test.true c.name-item.is c.has_class.ensures c.loop-name.invariant c.in_ok-push_common.ensures
