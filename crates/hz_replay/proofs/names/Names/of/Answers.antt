use Rattle.std.proofs.Common.{◌∙◌}
use Rattle.hz_replay.proofs.NameLemmas.{few_classes, few_units}
use Rattle.hz_replay.proofs.names.Names.of.Goals as goal

pub invariant_of-result : goal.invariant_of-result
invariant_of-result c =
    let machine = c.args.machine.now in
    let units = few_units machine c.in_ok-units.units.items machine.kept c.in_ok-units.ensures in
    (few_classes machine c.in_ok-classes.classes machine.kept (c.in_ok-classes.ensures ∙ c.deref.ensures.value), units.0, units.1)
