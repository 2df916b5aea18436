use Rattle.std.proofs.Common.{map}
use Rattle.hz_tables.specs.Parts.{part_of}
use Rattle.hz_tabtext_model.proofs.MachineLaws.{machine_read}
use Rattle.hz_tabfile.specs.Rests.{left_of}
use Rattle.hz_tabfile.proofs.reading.machine.machine_after.Goals as goal

pub invariant_of-result : goal.invariant_of-result
invariant_of-result c = record { kept = machine_read c.args.asked (left_of c.args.rest) (record { classes = c.in_ok-classes.classes.items; parts = map part_of c.in_ok-classes.parts.items }) c.in_ok-classes.ensures.read }
