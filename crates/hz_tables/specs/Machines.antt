-- A machine as a definition.
use Rattle.std.specs.Prelude.{map}
use Rattle.hz_pipeline_model.specs.Tables.Machines as model
use Rattle.hz_tables.specs.declared.machine.Machine as declared
use Rattle.hz_tables.specs.Parts.{part_of}

abbrev pub machine_of : declared.Machine → model.Machine
machine_of m = record { classes = m.classes.items; parts = map part_of m.parts.items }
