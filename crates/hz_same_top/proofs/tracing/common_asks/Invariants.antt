use Rattle.std.proofs.Common.{◌≡◌, map, take}
use Rattle.std.specs.Prelude.{filter}
use Rattle.hz_pipeline_model.specs.Tables.Machines.{names_of}
use Rattle.hz_tables.specs.Machines.{machine_of}
use Rattle.hz_tables.specs.Parts.{part_of}
use Rattle.hz_same_model.specs.Common.{has_ask}
use Rattle.hz_same_top.specs.Names.{names_in}
use Rattle.hz_same_top.proofs.tracing.common_asks.Given as goal

abbrev pub invariant-loop-part : goal.invariant-loop-part
invariant-loop-part l = names_in l.names.items ≡ filter (has_ask (machine_of l.second)) (names_of (take l.part-index (map part_of l.parts)))
