use Rattle.std.proofs.Common.{◌≡◌, map, take}
use Rattle.hz_pipeline_model.specs.Tables.Machines.{Part}
use Rattle.hz_tables.specs.Machines.{machine_of}
use Rattle.hz_replay.specs.Names.{all_names_in}
use Rattle.hz_replay.proofs.names.units_of.Given as goal

abbrev pub invariant-loop-part : goal.invariant-loop-part
invariant-loop-part l = all_names_in l.units.items ≡ map (λ (p : Part). p.asks) (take l.part-index (machine_of l.machine).parts)
