use Rattle.std.proofs.lemmas.Bool.{OnTrue_at}
use Rattle.hz_pipeline_model.specs.Tables.Machines.{part_at}
use Rattle.hz_tables.specs.Machines.{machine_of}
use Rattle.hz_modulo.proofs.RoomLemmas.{are_heights, is_low, part_there}
use Rattle.hz_modulo.proofs.loads.least_by.Goals as goal

pub returns-then-are_high : goal.returns-then-are_high
returns-then-are_high g c =
    is_low (machine_of c.args.machine.now) (part_at (machine_of c.args.machine.now) c.args.part) c.args.classes.now _ _ _ c.total-sum.result c.least_interval-least.result
    (part_there c.args.machine.now c.args.part c.requires.part)
    (are_heights (part_at (machine_of c.args.machine.now) c.args.part) c.args.classes.now c.args.once.now _ _ _ c.requires.among (OnTrue_at c.if-are_high.true c.are_high.ensures))
    c.total-sum.ensures c.least_interval-least.ensures
