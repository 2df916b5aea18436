use Rattle.std.proofs.lemmas.Bool.{OnTrue_at}
use Rattle.hz_pipeline_model.specs.Tables.Machines.{part_at}
use Rattle.hz_tables.specs.Machines.{machine_of}
use Rattle.hz_modulo.proofs.RoomLemmas.{high_more}
use Rattle.hz_modulo.proofs.heights.are_high.Goals as goal

pub loop-state-preserved : goal.loop-state-preserved
loop-state-preserved g c = high_more (part_at (machine_of c.args.machine.now) c.args.part) c.args.classes.now c.args.weights.now c.args.share c.args.heights.now c.loop-state.state c.loop-state.invariant (OnTrue_at c.if-not-are_raised.false c.are_raised.ensures) (OnTrue_at c.if-not-is_lowered.false c.is_lowered.ensures)
