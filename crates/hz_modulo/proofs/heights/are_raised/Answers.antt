use Rattle.std.proofs.Common.{arith, rules}
use Rattle.std.proofs.lemmas.Bool.{OnTrue_at}
use Rattle.hz_pipeline_model.specs.Tables.Machines.{part_at}
use Rattle.hz_tables.specs.Machines.{machine_of}
use Rattle.hz_modulo.specs.Heights.{IsRaised}
use Rattle.hz_modulo.proofs.RoomLemmas.{all_more, all_taken}
use Rattle.hz_modulo.proofs.heights.are_raised.Goals as goal

pub loop-class-preserved : goal.loop-class-preserved
loop-class-preserved g c = all_more (IsRaised (part_at (machine_of c.args.machine.now) c.args.part) c.args.weights.now c.args.heights.now c.args.state) c.args.classes.now c.loop-class.class-index _ c.loop-class-test.true (search rules) c.loop-class.invariant (OnTrue_at c.if-not-is_raised.false c.is_raised.ensures)

pub returns : goal.returns
returns g c = all_taken (IsRaised (part_at (machine_of c.args.machine.now) c.args.part) c.args.weights.now c.args.heights.now c.args.state) c.args.classes.now c.loop-class.class-index (omega (arith, c.loop-class-test.false)) c.loop-class.invariant
