use Rattle.std.proofs.Common.{◌≡◌, Some, [], map}
use Rattle.hz_pipeline_model.specs.Tables.Machines.{parts_walk}
use Rattle.hz_modulo.specs.Walking.{kernel_slot_of, graph_of, drained_from}
use Rattle.hz_modulo.proofs.walking.drains.Given as goal

abbrev pub invariant-loop-back : goal.invariant-loop-back
invariant-loop-back g l = record {
  machine : l.drain.machine ≡ l.walker.machine;
  stands : parts_walk l.walker.machine.parts l.drain.states [] ≡ Some l.drain.states;
  walked : drained_from l.walker.machine (graph_of l.classes) l.interval (map kernel_slot_of l.kernel) l.turn l.back (Some l.walker.states) ≡ Some l.drain.states;
}
