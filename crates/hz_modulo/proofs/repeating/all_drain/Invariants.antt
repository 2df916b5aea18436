use Rattle.std.proofs.Common.{◌≡◌, ◌<◌, ℕ, true, Some, [], map}
use Rattle.std.specs.Prelude.{is_some}
use Rattle.hz_pipeline_model.specs.Tables.Machines.{parts_walk}
use Rattle.hz_modulo.specs.Walking.{kernel_slot_of, graph_of}
use Rattle.hz_modulo.specs.Repeating.{edge_by, drain_by}
use Rattle.hz_modulo.proofs.repeating.all_drain.Given as goal

abbrev pub invariant-loop-turn : goal.invariant-loop-turn
invariant-loop-turn g l = record {
  machine : l.walker.machine ≡ l.fn.walker.machine;
  stands : parts_walk l.fn.walker.machine.parts l.walker.states [] ≡ Some l.walker.states;
  here : edge_by l.fn.walker.machine (graph_of l.classes) l.interval (map kernel_slot_of l.kernel) l.turn ≡ Some l.walker.states;
  fewer : (count : ℕ) → count < l.turn → is_some (drain_by l.fn.walker.machine (graph_of l.classes) l.interval (map kernel_slot_of l.kernel) l.stages count) ≡ true;
}
