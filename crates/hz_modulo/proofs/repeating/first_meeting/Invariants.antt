use Rattle.std.proofs.Common.{◌≡◌, Some, [], map}
use Rattle.hz_pipeline_model.specs.Tables.Machines.{parts_walk}
use Rattle.hz_modulo.specs.Walking.{kernel_slot_of, graph_of}
use Rattle.hz_modulo.specs.Repeating.{edge_by, lists_in}
use Rattle.hz_modulo.proofs.KeptStates.{AreKept}
use Rattle.hz_modulo.proofs.ScanLemmas.{IsScanned}
use Rattle.hz_modulo.proofs.repeating.first_meeting.Given as goal

abbrev pub invariant-loop-turn : goal.invariant-loop-turn
invariant-loop-turn g l = record {
  machine : l.walker.machine ≡ l.fn.walker.machine;
  stands : parts_walk l.fn.walker.machine.parts l.walker.states [] ≡ Some l.walker.states;
  here : edge_by l.fn.walker.machine (graph_of l.classes) l.interval (map kernel_slot_of l.kernel) l.turn ≡ Some l.walker.states;
  scanned : IsScanned (edge_by l.fn.walker.machine (graph_of l.classes) l.interval (map kernel_slot_of l.kernel)) (λ count. Some []) l.stages l.turn;
  kept : AreKept (edge_by l.fn.walker.machine (graph_of l.classes) l.interval (map kernel_slot_of l.kernel)) l.stages l.turn (lists_in l.held.items);
}
