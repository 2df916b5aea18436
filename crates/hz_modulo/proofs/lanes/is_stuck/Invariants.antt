use Rattle.std.proofs.Common.{◌≡◌, ◌<◌, ◌-◌, Some, [], ◌∷◌, map}
use Rattle.hz_pipeline_model.specs.Tables.Machines.{parts_walk}
use Rattle.hz_modulo.specs.Walking.{kernel_slot_of, graph_of}
use Rattle.hz_modulo.specs.Repeating.{edge_by}
use Rattle.hz_modulo.specs.Lanes.{states_in}
use Rattle.hz_modulo.proofs.lanes.is_stuck.Given as goal

abbrev pub invariant-loop-turn : goal.invariant-loop-turn
invariant-loop-turn g l = record {
  within : l.state < states_in l.lane;
  stands : parts_walk l.lane.parts (l.state ∷ []) [] ≡ Some (l.state ∷ []);
  here : edge_by l.lane (graph_of l.classes) l.interval (map kernel_slot_of l.kernel) l.turn ≡ Some (l.state ∷ []);
  last : edge_by l.lane (graph_of l.classes) l.interval (map kernel_slot_of l.kernel) (l.turn - 1) ≡ Some (l.before ∷ []);
}
