use Rattle.std.proofs.Common.{◌≡◌, ◌<◌, Some, [], ◌∷◌, drop}
use Rattle.hz_pipeline_model.specs.Tables.Machines.{parts_walk}
use Rattle.hz_modulo.specs.Walking.{graph_of, walk_rest}
use Rattle.hz_modulo.specs.Lanes.{states_in}
use Rattle.hz_modulo.proofs.lanes.walk_turn.Given as goal

-- what is left, from the place now, is walked as all from the state at entry
abbrev pub invariant-loop-slot : goal.invariant-loop-slot
invariant-loop-slot g l = record {
  within : l.place.state < states_in l.lane;
  stands : parts_walk l.lane.parts (l.place.state ∷ []) [] ≡ Some (l.place.state ∷ []);
  rest : walk_rest l.lane (graph_of l.classes) l.interval 0 l.turn (drop l.slot-index l.kernel) l.place.cycle (l.place.state ∷ [])
      ≡ walk_rest l.lane (graph_of l.classes) l.interval 0 l.turn l.kernel 0 (l.state ∷ []);
}
