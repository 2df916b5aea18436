use Rattle.std.proofs.Common.{◌≡◌, Some, [], drop}
use Rattle.hz_pipeline_model.specs.Tables.Machines.{parts_walk}
use Rattle.hz_modulo.specs.Walking.{graph_of, walk_rest}
use Rattle.hz_modulo.proofs.walking.walk_interval.Given as goal

-- what is left, from the states now, is walked as all from the states at entry
abbrev pub invariant-loop-slot : goal.invariant-loop-slot
invariant-loop-slot g l = record {
  machine : l.walker.machine ≡ l.fn.walker.machine;
  stands : parts_walk l.fn.walker.machine.parts l.walker.states [] ≡ Some l.walker.states;
  rest : walk_rest l.fn.walker.machine (graph_of l.classes) l.interval l.least l.most (drop l.slot-index l.kernel) l.cycle l.walker.states
      ≡ walk_rest l.fn.walker.machine (graph_of l.classes) l.interval l.least l.most l.kernel 0 l.fn.walker.states;
}
