use Rattle.std.proofs.Common.{◌≡◌, ◌∷◌, [], Some}
use Rattle.hz_pipeline_model.specs.Accepting.Events.{advance}
use Rattle.hz_pipeline_model.specs.Tables.Machines.{parts_walk}
use Rattle.hz_modulo.proofs.walking.advance_by.Given as goal

abbrev pub invariant-loop-cycle : goal.invariant-loop-cycle
invariant-loop-cycle g l = record {
  machine : l.walker.machine ≡ l.fn.walker.machine;
  walked : parts_walk l.fn.walker.machine.parts l.fn.walker.states (advance l._cycle ∷ []) ≡ Some l.walker.states;
}
