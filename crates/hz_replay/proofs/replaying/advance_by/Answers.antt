use Rattle.std.proofs.Common.{◌≡◌, ◌+◌, ◌*◌, ◌≤◌, Some, [], ◌∷◌, length, refl, ◌∙◌, subst, arith}
use Rattle.hz_pipeline_model.specs.Accepting.Events.{advance}
use Rattle.hz_pipeline_model.specs.Tables.Machines.{Machine, parts_walk}
use Rattle.hz_replay.proofs.EventLemmas.{none_advanced, one_cycle_more, steps_more, steps_once}
use Rattle.hz_replay.proofs.replaying.advance_by.Goals as goal

pub loop-cycle-init : goal.loop-cycle-init
loop-cycle-init g c = record { machine = refl; walked = none_advanced c.args.replayer.now.machine.parts c.args.replayer.now.states c.requires; cost = omega arith }

pub loop-cycle-preserved : goal.loop-cycle-preserved
loop-cycle-preserved g c =
    let parts = length c.args.replayer.now.machine.parts in
    let once = steps_once parts c.loop-cycle.steps c.advance.new.steps (subst (λ (m : Machine). c.advance.new.steps ≤ c.loop-cycle.steps + 4 * length m.parts) c.loop-cycle.invariant.machine c.advance.ensures.cost) in
    record {
      machine = c.advance.ensures.machine ∙ c.loop-cycle.invariant.machine;
      walked = one_cycle_more c.args.replayer.now.machine.parts c.args.replayer.now.states c.loop-cycle.replayer.states c.advance.new.self.states c.loop-cycle._cycle c.loop-cycle.invariant.walked
          (subst (λ (m : Machine). parts_walk m.parts c.loop-cycle.replayer.states (advance 1 ∷ []) ≡ Some c.advance.new.self.states) c.loop-cycle.invariant.machine c.advance.ensures.taken);
      cost = steps_more parts c.loop-cycle._cycle 1 (c.loop-cycle._cycle + 1) c.args.steps.now c.loop-cycle.steps c.advance.new.steps refl c.loop-cycle.invariant.cost once;
    }
