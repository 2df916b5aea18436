use Rattle.std.proofs.Common.{◌≡◌, ℕ, List, Some, [], ◌∷◌, subst}
use Rattle.std.specs.Bool.{OnTrue, OnFalse}
use Rattle.hz_pipeline_model.specs.Accepting.Events.{issue}
use Rattle.hz_pipeline_model.specs.Tables.Machines.{parts_walk}
use Rattle.hz_tables.specs.Machines.{machine_of}
use Rattle.hz_replay.proofs.ReplayerLemmas.{stand_after}
use Rattle.hz_replay.proofs.replayer.Replayer.issue.Goals as goal

pub invariant_of-self : goal.invariant_of-self
invariant_of-self g c =
    let m = machine_of c.self.inside.machine.now in
    let next = c.walk.new.states in
    let reported = subst (λ (xs : List ℕ). OnTrue c.walk.result (parts_walk m.parts xs (issue c.args.class ∷ []) ≡ Some next)) c.as_mut_slice-states.ensures.value c.walk.ensures.next in
    let stays = subst (λ (xs : List ℕ). OnFalse c.walk.result (next ≡ xs)) c.as_mut_slice-states.ensures.value c.walk.ensures.stays in
    (stand_after m c.self.inside.machine.now.kept c.self.inside.states.items next (issue c.args.class ∷ []) c.walk.result c.self.invariant.0 reported stays, c.self.invariant.1)
