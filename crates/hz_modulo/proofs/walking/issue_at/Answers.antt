use Rattle.std.proofs.Common.{◌≡◌, Some, None, [], ◌∷◌, subst}
use Rattle.std.proofs.lemmas.Bool.{OnTrue_at, OnFalse_at, OnTrue_from, OnFalse_from}
use Rattle.hz_pipeline_model.specs.Accepting.Events.{issue}
use Rattle.hz_pipeline_model.specs.Tables.Machines.{Machine, parts_walk}
use Rattle.hz_block_model.specs.Scheduling.Schedules.{advance_to}
use Rattle.hz_modulo.proofs.WalkingLemmas.{walked_after}
use Rattle.hz_modulo.proofs.walking.issue_at.Goals as goal

pub returns-clause-taken : goal.returns-clause-taken
returns-clause-taken g c = OnTrue_from c.issue.result _ (λ e.
    walked_after c.args.walker.now.machine.parts c.args.walker.now.states c.advance_until.new.walker.states (advance_to c.args.cycle c.args.later) (issue c.args.class ∷ []) (Some c.issue.new.self.states)
    c.advance_until.ensures.taken
    (subst (λ (m : Machine). parts_walk m.parts c.advance_until.new.walker.states (issue c.args.class ∷ []) ≡ Some c.issue.new.self.states) c.advance_until.ensures.machine (OnTrue_at e c.issue.ensures.taken)))

pub returns-clause-refused : goal.returns-clause-refused
returns-clause-refused g c = OnFalse_from c.issue.result _ (λ e.
    walked_after c.args.walker.now.machine.parts c.args.walker.now.states c.advance_until.new.walker.states (advance_to c.args.cycle c.args.later) (issue c.args.class ∷ []) None
    c.advance_until.ensures.taken
    (subst (λ (m : Machine). parts_walk m.parts c.advance_until.new.walker.states (issue c.args.class ∷ []) ≡ None) c.advance_until.ensures.machine (OnFalse_at e c.issue.ensures.refused)))
