use Rattle.std.proofs.Common.{Some, None, [], ◌∷◌}
use Rattle.std.proofs.lemmas.Option.{IfSome_then}
use Rattle.hz_pipeline_model.specs.Accepting.Events.{issue}
use Rattle.hz_block_model.specs.Scheduling.Schedules.{advance_to}
use Rattle.hz_modulo.proofs.WalkingLemmas.{walked_after}
use Rattle.hz_modulo.proofs.LaneLemmas.{none_then}
use Rattle.hz_modulo.proofs.lanes.issue_at.Goals as goal

pub returns-clause-taken : goal.returns-clause-taken
returns-clause-taken g c = IfSome_then c.issue.result c.issue.ensures.taken (λ next e.
    walked_after c.args.lane.now.parts (c.args.state ∷ []) (c.advance_until.result ∷ []) (advance_to c.args.cycle c.args.later) (issue c.args.class ∷ []) (Some (next ∷ [])) c.advance_until.ensures.taken e)

pub returns-clause-refused : goal.returns-clause-refused
returns-clause-refused g c = none_then c.issue.result c.issue.ensures.refused (λ e.
    walked_after c.args.lane.now.parts (c.args.state ∷ []) (c.advance_until.result ∷ []) (advance_to c.args.cycle c.args.later) (issue c.args.class ∷ []) None c.advance_until.ensures.taken e)
