use Rattle.hz_pipeline_model.proofs.Accepting.PlayLaws.{plays_run, run_plays, accepts_decides, accepted_or_first_refused}
use Rattle.hz_pipeline_model.proofs.acceptance.acceptance_is_computed.Goals as goal

pub returns-clause-states : goal.returns-clause-states
returns-clause-states g c = λ same tells m t old new. (plays_run same tells m t old new, run_plays same tells m t old new)

pub returns-clause-decided : goal.returns-clause-decided
returns-clause-decided g c = accepts_decides

pub returns-clause-each : goal.returns-clause-each
returns-clause-each g c = accepted_or_first_refused
