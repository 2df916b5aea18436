use Rattle.hz_pipeline_model.proofs.Accepting.AcceptanceLaws.{advances_accepted, advances_run}
use Rattle.hz_pipeline_model.proofs.acceptance.advances_add_up.Goals as goal

pub returns-clause-acceptance : goal.returns-clause-acceptance
returns-clause-acceptance g c = advances_accepted

pub returns-clause-states : goal.returns-clause-states
returns-clause-states g c = advances_run
