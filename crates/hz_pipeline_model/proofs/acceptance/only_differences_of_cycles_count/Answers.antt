use Rattle.hz_pipeline_model.proofs.Accepting.AcceptanceLaws.{moved_accepted, moved_refused}
use Rattle.hz_pipeline_model.proofs.acceptance.only_differences_of_cycles_count.Goals as goal

pub returns-clause-acceptance : goal.returns-clause-acceptance
returns-clause-acceptance g c = moved_accepted

pub returns-clause-refused : goal.returns-clause-refused
returns-clause-refused g c = moved_refused
