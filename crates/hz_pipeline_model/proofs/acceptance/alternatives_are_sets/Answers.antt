use Rattle.hz_pipeline_model.proofs.Accepting.SameLaws.{accepted_same, refused_same}
use Rattle.hz_pipeline_model.proofs.acceptance.alternatives_are_sets.Goals as goal

pub returns-clause-acceptance : goal.returns-clause-acceptance
returns-clause-acceptance g c = accepted_same

pub returns-clause-refused : goal.returns-clause-refused
returns-clause-refused g c = refused_same
