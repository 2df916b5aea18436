use Rattle.hz_pipeline_model.proofs.Accepting.FittingLaws.{unbroken_added, unbroken_run}
use Rattle.hz_pipeline_model.proofs.fitting.runs_break_no_exclusion.Goals as goal

pub returns-clause-added : goal.returns-clause-added
returns-clause-added g c = unbroken_added

pub returns-clause-runs : goal.returns-clause-runs
returns-clause-runs g c = unbroken_run
