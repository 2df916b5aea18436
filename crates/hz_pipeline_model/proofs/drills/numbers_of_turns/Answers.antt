use Rattle.hz_pipeline_model.proofs.Traces.DrillLaws.{number_more}
use Rattle.hz_pipeline_model.proofs.drills.numbers_of_turns.Goals as goal

pub returns-clause-next : goal.returns-clause-next
returns-clause-next c = number_more
