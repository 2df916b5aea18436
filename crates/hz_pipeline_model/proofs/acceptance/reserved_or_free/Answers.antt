use Rattle.hz_pipeline_model.proofs.Accepting.AskLaws.{held_by_choice, held_by_run, held_or_free}
use Rattle.hz_pipeline_model.proofs.acceptance.reserved_or_free.Goals as goal

pub returns-clause-choice : goal.returns-clause-choice
returns-clause-choice g c = held_by_choice

pub returns-clause-run : goal.returns-clause-run
returns-clause-run g c = held_by_run

pub returns-clause-decided : goal.returns-clause-decided
returns-clause-decided g c = λ same tells m t unit. held_or_free m same tells t unit
