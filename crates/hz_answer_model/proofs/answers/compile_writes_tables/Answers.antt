use Rattle.hz_answer_model.proofs.WalkLaws.{writes_tables}
use Rattle.hz_answer_model.proofs.answers.compile_writes_tables.Goals as goal

pub returns : goal.returns
returns c = writes_tables
