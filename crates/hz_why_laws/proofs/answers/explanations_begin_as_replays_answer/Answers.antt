use Rattle.hz_why_laws.proofs.BeginLaws.{answers_begin}
use Rattle.hz_why_laws.proofs.answers.explanations_begin_as_replays_answer.Goals as goal

pub returns : goal.returns
returns c = answers_begin
