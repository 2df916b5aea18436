use Rattle.hz_same_model.proofs.SameLaws.{answers_turned, same_turned}
use Rattle.hz_same_model.proofs.same.being_the_same_goes_both_ways.Goals as goal

pub returns-clause-answers : goal.returns-clause-answers
returns-clause-answers c = answers_turned

pub returns-clause-same : goal.returns-clause-same
returns-clause-same c = same_turned
