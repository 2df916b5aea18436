use Rattle.hz_same_model.proofs.WordLaws.{earlier_or, earlier_self, earlier_on}
use Rattle.hz_same_model.proofs.words.words_are_in_order.Goals as goal

pub returns-clause-one : goal.returns-clause-one
returns-clause-one c = earlier_or

pub returns-clause-itself : goal.returns-clause-itself
returns-clause-itself c = earlier_self

pub returns-clause-on : goal.returns-clause-on
returns-clause-on c = earlier_on
