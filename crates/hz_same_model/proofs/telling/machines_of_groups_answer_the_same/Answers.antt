use Rattle.hz_same_model.proofs.TellingLaws.{groups_answer}
use Rattle.hz_same_model.proofs.telling.machines_of_groups_answer_the_same.Goals as goal

pub returns-clause-answers : goal.returns-clause-answers
returns-clause-answers c = λ first second g. groups_answer first second g

pub returns-clause-same : goal.returns-clause-same
returns-clause-same c = λ first second g classes other_classes asks other_asks. record { classes = classes; other_classes = other_classes; asks = asks; other_asks = other_asks; answers = groups_answer first second g }
