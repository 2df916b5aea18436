use Rattle.hz_same_laws.proofs.WalkLaws.{accept_same, texts_same}
use Rattle.hz_same_laws.proofs.descriptions.machines_answer_the_same_if_descriptions_accept_the_same.Goals as goal

pub returns-clause-machines : goal.returns-clause-machines
returns-clause-machines c = λ d e known also sound sound' m n reports others is is'. accept_same d e known also sound sound' m n reports others is is'

pub returns-clause-texts : goal.returns-clause-texts
returns-clause-texts c = λ d e known also sound sound' text other is is' m n. texts_same d e known also sound sound' text other is is' m n
