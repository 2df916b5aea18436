use Rattle.hz_same_laws.proofs.WalkLaws.{shows}
use Rattle.hz_same_laws.proofs.descriptions.traces_that_differ_show_it_of_descriptions.Goals as goal

pub returns : goal.returns
returns c = λ d e known also sound sound' m n reports others is is'. shows d e known also sound sound' m n reports others is is'
