use Rattle.hz_measure_model.proofs.Bounds.HeaviestLaws.{first_of, none_of}
use Rattle.hz_measure_model.proofs.load_laws.the_heaviest_is_the_first_of_the_greatest.Goals as goal

pub returns-clause-some : goal.returns-clause-some
returns-clause-some c = λ loads l e. let is = first_of loads l e in (is.front, is.back, is.parts, is.less, is.most)

pub returns-clause-none : goal.returns-clause-none
returns-clause-none c = none_of
