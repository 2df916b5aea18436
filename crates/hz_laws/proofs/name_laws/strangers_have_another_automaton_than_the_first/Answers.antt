use Rattle.hz_laws.proofs.Names.NameLaws.{stranger}
use Rattle.hz_laws.proofs.name_laws.strangers_have_another_automaton_than_the_first.Goals as goal

pub returns : goal.returns
returns c = stranger
