use Rattle.hz_laws.proofs.Names.NameLaws.{without_automaton}
use Rattle.hz_laws.proofs.name_laws.units_need_an_automaton_where_there_is_one.Goals as goal

pub returns : goal.returns
returns c = without_automaton
