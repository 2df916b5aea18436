use Rattle.hz_laws.proofs.Names.NameLaws.{unknown_automaton}
use Rattle.hz_laws.proofs.name_laws.unknown_automata_are_named_by_units.Goals as goal

pub returns : goal.returns
returns c = unknown_automaton
