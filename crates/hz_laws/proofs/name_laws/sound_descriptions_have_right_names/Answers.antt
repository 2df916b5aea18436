use Rattle.hz_laws.proofs.Names.SoundLaws.{no_second_name, no_reserved_name, no_unknown_name, no_unknown_automaton, none_without_automaton, no_self_exclusion, no_stranger}
use Rattle.hz_laws.proofs.name_laws.sound_descriptions_have_right_names.Goals as goal

pub returns-clause-apart : goal.returns-clause-apart
returns-clause-apart c = no_second_name

pub returns-clause-unreserved : goal.returns-clause-unreserved
returns-clause-unreserved c = no_reserved_name

pub returns-clause-known : goal.returns-clause-known
returns-clause-known c = no_unknown_name

pub returns-clause-defined : goal.returns-clause-defined
returns-clause-defined c = no_unknown_automaton

pub returns-clause-housed : goal.returns-clause-housed
returns-clause-housed c = none_without_automaton

pub returns-clause-unexcluded : goal.returns-clause-unexcluded
returns-clause-unexcluded c = no_self_exclusion

pub returns-clause-together : goal.returns-clause-together
returns-clause-together c = no_stranger
