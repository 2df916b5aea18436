use Rattle.hz_description_model.proofs.Reservations.ListInLaws.{Contains-list_in, Contains-from_list_in, apart_in_list, some_in_list}
use Rattle.hz_description_model.proofs.automata.lists_have_each_cut_once.Goals as goal

pub returns-clause-each : goal.returns-clause-each
returns-clause-each c = Contains-list_in

pub returns-clause-only : goal.returns-clause-only
returns-clause-only c = Contains-from_list_in

pub returns-clause-once : goal.returns-clause-once
returns-clause-once c = apart_in_list

pub returns-clause-some : goal.returns-clause-some
returns-clause-some c = some_in_list
