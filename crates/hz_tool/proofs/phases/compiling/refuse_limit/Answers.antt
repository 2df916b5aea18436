use Rattle.std.proofs.Common.{map, sym, subst, ◌∙◌, [], arith}
use Rattle.std.specs.Prelude.{slice_index_or}
use Rattle.std.proofs.lemmas.List.{length-map}
use Rattle.hz_checked.specs.Shape.{automaton_of}
use Rattle.hz_tool.proofs.MachineLemmas.{limit_reported}
use Rattle.hz_tool.proofs.RefusingLemmas.{limited_past, states_reported, states_judged}
use Rattle.hz_tool.proofs.ReportedStates.{IsStatesReported}
use Rattle.hz_tool.proofs.phases.compiling.refuse_limit.Goals as goal

pub name_of-requires : goal.name_of-requires
name_of-requires c =
    let checked = c.args.checked.now in
    let there = (limited_past checked c.args.fault c.in-Some.automaton c.requires (sym c.limited.ensures ∙ c.in-Some.is)).1.there in
    omega (arith, there, length-map checked.automata.items automaton_of)

pub returns-in-Some-clause-reported : goal.returns-in-Some-clause-reported
returns-in-Some-clause-reported c = λ d is.
    let checked = c.args.checked.now in
    let a = c.in-Some.automaton in
    let past = limited_past checked c.args.fault a c.requires (sym c.limited.ensures ∙ c.in-Some.is) in
    let name = slice_index_or (map (λ x. x.name) checked.automata.items) a [] in
    limit_reported d checked is c.args.file.now a past.0 past.1 c.refuse_states.result
    (subst (IsStatesReported c.args.file.now name) (sym c.refuse_states.ensures) (states_reported c.args.file name c.name_of.result c.name_of.ensures))

pub returns-in-Some-clause-kind : goal.returns-in-Some-clause-kind
returns-in-Some-clause-kind c = states_judged c.args.file c.name_of.result c.refuse_states.result c.refuse_states.ensures
