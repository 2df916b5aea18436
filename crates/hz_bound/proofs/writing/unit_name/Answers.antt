use Rattle.std.proofs.Common.{ℕ, ◌<◌, List, [], length, sym, ap, ◌∙◌, subst, arith}
use Rattle.std.specs.Prelude.{slice_index_or}
use Rattle.std.proofs.lemmas.List.{get_or_default}
use Rattle.hz_checked.specs.declared.checked.CheckedAutomaton.{CheckedAutomaton}
use Rattle.hz_bound.proofs.HeaviestLemmas.{names_at, names_long}
use Rattle.hz_bound.proofs.writing.unit_name.Goals as goal

pub index-requires-2 : goal.index-requires-2
index-requires-2 c =
    let (automaton, unit) = c.requires in
    let low : c.args.load.automaton < length c.args.checked.now.automata.items = omega (arith, automaton, names_long c.args.checked.now) in
    let names = ap (λ (ns : List (List ℕ)). length ns) (names_at c.args.checked.now c.args.load.automaton c.index.result.now low) in
    let same = ap (λ (a : CheckedAutomaton). length a.units.items) c.index.ensures in
    let long = c.index.result.now.units.ok.0 in
    omega (arith, unit, names, same, long)

pub returns : goal.returns
returns c =
    let (automaton, unit) = c.requires in
    let low : c.args.load.automaton < length c.args.checked.now.automata.items = omega (arith, automaton, names_long c.args.checked.now) in
    let names = names_at c.args.checked.now c.args.load.automaton c.index.result.now low ∙ sym (ap (λ (a : CheckedAutomaton). a.units.items) c.index.ensures) in
    let inside : c.args.load.unit < length c.index.result.now.units.items = subst (λ (ns : List (List ℕ)). c.args.load.unit < length ns) names unit in
    c.index-2.ensures ∙ (get_or_default c.index.result.now.units.items c.args.load.unit c.index-2.result.now [] inside ∙ ap (λ (ns : List (List ℕ)). slice_index_or ns c.args.load.unit []) (sym names))
