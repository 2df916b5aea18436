use Rattle.std.proofs.Common.{List, length, ap, arith, ℕ}
use Rattle.hz_checked.specs.declared.checked.CheckedAutomaton.{CheckedAutomaton}
use Rattle.hz_bound.proofs.HeaviestLemmas.{names_at, units_few}
use Rattle.hz_bound.proofs.heaviest.unit_count.Goals as goal

pub returns-clause-count : goal.returns-clause-count
returns-clause-count c =
    let long = c.index.result.now.units.ok.0 in
    let same = ap (λ (a : CheckedAutomaton). length a.units.items) c.index.ensures in
    let names = ap (λ (ns : List (List ℕ)). length ns) (names_at c.args.checked.now c.args.automaton c.index.result.now c.requires) in
    omega (arith, c.len.ensures, long, same, names)

pub returns-clause-few : goal.returns-clause-few
returns-clause-few c =
    let long = c.index.result.now.units.ok.0 in
    let few = units_few c.args.checked.now.automata.items c.args.checked.now.kept.units c.args.automaton c.index.result.now c.requires c.index.ensures in
    omega (arith, c.len.ensures, long, few)
