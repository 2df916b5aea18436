use Rattle.std.proofs.Common.{List, ℕ, subst, arith}
use Rattle.hz_base_model.specs.Pairs.{Pair}
use Rattle.hz_grid.specs.Grids.{IsUnion}
use Rattle.hz_reasons.proofs.Stepping.{united_more, united_all}
use Rattle.hz_reasons.proofs.calendar.reserve.Goals as goal

pub loop-automaton-preserved : goal.loop-automaton-preserved
loop-automaton-preserved c =
    let each = c.loop-automaton.invariant.each in
    united_more c.loop-automaton.automaton c.args.grids.now.items c.args.parts.now c.loop-automaton.grids.items c.index_mut.result.now c.index-parts-automaton.result c.join.new.self c.loop-automaton.invariant (omega arith) (omega arith) c.index_mut.ensures.value c.index-parts-automaton.is
    (subst (λ (g : List (Pair ℕ)). IsUnion c.index_mut.result.now g c.join.new.self) c.grid.ensures c.in_ok-join.ensures.pairs)

pub returns-clause-united : goal.returns-clause-united
returns-clause-united c = united_all c.loop-automaton.automaton c.args.grids.now.items c.args.parts.now c.loop-automaton.grids.items c.loop-automaton.invariant (omega arith)
