use Rattle.std.proofs.Common.{ℕ, ◌<◌, ◌-◌, All, sym, subst, arith}
use Rattle.hz_depend.proofs.NumberLemmas.{bounded_at}
use Rattle.hz_depend.proofs.finding.numbers.rows_by.Goals as goal

pub give_all-requires-clause-outs : goal.give_all-requires-clause-outs
give_all-requires-clause-outs c =
    let kept = bounded_at c.args.bypasses.now (c.loop-k.k - 1) c.args.classes c.index-bypasses-k.result c.requires (omega arith) c.index-bypasses-k.is in
    subst (λ (n : ℕ). All (λ o. o < n) c.index-bypasses-k.result.outs.items) (sym c.loop-k.invariant.len) kept.0

pub give_all-requires-clause-ins : goal.give_all-requires-clause-ins
give_all-requires-clause-ins c =
    let kept = bounded_at c.args.bypasses.now (c.loop-k.k - 1) c.args.classes c.index-bypasses-k.result c.requires (omega arith) c.index-bypasses-k.is in
    kept.1
