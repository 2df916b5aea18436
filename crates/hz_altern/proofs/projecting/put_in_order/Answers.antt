use Rattle.std.proofs.Common.{rules}
use Rattle.std.proofs.lemmas.List.Sorted.{answers_always}
use Rattle.hz_altern.proofs.OrderLemmas.{stand_in_order, same_pairs}
use Rattle.hz_altern.proofs.projecting.put_in_order.Goals as goal

pub returns-clause-ascending : goal.returns-clause-ascending
returns-clause-ascending c =
    stand_in_order c.args.pairs.now.items c.sort_unstable_by_key.new.self.items c.dedup.new.self.items c.sort_unstable_by_key.ensures.permutation c.dedup.ensures.filtered
    (c.sort_unstable_by_key.ensures.sorted (λ p. (p.1, p.0)) (answers_always _ _ _ (λ a r q k. search rules)))

pub returns-clause-same : goal.returns-clause-same
returns-clause-same c = same_pairs c.args.pairs.now.items c.sort_unstable_by_key.new.self.items c.dedup.new.self.items c.sort_unstable_by_key.ensures.permutation c.dedup.ensures.filtered
