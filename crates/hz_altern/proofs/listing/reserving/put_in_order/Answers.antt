use Rattle.std.proofs.Common.{rules}
use Rattle.std.proofs.lemmas.List.Sorted.{answers_always}
use Rattle.hz_altern.proofs.PairOrder.{stand_ascending, same_set}
use Rattle.hz_altern.proofs.listing.reserving.put_in_order.Goals as goal

pub returns-clause-ascending : goal.returns-clause-ascending
returns-clause-ascending c =
    stand_ascending c.args.pairs.now.items c.sort_unstable_by_key.new.self.items c.dedup.new.self.items c.sort_unstable_by_key.ensures.permutation c.dedup.ensures.filtered
    (c.sort_unstable_by_key.ensures.sorted (λ p. (p.cycle, p.automaton, p.unit)) (answers_always _ _ _ (λ a r q k. search rules)))

pub returns-clause-same : goal.returns-clause-same
returns-clause-same c = same_set c.args.pairs.now.items c.sort_unstable_by_key.new.self.items c.dedup.new.self.items c.sort_unstable_by_key.ensures.permutation c.dedup.ensures.filtered
