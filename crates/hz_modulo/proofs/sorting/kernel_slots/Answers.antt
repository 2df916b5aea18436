use Rattle.std.proofs.Common.{rules}
use Rattle.std.proofs.lemmas.List.Sorted.{answers_always, IsNonDecreasingBy-from_sort}
use Rattle.hz_sched.specs.Shape.{slots_of}
use Rattle.hz_modulo.specs.Ranks.{rank_of}
use Rattle.hz_modulo.proofs.SortLemmas.{sorted_slots, places_kept}
use Rattle.hz_modulo.proofs.sorting.kernel_slots.Goals as goal

pub returns-clause-slots : goal.returns-clause-slots
returns-clause-slots c =
    sorted_slots c.args.interval c.requires.some (slots_of c.args.slots.now) c.requires.rising c.requires.small c.in_ok-made.made.items c.sort_by_key.new.self.items c.in_ok-made.ensures.slots c.in_ok-sort_by_key.ensures.permutation
    (IsNonDecreasingBy-from_sort rank_of _ (c.in_ok-sort_by_key.ensures.sorted rank_of (answers_always _ _ _ (λ a r q k. search rules))))
    (c.in_ok-sort_by_key.ensures.stable rank_of (answers_always _ _ _ (λ a r q k. search rules)))

pub returns-clause-places : goal.returns-clause-places
returns-clause-places c = λ count all. places_kept c.args.interval count c.in_ok-made.made.items c.sort_by_key.new.self.items c.args.slots.now c.in_ok-made.ensures.slots c.in_ok-sort_by_key.ensures.permutation all
