use Rattle.std.specs.BTreeMap as tree
use Rattle.std.specs.Ordering.{nat_cmp, ordering_then, is_eq}
use Rattle.hz_depend.specs.Noted.{same_key}
use Rattle.hz_depend.specs.Tables.{places_at, places_in}
use Rattle.hz_depend.proofs.ListLemmas.{same_by_order, put_at, key_more}
use Rattle.hz_depend.proofs.finding.by_cell.ByKey.add.Goals as goal

pub returns : goal.returns
returns c = key_more (places_at c.args.self.now) (places_at c.take-places.new.self) (places_in c.insert.new.self) c.args.key c.take-places.result.items c.put.new.list.items c.args.place c.take-places.ensures.taken c.take-places.ensures.others c.in_ok-put.ensures
    (λ k. put_at (is_eq (ordering_then (nat_cmp c.args.key.0 k.0) (nat_cmp c.args.key.1 k.1))) (same_key c.args.key k) c.put.new.list
    (tree.get (λ x y. ordering_then (nat_cmp x.0 y.0) (nat_cmp x.1 y.1)) c.take-places.new.self.places k)
    (tree.get (λ x y. ordering_then (nat_cmp x.0 y.0) (nat_cmp x.1 y.1)) c.insert.new.self k)
    (same_by_order c.args.key k) (c.in_ok-insert.ensures.updates.0 k))
