use Rattle.std.proofs.Common.{subst, Option}
use Rattle.std.specs.Str.{bytes_eq}
use Rattle.std.proofs.lemmas.Slice.Eq.{bytes_eq-Decides}
use Rattle.hz_altern.proofs.LeafLemmas.{Joined, inserted}
use Rattle.hz_grid.specs.declared.cycles.Cycles.{Cycles}
use Rattle.hz_altern.proofs.listing.leaves.Leaves.add.Goals as goal

pub returns : goal.returns
returns c =
    let old = c.args.self.now.names.entries in
    let name = c.args.name.now in
    let joined = subst (λ (o : Option Cycles). Joined bytes_eq (λ x y e. (bytes_eq-Decides x y).0 e) name c.args.cycles c.joined-all.result o) c.get.ensures.value c.joined-all.ensures in
    let entries = c.in_ok-insert.ensures.entries in
    rw (entries, c.in_ok-copy.ensures) (inserted bytes_eq (λ x y e. (bytes_eq-Decides x y).0 e) name c.args.cycles c.joined-all.result old joined)
