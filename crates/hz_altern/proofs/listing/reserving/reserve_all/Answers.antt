use Rattle.std.proofs.Common.{◌↔◌, List, ℕ, subst}
use Rattle.std.proofs.lemmas.List.{take_all}
use Rattle.hz_altern.specs.Leaves.{TakesIn}
use Rattle.hz_altern.specs.Reserved.{IsReserved}
use Rattle.hz_altern.proofs.LeafLemmas.{begins_at}
use Rattle.hz_altern.proofs.ReserveLemmas.{all_more, no_names}
use Rattle.hz_description_model.specs.Reservations.Automata.{UnitPlace}
use Rattle.hz_base_model.specs.Pairs.{Pair}
use Rattle.hz_grid.specs.declared.cycles.Cycles.{Cycles}
use Rattle.hz_altern.proofs.listing.reserving.reserve_all.Goals as goal

pub take_name-requires : goal.take_name-requires
take_name-requires c = λ start has. c.requires c.at.result.0.now start (begins_at c.args.leaves.now.names.entries c.loop-place.place (c.at.result.0.now, c.at.result.1) start c.at.ensures has)

pub loop-place-preserved : goal.loop-place-preserved
loop-place-preserved c = record {
  same = all_more c.args.known.now c.args.leaves.now.names.entries c.loop-place.place (c.at.result.0.now, c.at.result.1) c.loop-place.reserved c.take_name.new.self c.at.ensures c.loop-place.invariant.same c.in_ok-take_name.ensures;
  units = c.in_ok-take_name.ensures.units c.loop-place.invariant.units;
}

pub loop-place-init : goal.loop-place-init
loop-place-init c = record { same = λ p. (λ r. absurd (c.in_ok-reserved.ensures.none p r), λ t. absurd (no_names c.args.known.now p t)); units = c.in_ok-reserved.ensures.units }

pub returns-clause-same : goal.returns-clause-same
returns-clause-same c =
    let all = take_all c.loop-place.place c.args.leaves.now.names.entries (rw c.len-place-end.ensures at c.loop-place-test.false) in
    subst (λ (es : List (List ℕ × Cycles)). (p : Pair UnitPlace) → IsReserved c.loop-place.reserved p ↔ TakesIn c.args.known.now es p) all c.loop-place.invariant.same
