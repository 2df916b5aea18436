use Rattle.std.proofs.Common.{◌≡◌, true, false, sym}
use Rattle.hz_description_model.proofs.Reservations.AscendingLaws.{same_from_neither}
use Rattle.hz_altern.specs.Merging.{IsLeast}
use Rattle.hz_altern.specs.Shapes.{pair_of, pairs_of}
use Rattle.hz_altern.proofs.MergeLemmas.{slice_of_first, slice_of_second, slices, least_one, least_other, least_both}
use Rattle.hz_altern.proofs.listing.merging.least.Goals as goal
use Rattle.hz_description_model.specs.Reservations.Automata.{place_cmp}
use Rattle.hz_base_model.specs.Pairs.{precedes_by}

pub returns-in-None-Some-clause-some : goal.returns-in-None-Some-clause-some
returns-in-None-Some-clause-some c =
    let arm = c.in-None-Some in
    slice_of_second c.args.first.now c.args.second.now arm.other.now arm.others.now arm.ensures.cases arm.ensures'.cases.0 c.requires.second

pub returns-in-Some-None-clause-some : goal.returns-in-Some-None-clause-some
returns-in-Some-None-clause-some c =
    let arm = c.in-Some-None in
    slice_of_first c.args.first.now c.args.second.now arm.one.now arm.ones.now arm.ensures.cases.0 arm.ensures'.cases c.requires.first

pub returns-then-precedes-clause-some : goal.returns-then-precedes-clause-some
returns-then-precedes-clause-some c =
    let arm = c.in-Some-Some in
    let one = pair_of arm.one.now in
    let other = pair_of arm.other.now in
    let lt : precedes_by place_cmp one other ≡ true = sym c.if-precedes.ensures in
    slices c.args.first.now c.args.second.now arm.one.now arm.other.now arm.ones.now arm.others.now arm.ensures.cases.0 arm.ensures'.cases.0 c.requires.first c.requires.second
    (λ fs ss. IsLeast fs ss one (pairs_of arm.ones.now) ss) (λ up down. least_one one other (pairs_of arm.ones.now) (pairs_of arm.others.now) up down lt)

pub returns-then-precedes-2-clause-some : goal.returns-then-precedes-2-clause-some
returns-then-precedes-2-clause-some c =
    let arm = c.in-Some-Some in
    let one = pair_of arm.one.now in
    let other = pair_of arm.other.now in
    let lt : precedes_by place_cmp other one ≡ true = sym c.if-precedes-2.ensures in
    slices c.args.first.now c.args.second.now arm.one.now arm.other.now arm.ones.now arm.others.now arm.ensures.cases.0 arm.ensures'.cases.0 c.requires.first c.requires.second
    (λ fs ss. IsLeast fs ss other fs (pairs_of arm.others.now)) (λ up down. least_other one other (pairs_of arm.ones.now) (pairs_of arm.others.now) up down lt)

pub returns-else-precedes-2-clause-some : goal.returns-else-precedes-2-clause-some
returns-else-precedes-2-clause-some c =
    let arm = c.in-Some-Some in
    let one = pair_of arm.one.now in
    let other = pair_of arm.other.now in
    let no : precedes_by place_cmp one other ≡ false = sym c.if-precedes.ensures in
    let none : precedes_by place_cmp other one ≡ false = sym c.if-precedes-2.ensures in
    slices c.args.first.now c.args.second.now arm.one.now arm.other.now arm.ones.now arm.others.now arm.ensures.cases.0 arm.ensures'.cases.0 c.requires.first c.requires.second
    (λ fs ss. IsLeast fs ss one (pairs_of arm.ones.now) (pairs_of arm.others.now)) (λ up down. least_both one other (pairs_of arm.ones.now) (pairs_of arm.others.now) up down (same_from_neither one other no none))
