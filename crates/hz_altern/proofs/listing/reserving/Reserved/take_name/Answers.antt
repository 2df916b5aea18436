use Rattle.std.proofs.Common.{◌≡◌, ◌<◌, [], length, ap, sym}
use Rattle.std.specs.Prelude.{unwrap_or}
use Rattle.std.proofs.lemmas.List.{length-map}
use Rattle.hz_base_model.specs.Limits.{automaton_limit, unit_limit}
use Rattle.hz_base_model.specs.Pairs.{Pair}
use Rattle.hz_altern.specs.Shapes.{pair_of, alternatives}
use Rattle.hz_altern.specs.Tables.{known_alternatives}
use Rattle.hz_altern.proofs.ListLemmas.{All-from_map}
use Rattle.hz_altern.proofs.ReserveLemmas.{reserved_same, name_taken, first_sound, unknown_begins, nothing_reserved}
use Rattle.hz_description_model.specs.Reservations.Automata.{UnitPlace}
use Rattle.hz_altern.proofs.listing.reserving.Reserved.take_name.Goals as goal

pub returns-in_ok-take_pairs-in-Some : goal.returns-in_ok-take_pairs-in-Some
returns-in_ok-take_pairs-in-Some c =
    let known = c.args.known.now in
    let alts = c.in-Some.entry.now.alts.items in
    let alt = c.index.result.now in
    let held : known_alternatives known c.args.name.now ≡ alternatives alts = ap (λ o. unwrap_or o []) (sym c.in-Some.ensures) in
    let some : 0 < length alts = simp length-map at c.in-Some.entry.now.sound.some in
    let sound = first_sound alts alt some c.index.ensures c.in-Some.entry.now.sound.each in
    reserved_same _ _ c.args.self.now c.take_pairs.new.self (rw c.deref.ensures.value at c.in_ok-take_pairs-in-Some.ensures) (name_taken known c.args.name.now c.args.starts alts alt c.requires held c.index.ensures sound)

pub returns-in-None : goal.returns-in-None
returns-in-None c =
    let known = c.args.known.now in
    let held : known_alternatives known c.args.name.now ≡ [] = ap (λ o. unwrap_or o []) (sym c.in-None.ensures) in
    nothing_reserved _ c.args.self.now (unknown_begins known c.args.name.now c.args.starts c.requires held)

pub take_pairs-requires-clause-automata : goal.take_pairs-requires-clause-automata
take_pairs-requires-clause-automata c =
    let alts = c.in-Some.entry.now.alts.items in
    let some : 0 < length alts = simp length-map at c.in-Some.entry.now.sound.some in
    let sound = first_sound alts c.index.result.now some c.index.ensures c.in-Some.entry.now.sound.each in
    rw c.deref.ensures.value (All-from_map (λ (p : Pair UnitPlace). p.unit.automaton < automaton_limit) pair_of c.index.result.now.pairs.items sound.placed.automata)

pub take_pairs-requires-clause-units : goal.take_pairs-requires-clause-units
take_pairs-requires-clause-units c =
    let alts = c.in-Some.entry.now.alts.items in
    let some : 0 < length alts = simp length-map at c.in-Some.entry.now.sound.some in
    let sound = first_sound alts c.index.result.now some c.index.ensures c.in-Some.entry.now.sound.each in
    rw c.deref.ensures.value (All-from_map (λ (p : Pair UnitPlace). p.unit.unit < unit_limit) pair_of c.index.result.now.pairs.items sound.placed.units)
