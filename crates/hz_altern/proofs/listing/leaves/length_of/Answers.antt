use Rattle.std.proofs.Common.{◌≡◌, [], sym, ap, arith}
use Rattle.std.specs.Prelude.{unwrap_or}
use Rattle.hz_altern.specs.Shapes.{alternatives}
use Rattle.hz_altern.specs.Tables.{known_alternatives}
use Rattle.hz_altern.proofs.Lengths.{greatest_sound}
use Rattle.hz_description_model.specs.Reservations.AlternativeLists.{greatest_length}
use Rattle.hz_altern.proofs.listing.leaves.length_of.Goals as goal

pub returns : goal.returns
returns c =
    let entry = c.in-Some.entry.now in
    let all = alternatives entry.alts.items in
    let same : known_alternatives c.args.known.now c.args.name.now ≡ all = ap (λ o. unwrap_or o []) (sym c.in-Some.ensures) in
    let long = ap greatest_length same in
    let reported = ap (λ e. e.longest) entry.reported in
    let short = greatest_sound all entry.sound.each in
    omega arith
