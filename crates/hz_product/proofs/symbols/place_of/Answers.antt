use Rattle.std.proofs.Common.{[], sym, ap, ◌∙◌, arith}
use Rattle.std.specs.Str.{bytes_eq}
use Rattle.std.proofs.lemmas.List.{get_or_default}
use Rattle.hz_tables.proofs.NameLaws.{place_is, no_place_is}
use Rattle.hz_product.proofs.symbols.place_of.Goals as goal

pub returns-then-eq : goal.returns-then-eq
returns-then-eq c =
    let name = c.args.name.now in
    let names = c.args.names.now in
    let place = c.loop-place.place in
    let within = c.loop-place-test.true in
    let at = c.index-names-place.is ∙ get_or_default names place c.index-names-place.result [] within in
    sym (place_is name names place within c.loop-place.invariant (ap (bytes_eq name) (sym at) ∙ (sym c.eq.ensures ∙ c.if-eq.true)))

pub returns : goal.returns
returns c = sym (no_place_is c.args.name.now c.args.names.now (λ j low. c.loop-place.invariant j (omega (arith, low))))
