use Rattle.std.proofs.Common.{◌≡◌, List, ℕ, length, refl, sym, ap, ◌∙◌, arith}
use Rattle.hz_tables.specs.Shape.{comb_of}
use Rattle.hz_tables.proofs.PackedLaws.{small_bases, small_owners, small_targets, packed_are_rows}
use Rattle.hz_tables.proofs.packed.Packed.pack.Goals as goal

pub of-requires : goal.of-requires
of-requires g c = (omega arith, (refl, small_bases c.args.plain.now c.columns-columns.ensures.kept (comb_of c.args.plain.now.columns c.in_ok-laid.laid) c.in_ok-laid.ensures.laid c.in_ok-laid.ensures.all c.in_ok-laid.ensures.few _ c.deref.ensures.value))

pub of-requires-2 : goal.of-requires-2
of-requires-2 g c =
    let all = comb_of c.args.plain.now.columns c.in_ok-laid.laid in
    let same = ap (λ (xs : List ℕ). length xs) c.deref-3.ensures.value ∙ (c.in_ok-laid.ensures.laid.places.same ∙ ap (λ (xs : List ℕ). length xs) (sym c.deref-2.ensures.value)) in
    (omega arith, (c.requires.width, (same, (small_owners c.args.plain.now.rows all _ c.requires.small c.in_ok-laid.ensures.laid _ c.deref-2.ensures.value, small_targets c.args.plain.now.rows all _ c.requires.small c.in_ok-laid.ensures.laid _ c.deref-3.ensures.value))))

pub returns-clause-rows : goal.returns-clause-rows
returns-clause-rows g c = ap (λ p. p.rows) c.packed_of.ensures
    ∙ packed_are_rows c.args.plain.now c.columns-columns.ensures.kept (comb_of c.args.plain.now.columns c.in_ok-laid.laid) c.in_ok-laid.ensures.laid c.in_ok-laid.ensures.all refl
    c.columns-columns.result _ _ _ c.columns-columns.ensures.columns
    (c.in_ok-bases.ensures ∙ c.deref.ensures.value) (c.in_ok-pairs.ensures.owners ∙ c.deref-2.ensures.value) (c.in_ok-pairs.ensures.targets ∙ c.deref-3.ensures.value)
