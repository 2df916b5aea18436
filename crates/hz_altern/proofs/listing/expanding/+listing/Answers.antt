use Rattle.std.proofs.Common.{◌≡◌, ℕ, ◌+◌, ◌/◌, ◌<◌, ◌≤◌, max, List, length, map, take, Some, All, sym, ap, ◌∙◌, subst, arith, rules}
use Rattle.std.specs.Prelude.{IsTrue, IfOk, IfErr}
use Rattle.std.proofs.lemmas.Result.{err_from_is_err_and}
use Rattle.hz_base_model.specs.Limits.{cycle_limit}
use Rattle.hz_description_model.specs.Reservations.Limits.{size_limit}
use Rattle.hz_altern.specs.Answers.{Refuses}
use Rattle.hz_altern.specs.Beside.{IsBeside}
use Rattle.hz_regexp.specs.Shape.{expression, expressions}
use Rattle.hz_altern.specs.Joinings.{IsListed}
use Rattle.hz_altern.specs.Shapes.{alternatives}
use Rattle.hz_altern.specs.Tables.{alternatives_in, known_alternatives, is_held}
use Rattle.std.proofs.lemmas.List.{take_all, length-map}
use Rattle.hz_altern.proofs.BesideLemmas.{joins, within_length, none_beside, single_more, short_more, others_more, refused_more, refused_part, beside_at, listed_single, short_both, all_beside, refused_idle, refused_single}
use Rattle.hz_altern.proofs.GatherLemmas.{part_at}
use Rattle.hz_regexp.specs.declared.expr.Expr.{Expr}
use Rattle.hz_altern.proofs.HalfLemmas.{halved, single, repeated}
use Rattle.hz_altern.proofs.KnownLemmas.{named_listed, placed_of, all_listed}
use Rattle.hz_altern.proofs.Nodes.{nodes, nodes_of_repeat}
use Rattle.hz_altern.proofs.Shapes.{named_is, repeat_is}
use Rattle.hz_altern.proofs.SingleLemmas.{one_reported, tell_at, tell_halves, tell_length}
use Rattle.hz_altern.specs.Singles.{TellsSingles, TellSingles}
use Rattle.hz_description_model.specs.Reservations.Alternatives.{Alternative, Expression, named, repeat, alternatives_of, parts_of}
use Rattle.hz_description_model.specs.Reservations.AlternativeLists.{greatest_length}
use Rattle.hz_description_model.specs.Reservations.Automata.{UnitPlace, listed}
use Rattle.hz_description_model.specs.Reservations.Expressions.{is_expression}
use Rattle.hz_description_model.specs.Reservations.NamesIn.{all_names}
use Rattle.hz_altern.proofs.listing.expanding.+listing.Goals as goal

pub listing_parts-listing-requires : goal.listing_parts-listing-requires
listing_parts-listing-requires t c =
    let one = single c.args.known.now c.args.mark c.args.parts.now c.index-parts-0.result c.requires.some c.if-middle-eq0.true c.index-parts-0.is c.requires.formed c.requires.known c.requires.short in
    let formed = one.formed in
    let named = one.named in
    let short = one.short in
    let counted = one.counted in
    let reported = tell_at (known_alternatives c.args.known.now) c.args.parts.now c.args.singles.now 0 c.index-parts-0.result c.index-singles-0.result c.requires.some c.index-parts-0.is c.index-singles-0.is c.requires.reported in
    search rules

pub listing_parts-returns-then-middle-eq0-clause-ok : goal.listing_parts-returns-then-middle-eq0-clause-ok
listing_parts-returns-then-middle-eq0-clause-ok t c =
    let one = single c.args.known.now c.args.mark c.args.parts.now c.index-parts-0.result c.requires.some c.if-middle-eq0.true c.index-parts-0.is c.requires.formed c.requires.known c.requires.short in
    rw one.same c.listing.ensures.ok

pub listing_parts-returns-then-middle-eq0-clause-err : goal.listing_parts-returns-then-middle-eq0-clause-err
listing_parts-returns-then-middle-eq0-clause-err t c =
    let one = single c.args.known.now c.args.mark c.args.parts.now c.index-parts-0.result c.requires.some c.if-middle-eq0.true c.index-parts-0.is c.requires.formed c.requires.known c.requires.short in
    rw one.same c.listing.ensures.err

pub listing_parts-listing_parts-requires : goal.listing_parts-listing_parts-requires
listing_parts-listing_parts-requires t c =
    let half = halved c.args.known.now c.args.mark c.args.parts.now _ _ c.split_at.ensures.front c.split_at.ensures.back c.if-middle-eq0.false c.requires.formed c.requires.known c.requires.short in
    let some = half.cut.some_front in
    let fewer = half.cut.fewer_in_front in
    let formed = half.formed_front in
    let named = half.named_front in
    let short = half.short_front in
    let reported : TellSingles (known_alternatives c.args.known.now) (parts_of (expressions c.split_at.result.0.now)) c.split_at-2.result.0.now =
    rw (c.split_at.ensures.front, c.split_at-2.ensures.front) (tell_halves (known_alternatives c.args.known.now) (length c.args.parts.now / 2) c.args.parts.now c.args.singles.now c.requires.reported).0 in
    search rules

pub listing_parts-listing_parts-requires-2 : goal.listing_parts-listing_parts-requires-2
listing_parts-listing_parts-requires-2 t c =
    let half = halved c.args.known.now c.args.mark c.args.parts.now _ _ c.split_at.ensures.front c.split_at.ensures.back c.if-middle-eq0.false c.requires.formed c.requires.known c.requires.short in
    let some = half.cut.some_back in
    let fewer = half.cut.fewer_in_back in
    let formed = half.formed_back in
    let named = half.named_back in
    let short = half.short_back in
    let reported : TellSingles (known_alternatives c.args.known.now) (parts_of (expressions c.split_at.result.1.now)) c.split_at-2.result.1.now =
    rw (c.split_at.ensures.back, c.split_at-2.ensures.back) (tell_halves (known_alternatives c.args.known.now) (length c.args.parts.now / 2) c.args.parts.now c.args.singles.now c.requires.reported).1 in
    let most : c.left_after-left.result ≤ size_limit = omega (arith, c.left_after-left.ensures.fits, c.requires.most) in
    search rules

pub listing_parts-returns-in_err-first-clause-err : goal.listing_parts-returns-in_err-first-clause-err
listing_parts-returns-in_err-first-clause-err t c =
    let half = halved c.args.known.now c.args.mark c.args.parts.now _ _ c.split_at.ensures.front c.split_at.ensures.back c.if-middle-eq0.false c.requires.formed c.requires.known c.requires.short in
    let p = err_from_is_err_and c.from_residual.result c.from_residual.ensures.1 in
    rw (p.1, p.2) (half.refused_front c.args.most _ c.in_err-first.ensures.err)

pub listing_parts-returns-in_err-second-clause-err : goal.listing_parts-returns-in_err-second-clause-err
listing_parts-returns-in_err-second-clause-err t c =
    let half = halved c.args.known.now c.args.mark c.args.parts.now _ _ c.split_at.ensures.front c.split_at.ensures.back c.if-middle-eq0.false c.requires.formed c.requires.known c.requires.short in
    let p = err_from_is_err_and c.from_residual-in_err-second.result c.from_residual-in_err-second.ensures.1 in
    rw (p.1, p.2) (half.refused_back c.args.most _ (rw (c.left_after-left.ensures.value, c.in_ok-first.ensures.ok) at c.in_err-second.ensures.err))

pub listing_parts-joined_lists-requires-clause-first : goal.listing_parts-joined_lists-requires-clause-first
listing_parts-joined_lists-requires-clause-first t c =
    let half = halved c.args.known.now c.args.mark c.args.parts.now _ _ c.split_at.ensures.front c.split_at.ensures.back c.if-middle-eq0.false c.requires.formed c.requires.known c.requires.short in
    subst (All IsListed) (sym c.in_ok-first.ensures.ok) half.listed_front

pub listing_parts-joined_lists-requires-clause-second : goal.listing_parts-joined_lists-requires-clause-second
listing_parts-joined_lists-requires-clause-second t c =
    let half = halved c.args.known.now c.args.mark c.args.parts.now _ _ c.split_at.ensures.front c.split_at.ensures.back c.if-middle-eq0.false c.requires.formed c.requires.known c.requires.short in
    subst (All IsListed) (sym c.in_ok-second.ensures.ok) half.listed_back

pub listing_parts-joined_lists-requires-clause-short : goal.listing_parts-joined_lists-requires-clause-short
listing_parts-joined_lists-requires-clause-short t c =
    let half = halved c.args.known.now c.args.mark c.args.parts.now _ _ c.split_at.ensures.front c.split_at.ensures.back c.if-middle-eq0.false c.requires.formed c.requires.known c.requires.short in
    rw (c.in_ok-first.ensures.ok, c.in_ok-second.ensures.ok) half.short

pub listing_parts-returns-clause-ok : goal.listing_parts-returns-clause-ok
listing_parts-returns-clause-ok t c =
    let half = halved c.args.known.now c.args.mark c.args.parts.now _ _ c.split_at.ensures.front c.split_at.ensures.back c.if-middle-eq0.false c.requires.formed c.requires.known c.requires.short in
    rw (half.all, ← c.in_ok-first.ensures.ok, ← c.in_ok-second.ensures.ok) c.joined_lists.ensures.ok

pub listing_parts-returns-clause-err : goal.listing_parts-returns-clause-err
listing_parts-returns-clause-err t c =
    let half = halved c.args.known.now c.args.mark c.args.parts.now _ _ c.split_at.ensures.front c.split_at.ensures.back c.if-middle-eq0.false c.requires.formed c.requires.known c.requires.short in
    rw (half.all, ← c.in_ok-first.ensures.ok, ← c.in_ok-second.ensures.ok) c.joined_lists.ensures.err

pub listing-listing-requires : goal.listing-listing-requires
listing-listing-requires t c =
    let rep = repeated c.args.known.now c.args.expr.now c.in-Repeat.part c.in-Repeat.times c.in-Repeat.is c.requires.formed c.requires.known c.requires.short in
    let formed : IsTrue (is_expression (expression c.deref-in-Repeat.result.now)) = rw c.deref-in-Repeat.ensures rep.formed in
    let known : IsTrue (all_names (is_held (alternatives_in c.args.known.now)) (expression c.deref-in-Repeat.result.now)) = rw c.deref-in-Repeat.ensures rep.named in
    let short : greatest_length (alternatives_of (known_alternatives c.args.known.now) (expression c.deref-in-Repeat.result.now)) ≤ cycle_limit = rw c.deref-in-Repeat.ensures rep.short_part in
    let counted : nodes c.args.expr.now ≡ nodes c.in-Repeat.part.value + 1 = ap nodes c.in-Repeat.is ∙ nodes_of_repeat c.in-Repeat.part c.in-Repeat.times in
    let same = ap nodes c.deref-in-Repeat.ensures in
    let is : expression c.args.expr.now ≡ repeat (expression c.in-Repeat.part.value) c.in-Repeat.times = ap expression c.in-Repeat.is ∙ repeat_is c.in-Repeat.part c.in-Repeat.times in
    let reported : TellsSingles (known_alternatives c.args.known.now) (expression c.deref-in-Repeat.result.now) c.args.singles.now = rw c.deref-in-Repeat.ensures (subst (λ (e : Expression). TellsSingles (known_alternatives c.args.known.now) e c.args.singles.now) is c.requires.reported) in
    search rules

pub listing-returns-in_err-once-in-Repeat-clause-err : goal.listing-returns-in_err-once-in-Repeat-clause-err
listing-returns-in_err-once-in-Repeat-clause-err t c =
    let rep = repeated c.args.known.now c.args.expr.now c.in-Repeat.part c.in-Repeat.times c.in-Repeat.is c.requires.formed c.requires.known c.requires.short in
    let p = err_from_is_err_and c.from_residual.result c.from_residual.ensures.1 in
    rw (p.1, p.2) (rep.refused c.args.most _ (rw c.deref-in-Repeat.ensures at c.in_err-once-in-Repeat.ensures.err))

pub listing-copies-requires-clause-some : goal.listing-copies-requires-clause-some
listing-copies-requires-clause-some t c =
    let rep = repeated c.args.known.now c.args.expr.now c.in-Repeat.part c.in-Repeat.times c.in-Repeat.is c.requires.formed c.requires.known c.requires.short in
    let once : c.in_ok-once-in-Repeat.once ≡ _ = rw c.deref-in-Repeat.ensures at c.in_ok-once-in-Repeat.ensures.ok in
    rw once rep.some

pub listing-copies-requires-clause-each : goal.listing-copies-requires-clause-each
listing-copies-requires-clause-each t c =
    let rep = repeated c.args.known.now c.args.expr.now c.in-Repeat.part c.in-Repeat.times c.in-Repeat.is c.requires.formed c.requires.known c.requires.short in
    let once : c.in_ok-once-in-Repeat.once ≡ _ = rw c.deref-in-Repeat.ensures at c.in_ok-once-in-Repeat.ensures.ok in
    subst (All IsListed) (sym once) rep.listed_part

pub listing-copies-requires-clause-short : goal.listing-copies-requires-clause-short
listing-copies-requires-clause-short t c =
    let rep = repeated c.args.known.now c.args.expr.now c.in-Repeat.part c.in-Repeat.times c.in-Repeat.is c.requires.formed c.requires.known c.requires.short in
    let once : c.in_ok-once-in-Repeat.once ≡ _ = rw c.deref-in-Repeat.ensures at c.in_ok-once-in-Repeat.ensures.ok in
    rw once rep.short

pub listing-returns-in_ok-once-in-Repeat-clause-ok : goal.listing-returns-in_ok-once-in-Repeat-clause-ok
listing-returns-in_ok-once-in-Repeat-clause-ok t c =
    let rep = repeated c.args.known.now c.args.expr.now c.in-Repeat.part c.in-Repeat.times c.in-Repeat.is c.requires.formed c.requires.known c.requires.short in
    let once : c.in_ok-once-in-Repeat.once ≡ _ = rw c.deref-in-Repeat.ensures at c.in_ok-once-in-Repeat.ensures.ok in
    rw (rep.all, ← once) c.copies.ensures.ok

pub listing-returns-in_ok-once-in-Repeat-clause-err : goal.listing-returns-in_ok-once-in-Repeat-clause-err
listing-returns-in_ok-once-in-Repeat-clause-err t c =
    let rep = repeated c.args.known.now c.args.expr.now c.in-Repeat.part c.in-Repeat.times c.in-Repeat.is c.requires.formed c.requires.known c.requires.short in
    let once : c.in_ok-once-in-Repeat.once ≡ _ = rw c.deref-in-Repeat.ensures at c.in_ok-once-in-Repeat.ensures.ok in
    rw (rep.all, ← once) c.copies.ensures.err

pub listing-returns-in-Some-clause-ok : goal.listing-returns-in-Some-clause-ok
listing-returns-in-Some-clause-ok t c =
    let known = c.args.known.now in
    let is : expression c.args.expr.now ≡ named c.in-Named.name = ap expression c.in-Named.is ∙ named_is c.in-Named.name in
    let there : alternatives_in known c.in-Named.name ≡ Some (alternatives c.in-Some.entry.now.alts.items) = sym c.in-Some.ensures in
    let all : alternatives c.deref.result.now ≡ map listed (alternatives_of (known_alternatives known) (expression c.args.expr.now)) =
    ap alternatives c.deref.ensures.value ∙ (named_listed known c.in-Named.name _ there ∙ ap (λ e. map listed (alternatives_of (known_alternatives known) e)) (sym is)) in
    rw (← all) c.copied.ensures.ok

pub listing-returns-in-Some-clause-err : goal.listing-returns-in-Some-clause-err
listing-returns-in-Some-clause-err t c =
    let known = c.args.known.now in
    let is : expression c.args.expr.now ≡ named c.in-Named.name = ap expression c.in-Named.is ∙ named_is c.in-Named.name in
    let there : alternatives_in known c.in-Named.name ≡ Some (alternatives c.in-Some.entry.now.alts.items) = sym c.in-Some.ensures in
    let all : alternatives c.deref.result.now ≡ map listed (alternatives_of (known_alternatives known) (expression c.args.expr.now)) =
    ap alternatives c.deref.ensures.value ∙ (named_listed known c.in-Named.name _ there ∙ ap (λ e. map listed (alternatives_of (known_alternatives known) e)) (sym is)) in
    rw (← all) c.copied.ensures.err

pub listing_together-listing_added-requires : goal.listing_together-listing_added-requires
listing_together-listing_added-requires t c =
    let before = none_beside c.args.known.now c.new-leaves.result c.in_ok-others.others c.new-leaves.ensures c.in_ok-others.ensures.ok in
    search rules

pub add_parts-returns-clause-ok : goal.add_parts-returns-clause-ok
add_parts-returns-clause-ok t c = subst (λ (ps : List Expr). IsBeside c.args.known.now (expressions ps) c.loop-place.beside.leaves c.loop-place.beside.length c.loop-place.beside.others) (take_all c.loop-place.place c.args.parts.now c.loop-place-test.false) c.loop-place.invariant

pub add_part-gather-requires-clause-formed : goal.add_part-gather-requires-clause-formed
add_part-gather-requires-clause-formed t c =
    let part = part_at (is_held (alternatives_in c.args.known.now)) c.args.parts.now c.args.place c.index-parts-place.result c.requires.place c.index-parts-place.is c.requires.formed c.requires.known in
    part.formed

pub add_part-gather-requires-clause-held : goal.add_part-gather-requires-clause-held
add_part-gather-requires-clause-held t c =
    let part = part_at (is_held (alternatives_in c.args.known.now)) c.args.parts.now c.args.place c.index-parts-place.result c.requires.place c.index-parts-place.is c.requires.formed c.requires.known in
    part.names_known

pub add_part-gather-requires-clause-one : goal.add_part-gather-requires-clause-one
add_part-gather-requires-clause-one t c =
    let part = part_at (is_held (alternatives_in c.args.known.now)) c.args.parts.now c.args.place c.index-parts-place.result c.requires.place c.index-parts-place.is c.requires.formed c.requires.known in
    let reported = tell_at (known_alternatives c.args.known.now) c.args.parts.now c.args.singles.now c.args.place c.index-parts-place.result c.index-singles-place.result c.requires.place c.index-parts-place.is c.index-singles-place.is c.requires.reported in
    one_reported (known_alternatives c.args.known.now) (expression c.index-parts-place.result) c.index-singles-place.result part.formed reported c.is_single.result c.is_single.ensures c.if-is_single.true

pub add_part-gather-requires-clause-short : goal.add_part-gather-requires-clause-short
add_part-gather-requires-clause-short t c =
    let at = beside_at c.args.known.now c.args.parts.now c.args.place c.index-parts-place.result c.requires.place c.index-parts-place.is c.requires.formed c.requires.known c.requires.short in
    let short = at.short in
    omega arith

pub add_part-returns-then-is_single-clause-ok : goal.add_part-returns-then-is_single-clause-ok
add_part-returns-then-is_single-clause-ok t c =
    let part = part_at (is_held (alternatives_in c.args.known.now)) c.args.parts.now c.args.place c.index-parts-place.result c.requires.place c.index-parts-place.is c.requires.formed c.requires.known in
    let at = beside_at c.args.known.now c.args.parts.now c.args.place c.index-parts-place.result c.requires.place c.index-parts-place.is c.requires.formed c.requires.known c.requires.short in
    let before = expressions (take c.args.place c.args.parts.now) in
    let e = expression c.index-parts-place.result in
    let reported = tell_at (known_alternatives c.args.known.now) c.args.parts.now c.args.singles.now c.args.place c.index-parts-place.result c.index-singles-place.result c.requires.place c.index-parts-place.is c.index-singles-place.is c.requires.reported in
    let one = one_reported (known_alternatives c.args.known.now) e c.index-singles-place.result part.formed reported c.is_single.result c.is_single.ensures c.if-is_single.true in
    rw part.next (single_more c.args.known.now before e c.args.beside.now.leaves c.args.beside.now.length c.args.beside.now.others c.requires.before part.formed at.short c.gather.new.leaves c.max-beside.result one c.in_ok-length.ensures.gathered (c.max-beside.ensures ∙ ap (λ (n : ℕ). max n c.args.beside.now.length) c.in_ok-length.ensures.length))

pub add_part-returns-clause-ok : goal.add_part-returns-clause-ok
add_part-returns-clause-ok t c =
    let part = part_at (is_held (alternatives_in c.args.known.now)) c.args.parts.now c.args.place c.index-parts-place.result c.requires.place c.index-parts-place.is c.requires.formed c.requires.known in
    let at = beside_at c.args.known.now c.args.parts.now c.args.place c.index-parts-place.result c.requires.place c.index-parts-place.is c.requires.formed c.requires.known c.requires.short in
    let before = expressions (take c.args.place c.args.parts.now) in
    let e = expression c.index-parts-place.result in
    rw part.next (others_more c.args.known.now before e c.args.beside.now.leaves c.args.beside.now.length c.args.beside.now.others c.requires.before part.formed at.short part.names_known c.in_ok-others.others c.in_ok-others.ensures.ok)

pub add_part-bounds-singles-place : goal.add_part-bounds-singles-place
add_part-bounds-singles-place t c = omega (arith, tell_length (known_alternatives c.args.known.now) c.args.parts.now c.args.singles.now c.requires.reported, c.requires.place)

pub listing_parts-split_at-requires-2 : goal.listing_parts-split_at-requires-2
listing_parts-split_at-requires-2 t c = omega (arith, tell_length (known_alternatives c.args.known.now) c.args.parts.now c.args.singles.now c.requires.reported)

pub listing_together-returns-in_err-others-clause-err : goal.listing_together-returns-in_err-others-clause-err
listing_together-returns-in_err-others-clause-err t c =
    let es = expressions c.args.parts.now in
    let some : 0 < length es = simp length-map c.requires.some in
    let p = err_from_is_err_and c.from_residual.result c.from_residual.ensures.1 in
    rw (p.1, p.2) (refused_idle c.args.known.now es some c.requires.formed c.requires.known c.args.most _ c.in_err-others.ensures.err)

pub add_part-listing_beside-requires : goal.add_part-listing_beside-requires
add_part-listing_beside-requires t c =
    let part = part_at (is_held (alternatives_in c.args.known.now)) c.args.parts.now c.args.place c.index-parts-place.result c.requires.place c.index-parts-place.is c.requires.formed c.requires.known in
    let at = beside_at c.args.known.now c.args.parts.now c.args.place c.index-parts-place.result c.requires.place c.index-parts-place.is c.requires.formed c.requires.known c.requires.short in
    let before = expressions (take c.args.place c.args.parts.now) in
    let e = expression c.index-parts-place.result in
    let formed = part.formed in
    let names_known = part.names_known in
    let fewer = part.fewer in
    let short_part = at.short in
    let some = c.requires.before.some in
    let each = c.requires.before.are_listed in
    let short = short_more c.args.known.now before e c.args.beside.now.leaves c.args.beside.now.length c.args.beside.now.others c.requires.before part.formed at.short part.names_known in
    let reported = tell_at (known_alternatives c.args.known.now) c.args.parts.now c.args.singles.now c.args.place c.index-parts-place.result c.index-singles-place.result c.requires.place c.index-parts-place.is c.index-singles-place.is c.requires.reported in
    search rules

pub add_part-returns-in_err-others-clause-err : goal.add_part-returns-in_err-others-clause-err
add_part-returns-in_err-others-clause-err t c =
    let part = part_at (is_held (alternatives_in c.args.known.now)) c.args.parts.now c.args.place c.index-parts-place.result c.requires.place c.index-parts-place.is c.requires.formed c.requires.known in
    let at = beside_at c.args.known.now c.args.parts.now c.args.place c.index-parts-place.result c.requires.place c.index-parts-place.is c.requires.formed c.requires.known c.requires.short in
    let before = expressions (take c.args.place c.args.parts.now) in
    let e = expression c.index-parts-place.result in
    let p = err_from_is_err_and c.from_residual-in_err-others.result c.from_residual-in_err-others.ensures.1 in
    rw (p.1, p.2) (at.refused c.args.most _ (refused_more c.args.known.now before e c.args.beside.now.leaves c.args.beside.now.length c.args.beside.now.others c.requires.before part.formed at.short part.names_known c.args.most _ c.in_err-others.ensures.err))

pub listing_added-list_leaves-requires : goal.listing_added-list_leaves-requires
listing_added-list_leaves-requires t c =
    let known = c.args.known.now in
    let es = expressions c.args.parts.now in
    let some : 0 < length es = simp length-map c.requires.some in
    let are = c.in_ok-add_parts.ensures.ok in
    record {
      ends = are.ends;
      within = within_length known es c.add_parts.new.beside.leaves c.add_parts.new.beside.length c.add_parts.new.beside.others are some c.requires.formed;
      short = are.short;
      most = c.requires.most;
    }

pub listing_added-returns-in_err-single-clause-err : goal.listing_added-returns-in_err-single-clause-err
listing_added-returns-in_err-single-clause-err t c =
    let known = c.args.known.now in
    let es = expressions c.args.parts.now in
    let some : 0 < length es = simp length-map c.requires.some in
    let are = c.in_ok-add_parts.ensures.ok in
    let p = err_from_is_err_and c.from_residual-in_err-single.result c.from_residual-in_err-single.ensures.1 in
    rw (p.1, p.2) (refused_single known es c.add_parts.new.beside.leaves c.add_parts.new.beside.length c.add_parts.new.beside.others are some c.requires.formed c.args.most _ (c.in_err-single.ensures.err are.pairs are.taken))

pub listing_added-together-requires-clause-first : goal.listing_added-together-requires-clause-first
listing_added-together-requires-clause-first t c =
    let known = c.args.known.now in
    let es = expressions c.args.parts.now in
    let some : 0 < length es = simp length-map c.requires.some in
    let are = c.in_ok-add_parts.ensures.ok in
    subst (All IsListed) (sym (c.in_ok-single.ensures.ok are.pairs are.taken)) (listed_single known es c.add_parts.new.beside.leaves c.add_parts.new.beside.length c.add_parts.new.beside.others are some c.requires.formed)

pub listing_added-together-requires-clause-short : goal.listing_added-together-requires-clause-short
listing_added-together-requires-clause-short t c =
    let known = c.args.known.now in
    let es = expressions c.args.parts.now in
    let some : 0 < length es = simp length-map c.requires.some in
    let are = c.in_ok-add_parts.ensures.ok in
    rw (c.in_ok-single.ensures.ok are.pairs are.taken) (short_both known es c.add_parts.new.beside.leaves c.add_parts.new.beside.length c.add_parts.new.beside.others are some c.requires.formed)

pub listing_added-returns-clause-ok : goal.listing_added-returns-clause-ok
listing_added-returns-clause-ok t c =
    let known = c.args.known.now in
    let es = expressions c.args.parts.now in
    let some : 0 < length es = simp length-map c.requires.some in
    let are = c.in_ok-add_parts.ensures.ok in
    let joined = ap (λ xs. joins xs c.add_parts.new.beside.others) (c.in_ok-single.ensures.ok are.pairs are.taken) ∙ all_beside known es c.add_parts.new.beside.leaves c.add_parts.new.beside.length c.add_parts.new.beside.others are some c.requires.formed in
    subst (λ (xs : List (Alternative UnitPlace)). IfOk c.together.result (λ listing. listing ≡ xs)) joined c.together.ensures.ok

pub listing_added-returns-clause-err : goal.listing_added-returns-clause-err
listing_added-returns-clause-err t c =
    let known = c.args.known.now in
    let es = expressions c.args.parts.now in
    let some : 0 < length es = simp length-map c.requires.some in
    let are = c.in_ok-add_parts.ensures.ok in
    let joined = ap (λ xs. joins xs c.add_parts.new.beside.others) (c.in_ok-single.ensures.ok are.pairs are.taken) ∙ all_beside known es c.add_parts.new.beside.leaves c.add_parts.new.beside.length c.add_parts.new.beside.others are some c.requires.formed in
    subst (λ (xs : List (Alternative UnitPlace)). IfErr c.together.result (Refuses c.args.most xs)) joined c.together.ensures.err

pub listing_beside-returns-in_err-more-clause-err : goal.listing_beside-returns-in_err-more-clause-err
listing_beside-returns-in_err-more-clause-err t c =
    let p = err_from_is_err_and c.from_residual.result c.from_residual.ensures.1 in
    rw (p.1, p.2) (refused_part c.args.known.now (expression c.args.part.now) c.requires.formed c.args.others.now c.requires.some c.requires.each c.args.most _ c.in_err-more.ensures.err)

pub listing_beside-together-requires-clause-second : goal.listing_beside-together-requires-clause-second
listing_beside-together-requires-clause-second t c =
    subst (All IsListed) (sym c.in_ok-more.ensures.ok) (all_listed _ (placed_of c.args.known.now (expression c.args.part.now) c.requires.formed))

pub listing_beside-together-requires-clause-short : goal.listing_beside-together-requires-clause-short
listing_beside-together-requires-clause-short t c =
    rw c.in_ok-more.ensures.ok c.requires.short

pub listing_beside-returns-clause-ok : goal.listing_beside-returns-clause-ok
listing_beside-returns-clause-ok t c =
    rw (← c.in_ok-more.ensures.ok) c.together.ensures.ok

pub listing_beside-returns-clause-err : goal.listing_beside-returns-clause-err
listing_beside-returns-clause-err t c =
    rw (← c.in_ok-more.ensures.ok) c.together.ensures.err
