use Rattle.std.proofs.Common.{◌∙◌, rules}
use Rattle.std.proofs.lemmas.Result.{err_from_is_err_and}
use Rattle.hz_altern.proofs.ListedLemmas.{copies_single, copies_halved}
use Rattle.hz_altern.proofs.listing.expanding.+copies.Goals as goal

pub returns-then-times-eq1-clause-ok : goal.returns-then-times-eq1-clause-ok
returns-then-times-eq1-clause-ok t c =
    rw (copies_single c.args.times c.args.once.now c.if-times-eq1.true, ← c.as_slice.ensures.alts) c.copied.ensures.ok

pub returns-then-times-eq1-clause-err : goal.returns-then-times-eq1-clause-err
returns-then-times-eq1-clause-err t c =
    rw (copies_single c.args.times c.args.once.now c.if-times-eq1.true, ← c.as_slice.ensures.alts) c.copied.ensures.err

pub copies-requires : goal.copies-requires
copies-requires t c =
    let halves = copies_halved c.args.once.now c.args.times c.requires.some c.requires.each c.requires.times c.if-times-eq1.false c.requires.short in
    let short = halves.short_half in
    search rules

pub returns-in_err-half-clause-err : goal.returns-in_err-half-clause-err
returns-in_err-half-clause-err t c =
    let halves = copies_halved c.args.once.now c.args.times c.requires.some c.requires.each c.requires.times c.if-times-eq1.false c.requires.short in
    let p = err_from_is_err_and c.from_residual.result c.from_residual.ensures.1 in
    rw (p.1, p.2) (halves.refused_half c.args.most _ c.in_err-half.ensures.err)

pub in_sequence-requires-clause-first : goal.in_sequence-requires-clause-first
in_sequence-requires-clause-first t c =
    let halves = copies_halved c.args.once.now c.args.times c.requires.some c.requires.each c.requires.times c.if-times-eq1.false c.requires.short in
    rw c.in_ok-half.ensures.ok halves.listed_half

pub in_sequence-requires-clause-second : goal.in_sequence-requires-clause-second
in_sequence-requires-clause-second t c =
    let halves = copies_halved c.args.once.now c.args.times c.requires.some c.requires.each c.requires.times c.if-times-eq1.false c.requires.short in
    rw c.in_ok-half.ensures.ok halves.listed_half

pub in_sequence-requires-clause-short : goal.in_sequence-requires-clause-short
in_sequence-requires-clause-short t c =
    let halves = copies_halved c.args.once.now c.args.times c.requires.some c.requires.each c.requires.times c.if-times-eq1.false c.requires.short in
    rw c.in_ok-half.ensures.ok halves.short_even

pub returns-in_err-even-clause-err : goal.returns-in_err-even-clause-err
returns-in_err-even-clause-err t c =
    let halves = copies_halved c.args.once.now c.args.times c.requires.some c.requires.each c.requires.times c.if-times-eq1.false c.requires.short in
    let p = err_from_is_err_and c.from_residual-in_err-even.result c.from_residual-in_err-even.ensures.1 in
    rw (p.1, p.2) (halves.refused_even c.args.most _ (rw c.in_ok-half.ensures.ok at c.in_err-even.ensures.err))

pub returns-then-times-eq0-clause-ok : goal.returns-then-times-eq0-clause-ok
returns-then-times-eq0-clause-ok t c =
    let halves = copies_halved c.args.once.now c.args.times c.requires.some c.requires.each c.requires.times c.if-times-eq1.false c.requires.short in
    c.in_ok-even.ensures.ok ∙ rw c.in_ok-half.ensures.ok (halves.all_even c.if-times-eq0.true)

pub in_sequence-requires-2-clause-first : goal.in_sequence-requires-2-clause-first
in_sequence-requires-2-clause-first t c =
    let halves = copies_halved c.args.once.now c.args.times c.requires.some c.requires.each c.requires.times c.if-times-eq1.false c.requires.short in
    rw (c.in_ok-even.ensures.ok, c.in_ok-half.ensures.ok) halves.listed_even

pub in_sequence-requires-2-clause-short : goal.in_sequence-requires-2-clause-short
in_sequence-requires-2-clause-short t c =
    let halves = copies_halved c.args.once.now c.args.times c.requires.some c.requires.each c.requires.times c.if-times-eq1.false c.requires.short in
    rw (c.in_ok-even.ensures.ok, c.in_ok-half.ensures.ok, halves.all_odd c.if-times-eq0.false) c.requires.short

pub returns-clause-ok : goal.returns-clause-ok
returns-clause-ok t c =
    let halves = copies_halved c.args.once.now c.args.times c.requires.some c.requires.each c.requires.times c.if-times-eq1.false c.requires.short in
    rw (c.in_ok-even.ensures.ok, c.in_ok-half.ensures.ok, halves.all_odd c.if-times-eq0.false) at c.in_sequence-2.ensures.ok

pub returns-clause-err : goal.returns-clause-err
returns-clause-err t c =
    let halves = copies_halved c.args.once.now c.args.times c.requires.some c.requires.each c.requires.times c.if-times-eq1.false c.requires.short in
    rw (c.in_ok-even.ensures.ok, c.in_ok-half.ensures.ok, halves.all_odd c.if-times-eq0.false) at c.in_sequence-2.ensures.err
