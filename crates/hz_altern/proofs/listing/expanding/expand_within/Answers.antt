use Rattle.std.proofs.Common.{sym, ◌∙◌, subst}
use Rattle.std.proofs.lemmas.Result.{err_from_is_err_and}
use Rattle.hz_altern.specs.Tables.{known_alternatives}
use Rattle.hz_altern.proofs.KnownLemmas.{right_known, some_of, placed_of}
use Rattle.hz_altern.proofs.ExpandLemmas.{many, few, short, long, within, refused, sound}
use Rattle.hz_regexp.specs.Shape.{expression}
use Rattle.hz_description_model.specs.Reservations.Alternatives.{alternatives_of}
use Rattle.hz_description_model.specs.Reservations.AlternativeLists.{AreSound}
use Rattle.hz_altern.proofs.listing.expanding.expand_within.Goals as goal

pub returns-then-extent-gt-ALTERNATIVE_LIMIT-clause-answer : goal.returns-then-extent-gt-ALTERNATIVE_LIMIT-clause-answer
returns-then-extent-gt-ALTERNATIVE_LIMIT-clause-answer c =
    let known = c.args.known.now in
    let e = expression c.args.expr.now in
    let is = c.measured-extent.ensures (known_alternatives known) (right_known known e c.requires.known) in
    many (alternatives_of (known_alternatives known) e) c.measured-extent.result is c.args.most c.if-extent-gt-ALTERNATIVE_LIMIT.true

pub returns-then-extent-gt-CYCLE_LIMIT-clause-answer : goal.returns-then-extent-gt-CYCLE_LIMIT-clause-answer
returns-then-extent-gt-CYCLE_LIMIT-clause-answer c =
    let known = c.args.known.now in
    let e = expression c.args.expr.now in
    let is = c.measured-extent.ensures (known_alternatives known) (right_known known e c.requires.known) in
    long (alternatives_of (known_alternatives known) e) c.measured-extent.result is c.args.most c.if-extent-gt-ALTERNATIVE_LIMIT.false c.if-extent-gt-CYCLE_LIMIT.true

pub listing-requires-clause-short : goal.listing-requires-clause-short
listing-requires-clause-short c =
    let known = c.args.known.now in
    let e = expression c.args.expr.now in
    let is = c.measured-extent.ensures (known_alternatives known) (right_known known e c.requires.known) in
    short (alternatives_of (known_alternatives known) e) c.measured-extent.result is c.if-extent-gt-CYCLE_LIMIT.false

pub returns-in_err-listing-clause-answer : goal.returns-in_err-listing-clause-answer
returns-in_err-listing-clause-answer c =
    let known = c.args.known.now in
    let e = expression c.args.expr.now in
    let all = alternatives_of (known_alternatives known) e in
    let is = c.measured-extent.ensures (known_alternatives known) (right_known known e c.requires.known) in
    let few_all = few all c.measured-extent.result is c.if-extent-gt-ALTERNATIVE_LIMIT.false in
    let short_all = short all c.measured-extent.result is c.if-extent-gt-CYCLE_LIMIT.false in
    let p = err_from_is_err_and c.from_residual-in_err-listing.result c.from_residual-in_err-listing.ensures.1 in
    rw (p.1, p.2) (refused all few_all short_all c.args.most _ c.in_err-listing.ensures.err)

pub returns-clause-answer : goal.returns-clause-answer
returns-clause-answer c =
    let known = c.args.known.now in
    let e = expression c.args.expr.now in
    let all = alternatives_of (known_alternatives known) e in
    let is = c.measured-extent.ensures (known_alternatives known) (right_known known e c.requires.known) in
    let few_all = few all c.measured-extent.result is c.if-extent-gt-ALTERNATIVE_LIMIT.false in
    let short_all = short all c.measured-extent.result is c.if-extent-gt-CYCLE_LIMIT.false in
    let listing = c.in_ok-listing.ensures.ok in
    (within all few_all short_all c.args.most (rw listing at c.in_ok-listing.ensures.small), c.into_alts.ensures.alts ∙ listing)

pub returns-clause-sound : goal.returns-clause-sound
returns-clause-sound c =
    let known = c.args.known.now in
    let e = expression c.args.expr.now in
    let all = alternatives_of (known_alternatives known) e in
    let is = c.measured-extent.ensures (known_alternatives known) (right_known known e c.requires.known) in
    let few_all = few all c.measured-extent.result is c.if-extent-gt-ALTERNATIVE_LIMIT.false in
    let short_all = short all c.measured-extent.result is c.if-extent-gt-CYCLE_LIMIT.false in
    subst AreSound (sym (c.into_alts.ensures.alts ∙ c.in_ok-listing.ensures.ok)) (sound all few_all short_all (some_of known e c.requires.formed c.requires.known) (placed_of known e c.requires.formed))
