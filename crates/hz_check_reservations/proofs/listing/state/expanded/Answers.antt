use Rattle.hz_altern.specs.Tables.{known_alternatives}
use Rattle.hz_description_model.specs.Reservations.Alternatives.{alternatives_of}
use Rattle.hz_regexp.specs.Shape.{expression}
use Rattle.hz_check_reservations.proofs.Made.{made_reported}
use Rattle.hz_check_reservations.proofs.listing.state.expanded.Goals as goal

pub returns : goal.returns
returns c =
    made_reported c.args.most (alternatives_of (known_alternatives c.args.known.now) (expression c.args.expr.now)) c.requires.few c.requires.short c.expand_within.result c.made_if_listed.result c.expand_within.ensures.answer c.expand_within.ensures.sound c.made_if_listed.ensures
