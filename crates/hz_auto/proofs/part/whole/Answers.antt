use Rattle.std.proofs.Common.{sym, subst}
use Rattle.hz_auto.specs.Asks.{IsAskable}
use Rattle.hz_auto.proofs.part.whole.Goals as goal

pub add_asks-requires-clause-askable : goal.add_asks-requires-clause-askable
add_asks-requires-clause-askable c = subst (λ asks. IsAskable c.args.explored asks c.args.caps.now) (sym c.deref.ensures.value) c.requires.askable
