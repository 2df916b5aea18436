use Rattle.std.proofs.Common.{sym, subst, arith}
use Rattle.hz_sched.specs.Shape.{AreNumbered}
use Rattle.hz_sched.proofs.SpellLemmas.{numbered_more}
use Rattle.hz_sched.proofs.spelling.add.Goals as goal

pub returns-clause-numbered : goal.returns-clause-numbered
returns-clause-numbered c = subst AreNumbered (sym c.in_ok-push.ensures.items) (numbered_more c.args.events.now.items _ c.requires.numbered (omega (arith, c.args.events.now.ok.0)))
