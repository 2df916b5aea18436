use Rattle.std.proofs.Common.{not, sym, ap, ◌∙◌}
use Rattle.hz_altern.proofs.CutLemmas.{list_any-cuts}
use Rattle.hz_altern.proofs.projecting.is_new.Goals as goal

pub returns-clause-new : goal.returns-clause-new
returns-clause-new c = c.in_ok-new.ensures.added ∙ ap not (sym (list_any-cuts c.args.pairs.items c.args.seen.now.keys))
