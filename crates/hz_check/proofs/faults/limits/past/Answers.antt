use Rattle.std.proofs.Common.{length, Some, refl, sym, ap, ◌∙◌}
use Rattle.std.proofs.lemmas.Bool.{ltb-true}
use Rattle.std.proofs.lemmas.Option.{slice_get_read}
use Rattle.hz_check.proofs.Lists.InOrder.{past_limit}
use Rattle.hz_check.proofs.faults.limits.past.Goals as goal

pub returns-in-Some : goal.returns-in-Some
returns-in-Some g c =
    let items = c.args.items.now in
    ap Some c.site.ensures
    ∙ past_limit g.T.Defines.site c.args.limit items c.in-Some.item.now c.requires
    (slice_get_read items (length items) c.args.limit c.in-Some.item.now refl (ltb-true _ _ (sym c.in-Some.ensures.lookup.0)) c.in-Some.ensures.lookup.1)
