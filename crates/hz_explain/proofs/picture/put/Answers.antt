use Rattle.std.proofs.Common.{◌≡◌, ◌-◌, List, length, Some, subst}
use Rattle.std.specs.Prelude.{slice_get}
use Rattle.hz_reasons.specs.declared.holders.Holder.{Holder}
use Rattle.hz_explain.proofs.GatherLaws.{find_once}
use Rattle.hz_explain.proofs.picture.put.Goals as goal

pub returns-else-not-ends_with : goal.returns-else-not-ends_with
returns-else-not-ends_with c = find_once c.args.list.now.items c.args.holder
    (subst (λ (xs : List Holder). slice_get xs (length xs - 1) ≡ Some c.args.holder) c.deref.ensures.value (c.ends_with.ensures c.if-not-ends_with.false))
