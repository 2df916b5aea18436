use Rattle.std.proofs.Common.{not}
use Rattle.hz_mdread.specs.Shape.{description}
use Rattle.hz_check.proofs.Lists.FirstOf.{found_in_both}
use Rattle.hz_description_model.specs.Check.CheckFaults.{is_class}
use Rattle.hz_check.proofs.faults.unknown_in_items.BypassItemRefers.unknown.Goals as goal

pub returns : goal.returns
returns c =
    let item = c.args.self.now in
    c.site_in.ensures _ (found_in_both (λ name. not (is_class (description c.args.names.now.desc.now) name)) item.outs.items item.ins.items c.deref.result.now c.deref-2.result.now c.unknown_class.result c.unknown_class-2.result _
    c.or-name.ensures c.deref.ensures.value c.deref-2.ensures.value c.unknown_class.ensures c.unknown_class-2.ensures)
