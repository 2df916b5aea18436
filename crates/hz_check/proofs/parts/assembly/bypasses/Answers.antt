use Rattle.hz_mdread.specs.Shape.{description, bypass_item}
use Rattle.hz_checked.specs.Shape.{bypass_of}
use Rattle.hz_check.proofs.Lists.Next.{push_all}
use Rattle.hz_description_model.specs.Check.CheckedParts.{bypass_parts}
use Rattle.hz_check.proofs.parts.assembly.bypasses.Goals as goal

pub returns : goal.returns
returns c =
    push_all bypass_of (bypass_parts (description c.args.names.now.desc.now)) bypass_item _ c.args.names.now.desc.now.bypasses.items c.loop-item.item-index c.loop-item.bypasses.items
    c.deref-item-items.ensures.value c.loop-item-test.false c.loop-item.invariant
