use Rattle.std.proofs.Common.{map, ap, sym, ◌∙◌, arith}
use Rattle.std.proofs.lemmas.List.{take_all}
use Rattle.hz_description_model.specs.Reading.Descriptions as model
use Rattle.hz_mdread.specs.Shape.{class_item}
use Rattle.hz_mdread.specs.declared.items.ClassItem.{ClassItem}
use Rattle.hz_reasons.proofs.PlanLaws.{map_twice}
use Rattle.hz_explain.proofs.naming.class_names.Goals as goal

pub returns : goal.returns
returns c =
    let all = take_all c.loop-class.class-index c.deref-class-items.result.now (omega (arith, c.loop-class-test.false)) in
    c.loop-class.invariant ∙ ap (map (λ (x : ClassItem). x.name)) (all ∙ c.deref-class-items.ensures.value)
    ∙ sym (map_twice (λ (x : model.ClassItem). x.name) class_item c.args.desc.now.classes.items)
