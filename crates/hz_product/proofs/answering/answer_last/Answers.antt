use Rattle.std.proofs.Common.{◌≡◌, List, length, map, replicate, IfOk, Some, is_some, sym, subst}
use Rattle.std.proofs.lemmas.List.{length-map}
use Rattle.hz_tables.specs.Machines.{machine_of}
use Rattle.hz_product.specs.Along.{along}
use Rattle.hz_product.specs.Held.{component_of, product_of}
use Rattle.hz_product.specs.declared.component.Component.{Component}
use Rattle.hz_product.proofs.AlongLemmas.{answers_ok}
use Rattle.hz_product.proofs.answering.answer_last.Goals as goal

pub returns : goal.returns
returns c =
    let held = c.in_ok-product.product.first.items in
    answers_ok (machine_of c.args.first.now) (machine_of c.args.second.now) (product_of c.in_ok-product.product) (length held) c.args.trace.now c.walk.result c.in_ok-product.ensures.product (sym (length-map held component_of))
    (subst (λ (xs : List Component). IfOk c.walk.result (λ b. b ≡ is_some (along (map component_of xs) (Some (replicate (length xs) 0)) c.args.trace.now))) c.deref.ensures.value c.walk.ensures)
