use Rattle.std.proofs.Common.{ap, ◌∙◌, rules, tests}
use Rattle.std.specs.List.{list_any}
use Rattle.std.proofs.lemmas.Iterator.{YieldsList-from_slice}
use Rattle.std.proofs.lemmas.Iterator.Search.{any_from_yields_List}
use Rattle.hz_rtl.specs.declared.block.Effect.{Effect}
use Rattle.hz_rtl.specs.Shape.{value, effect}
use Rattle.hz_block_model.specs.Dependences.Accesses.{registers_in, is_among}
use Rattle.hz_block_model.specs.Dependences.Stores.{registers_set_by}
use Rattle.hz_rtl.proofs.StoringLemmas.{any_in}
use Rattle.hz_rtl.proofs.storing.makes.Goals as goal

pub returns : goal.returns
returns c =
    any_from_yields_List (λ (e : Effect). list_any (is_among (registers_in (value c.args.address.now))) (registers_set_by (effect e))) _ _ _ c.any.ensures.ran (YieldsList-from_slice c.deref.result.now cc) (λ x b q k. search (rules, tests))
    ∙ (ap (list_any (λ (e : Effect). list_any (is_among (registers_in (value c.args.address.now))) (registers_set_by (effect e)))) c.deref.ensures.value ∙ any_in (value c.args.address.now) c.args.producer.now.effects.items)
