use Rattle.std.proofs.Common.{length, nat_lt, ap, ◌∙◌, rules, tests}
use Rattle.std.specs.List.{list_any}
use Rattle.std.proofs.lemmas.Iterator.{YieldsList-from_slice}
use Rattle.std.proofs.lemmas.Iterator.Search.{any_from_yields_List}
use Rattle.hz_rtl.specs.declared.block.Effect.{Effect}
use Rattle.hz_rtl.specs.Shape.{effect}
use Rattle.hz_block_model.specs.Dependences.Stores.{addresses_set_by}
use Rattle.hz_rtl.proofs.StoringLemmas.{any_address}
use Rattle.hz_rtl.proofs.storing.stores.Goals as goal

pub returns : goal.returns
returns c =
    any_from_yields_List (λ (e : Effect). nat_lt 0 (length (addresses_set_by (effect e)))) _ _ _ c.any.ensures.ran (YieldsList-from_slice c.deref.result.now cc) (λ x b q k. search (rules, tests))
    ∙ (ap (list_any (λ (e : Effect). nat_lt 0 (length (addresses_set_by (effect e))))) c.deref.ensures.value ∙ any_address c.args.insn.now.effects.items)
