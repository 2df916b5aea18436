use Rattle.std.proofs.Common.{ℕ, ◌<◌, List, map, length, sym, ◌∙◌, arith}
use Rattle.std.proofs.lemmas.List.{length-map}
use Rattle.hz_explain.proofs.ListLaws.{listed_next}
use Rattle.hz_explain.proofs.lists.add_listed.Goals as goal

pub loop-place-preserved : goal.loop-place-preserved
loop-place-preserved c =
    let texts : List (List ℕ) = map (λ item. item.items) c.args.items.now in
    let lt : c.loop-place.place < length texts = omega (arith, length-map c.args.items.now (λ item. item.items)) in
    listed_next texts c.loop-place.place c.loop-place.left c.columns_kept-kept.result c.args.before.now c.args.between.now c.text_before-start.result.now c.item_at-item.result.now lt
    c.text_before-start.ensures c.item_at-item.ensures c.columns_kept-kept.ensures.value c.loop-place.text.items c.add_item.new.text.items _ c.loop-place.invariant (sym c.is_within.ensures ∙ c.if-not-is_within.false) c.in_ok-add_item.ensures
