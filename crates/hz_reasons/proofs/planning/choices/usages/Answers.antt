use Rattle.std.proofs.Common.{◌++◌, ◌∷◌, [], map, ap, sym, ◌∙◌, zero-add}
use Rattle.std.specs.List.{range_with_len}
use Rattle.std.proofs.lemmas.List.FromFn.{map-range_with_len_more}
use Rattle.hz_altern.specs.Shapes.{alternative_of}
use Rattle.hz_description_model.specs.Reservations.Automata.{cut}
use Rattle.hz_reasons.proofs.planning.choices.usages.Goals as goal

pub loop-automaton-preserved : goal.loop-automaton-preserved
loop-automaton-preserved c =
    let n = c.loop-automaton.automaton in
    let pairs = (alternative_of c.args.alt.now).pairs in
    c.in_ok-push.ensures.items
    ∙ (ap (λ us. us ++ c.in_ok-of.field-0 ∷ []) c.loop-automaton.invariant
    ∙ (ap (λ u. map (λ a. cut a pairs) (range_with_len 0 n) ++ u ∷ []) (c.in_ok-of.ensures ∙ c.in_ok-grid.ensures)
    ∙ sym (map-range_with_len_more (λ a. cut a pairs) 0 n n (zero-add n))))
