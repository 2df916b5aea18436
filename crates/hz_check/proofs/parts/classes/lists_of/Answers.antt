use Rattle.std.proofs.Common.{◌++◌, ◌∷◌, [], map, sym, ap, ◌∙◌, zero-add}
use Rattle.std.proofs.lemmas.List.{map-append}
use Rattle.std.proofs.lemmas.List.FromFn.{map-range_with_len_more}
use Rattle.hz_altern.specs.Shapes.{alternatives}
use Rattle.hz_check.specs.Parts.Classes.{lists_in}
use Rattle.hz_description_model.specs.Reservations.Automata.{list_in}
use Rattle.hz_check.proofs.parts.classes.lists_of.Goals as goal

pub loop-automaton-preserved : goal.loop-automaton-preserved
loop-automaton-preserved c =
    let n = c.loop-automaton.automaton in
    let alts = alternatives c.args.alts.now in
    let lists = c.loop-automaton.lists.items in
    ap (map (λ list. list.items)) c.in_ok-push.ensures.items
    ∙ (map-append (λ list. list.items) lists (c.in_ok-project.field-0 ∷ [])
    ∙ (ap (λ ls. ls ++ c.in_ok-project.field-0.items ∷ []) c.loop-automaton.invariant
    ∙ (ap (λ list. lists_in n alts ++ list ∷ []) c.in_ok-project.ensures
    ∙ sym (map-range_with_len_more (λ automaton. list_in automaton alts) 0 n n (zero-add n)))))
