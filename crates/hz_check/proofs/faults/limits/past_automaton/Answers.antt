use Rattle.std.proofs.Common.{◌≤◌, drop, map, refl, sym, ap, subst, ◌∙◌}
use Rattle.std.specs.List.{AllPairs}
use Rattle.hz_mdread.specs.Shape.{automaton_item}
use Rattle.hz_check.proofs.Lists.InOrder.{sites_in_order}
use Rattle.hz_check.proofs.Lists.Next.{map-map}
use Rattle.hz_base_model.specs.Limits.{automaton_limit}
use Rattle.hz_description_model.specs.Check.Sites.{earliest}
use Rattle.hz_check.proofs.faults.limits.past_automaton.Goals as goal

pub past-requires : goal.past-requires
past-requires c =
    subst (λ xs. AllPairs (λ s t. s.form ≤ t.form) (map (λ i. record { line = i.line; form = i.form; name = i.name }) xs)) (sym c.deref.ensures.value)
    (sites_in_order (λ a. a.form) (λ i. record { line = i.line; form = i.form; name = i.name }) automaton_item (λ x. refl) c.args.desc.now.automata.items c.requires)

pub returns : goal.returns
returns c =
    c.past.ensures
    ∙ ap (λ sites. earliest (drop automaton_limit sites))
    (ap (map (λ i. record { line = i.line; form = i.form; name = i.name })) c.deref.ensures.value
    ∙ sym (map-map (λ a. record { line = a.line; form = a.form; name = a.name }) automaton_item c.args.desc.now.automata.items))
