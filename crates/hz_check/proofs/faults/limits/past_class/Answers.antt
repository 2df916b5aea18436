use Rattle.std.proofs.Common.{◌≤◌, drop, map, refl, sym, ap, subst, ◌∙◌}
use Rattle.std.specs.List.{AllPairs}
use Rattle.hz_mdread.specs.Shape.{class_item}
use Rattle.hz_check.proofs.Lists.InOrder.{sites_in_order}
use Rattle.hz_check.proofs.Lists.Next.{map-map}
use Rattle.hz_base_model.specs.Limits.{class_limit}
use Rattle.hz_description_model.specs.Check.Sites.{earliest}
use Rattle.hz_check.proofs.faults.limits.past_class.Goals as goal

pub past-requires : goal.past-requires
past-requires c =
    subst (λ xs. AllPairs (λ s t. s.form ≤ t.form) (map (λ i. record { line = i.line; form = i.form; name = i.name }) xs)) (sym c.deref.ensures.value)
    (sites_in_order (λ a. a.form) (λ i. record { line = i.line; form = i.form; name = i.name }) class_item (λ x. refl) c.args.desc.now.classes.items c.requires)

pub returns : goal.returns
returns c =
    c.past.ensures
    ∙ ap (λ sites. earliest (drop class_limit sites))
    (ap (map (λ i. record { line = i.line; form = i.form; name = i.name })) c.deref.ensures.value
    ∙ sym (map-map (λ a. record { line = a.line; form = a.form; name = a.name }) class_item c.args.desc.now.classes.items))
