use Rattle.std.proofs.Common.{◌≡◌, ◌<◌, length, map, vec_len, All, sym, subst, ◌∙◌}
use Rattle.std.proofs.lemmas.List.{length-map}
use Rattle.hz_mdread.specs.Shape.{description, class_item}
use Rattle.hz_check.proofs.Tables.KnownNames.{numbers_below}
use Rattle.hz_description_model.specs.Check.Places.{class_names}
use Rattle.hz_check.proofs.faults.bypass_twice.distinct_numbers.Goals as goal

pub returns-clause-within : goal.returns-clause-within
returns-clause-within c =
    let stored = c.args.names.now.desc.now in
    let d = description stored in
    let size : length (class_names d) ≡ vec_len stored.classes = length-map (map class_item stored.classes.items) (λ k. k.name) ∙ (length-map stored.classes.items class_item ∙ sym stored.classes.ok.0) in
    c.in_ok-kept.ensures.within (vec_len stored.classes)
    (subst (λ n. All (λ i. i < n) c.deref.result.now) size (subst (λ xs. All (λ i. i < length (class_names d)) xs) (sym (c.deref.ensures.value ∙ c.in_ok-numbers.ensures)) (numbers_below d c.args.classes.now)))
