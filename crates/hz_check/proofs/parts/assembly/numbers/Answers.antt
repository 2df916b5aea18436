use Rattle.std.proofs.Common.{◌<◌, All, length, arith, sym, subst, ◌∙◌}
use Rattle.std.proofs.lemmas.List.{length-map}
use Rattle.hz_mdread.specs.Shape.{description}
use Rattle.hz_check.proofs.Tables.KnownNames.{numbers_below}
use Rattle.hz_description_model.specs.Check.Places.{class_names}
use Rattle.hz_check.proofs.parts.assembly.numbers.Goals as goal

pub small-requires : goal.small-requires
small-requires c =
    let d = description c.args.names.now.desc.now in
    let below = subst (All (λ i. i < length (class_names d))) (sym (c.deref.ensures.value ∙ c.in_ok-numbers.ensures)) (numbers_below d c.args.classes.now) in
    λ k e lt. omega (arith, below k e lt, length-map d.classes (λ k. k.name), c.requires)
