use Rattle.std.proofs.Common.{◌≡◌, drop, map}
use Rattle.std.specs.Option.{option_map}
use Rattle.hz_sexp.specs.Shape.{tree, trees}
use Rattle.hz_description_model.specs.Reading.DescriptionForms as model
use Rattle.hz_mdread.specs.Shape.{condition}
use Rattle.hz_mdread.proofs.TestLemmas.{size, sizes, after}
use Rattle.hz_mdread.proofs.conditions.+condition_in.Given as goal

abbrev pub decreases-condition_in : goal.decreases-condition_in
decreases-condition_in l = size (tree l.form.now)

abbrev pub decreases-conditions_in : goal.decreases-conditions_in
decreases-conditions_in l = sizes (trees l.forms.now)

-- the tests so far, with what is left, are all of them
abbrev pub invariant-conditions_in-loop-form : goal.invariant-conditions_in-loop-form
invariant-conditions_in-loop-form l = option_map (after (map condition l.tests.items)) (model.conditions_in (trees (drop l.form-index l.forms))) ≡ model.conditions_in (trees l.forms)
