use Rattle.std.proofs.Common.{◌≡◌, drop}
use Rattle.hz_description_model.specs.Reading.Conditions as model
use Rattle.hz_mdread.specs.Shape.{conditions}
use Rattle.hz_mdread.proofs.condition.+holds.Given as goal

-- what is left decides
abbrev pub invariant-all_hold-loop-test : goal.invariant-all_hold-loop-test
invariant-all_hold-loop-test l = model.all_hold (model.value_of l.given l.defaults) (conditions (drop l.test-index l.tests)) ≡ model.all_hold (model.value_of l.given l.defaults) (conditions l.tests)

abbrev pub invariant-some_holds-loop-test : goal.invariant-some_holds-loop-test
invariant-some_holds-loop-test l = model.some_holds (model.value_of l.given l.defaults) (conditions (drop l.test-index l.tests)) ≡ model.some_holds (model.value_of l.given l.defaults) (conditions l.tests)
