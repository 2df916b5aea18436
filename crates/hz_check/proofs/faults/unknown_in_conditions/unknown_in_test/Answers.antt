use Rattle.std.proofs.Common.{ap, ◌∙◌}
use Rattle.hz_mdread.specs.Shape.{description}
use Rattle.hz_check.specs.Names.Held.{is_held}
use Rattle.hz_check.specs.Names.{test_by}
use Rattle.hz_check.proofs.Tables.TableSteps.{unknown_by}
use Rattle.hz_description_model.specs.Check.CheckFaults.{values_of}
use Rattle.hz_check.proofs.faults.unknown_in_conditions.unknown_in_test.Goals as goal

pub returns-in-Some : goal.returns-in-Some
returns-in-Some c =
    let names = c.args.names.now in
    let attribute = c.args.attribute.now in
    c.first_missing.ensures
    ∙ unknown_by (values_of (description names.desc.now).attributes attribute) (is_held c.in-Some.defined.now) attribute c.args.values.now (ap test_by c.in-Some.ensures ∙ names.values_right attribute)
