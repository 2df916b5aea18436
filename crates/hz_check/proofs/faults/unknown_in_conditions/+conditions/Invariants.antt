use Rattle.std.proofs.Common.{◌≡◌, drop}
use Rattle.hz_mdread.specs.Shape.{description, conditions}
use Rattle.hz_check.specs.Names.First.{first_of}
use Rattle.hz_description_model.specs.Check.CheckFaults.{unknown_in_conditions}
use Rattle.hz_check.proofs.faults.unknown_in_conditions.+conditions.Given as goal

abbrev pub invariant-unknown_in_tests-loop-test : goal.invariant-unknown_in_tests-loop-test
invariant-unknown_in_tests-loop-test l =
    first_of (unknown_in_conditions (description l.names.desc.now) (conditions (drop l.test-index l.tests)))
    ≡ first_of (unknown_in_conditions (description l.names.desc.now) (conditions l.tests))
