use Rattle.hz_claims_laws.proofs.TwoNumbers.{two_numbers}
use Rattle.hz_claims_laws.proofs.number_laws.second_numbers_are_between_bypasses_without_the_guard.Goals as goal

pub returns : goal.returns
returns c = two_numbers
