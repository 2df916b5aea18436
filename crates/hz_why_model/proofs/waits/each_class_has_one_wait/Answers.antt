use Rattle.hz_why_model.proofs.WaitLaws.{one_wait, some_wait, never_fits_empty}
use Rattle.hz_why_model.proofs.waits.each_class_has_one_wait.Goals as goal

pub returns-clause-one : goal.returns-clause-one
returns-clause-one g c = one_wait

pub returns-clause-some : goal.returns-clause-some
returns-clause-some g c = some_wait

pub returns-clause-never : goal.returns-clause-never
returns-clause-never g c = never_fits_empty
