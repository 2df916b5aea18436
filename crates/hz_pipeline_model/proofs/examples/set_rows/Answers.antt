use Rattle.std.proofs.Common.{refl}
use Rattle.hz_pipeline_model.proofs.Accepting.Rows.{accepted, first_refused}
use Rattle.hz_pipeline_model.proofs.examples.set_rows.Goals as goal

pub returns-clause-together : goal.returns-clause-together
returns-clause-together c = first_refused _ _ _ refl refl refl

pub returns-clause-finally_together : goal.returns-clause-finally_together
returns-clause-finally_together c = accepted _ _ refl

pub returns-clause-absent : goal.returns-clause-absent
returns-clause-absent c = first_refused _ _ _ refl refl refl

pub returns-clause-absent_before : goal.returns-clause-absent_before
returns-clause-absent_before c = accepted _ _ refl

pub returns-clause-half_a_pattern : goal.returns-clause-half_a_pattern
returns-clause-half_a_pattern c = first_refused _ _ _ refl refl refl

pub returns-clause-whole_pattern : goal.returns-clause-whole_pattern
returns-clause-whole_pattern c = accepted _ _ refl
