use Rattle.std.proofs.Common.{refl}
use Rattle.hz_pipeline_model.proofs.Accepting.Rows.{accepted, first_refused}
use Rattle.hz_pipeline_model.proofs.examples.superscalar_rows.Goals as goal

pub returns-clause-empty : goal.returns-clause-empty
returns-clause-empty c = accepted _ _ refl

pub returns-clause-three_simple : goal.returns-clause-three_simple
returns-clause-three_simple c = first_refused _ _ _ refl refl refl

pub returns-clause-three_classes : goal.returns-clause-three_classes
returns-clause-three_classes c = accepted _ _ refl

pub returns-clause-ports : goal.returns-clause-ports
returns-clause-ports c = first_refused _ _ _ refl refl refl

pub returns-clause-divider_taken : goal.returns-clause-divider_taken
returns-clause-divider_taken c = first_refused _ _ _ refl refl refl

pub returns-clause-divider_free : goal.returns-clause-divider_free
returns-clause-divider_free c = accepted _ _ refl
