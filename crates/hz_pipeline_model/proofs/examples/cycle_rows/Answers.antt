use Rattle.std.proofs.Common.{refl}
use Rattle.hz_pipeline_model.proofs.Accepting.Rows.{accepted, first_refused}
use Rattle.hz_pipeline_model.proofs.examples.cycle_rows.Goals as goal

pub returns-clause-later : goal.returns-clause-later
returns-clause-later c = first_refused _ _ _ refl refl refl

pub returns-clause-two_automata : goal.returns-clause-two_automata
returns-clause-two_automata c = first_refused _ _ _ refl refl refl

pub returns-clause-two_lengths : goal.returns-clause-two_lengths
returns-clause-two_lengths c = accepted _ _ refl

pub returns-clause-alone : goal.returns-clause-alone
returns-clause-alone c = accepted _ _ refl
