use Rattle.hz_laws.proofs.Written.ConditionsBack.{condition_back}
use Rattle.hz_laws.proofs.form_laws.conditions_say_what_is_written.Goals as goal

pub returns : goal.returns
returns c = condition_back
