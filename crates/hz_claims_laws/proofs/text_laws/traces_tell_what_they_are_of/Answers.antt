use Rattle.hz_claims_laws.proofs.TraceTexts.{accepted_alone, refused_alone, asked_alone}
use Rattle.hz_claims_laws.proofs.text_laws.traces_tell_what_they_are_of.Goals as goal

pub returns-clause-accepted : goal.returns-clause-accepted
returns-clause-accepted c = accepted_alone

pub returns-clause-refused : goal.returns-clause-refused
returns-clause-refused c = refused_alone

pub returns-clause-asked : goal.returns-clause-asked
returns-clause-asked c = asked_alone
