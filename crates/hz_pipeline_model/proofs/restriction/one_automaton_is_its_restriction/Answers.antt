use Rattle.hz_pipeline_model.proofs.Accepting.RestrictLaws.{accepted_restricted, refused_restricted}
use Rattle.hz_pipeline_model.proofs.restriction.one_automaton_is_its_restriction.Goals as goal

pub returns-clause-acceptance : goal.returns-clause-acceptance
returns-clause-acceptance c = accepted_restricted

pub returns-clause-refused : goal.returns-clause-refused
returns-clause-refused c = refused_restricted
