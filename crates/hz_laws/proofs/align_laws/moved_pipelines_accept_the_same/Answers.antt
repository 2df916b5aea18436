use Rattle.hz_laws.proofs.Moving.MovingLaws.{choices_moved, accepted_moved, refused_moved}
use Rattle.hz_laws.proofs.align_laws.moved_pipelines_accept_the_same.Goals as goal

pub returns-clause-acceptance : goal.returns-clause-acceptance
returns-clause-acceptance g c = accepted_moved

pub returns-clause-refused : goal.returns-clause-refused
returns-clause-refused g c = refused_moved

pub returns-clause-choices : goal.returns-clause-choices
returns-clause-choices g c = choices_moved
