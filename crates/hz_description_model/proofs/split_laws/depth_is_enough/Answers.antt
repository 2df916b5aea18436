use Rattle.hz_description_model.proofs.Splits.DepthLaws.{unfolds_once, more_is_no_more}
use Rattle.hz_description_model.proofs.split_laws.depth_is_enough.Goals as goal

pub returns-clause-unfolds : goal.returns-clause-unfolds
returns-clause-unfolds g c = λ test meaning ranks depth low name. unfolds_once test meaning ranks depth low name

pub returns-clause-more : goal.returns-clause-more
returns-clause-more g c = λ test meaning ranks depth other low within e. more_is_no_more test meaning ranks depth low other within e
