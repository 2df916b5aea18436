use Rattle.hz_pipeline_model.proofs.Asks.AskLaws.{same_least, tells_marks, least_stays}
use Rattle.hz_pipeline_model.proofs.asking.least_tables_keep_asks.Goals as goal

pub returns-clause-walks : goal.returns-clause-walks
returns-clause-walks c table asked least columns asks marks is has same = same_least table asked columns asks marks is has least same

pub returns-clause-tells : goal.returns-clause-tells
returns-clause-tells c table asked least columns asks marks is has same = tells_marks table asked columns asks marks is has least same

pub returns-clause-stays : goal.returns-clause-stays
returns-clause-stays c first least columns asks whole stay same normal = least_stays first least columns asks whole stay same normal
