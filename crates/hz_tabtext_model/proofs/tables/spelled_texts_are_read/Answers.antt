use Rattle.hz_tabtext_model.proofs.TextAgain.{spelled_again}
use Rattle.hz_tabtext_model.proofs.tables.spelled_texts_are_read.Goals as goal

pub returns : goal.returns
returns c = spelled_again
