use Rattle.hz_tabtext_model.proofs.TextTakes.{tables_take}
use Rattle.hz_tabtext_model.proofs.TextAgain.{tables_again}
use Rattle.hz_tabtext_model.proofs.tables.texts_are_read.Goals as goal

pub returns-clause-read : goal.returns-clause-read
returns-clause-read c = tables_again

pub returns-clause-found : goal.returns-clause-found
returns-clause-found c = tables_take
