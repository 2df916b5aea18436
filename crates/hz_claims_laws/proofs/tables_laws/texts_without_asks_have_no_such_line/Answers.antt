use Rattle.hz_claims_laws.proofs.TablesLines.{none_follow}
use Rattle.hz_claims_laws.proofs.tables_laws.texts_without_asks_have_no_such_line.Goals as goal

pub returns : goal.returns
returns c = none_follow
