use Rattle.hz_claims_laws.proofs.TablesLines.{asks_follow}
use Rattle.hz_claims_laws.proofs.tables_laws.lines_of_asks_follow_the_columns.Goals as goal

pub returns : goal.returns
returns c = asks_follow
