use Rattle.hz_laws.proofs.Totality.LeastTables.{least_table}
use Rattle.hz_laws.proofs.totality_laws.every_table_has_a_least_one.Goals as goal

pub returns : goal.returns
returns c = least_table
