use Rattle.std.proofs.Common.{arith}
use Rattle.hz_tables.proofs.LayLaws.{all_past}
use Rattle.hz_tables.proofs.laying.base_for.Goals as goal

pub returns-clause-fits : goal.returns-clause-fits
returns-clause-fits c = all_past c.args.owners.now c.args.free _ c.args.columns.now (omega arith)
