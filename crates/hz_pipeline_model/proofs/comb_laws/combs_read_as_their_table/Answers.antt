use Rattle.hz_pipeline_model.proofs.Combs.CombLaws.{rows_in-table}
use Rattle.hz_pipeline_model.proofs.comb_laws.combs_read_as_their_table.Goals as goal

pub returns : goal.returns
returns c = rows_in-table
