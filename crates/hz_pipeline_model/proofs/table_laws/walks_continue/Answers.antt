use Rattle.hz_pipeline_model.proofs.Tables.TableLaws.{walk-append}
use Rattle.hz_pipeline_model.proofs.table_laws.walks_continue.Goals as goal

pub returns-clause-append : goal.returns-clause-append
returns-clause-append c = walk-append
