use Rattle.hz_pipeline_model.proofs.Tables.TableLaws.{breadth_first_reached}
use Rattle.hz_pipeline_model.proofs.table_laws.breadth_first_states_are_reached.Goals as goal

pub returns : goal.returns
returns c = breadth_first_reached
