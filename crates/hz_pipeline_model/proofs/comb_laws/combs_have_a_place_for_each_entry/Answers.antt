use Rattle.hz_pipeline_model.proofs.Combs.CombLaws.{rows_in-entries}
use Rattle.hz_pipeline_model.proofs.comb_laws.combs_have_a_place_for_each_entry.Goals as goal

pub returns : goal.returns
returns c = rows_in-entries
