use Rattle.std.proofs.Common.{◌≡◌, Some}
use Rattle.hz_pipeline_model.proofs.Tables.TableLaws.{walk_stays}
use Rattle.hz_pipeline_model.proofs.table_laws.walks_stay.Goals as goal

pub returns : goal.returns
returns c = λ table columns is state next w within e.
    walk_stays table columns is (Some state) (λ other h. let same : state ≡ other = cc in rw (← same) within) next w e
