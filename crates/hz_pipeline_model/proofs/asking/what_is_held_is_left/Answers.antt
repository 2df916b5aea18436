use Rattle.std.proofs.Common.{[]}
use Rattle.hz_base_model.proofs.Elements.{Contains-head}
use Rattle.hz_pipeline_model.proofs.Reaching.HeldLaws.{held_is_present}
use Rattle.hz_pipeline_model.proofs.asking.what_is_held_is_left.Goals as goal

pub returns : goal.returns
returns g c m first t grid left unit = held_is_present m first t grid (left.only grid (Contains-head grid [])) unit
