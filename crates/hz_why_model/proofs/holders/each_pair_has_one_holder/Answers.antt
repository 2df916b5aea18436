use Rattle.hz_why_model.proofs.HolderLaws.{one_holder}
use Rattle.hz_why_model.proofs.holders.each_pair_has_one_holder.Goals as goal

pub returns : goal.returns
returns g c = one_holder
