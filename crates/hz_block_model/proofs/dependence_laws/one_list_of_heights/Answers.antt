use Rattle.std.proofs.Common.{arith}
use Rattle.hz_block_model.proofs.Dependences.HeightLaws.{one_height}
use Rattle.hz_block_model.proofs.dependence_laws.one_list_of_heights.Goals as goal

pub returns : goal.returns
returns c = λ edges latency hs gs n upward h g i lt. one_height edges latency n upward hs gs h g n i lt (omega arith)
