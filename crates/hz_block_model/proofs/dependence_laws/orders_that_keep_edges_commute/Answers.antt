use Rattle.hz_block_model.proofs.Dependences.OrderLaws.{commutes}
use Rattle.hz_block_model.proofs.Dependences.UpwardLaws.{keeps_from_edges}
use Rattle.hz_block_model.proofs.dependence_laws.orders_that_keep_edges_commute.Goals as goal

pub returns : goal.returns
returns c = λ block t edges order state graph whole kept. commutes block state order whole (keeps_from_edges block t edges order graph kept)
