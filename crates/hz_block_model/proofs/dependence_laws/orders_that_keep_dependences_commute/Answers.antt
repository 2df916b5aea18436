use Rattle.hz_block_model.proofs.Dependences.OrderLaws.{commutes}
use Rattle.hz_block_model.proofs.dependence_laws.orders_that_keep_dependences_commute.Goals as goal

pub returns : goal.returns
returns c = λ block order state whole kept. commutes block state order whole kept
