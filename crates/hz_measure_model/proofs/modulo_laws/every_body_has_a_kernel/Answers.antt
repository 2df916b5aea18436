use Rattle.hz_measure_model.proofs.Kernels.DescribedLaws.{has_long, has_kernel}
use Rattle.hz_measure_model.proofs.modulo_laws.every_body_has_a_kernel.Goals as goal

pub returns-clause-long : goal.returns-clause-long
returns-clause-long c = λ d m formed machine settle body g slots graph ranges legal. has_long d m machine body g graph slots legal formed settle ranges

pub returns-clause-some : goal.returns-clause-some
returns-clause-some c = λ d m formed machine settle body g slots graph ranges legal. has_kernel d m machine body g graph slots legal formed settle ranges
