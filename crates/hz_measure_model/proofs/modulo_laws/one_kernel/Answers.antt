use Rattle.hz_measure_model.proofs.Kernels.LeastLaws.{one_kernel}
use Rattle.hz_measure_model.proofs.modulo_laws.one_kernel.Goals as goal

pub returns : goal.returns
returns c = one_kernel
