use Rattle.hz_measure_model.proofs.Kernels.DescribedLaws.{enough}
use Rattle.hz_measure_model.proofs.modulo_laws.three_turns_are_enough.Goals as goal

pub returns : goal.returns
returns c = enough
