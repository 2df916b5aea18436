use Rattle.hz_measure_model.proofs.Kernels.LeastLoads.{loads_below}
use Rattle.hz_measure_model.proofs.modulo_laws.no_interval_below_a_load_repeats.Goals as goal

pub returns : goal.returns
returns c = loads_below
