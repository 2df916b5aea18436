use Rattle.hz_measure_model.proofs.Kernels.HeightLaws.{heights_below}
use Rattle.hz_measure_model.proofs.modulo_laws.no_interval_below_heights_repeats.Goals as goal

pub returns : goal.returns
returns c = λ m machine body t three g graph many slots legal interval first second some repeats part there weight share height are.
    heights_below m machine body t g graph many slots legal three interval first second some repeats part there weight share height are
