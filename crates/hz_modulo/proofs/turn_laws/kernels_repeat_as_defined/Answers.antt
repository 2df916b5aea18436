use Rattle.hz_modulo.proofs.RepeatLemmas.{repeats_as_defined, repeats_by_kernel}
use Rattle.hz_modulo.proofs.turn_laws.kernels_repeat_as_defined.Goals as goal

pub returns : goal.returns
returns c = λ m body t g slots machine many within all interval some few costs first second. (
  repeats_as_defined m machine g slots within all interval some body many t first second few costs,
  repeats_by_kernel m machine g slots within all interval some body many t first second,
)
