use Rattle.hz_same_model.proofs.ProductLaws.{difference_of_trace, trace_of_difference}
use Rattle.hz_same_model.proofs.products.differences_tell_machines_apart.Goals as goal

pub returns : goal.returns
returns c = λ first second before last. (difference_of_trace first second before last, trace_of_difference first second before last)
