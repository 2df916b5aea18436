use Rattle.hz_measure_model.proofs.Kernels.DescribedLaws.{accepted_legal, turns_leave}
use Rattle.hz_measure_model.proofs.Kernels.RangeOfClasses.{classes_within}
use Rattle.hz_measure_model.proofs.modulo_laws.intervals_that_repeat_keep_every_turn.Goals as goal

pub returns-clause-legal : goal.returns-clause-legal
returns-clause-legal c = λ d known m reports sound machine compiled body g slots graph legal interval first second some repeats count h copies.
    accepted_legal d m machine body g graph slots legal interval first second some repeats count h copies known sound reports compiled (classes_within d _ h copies)

pub returns-clause-leaves : goal.returns-clause-leaves
returns-clause-leaves c = λ d known m reports sound machine compiled body g slots graph legal interval first second some repeats count h copies.
    turns_leave d m machine body g graph slots legal interval first second some repeats count h copies known sound reports compiled (classes_within d _ h copies)
