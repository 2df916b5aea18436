use Rattle.std.specs.Prelude.{map}
use Rattle.hz_pipeline_model.proofs.Single.MachineLaws.{one_machine}
use Rattle.hz_description_model.specs.Check.CheckedParts.{automata_of, class_parts}
use Rattle.hz_measure_model.proofs.Kernels.TextLaws.{one_text, some_text}
use Rattle.hz_measure_model.proofs.modulo_laws.kernels_have_one_text.Goals as goal

pub returns-clause-one : goal.returns-clause-one
returns-clause-one c = λ d known block s t a b.
    one_text d known block (λ m n r o is also. one_machine d.options (automata_of d) (map (class_parts d known) d.classes) m n r o is.0 also.0 is.1 also.1) s t a b

pub returns-clause-some : goal.returns-clause-some
returns-clause-some c = λ d known m reports formed sound machine compiled settle block g slots scheduled. some_text d known m reports formed sound machine compiled settle block g slots scheduled
