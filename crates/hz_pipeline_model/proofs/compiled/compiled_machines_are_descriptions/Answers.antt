use Rattle.std.proofs.Common.{length}
use Rattle.hz_pipeline_model.specs.Pipelines.Pipelines.{pipeline_with}
use Rattle.hz_pipeline_model.proofs.Compiling.DescriptionLaws.{machine_accepts, machine_tells, unwalked_refused, all_keep, first_past}
use Rattle.hz_pipeline_model.proofs.compiled.compiled_machines_are_descriptions.Goals as goal

pub returns-clause-walks : goal.returns-clause-walks
returns-clause-walks c = λ d known sound m reports is t all. machine_accepts d known m reports is t all sound

pub returns-clause-held : goal.returns-clause-held
returns-clause-held c = λ d known sound m reports is t all states walked a query low asked. machine_tells d known m reports is t all sound states walked a query low asked

pub returns-clause-refused : goal.returns-clause-refused
returns-clause-refused c = λ d known sound m reports is t all i within before stops. unwalked_refused (pipeline_with d known) m (length d.classes) (λ t all. machine_accepts d known m reports is t all sound) t all i within before stops

pub returns-clause-keep : goal.returns-clause-keep
returns-clause-keep c = λ d known m reports is. all_keep d known m reports is

pub returns-clause-past : goal.returns-clause-past
returns-clause-past c = λ d known a kind first. first_past d known a kind first
