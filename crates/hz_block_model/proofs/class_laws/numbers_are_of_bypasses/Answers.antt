use Rattle.hz_block_model.proofs.Dependences.ServeLaws.{by_guarded, by_unguarded, by_latency}
use Rattle.hz_block_model.proofs.class_laws.numbers_are_of_bypasses.Goals as goal

pub returns-clause-guarded : goal.returns-clause-guarded
returns-clause-guarded c = by_guarded

pub returns-clause-unguarded : goal.returns-clause-unguarded
returns-clause-unguarded c = by_unguarded

pub returns-clause-latency : goal.returns-clause-latency
returns-clause-latency c = by_latency
