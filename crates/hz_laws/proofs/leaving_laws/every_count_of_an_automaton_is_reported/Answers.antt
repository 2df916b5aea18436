use Rattle.std.specs.Prelude.{◌==◌}
use Rattle.hz_pipeline_model.proofs.Accepting.Rows.{numbers_tell}
use Rattle.hz_laws.proofs.Leaving.CountsReported.{counts_reported}
use Rattle.hz_laws.proofs.leaving_laws.every_count_of_an_automaton_is_reported.Goals as goal

pub returns : goal.returns
returns c = record { reported = counts_reported ◌==◌ numbers_tell }
