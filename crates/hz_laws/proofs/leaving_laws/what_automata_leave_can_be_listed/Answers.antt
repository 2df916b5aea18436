use Rattle.std.specs.Prelude.{◌==◌}
use Rattle.hz_pipeline_model.proofs.Accepting.Rows.{numbers_tell, same_unit, places_tell}
use Rattle.hz_laws.proofs.Leaving.ListingLaws.{left_listed}
use Rattle.hz_laws.proofs.leaving_laws.what_automata_leave_can_be_listed.Goals as goal

pub returns-clause-each : goal.returns-clause-each
returns-clause-each c = left_listed ◌==◌ numbers_tell

pub returns-clause-together : goal.returns-clause-together
returns-clause-together c = left_listed same_unit places_tell
