use Rattle.hz_laws.proofs.Totality.AutomatonTotal.{some_automaton}
use Rattle.hz_laws.proofs.totality_laws.every_pipeline_has_an_automaton.Goals as goal

pub returns : goal.returns
returns c = λ m columns none n most. let has = some_automaton m columns none n most in (has.table, has.grids, has.sets, has.parents, has.is)
