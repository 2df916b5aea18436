use Rattle.hz_pipeline_model.proofs.Accepting.AskLaws.{choice_without, calendar_without, cycles_without, issues_without, accepted_without, runs_without, held_without, refused_without}
use Rattle.hz_pipeline_model.proofs.acceptance.asks_change_nothing.Goals as goal

pub returns-clause-choices : goal.returns-clause-choices
returns-clause-choices g c = choice_without

pub returns-clause-calendar : goal.returns-clause-calendar
returns-clause-calendar g c = calendar_without

pub returns-clause-cycles : goal.returns-clause-cycles
returns-clause-cycles g c = cycles_without

pub returns-clause-issues : goal.returns-clause-issues
returns-clause-issues g c = issues_without

pub returns-clause-acceptance : goal.returns-clause-acceptance
returns-clause-acceptance g c = accepted_without

pub returns-clause-states : goal.returns-clause-states
returns-clause-states g c = runs_without

pub returns-clause-held : goal.returns-clause-held
returns-clause-held g c = held_without

pub returns-clause-refused : goal.returns-clause-refused
returns-clause-refused g c = refused_without
