use Rattle.hz_base_model.specs.Lines.{lines_of}
use Rattle.hz_pipeline_model.proofs.Traces.LineLaws.{event_in_line, lines_ascend}
use Rattle.hz_pipeline_model.proofs.trace_laws.events_stand_in_their_lines.Goals as goal

pub returns-clause-says : goal.returns-clause-says
returns-clause-says c = event_in_line

pub returns-clause-ascend : goal.returns-clause-ascend
returns-clause-ascend c = λ names text. lines_ascend names 1 (lines_of text)
