-- A text whose lines are read, and what is remembered of them.
use Rattle.std.specs.Prelude.{◌≡◌, ℕ, ◌≤◌, List, length, All}
use Rattle.std.specs.List.{slice_range}
use Rattle.hz_pipeline_model.specs.Traces.TraceNames.{TraceNames}
use Rattle.hz_pipeline_model.specs.Traces.Traces.{line_says}
use Rattle.hz_replay.specs.Lines.{said, capped_line}
use Rattle.hz_replay.specs.declared.reading.Seen.{Seen}

-- The names that the lines say, and a text.
pub record Source : Type 0 where
  pub names : TraceNames
  pub text : List ℕ

-- A line that is remembered stands in the text, and says what is kept.
pub record IsSeen (names : TraceNames) (text : List ℕ) (seen : Seen) : Type 0 where
  pub order : seen.from ≤ seen.to
  pub within : seen.to ≤ length text
  pub says : said seen.said ≡ capped_line (line_says names (slice_range text seen.from seen.to))

-- Each place remembers a line.
pub record AreSeen (names : TraceNames) (text : List ℕ) (seen : List Seen) : Type 0 where
  pub places : length seen ≡ 4096
  pub each : All (IsSeen names text) seen
