-- What the reader finds on a line, in the words of the grammar of traces.
use Rattle.std.specs.Prelude.{ℕ, ◌+◌, min, nat_le, if◌then◌else◌, Option, Some, None, Result, Ok, Err}
use Rattle.hz_pipeline_model.specs.Traces.TraceLimits.{advance_limit}
use Rattle.hz_pipeline_model.specs.Accepting.Events as events
use Rattle.hz_pipeline_model.specs.Traces.Traces.{TraceFault, bad_line, unknown_class, too_many_advances, unknown_unit, Line, skipped, says, wrong}
use Rattle.hz_replay.specs.declared.event.What.{What}
use Rattle.hz_replay.specs.declared.event.What.TheVariants.{Issue, Advance, Ask}
use Rattle.hz_replay.specs.declared.words.Wrong.{Wrong as WrongLine}
use Rattle.hz_replay.specs.declared.words.Wrong.TheVariants.{BadLine, UnknownClass, AdvanceLimit, UnknownUnit}
use Rattle.hz_replay.specs.declared.words.Said.{Said}
use Rattle.hz_replay.specs.declared.words.Said.TheVariants.{Nothing, Event as SaidEvent, Wrong as SaidWrong}

-- an event of the program as an event of the model
abbrev pub event_of : What → events.Event
event_of (Issue class) = events.issue class
event_of (Advance cycles) = events.advance cycles
event_of (Ask part ask) = events.ask part ask

-- what is wrong with a line
abbrev pub fault_of : WrongLine → TraceFault
fault_of BadLine = bad_line
fault_of UnknownClass = unknown_class
fault_of AdvanceLimit = too_many_advances
fault_of UnknownUnit = unknown_unit

-- what a line says
abbrev pub said : Said → Line
said Nothing = skipped
said (SaidEvent what) = says (event_of what)
said (SaidWrong why) = wrong (fault_of why)

-- a sum of advances, or the limit and one more where it is greater
abbrev pub capped : ℕ → ℕ
capped n = min (advance_limit + 1) n

-- the same of the advances of a line
abbrev pub capped_line : Line → Line
capped_line skipped = skipped
capped_line (says (events.issue class)) = says (events.issue class)
capped_line (says (events.advance cycles)) = says (events.advance (capped cycles))
capped_line (says (events.ask automaton query)) = says (events.ask automaton query)
capped_line (wrong why) = wrong why

-- what a line says after so many advances: its event, none, or what is wrong with it
abbrev pub judged : ℕ → Line → Result (Option events.Event) TraceFault
judged advanced skipped = Ok None
judged advanced (says (events.issue class)) = Ok (Some (events.issue class))
judged advanced (says (events.advance cycles)) = if nat_le (advanced + cycles) advance_limit then Ok (Some (events.advance cycles)) else Err too_many_advances
judged advanced (says (events.ask automaton query)) = Ok (Some (events.ask automaton query))
judged advanced (wrong why) = Err why

-- the same, as the reader has it
abbrev pub judgement : Result (Option What) WrongLine → Result (Option events.Event) TraceFault
judgement (Ok None) = Ok None
judgement (Ok (Some what)) = Ok (Some (event_of what))
judgement (Err why) = Err (fault_of why)
