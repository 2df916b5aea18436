-- Traces: what each line says, the events of a text, and what is wrong with it. This profile, docs/RULES.md.
use Rattle.std.specs.Prelude.{◌≡◌, ℕ, ◌+◌, ◌-◌, ◌<◌, ◌≤◌, ◌==◌, Bool, ◌||◌, List, [], ◌∷◌, ◌++◌, length, take, drop, codes, if◌then◌else◌}
use Rattle.std.specs.List.{prefix_len, suffix_len, position_or_len}
use Rattle.std.specs.Option.{option_map_or}
use Rattle.std.specs.Str.{bytes_eq}
use Rattle.hz_pipeline_model.specs.Traces.TraceLimits.{advance_limit}
use Rattle.hz_base_model.specs.Names.{is_name}
use Rattle.hz_base_model.specs.Lines.{lines_of, number_of, place_of}
use Rattle.hz_pipeline_model.specs.Accepting.Events.{Event, issue, advance, ask, cycles_of}
use Rattle.hz_pipeline_model.specs.Traces.TraceNames.{TraceNames, query_place}

-- What can be wrong with a trace: a line that is no event, a name that no class has, too many advances, a name that no
-- query unit has.
pub data TraceFault : Type 0 where
  bad_line unknown_class too_many_advances unknown_unit : TraceFault

-- the word by which a fault is reported: docs/FORMATS.md, 'Answers'
abbrev pub trace_word : TraceFault → List ℕ
trace_word bad_line = codes "BadLine"
trace_word unknown_class = codes "UnknownClass"
trace_word too_many_advances = codes "AdvanceLimit"
trace_word unknown_unit = codes "UnknownUnit"

-- What a line says: nothing, an event, or what is wrong with it.
pub data Line : Type 0 where
  skipped : Line
  says : (event : Event) → Line
  wrong : (fault : TraceFault) → Line

-- space, tab and carriage return, which are dropped at both ends of a line
abbrev pub is_margin : ℕ → Bool
is_margin b = b == 32 || b == 9 || b == 13

-- space and tab, which stand between the words of a line
abbrev pub is_gap : ℕ → Bool
is_gap b = b == 32 || b == 9

-- a line without the margin at both ends
abbrev pub without_margin : List ℕ → List ℕ
without_margin line = without_end (drop (prefix_len is_margin line) line)
  where
    without_end : List ℕ → List ℕ
    without_end rest = take (length rest - suffix_len is_margin rest) rest

-- the word that a line begins with
abbrev pub first_word : List ℕ → List ℕ
first_word line = take (position_or_len is_gap line) line

-- what follows it after spaces and tabs
abbrev pub operand : List ℕ → List ℕ
operand line = after_gap (drop (position_or_len is_gap line) line)
  where
    after_gap : List ℕ → List ℕ
    after_gap rest = drop (prefix_len is_gap rest) rest

-- `issue NAME`
abbrev pub says_issue : List (List ℕ) → List ℕ → Line
says_issue classes name =
    if is_name name then option_map_or (λ k. says (issue k)) (place_of name classes) (wrong unknown_class) else wrong bad_line

-- `advance N`
abbrev pub says_advance : List ℕ → Line
says_advance digits = option_map_or (λ n. says (advance n)) (number_of digits) (wrong bad_line)

-- `ask UNIT`
abbrev pub says_ask : TraceNames → List ℕ → Line
says_ask names name =
    if is_name name then option_map_or (λ place. says (ask place.0 place.1)) (query_place names name) (wrong unknown_unit) else wrong bad_line

-- a word and its operand
abbrev pub says_words : TraceNames → (word operand : List ℕ) → Line
says_words names word operand =
    if bytes_eq word (codes "issue") then says_issue names.classes operand
    else (if bytes_eq word (codes "advance") then says_advance operand
    else (if bytes_eq word (codes "ask") then says_ask names operand else wrong bad_line))

-- without margins, an empty line is skipped, and so is one that begins with `;`
abbrev pub says_content : TraceNames → List ℕ → Line
says_content names [] = skipped
says_content names (b ∷ bs) = if b == 59 then skipped else says_words names (first_word (b ∷ bs)) (operand (b ∷ bs))

-- what a line says, where these are the names
abbrev pub line_says : TraceNames → List ℕ → Line
line_says names line = says_content names (without_margin line)

-- Lines say events, one after the other.
pub data Say (names : TraceNames) : (lines : List (List ℕ)) (events : List Event) → Type 0 where
  nothing : Say names [] []
  skips : {line : List ℕ} {lines : List (List ℕ)} {events : List Event} → line_says names line ≡ skipped → Say names lines events → Say names (line ∷ lines) events
  tells : {line : List ℕ} {lines : List (List ℕ)} {event : Event} {events : List Event} → line_says names line ≡ says event → Say names lines events → Say names (line ∷ lines) (event ∷ events)

-- the text is a trace of these events, where these are the names
pub record Trace (names : TraceNames) (text : List ℕ) (events : List Event) : Type 0 where
  pub lines : Say names (lines_of text) events
  pub short : cycles_of events ≤ advance_limit

-- What is wrong with a line after so many advances: with the line itself, or with the sum of all advances so far.
pub data WrongAfter (names : TraceNames) (advanced : ℕ) (line : List ℕ) : (fault : TraceFault) → Type 0 where
  line_alone : {fault : TraceFault} → line_says names line ≡ wrong fault → WrongAfter names advanced line fault
  advances : {cycles : ℕ} → line_says names line ≡ says (advance cycles) → advance_limit < advanced + cycles → WrongAfter names advanced line too_many_advances

-- The lines up to one are a trace, and this one, by its number from 1, is wrong.
pub record TraceFaultAt (names : TraceNames) (text : List ℕ) (fault : TraceFault) (number : ℕ) : Type 0 where
  pub before : List (List ℕ)
  pub line : List ℕ
  pub after : List (List ℕ)
  pub events : List Event
  pub parts : lines_of text ≡ before ++ line ∷ after
  pub say : Say names before events
  pub short : cycles_of events ≤ advance_limit
  pub counted : number ≡ length before + 1
  pub wrong : WrongAfter names (cycles_of events) line fault

-- the number of a line joins where the line says an event
abbrev pub numbered : Line → ℕ → List ℕ → List ℕ
numbered (says event) number numbers = number ∷ numbers
numbered _ number numbers = numbers

-- the numbers of the lines that say an event, where the first line has this number
abbrev pub event_lines : TraceNames → ℕ → List (List ℕ) → List ℕ
event_lines names number [] = []
event_lines names number (line ∷ lines) = numbered (line_says names line) number (event_lines names (number + 1) lines)
