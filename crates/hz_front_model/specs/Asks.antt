-- What a program tells at the asks of a trace, before how it ends: this profile, docs/FORMATS.md, 'Answers'.
use Rattle.std.specs.Prelude.{◌≡◌, ◌⊎◌, ℕ, true, false, List, [], ◌∷◌, ◌++◌, map, drop, slice_index_or}
use Rattle.hz_pipeline_model.specs.Accepting.Asking.{IsHeld}
use Rattle.hz_pipeline_model.specs.Accepting.Events.{Event, issue, advance, ask}
use Rattle.hz_pipeline_model.specs.Pipelines.Pipelines.{pipeline_with}
use Rattle.hz_pipeline_model.specs.Traces.TraceNames.{TraceNames}
use Rattle.hz_pipeline_model.specs.Compiling.AutomatonPipelines.{query_unit}
use Rattle.hz_description_model.specs.Check.CheckedParts.{automata_of}
use Rattle.hz_description_model.specs.Check.CheckedShape.{ask_names}
use Rattle.hz_description_model.specs.Check.Places.{Known, class_names}
use Rattle.hz_description_model.specs.Reading.Descriptions.{Description}
use Rattle.hz_front_model.specs.Texts.{ask_line}

-- the names of a description that the lines of a trace say
abbrev pub trace_names : Description → TraceNames
trace_names d = record { classes = class_names d; queries = map ask_names (automata_of d) }

-- Whether a query unit is reserved in the present cycle after events, by its automaton and its place among the query units there.
abbrev pub Reserved : Type 1
Reserved = List Event → (automaton query : ℕ) → Type 0

-- by what a description's reservations hold
abbrev pub held_in : Description → Known → Reserved
held_in d known before automaton query = IsHeld (pipeline_with d known) before (query_unit d automaton query)

-- the name of a query unit
abbrev pub query_name : TraceNames → (automaton query : ℕ) → List ℕ
query_name names automaton query = slice_index_or (slice_index_or names.queries automaton []) query []

-- the line of an ask after these events
abbrev pub AskSays : Reserved → TraceNames → (before : List Event) → (line automaton query : ℕ) → List ℕ → Type 0
AskSays reserved names before line automaton query text =
    (reserved before automaton query × (text ≡ ask_line line (query_name names automaton query) true))
    ⊎ ((reserved before automaton query → ⊥) × (text ≡ ask_line line (query_name names automaton query) false))

-- The lines of the asks among events that stand on these lines of the trace, each by the events before it.
abbrev pub AsksSay : Reserved → TraceNames → (before : List Event) → (lines : List ℕ) → List Event → List ℕ → Type 0
AsksSay reserved names before lines [] text = text ≡ []
AsksSay reserved names before lines (issue k ∷ events) text = AsksSay reserved names (before ++ issue k ∷ []) (drop 1 lines) events text
AsksSay reserved names before lines (advance n ∷ events) text = AsksSay reserved names (before ++ advance n ∷ []) (drop 1 lines) events text
AsksSay reserved names before lines (ask a u ∷ events) text =
    (first rest : List ℕ) × AskSays reserved names before (slice_index_or lines 0 0) a u first × AsksSay reserved names (before ++ ask a u ∷ []) (drop 1 lines) events rest × (text ≡ first ++ rest)

-- The asks among these events are reported, and then what comes last.
abbrev pub Tells : Reserved → TraceNames → (lines : List ℕ) → List Event → (ℕ → List ℕ → Type 0) → ℕ → List ℕ → Type 0
Tells reserved names lines events last status text =
    (asks rest : List ℕ) × AsksSay reserved names [] lines events asks × last status rest × (text ≡ asks ++ rest)
