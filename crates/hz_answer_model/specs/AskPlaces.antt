-- What is reported at the asks of a trace, place by place of its events: this profile, docs/FORMATS.md, 'Answers'. Law: `asks_are_reported_at_their_places`.
use Rattle.std.specs.Prelude.{◌≡◌, ◌⊎◌, ℕ, true, false, List, [], length, take, slice_get, slice_index_or, Some}
use Rattle.std.specs.List.{concat}
use Rattle.hz_pipeline_model.specs.Accepting.Asking.{Asked}
use Rattle.hz_pipeline_model.specs.Accepting.Events.{Event, issue, advance, ask}
use Rattle.hz_pipeline_model.specs.Pipelines.Pipelines.{pipeline_with}
use Rattle.hz_pipeline_model.specs.Traces.TraceNames.{TraceNames}
use Rattle.hz_pipeline_model.specs.Compiling.AutomatonPipelines.{query_unit}
use Rattle.hz_description_model.specs.Check.Places.{Known}
use Rattle.hz_description_model.specs.Reading.Descriptions.{Description}
use Rattle.hz_front_model.specs.Asks.{Reserved, AskSays, query_name}
use Rattle.hz_front_model.specs.Texts.{ask_line}

-- what an event after these says: an ask its line, any other nothing
abbrev pub EventSays : Reserved → TraceNames → (before : List Event) → (line : ℕ) → Event → List ℕ → Type 0
EventSays reserved names before line (issue k) text = text ≡ []
EventSays reserved names before line (advance n) text = text ≡ []
EventSays reserved names before line (ask a u) text = AskSays reserved names before line a u text

-- The text is in parts, one for each event: what the event says after those before it, by the line at its place.
pub record IsReportedByPlaces (reserved : Reserved) (names : TraceNames) (lines : List ℕ) (events : List Event) (text : List ℕ) : Type 0 where
  pub parts : List (List ℕ)
  pub each : length parts ≡ length events
  pub says : (p : ℕ) (e : Event) → slice_get events p ≡ Some e → EventSays reserved names (take p events) (slice_index_or lines p 0) e (slice_index_or parts p [])
  pub whole : text ≡ concat parts

-- the line of the ask at this place, by what a description's reservations hold there
abbrev pub AskedSays : Description → Known → TraceNames → List Event → (place line automaton query : ℕ) → List ℕ → Type 0
AskedSays d known names events place line automaton query text =
    (Asked (pipeline_with d known) events place (query_unit d automaton query) × (text ≡ ask_line line (query_name names automaton query) true))
    ⊎ ((Asked (pipeline_with d known) events place (query_unit d automaton query) → ⊥) × (text ≡ ask_line line (query_name names automaton query) false))
