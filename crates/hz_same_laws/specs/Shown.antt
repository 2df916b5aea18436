-- What traces show of two descriptions, by the names that the machines have in common which are compiled of them. This profile,
-- docs/RULES.md, 'Machines that are compared'.
use Rattle.std.specs.Prelude.{◌⊎◌, ◌↔◌, ℕ, ◌<◌, ◌≤◌, List, [], ◌∷◌, ◌++◌, All}
use Rattle.hz_description_model.specs.Check.Places.{Known}
use Rattle.hz_description_model.specs.Reading.Descriptions.{Description}
use Rattle.hz_pipeline_model.specs.Accepting.Asking.{IsHeld}
use Rattle.hz_pipeline_model.specs.Accepting.Events.{Event, issue, advance, ask}
use Rattle.hz_pipeline_model.specs.Accepting.Replay.{Accepted}
use Rattle.hz_pipeline_model.specs.Compiling.AutomatonPipelines.{query_unit}
use Rattle.hz_pipeline_model.specs.Pipelines.Pipelines.{pipeline_with}
use Rattle.hz_pipeline_model.specs.Tables.Machines.{Machine}
use Rattle.hz_same_model.specs.Common.{common_of, advance_symbol, symbol_count, event_at, events_at}

-- What a description says of an event after others: an issue and a cycle are accepted, and the unit that is asked for is reserved.
abbrev pub Takes : Description → Known → (before : List Event) → Event → Type 0
Takes d known before (issue class) = Accepted (pipeline_with d known) (before ++ issue class ∷ [])
Takes d known before (advance cycles) = Accepted (pipeline_with d known) (before ++ advance cycles ∷ [])
Takes d known before (ask a query) = IsHeld (pipeline_with d known) before (query_unit d a query)

-- Both accept all before the last event, and exactly one takes that.
pub record IsShown (d : Description) (known : Known) (e : Description) (also : Known) (m n : Machine) (before : List ℕ) (last : ℕ) : Type 0 where
  pub one : Accepted (pipeline_with d known) (events_at (common_of m n) m before)
  pub other : Accepted (pipeline_with e also) (events_at (common_of m n) n before)
  pub exactly : (Takes d known (events_at (common_of m n) m before) (event_at (common_of m n) m last) × (Takes e also (events_at (common_of m n) n before) (event_at (common_of m n) n last) → ⊥))
      ⊎ ((Takes d known (events_at (common_of m n) m before) (event_at (common_of m n) m last) → ⊥) × Takes e also (events_at (common_of m n) n before) (event_at (common_of m n) n last))

-- Both accept the same issues and cycles, and after them the one takes what the other does.
pub record AcceptTheSame (d : Description) (known : Known) (e : Description) (also : Known) (m n : Machine) : Type 0 where
  pub accepts : (word : List ℕ) → All (λ s. s ≤ advance_symbol (common_of m n)) word → Accepted (pipeline_with d known) (events_at (common_of m n) m word) ↔ Accepted (pipeline_with e also) (events_at (common_of m n) n word)
  pub takes : (before : List ℕ) (last : ℕ) → All (λ s. s ≤ advance_symbol (common_of m n)) before → last < symbol_count (common_of m n) → Accepted (pipeline_with d known) (events_at (common_of m n) m before) → Accepted (pipeline_with e also) (events_at (common_of m n) n before)
      → Takes d known (events_at (common_of m n) m before) (event_at (common_of m n) m last) ↔ Takes e also (events_at (common_of m n) n before) (event_at (common_of m n) n last)
