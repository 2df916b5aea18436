-- The limits on the states of a description's automata, each taken by itself. This profile, docs/RULES.md, 'Limits'.
use Rattle.std.specs.Prelude.{ℕ, ◌<◌, ◌⊎◌, length}
use Rattle.hz_pipeline_model.specs.Accepting.Restricted.{restricted}
use Rattle.hz_description_model.specs.Reading.Descriptions.{Description}
use Rattle.hz_description_model.specs.Check.Places.{Known}
use Rattle.hz_description_model.specs.Check.CheckedParts.{automaton_count, queries_in}
use Rattle.hz_pipeline_model.specs.Pipelines.Pipelines.{pipeline_with}
use Rattle.hz_pipeline_model.specs.Reaching.Counts.{Count}
use Rattle.hz_pipeline_model.specs.Compiling.AutomatonPipelines.{class_lists}
use Rattle.hz_pipeline_model.specs.Compiling.Compiled.{shows_states}
use Rattle.hz_pipeline_model.specs.Compiling.CompiledParts.{IsWithinLimits, IsPastLimit}

-- every count of the automaton of this number is within its limit
abbrev pub KeepsLimits : Description → Known → ℕ → Type 0
KeepsLimits d known a = IsWithinLimits (shows_states d.options) (class_lists d known a) (length (queries_in d a)) (restricted a (pipeline_with d known))

-- its count of this kind is above its limit
abbrev pub PassesLimit : Description → Known → ℕ → Count → Type 0
PassesLimit d known a kind = IsPastLimit (shows_states d.options) (class_lists d known a) (length (queries_in d a)) (restricted a (pipeline_with d known)) kind

-- every automaton keeps its limits
abbrev pub AllKeepLimits : Description → Known → Type 0
AllKeepLimits d known = (a : ℕ) → a < automaton_count d → KeepsLimits d known a

-- The automaton of this number is the first that has a count above its limit.
pub record IsFirstPastLimit (d : Description) (known : Known) (a : ℕ) : Type 0 where
  pub there : a < automaton_count d
  pub before : (b : ℕ) → b < a → KeepsLimits d known b
  pub kind : Count
  pub past : PassesLimit d known a kind

-- each automaton keeps its limits, or has a count above one
abbrev pub AreCounted : Description → Known → Type 0
AreCounted d known = (a : ℕ) → a < automaton_count d → KeepsLimits d known a ⊎ ((kind : Count) × PassesLimit d known a kind)
