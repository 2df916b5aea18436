-- What the program that explains answers: what `replay` answers, and after it why. This profile, docs/FORMATS.md, 'Explanations'.
use Rattle.std.specs.Prelude.{◌≡◌, ◌⊎◌, ℕ, List, [], ◌∷◌, ◌++◌, take, codes, Option, Some, None, MatchOption, slice_get, slice_index_or, if◌then◌else◌}
use Rattle.hz_base_model.specs.Lines.{lines_of}
use Rattle.hz_base_model.specs.Names.{Held}
use Rattle.hz_description_model.specs.Check.CheckedParts.{units_in}
use Rattle.hz_description_model.specs.Check.Places.{Known, class_names, unit_places}
use Rattle.hz_description_model.specs.Reading.Descriptions.{Description, SetItem}
use Rattle.hz_description_model.specs.Reading.Limits.{description_limit}
use Rattle.hz_description_model.specs.Reservations.Automata.{UnitPlace, place_cmp}
use Rattle.hz_description_model.specs.Reservations.Sets.{SetKind, exclusion, presence, final_presence, absence, final_absence}
use Rattle.hz_pipeline_model.specs.Accepting.Events.{Event, issue}
use Rattle.hz_pipeline_model.specs.Accepting.Replay.{Pipeline, Accepted, FirstRefused}
use Rattle.hz_pipeline_model.specs.Pipelines.Pipelines.{pipeline_with}
use Rattle.hz_pipeline_model.specs.Traces.TraceLimits.{trace_limit}
use Rattle.hz_pipeline_model.specs.Traces.Traces.{event_lines}
use Rattle.hz_words_model.specs.Words.{has_option}
use Rattle.hz_front_model.specs.Descriptions.{HasDescription}
use Rattle.hz_front_model.specs.Replays.{Replays}
use Rattle.hz_front_model.specs.Asks.{trace_names, held_in}
use Rattle.hz_front_model.specs.Phases.{Says, Next, OpensAll, Traces}
use Rattle.hz_why_model.specs.Explanations.{Wording, TellsLeft, TellsRefusal}
use Rattle.hz_why_model.specs.Reasons.{same_place}

-- ---- how a description is spoken of

-- the word of a set statement's form
abbrev pub set_word : SetKind → List ℕ
set_word exclusion = codes "exclusion_set"
set_word presence = codes "presence_set"
set_word final_presence = codes "final_presence_set"
set_word absence = codes "absence_set"
set_word final_absence = codes "final_absence_set"

-- the word, and the line, of a set statement, if there is one
abbrev pub word_of : Option SetItem → List ℕ
word_of None = []
word_of (Some s) = set_word s.kind

abbrev pub line_of : Option SetItem → ℕ
line_of None = 0
line_of (Some s) = s.line

-- units, classes and set statements go by their names and forms, in the order of the file
abbrev pub wording_of : Description → Wording UnitPlace
wording_of d = record {
  units = unit_places d;
  same = same_place;
  unit_cmp = place_cmp;
  unit = λ u. slice_index_or (units_in d u.automaton) u.unit [];
  class = λ k. slice_index_or (class_names d) k [];
  statement = λ n. word_of (slice_get d.sets n);
  line = λ n. line_of (slice_get d.sets n);
}

-- ---- what is answered

-- After what `replay` answers of events that stand on these lines: what they leave if all are accepted, or why one is refused.
abbrev pub Explains : Wording UnitPlace → Pipeline UnitPlace → List Event → (lines text : List ℕ) → Type 0
Explains w m events lines text =
    (Accepted m events × TellsLeft w m events lines text)
    ⊎ ((i class : ℕ) × FirstRefused m events i × (slice_get events i ≡ Some (issue class)) × TellsRefusal w m (take i events) lines class text)

-- what `replay` answers of the events of a description, where there is no limit of states, and then why
abbrev pub ReplaysAndExplains : Description → Known → (lines : List ℕ) → List Event → ℕ → List ℕ → Type 0
ReplaysAndExplains d known lines events status text =
    (answer why : List ℕ) × Replays (pipeline_with d known) (held_in d known) (trace_names d) lines events status answer
    × Explains (wording_of d) (pipeline_with d known) events lines why
    × (text ≡ answer ++ why)

-- the trace of a description is judged, replayed and explained
abbrev pub ExplainsTrace : List ℕ → List ℕ → Description → Known → ℕ → List ℕ → Type 0
ExplainsTrace trace traced d known =
    Traces (trace_names d) trace traced (ReplaysAndExplains d known (event_lines (trace_names d) 1 (lines_of traced)))

-- the line that answers words which are not two names of files
abbrev pub why_usage : List ℕ
why_usage = codes "usage: hz_why DESC TRACE\n"

-- the names of the two files, of which none begins with `-`
abbrev pub why_files : List (List ℕ) → Option (List ℕ × List ℕ)
why_files (description ∷ trace ∷ []) = if has_option (description ∷ trace ∷ []) then None else Some (description, trace)
why_files _ = None

-- both texts are judged, the description first
abbrev pub JudgesTexts : (description trace : List ℕ) → Next (List (List ℕ))
JudgesTexts description trace (described ∷ traced ∷ []) status text = HasDescription description described (ExplainsTrace trace traced) status text
JudgesTexts description trace _ status text = ⊥

-- both files are read, and then their texts are judged
abbrev pub AnswersFiles : Held → (List ℕ × List ℕ) → ℕ → List ℕ → Type 0
AnswersFiles held files =
    OpensAll held (record { name = files.0; most = description_limit } ∷ record { name = files.1; most = trace_limit } ∷ []) (JudgesTexts files.0 files.1)

-- What the program answers to its words over files that hold this, where memory is found and nothing fails but the opening of a name
-- that is not held.
abbrev pub WhyAnswer : List (List ℕ) → Held → ℕ → List ℕ → Type 0
WhyAnswer words held status text = MatchOption (why_files words) (Says 4 why_usage status text) (λ files. AnswersFiles held files status text)
