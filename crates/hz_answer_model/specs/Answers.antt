-- What the program answers: this profile, docs/FORMATS.md, 'Answers'.
use Rattle.std.specs.Prelude.{ℕ, List, [], ◌∷◌, MatchOption, ◌⊎◌, slice_index_or}
use Rattle.hz_description_model.specs.Check.Places.{Known}
use Rattle.hz_description_model.specs.Reading.Descriptions.{Description}
use Rattle.hz_description_model.specs.Reading.Limits.{description_limit}
use Rattle.hz_pipeline_model.specs.Traces.TraceLimits.{trace_limit}
use Rattle.hz_description_model.specs.Check.CheckedParts.{automaton_names}
use Rattle.hz_pipeline_model.specs.Pipelines.Pipelines.{pipeline_with}
use Rattle.hz_pipeline_model.specs.Compiling.DescriptionLimits.{AllKeepLimits, IsFirstPastLimit}
use Rattle.hz_base_model.specs.Lines.{lines_of}
use Rattle.hz_pipeline_model.specs.Traces.Traces.{event_lines}
use Rattle.hz_front_model.specs.Texts.{states_line}
use Rattle.hz_words_model.specs.Words.{Order, compile, replay, walk, schedule, eval, drill, timed, bound, duo, modulo, order_of, usage_line}
use Rattle.hz_base_model.specs.Names.{Held}
use Rattle.hz_front_model.specs.Descriptions.{HasDescription}
use Rattle.hz_front_model.specs.Replays.{Replays}
use Rattle.hz_front_model.specs.Asks.{trace_names, held_in}
use Rattle.hz_front_model.specs.Phases.{Says, Next, FileWord, OpensAll, Traces}
use Rattle.hz_answer_model.specs.BlockAnswers.{block_limit, state_text_limit, JudgesBlock}
use Rattle.hz_answer_model.specs.ScheduleAnswers.{SchedulesBlock}
use Rattle.hz_answer_model.specs.TimedAnswers.{TimesBlock}
use Rattle.hz_answer_model.specs.BoundAnswers.{BoundsBlock}
use Rattle.hz_answer_model.specs.DuoAnswers.{SchedulesBlocks}
use Rattle.hz_answer_model.specs.ModuloAnswers.{OverlapsBlock}
use Rattle.hz_answer_model.specs.DrillAnswers.{Drills}
use Rattle.hz_answer_model.specs.TableAnswers.{tables_limit, WritesTablesOf, HasTables, WalksTrace}

-- the first automaton that has too many states is reported
abbrev pub TellsLimit : List ℕ → Description → Known → ℕ → List ℕ → Type 0
TellsLimit name d known status text = (a : ℕ) × IsFirstPastLimit d known a × Says 3 (states_line name (slice_index_or (automaton_names d) a [])) status text

-- The automata of a description are within their limits of states, or the first that is not is reported.
abbrev pub Compiles : List ℕ → Description → Known → (ℕ → List ℕ → Type 0) → ℕ → List ℕ → Type 0
Compiles name d known next status text = (AllKeepLimits d known × next status text) ⊎ TellsLimit name d known status text

-- the trace of a description whose names have these alternatives is judged, and replayed
abbrev pub ReplaysTrace : List ℕ → List ℕ → Description → Known → ℕ → List ℕ → Type 0
ReplaysTrace trace traced d known =
    Traces (trace_names d) trace traced (Replays (pipeline_with d known) (held_in d known) (trace_names d) (event_lines (trace_names d) 1 (lines_of traced)))

-- a description without a fault is compiled and replayed
abbrev pub ReplaysDescription : List ℕ → List ℕ → List ℕ → Description → Known → ℕ → List ℕ → Type 0
ReplaysDescription description trace traced d known = Compiles description d known (ReplaysTrace trace traced d known)

-- both texts are judged, the description first
abbrev pub Judges : List ℕ → List ℕ → List ℕ → List ℕ → ℕ → List ℕ → Type 0
Judges description described trace traced = HasDescription description described (ReplaysDescription description trace traced)

-- a description without a fault is compiled, and its tables are written
abbrev pub CompilesDescription : List ℕ → Description → Known → ℕ → List ℕ → Type 0
CompilesDescription description d known = Compiles description d known (WritesTablesOf d known)

-- a description without a fault is compiled, and then the block is judged and scheduled
abbrev pub SchedulesByDescription : List ℕ → List ℕ → List ℕ → Description → Known → ℕ → List ℕ → Type 0
SchedulesByDescription description block blocked d known = Compiles description d known (SchedulesBlock block blocked d known)

-- a description without a fault is compiled, then the block and the state are judged, and what the block's schedule reads is reported
abbrev pub TimesByDescription : (description block blocked state stated : List ℕ) → Description → Known → ℕ → List ℕ → Type 0
TimesByDescription description block blocked state stated d known = Compiles description d known (TimesBlock block blocked state stated d known)

-- a description without a fault is compiled, and then the block is judged and its bound is reported
abbrev pub BoundsByDescription : List ℕ → List ℕ → List ℕ → Description → Known → ℕ → List ℕ → Type 0
BoundsByDescription description block blocked d known = Compiles description d known (BoundsBlock block blocked d known)

-- a description without a fault is compiled, and then two blocks are judged and scheduled together
abbrev pub SchedulesTwoByDescription : List ℕ → (first_name first_text second_name second_text : List ℕ) → Description → Known → ℕ → List ℕ → Type 0
SchedulesTwoByDescription description first_name first_text second_name second_text d known = Compiles description d known (SchedulesBlocks first_name first_text second_name second_text d known)

-- a description without a fault is compiled, and then the body of a loop is judged and its kernel is reported
abbrev pub OverlapsByDescription : List ℕ → List ℕ → List ℕ → Description → Known → ℕ → List ℕ → Type 0
OverlapsByDescription description block blocked d known = Compiles description d known (OverlapsBlock block blocked d known)

-- a description without a fault is compiled, and its drill is reported
abbrev pub DrillsDescription : List ℕ → (number turns : ℕ) → Description → Known → ℕ → List ℕ → Type 0
DrillsDescription description number turns d known = Compiles description d known (Drills d known number turns)

-- a file of this name, of at most so many bytes
abbrev file_word : List ℕ → ℕ → FileWord
file_word name most = record { name = name; most = most }

-- the file words of an order with their limits, in the order in which they are read
abbrev pub files_of : Order → List FileWord
files_of (compile description) = file_word description description_limit ∷ []
files_of (replay description trace) = file_word description description_limit ∷ file_word trace trace_limit ∷ []
files_of (walk tables trace) = file_word tables tables_limit ∷ file_word trace trace_limit ∷ []
files_of (schedule description block) = file_word description description_limit ∷ file_word block block_limit ∷ []
files_of (eval block state) = file_word block block_limit ∷ file_word state state_text_limit ∷ []
files_of (drill description number turns) = file_word description description_limit ∷ []
files_of (timed description block state) = file_word description description_limit ∷ file_word block block_limit ∷ file_word state state_text_limit ∷ []
files_of (bound description block) = file_word description description_limit ∷ file_word block block_limit ∷ []
files_of (duo description first second) = file_word description description_limit ∷ file_word first block_limit ∷ file_word second block_limit ∷ []
files_of (modulo description block) = file_word description description_limit ∷ file_word block block_limit ∷ []

-- what an order answers to the bytes of its files: one case for each command, which judges its texts in their order
abbrev pub JudgesOrder : Order → Next (List (List ℕ))
JudgesOrder (compile description) (described ∷ []) status text = HasDescription description described (CompilesDescription description) status text
JudgesOrder (replay description trace) (described ∷ traced ∷ []) status text = Judges description described trace traced status text
JudgesOrder (walk tables trace) (tabled ∷ traced ∷ []) status text = HasTables tables tabled (WalksTrace trace traced) status text
JudgesOrder (schedule description block) (described ∷ blocked ∷ []) status text = HasDescription description described (SchedulesByDescription description block blocked) status text
JudgesOrder (eval block state) (blocked ∷ stated ∷ []) status text = JudgesBlock block blocked state stated status text
JudgesOrder (drill description number turns) (described ∷ []) status text = HasDescription description described (DrillsDescription description number turns) status text
JudgesOrder (timed description block state) (described ∷ blocked ∷ stated ∷ []) status text = HasDescription description described (TimesByDescription description block blocked state stated) status text
JudgesOrder (bound description block) (described ∷ blocked ∷ []) status text = HasDescription description described (BoundsByDescription description block blocked) status text
JudgesOrder (duo description first second) (described ∷ one ∷ other ∷ []) status text = HasDescription description described (SchedulesTwoByDescription description first one second other) status text
JudgesOrder (modulo description block) (described ∷ blocked ∷ []) status text = HasDescription description described (OverlapsByDescription description block blocked) status text
JudgesOrder _ _ status text = ⊥

-- what an order answers: all its files are read, and then their texts are judged
abbrev pub AnswersOrder : Held → Order → ℕ → List ℕ → Type 0
AnswersOrder held order = OpensAll held (files_of order) (JudgesOrder order)

-- What the program answers to its words over files that hold this, where memory is found and nothing fails but the
-- opening of a name that is not held. The first phase that refuses decides.
abbrev pub Answer : List (List ℕ) → Held → ℕ → List ℕ → Type 0
Answer words held status text =
    MatchOption (order_of words) (Says 4 usage_line status text) (λ order. AnswersOrder held order status text)
