-- The machine that is compiled of automata and classes, and what is reported of it. Bala and Rubin, 'Efficient Instruction
-- Scheduling Using Finite State Automata', MICRO-28; the limits and what is reported are this profile's, docs/RULES.md.
use Rattle.std.specs.Prelude.{◌≡◌, ℕ, ◌<◌, ◌⊎◌, Bool, false, ◌&&◌, MatchBool, List, [], Option, Some, None, IsSomeAnd, IsSorted, length, map, All, slice_index_or}
use Rattle.hz_base_model.specs.Pairs.{Pair, grid_cmp}
use Rattle.hz_pipeline_model.specs.Accepting.Events.{Event, IsOfClass}
use Rattle.hz_pipeline_model.specs.Accepting.Replay.{Pipeline}
use Rattle.hz_description_model.specs.Reading.Descriptions.{Options}
use Rattle.hz_description_model.specs.Check.CheckedParts.{AutomatonParts, ClassParts}
use Rattle.hz_pipeline_model.specs.Tables.Machines.{Machine, Part, part_at, part_walk}
use Rattle.hz_pipeline_model.specs.Tables.Apart.{AllApart}
use Rattle.hz_pipeline_model.specs.Tables.Orders.{IsBreadthFirst}
use Rattle.hz_pipeline_model.specs.Reaching.Reach.{IsLeft}
use Rattle.hz_pipeline_model.specs.Reaching.Counts.{Count}
use Rattle.hz_pipeline_model.specs.Reaching.Counts as count
use Rattle.hz_pipeline_model.specs.Compiling.AutomatonPipelines.{automaton_at, lists_at, automaton_pipeline, queries_at}
use Rattle.hz_pipeline_model.specs.Compiling.ClassColumns.{IsColumns}
use Rattle.hz_pipeline_model.specs.Compiling.CompiledParts.{WalksAccepted, TellsWhatIsLeft, IsNumbered, IsWithinLimits, IsPastLimit, TellsWhatIsHeld}
use Rattle.hz_pipeline_model.specs.Compiling.Counted.{CountIs}
use Rattle.hz_pipeline_model.specs.Tables.AskColumns.{without_asks}
use Rattle.hz_description_model.specs.Check.CheckedShape.{ask_names}

-- Where each state is read first, and its grids.
pub record Shown : Type 0 where
  pub parents : List (ℕ × ℕ)
  pub states : List (List (List (Pair ℕ)))

-- What is reported of an automaton: how many grids and states are reached and how many grids all states have together, and
-- what each state is, where that is to be shown.
pub record Report : Type 0 where
  pub grids : ℕ
  pub states : ℕ
  pub members : ℕ
  pub shown : Option Shown

-- whether what each state is is to be shown
abbrev pub shows_states : Options → Bool
shows_states options = options.verbose && options.no_minimization

-- For each state of a part where it is read first, among the columns of classes and the advance, and in ascending order the
-- grids that all events leave which lead to it.
pub record IsShown (classes : ℕ) (m : Pipeline ℕ) (part : Part) (shown : Shown) : Type 0 where
  pub parents : IsBreadthFirst (without_asks part.columns (length part.asks) part.rows) part.columns shown.parents
  pub each : length shown.states ≡ length part.rows
  pub left : (t : List Event) (state : ℕ) → All (IsOfClass classes) t → part_walk part 0 t ≡ Some state → IsLeft m t (slice_index_or shown.states state [])
  pub ascending : All (λ grids. IsSorted grid_cmp grids) shown.states

-- The part of an automaton of this number, and what is reported of it: it has the automaton's name; classes with equal
-- lists share a column; its query units have a column each and are reported where they are held; it walks just what the
-- automaton's pipeline accepts; its states are what accepted events leave where they stay as they were found, else they are
-- apart from one another; they are numbered breadth-first; no count is above its limit, and those that are reported are the
-- automaton's, before minimisation.
pub record IsCompiledPart (stay : Bool) (options : Options) (automata : List AutomatonParts) (classes : List ClassParts) (a : ℕ) (part : Part) (report : Report) : Type 0 where
  pub name : part.name ≡ (automaton_at automata a).name
  pub columns : List (List (List (Pair ℕ)))
  pub shared : IsColumns (lists_at classes a) columns part.map
  pub number : length columns ≡ part.columns
  pub asks : part.asks ≡ ask_names (automaton_at automata a)
  pub held : TellsWhatIsHeld (length classes) (automaton_pipeline options automata classes a) (queries_at automata a) part
  pub walks : WalksAccepted (length classes) (automaton_pipeline options automata classes a) part
  pub tells : MatchBool stay (TellsWhatIsLeft (length classes) (automaton_pipeline options automata classes a) part) (AllApart part.rows)
  pub numbered : IsNumbered part
  pub within : IsWithinLimits (shows_states options) (lists_at classes a) (length (queries_at automata a)) (automaton_pipeline options automata classes a)
  pub grids : CountIs (automaton_pipeline options automata classes a) part.columns count.grids report.grids
  pub states : CountIs (automaton_pipeline options automata classes a) part.columns count.states report.states
  pub members : CountIs (automaton_pipeline options automata classes a) part.columns count.members report.members
  pub shown : MatchBool (shows_states options) (IsSomeAnd report.shown (IsShown (length classes) (automaton_pipeline options automata classes a) part)) (report.shown ≡ None)

-- what is reported of the automaton of this number
abbrev pub report_at : List Report → ℕ → Report
report_at reports a = slice_index_or reports a (record { grids = 0; states = 0; members = 0; shown = None })

-- The machine that is compiled: the classes, and a part and a report for each automaton, in their order.
pub record IsCompiled (options : Options) (automata : List AutomatonParts) (classes : List ClassParts) (m : Machine) (reports : List Report) : Type 0 where
  pub names : m.classes ≡ map (λ c. c.name) classes
  pub each : length m.parts ≡ length automata
  pub reported : length reports ≡ length automata
  pub parts : (a : ℕ) → a < length automata → IsCompiledPart options.no_minimization options automata classes a (part_at m a) (report_at reports a)

-- The automaton of this number is the first that has a count above its limit, and that of this kind is. In the first
-- treatment a state has one grid, and what is one number then is named by its grids.
pub record IsFirstPast (options : Options) (automata : List AutomatonParts) (classes : List ClassParts) (a : ℕ) (kind : Count) : Type 0 where
  pub there : a < length automata
  pub before : (b : ℕ) → b < a → IsWithinLimits (shows_states options) (lists_at classes b) (length (queries_at automata b)) (automaton_pipeline options automata classes b)
  pub past : IsPastLimit (shows_states options) (lists_at classes a) (length (queries_at automata a)) (automaton_pipeline options automata classes a) kind
  pub named : options.ndfa ≡ false → (kind ≡ count.grids) ⊎ (kind ≡ count.cells)
