-- One automaton, explored and compiled.
use Rattle.std.specs.Prelude.{◌≡◌, ℕ, ◌-◌, ◌≤◌, Bool, true, false, ◌&&◌, List, length}
use Rattle.hz_mdread.specs.declared.options.Options.{Options}
use Rattle.hz_description_model.specs.Reading.Descriptions as model
use Rattle.hz_description_model.specs.Check.CheckedParts.{AutomatonParts, ClassParts}
use Rattle.hz_description_model.specs.Check.CheckedShape.{ask_names}
use Rattle.hz_pipeline_model.specs.Reaching.Counts.{Count}
use Rattle.hz_pipeline_model.specs.Reaching.Counts as count
use Rattle.hz_states.specs.declared.fault.StateFault.{StateFault}
use Rattle.hz_states.specs.declared.fault.StateFault.TheVariants.{GridLimit, SetLimit, MemberLimit, CellLimit, NoMemory}
use Rattle.hz_pipeline_model.specs.Tables.Machines.{Part, advance_of}
use Rattle.hz_determ.specs.declared.build.Caps.{Caps}
use Rattle.hz_determ.specs.declared.build.Explored.{Explored}
use Rattle.hz_determ.specs.Asking.{IsAsked}
use Rattle.hz_pipeline_model.specs.Compiling.AutomatonPipelines.{lists_at, automaton_pipeline, queries_at}
use Rattle.hz_pipeline_model.specs.Compiling.Compiled.{shows_states}
use Rattle.hz_pipeline_model.specs.Compiling.CompiledParts.{cap_of, IsPastLimit}
use Rattle.hz_pipeline_model.specs.Tables.Tables.{IsTable}
use Rattle.hz_pipeline_model.specs.Tables.Apart.{WalkTheSame}
use Rattle.hz_pipeline_model.specs.Least.Normal.{IsNormal}
use Rattle.hz_tables.specs.declared.table.Table.{Table}
use Rattle.hz_tables.specs.Parts.{IsPlain, IsLeastWidth}
use Rattle.hz_auto.specs.declared.part.Found.{Found}
use Rattle.hz_auto.specs.Reports.{IsReportOf}

-- whether what each state is is to be shown
abbrev pub shows : Options → Bool
shows options = options.verbose && options.no_minimization

-- the caps are the limits of the counts
pub record IsCapped (shown : Bool) (caps : Caps) : Type 0 where
  pub grids : caps.grids ≡ cap_of shown count.grids
  pub states : caps.states ≡ cap_of shown count.states
  pub members : caps.members ≡ cap_of shown count.members
  pub cells : caps.cells ≡ cap_of shown count.cells

-- the count that a fault names is above its limit; want of memory says nothing
abbrev pub IsPastAt : model.Options → List AutomatonParts → List ClassParts → ℕ → StateFault → Type 0
IsPastAt options automata classes a GridLimit = IsPastLimit (shows_states options) (lists_at classes a) (length (queries_at automata a)) (automaton_pipeline options automata classes a) count.grids
IsPastAt options automata classes a SetLimit = IsPastLimit (shows_states options) (lists_at classes a) (length (queries_at automata a)) (automaton_pipeline options automata classes a) count.states
IsPastAt options automata classes a MemberLimit = IsPastLimit (shows_states options) (lists_at classes a) (length (queries_at automata a)) (automaton_pipeline options automata classes a) count.members
IsPastAt options automata classes a CellLimit = IsPastLimit (shows_states options) (lists_at classes a) (length (queries_at automata a)) (automaton_pipeline options automata classes a) count.cells
IsPastAt options automata classes a NoMemory = Unit {0}

-- A part whose table is plain rows, as a definition: its columns are those of its classes, and one for each ask.
abbrev pub found_part_of : Found → Part
found_part_of found = record { name = found.name; map = found.map.items; columns = found.plain.columns - length found.asks.items; asks = found.asks.items; rows = found.plain.rows }

-- its table has its columns, with one for each ask
pub record HasTable (found : Found) : Type 0 where
  pub wide : length found.asks.items ≤ found.plain.columns
  pub table : IsTable found.plain.rows found.plain.columns

-- A table is kept as the options ask: as plain rows under `no-comb-vect`, else packed over cells of the least width.
abbrev pub IsKept : Bool → Table → Type 0
IsKept true table = IsPlain table
IsKept false table = IsLeastWidth table

-- an explored automaton with this map, a column for each of its query units, and what is reported of it
pub record IsWhole (parts : AutomatonParts) (shown : Bool) (maps : List ℕ) (explored : Explored) (found : Found) : Type 0 where
  pub named : found.name ≡ parts.name
  pub mapped : found.map.items ≡ maps
  pub asks : found.asks.items ≡ ask_names parts
  pub asked : IsAsked explored parts.queries found.plain
  pub reported : IsReportOf shown explored found.report

-- the least part that walks what a part walks, of which the same is reported
pub record IsLeast (part : Part) (least : Part) : Type 0 where
  pub named : least.name ≡ part.name
  pub mapped : least.map ≡ part.map
  pub columns : least.columns ≡ part.columns
  pub asks : least.asks ≡ part.asks
  pub walks : WalkTheSame part.rows least.rows
  pub normal : IsNormal least.rows (advance_of least)
  pub fewer : length least.rows ≤ length part.rows
