-- What a text says of a machine that was compiled of a description without a fault. This profile, docs/FORMATS.md, 'Tables'.
use Rattle.std.specs.Prelude.{◌≡◌, ℕ, ◌<◌, ◌≤◌, ◌==◌, Bool, if◌then◌else◌, MatchBool, IsTrue, List, [], Option, Some, None, IsSomeAnd, length, map, All, slice_index_or, not}
use Rattle.std.specs.Option.{option_map, ForSome}
use Rattle.std.specs.List.{enumerate_from}
use Rattle.hz_base_model.specs.Limits.{cycle_limit}
use Rattle.hz_base_model.specs.Names.{is_name}
use Rattle.hz_base_model.specs.Pairs.{Pair}
use Rattle.hz_description_model.specs.Reading.Descriptions.{Options}
use Rattle.hz_description_model.specs.Check.CheckedParts.{AutomatonParts}
use Rattle.hz_pipeline_model.specs.Tables.Machines.{Part, Machine, part_at, names_of}
use Rattle.hz_pipeline_model.specs.Tables.Orders.{place_of}
use Rattle.hz_pipeline_model.specs.Tables.StateLimits.{state_limit}
use Rattle.hz_pipeline_model.specs.Compiling.AutomatonPipelines.{automaton_at}
use Rattle.hz_pipeline_model.specs.Compiling.Compiled as compiled
use Rattle.hz_pipeline_model.specs.Compiling.Compiled.{Report, report_at, shows_states}
use Rattle.hz_tabtext_model.specs.Texts.{Shown, RowText, Counts, PartText, TablesText, AreCounts}
use Rattle.hz_tabtext_model.specs.Fields.{is_nil}

-- a grid with the names of these units for their numbers
abbrev pub named_grid : (units : List (List ℕ)) → List (Pair ℕ) → List (ℕ × List ℕ)
named_grid units grid = map (λ pair. (pair.cycle, slice_index_or units pair.unit [])) grid

-- where a state is read first: the start has no such place
abbrev pub origin_said : (places : List (ℕ × ℕ)) → (state : ℕ) → Option (ℕ × ℕ)
origin_said places state = if state == 0 then None else Some (place_of places state)

-- where a state is read first, and its grids
abbrev pub shown_said : (units : List (List ℕ)) → (state : ℕ) → compiled.Shown → Shown
shown_said units state shown = record { origin = origin_said shown.parents state; grids = map (named_grid units) (slice_index_or shown.states state []) }

-- a state with its number: its row, and what it is, where that is reported
abbrev pub row_said : (units : List (List ℕ)) → Option compiled.Shown → ℕ × List (Option ℕ) → RowText
row_said units shown row = record { entries = row.1; shown = option_map (shown_said units row.0) shown }

-- the counts before minimisation
abbrev pub counts_said : Report → Counts
counts_said report = record { grids = report.grids; states = report.states; members = report.members }

-- an automaton with these units, of which this is reported
abbrev pub part_said : (stats : Bool) → (units : List (List ℕ)) → Report → Part → PartText
part_said stats units report part = record {
  name = part.name;
  columns = part.columns;
  map = part.map;
  asks = part.asks;
  counts = if stats then Some (counts_said report) else None;
  rows = map (row_said units report.shown) (enumerate_from 0 part.rows);
}

-- All that is said of a machine: it has lines of asks exactly where a part has an ask; the treatment is that of the options,
-- and counts are reported with the option `stats`.
abbrev pub tables_said : Options → List AutomatonParts → List Report → Machine → TablesText
tables_said options automata reports m = record {
  asked = not (is_nil (names_of m.parts));
  ndfa = options.ndfa;
  classes = m.classes;
  parts = map (λ part. part_said options.stats (automaton_at automata part.0).units (report_at reports part.0) part.1) (enumerate_from 0 m.parts);
}

-- What is shown of the states of a part whose automaton has these units: a place and grids for each state, the places in
-- the table, and the grids of these units.
pub record IsShownOf (units : List (List ℕ)) (part : Part) (shown : compiled.Shown) : Type 0 where
  pub places : length shown.parents ≡ length part.rows
  pub each : length shown.states ≡ length part.rows
  pub within : (state : ℕ) → 0 < state → state < length part.rows → ((place_of shown.parents state).0 < length part.rows) × ((place_of shown.parents state).1 ≤ part.columns)
  pub named : All (All (All (λ pair. pair.unit < length units))) shown.states

-- A machine with a part and a report for each automaton. What each state is is reported beside both `v` and
-- `no-minimization`, and never else. Law: `compiled_machines_can_be_said`.
pub record CanBeSaid (options : Options) (automata : List AutomatonParts) (reports : List Report) (m : Machine) : Type 0 where
  pub parts : length m.parts ≡ length automata
  pub reported : length reports ≡ length automata
  pub shown : (a : ℕ) → a < length automata → MatchBool (shows_states options) (IsSomeAnd (report_at reports a).shown (IsShownOf (automaton_at automata a).units (part_at m a))) ((report_at reports a).shown ≡ None)

-- What holds of a compiled description by the types of what it is made of: names are names, no table has too many rows,
-- counts are below 2 ^ 32, and the cycles of grids are below their limit.
pub record IsInRange (automata : List AutomatonParts) (reports : List Report) (m : Machine) : Type 0 where
  pub classes : All (λ name. IsTrue (is_name name)) m.classes
  pub parts : All (λ part. IsTrue (is_name part.name)) m.parts
  pub asks : All (λ part. All (λ name. IsTrue (is_name name)) part.asks) m.parts
  pub rows : All (λ part. length part.rows ≤ state_limit) m.parts
  pub units : All (λ automaton. All (λ name. IsTrue (is_name name)) automaton.units) automata
  pub counts : All (λ report. AreCounts (counts_said report)) reports
  pub cycles : All (λ report. ForSome report.shown (λ shown. All (All (All (λ pair. pair.cycle < cycle_limit))) shown.states)) reports
