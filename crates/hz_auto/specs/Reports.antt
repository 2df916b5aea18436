-- What is reported of an automaton.
use Rattle.std.specs.Prelude.{◌≡◌, ℕ, ◌<◌, Bool, List, [], map, length, All, slice_index_or, IsPermutation, IsSorted, None, MatchBool, IsSomeAnd}
use Rattle.std.specs.Option.{option_map}
use Rattle.std.specs.List.{sum_by}
use Rattle.hz_base_model.specs.Pairs.{Pair, grid_cmp}
use Rattle.hz_pipeline_model.specs.Reaching.Built.{grid_at}
use Rattle.hz_tables.specs.Rows.{KeepsRows}
use Rattle.hz_grid.specs.Grids.{IsGrid}
use Rattle.hz_determ.specs.declared.build.Explored.{Explored}
use Rattle.hz_pipeline_model.specs.Compiling.Compiled as model
use Rattle.hz_auto.specs.declared.report.AutoReport.{AutoReport}
use Rattle.hz_auto.specs.declared.report.Shown.{Shown}

-- the grids of these numbers, in ascending order
pub record IsArranged (grids : List (List (Pair ℕ))) (set : List ℕ) (state : List (List (Pair ℕ))) : Type 0 where
  pub moved : IsPermutation (map (grid_at grids) set) state
  pub sorted : IsSorted grid_cmp state
  pub each : All IsGrid state

-- the grids of the numbers of each set
pub record AreArranged (grids : List (List (Pair ℕ))) (sets : List (List ℕ)) (states : List (List (List (Pair ℕ)))) : Type 0 where
  pub each : length states ≡ length sets
  pub at : (n : ℕ) → n < length sets → IsArranged grids (slice_index_or sets n []) (slice_index_or states n [])

-- what is shown, as the definitions speak of it
abbrev pub shown_of : Shown → model.Shown
shown_of shown = record { parents = shown.parents.items; states = map (λ state. state.items) shown.grids.items }

-- a report, as the definitions speak of it
abbrev pub report_of : AutoReport → model.Report
report_of report = record { grids = report.grids; states = report.states; members = report.members; shown = option_map shown_of report.shown }

-- where each state of an explored automaton is read first, and its grids
pub record IsShownOf (explored : Explored) (shown : Shown) : Type 0 where
  pub parents : shown.parents.items ≡ explored.parents.items
  pub states : AreArranged explored.grids.items (map (λ set. set.items) explored.sets.items) (map (λ state. state.items) shown.grids.items)

-- what is reported of an explored automaton
pub record IsReportOf (all : Bool) (explored : Explored) (report : AutoReport) : Type 0 where
  pub kept : KeepsRows explored.plain
  pub grids : report.grids ≡ length explored.grids.items
  pub states : report.states ≡ length explored.plain.rows
  pub members : report.members ≡ sum_by (λ set. length set.items) explored.sets.items
  pub shown : MatchBool all (IsSomeAnd report.shown (IsShownOf explored)) (report.shown ≡ None)
