-- What is said of a compiled description.
use Rattle.std.specs.Prelude.{◌≡◌, ◌<◌, ◌≤◌, ℕ, Bool, not, List, [], ◌∷◌, ◌++◌, Option, map, length, IfSome, slice_index_or, codes, decimal}
use Rattle.std.specs.List.{enumerate_from}
use Rattle.hz_base_model.specs.Limits.{class_limit, unit_limit}
use Rattle.hz_auto.specs.declared.compiled.Compiled.{Compiled}
use Rattle.hz_auto.specs.declared.report.AutoReport.{AutoReport}
use Rattle.hz_auto.specs.Machines.{reports_of}
use Rattle.hz_checked.specs.declared.checked.Checked.{Checked}
use Rattle.hz_checked.specs.declared.checked.CheckedAutomaton.{CheckedAutomaton}
use Rattle.hz_checked.specs.Shape.{automaton_of}
use Rattle.hz_mdread.specs.Shape.{options as options_of}
use Rattle.hz_tables.specs.declared.part.Part as kept
use Rattle.hz_tables.specs.Parts.{part_of}
use Rattle.hz_tables.specs.Machines.{machine_of}
use Rattle.hz_pipeline_model.specs.Tables.Machines.{Part, no_part, advance_of, names_of}
use Rattle.hz_pipeline_model.specs.Tables.Tables.{IsTable}
use Rattle.hz_pipeline_model.specs.Compiling.AutomatonPipelines.{automaton_at}
use Rattle.hz_pipeline_model.specs.Compiling.Compiled as compiled
use Rattle.hz_pipeline_model.specs.Compiling.Compiled.{report_at}
use Rattle.hz_tabtext_model.specs.Fields.{is_nil}
use Rattle.hz_tabtext_model.specs.Texts.{PartText, TablesText, header_line, treatment_line, class_line}
use Rattle.hz_tabtext_model.specs.Said.{part_said, tables_said, CanBeSaid, IsShownOf}

-- what is said of a compiled description
abbrev pub says : Compiled → Checked → TablesText
says all checked = tables_said (options_of all.options) (map automaton_of checked.automata.items) (reports_of all.reports.items) (machine_of all.machine)

-- a compiled description that can be said
abbrev pub IsSayable : Compiled → Checked → Type 0
IsSayable all checked = CanBeSaid (options_of all.options) (map automaton_of checked.automata.items) (reports_of all.reports.items) (machine_of all.machine)

-- what is said of automata
abbrev pub parts_says : (stats : Bool) → List CheckedAutomaton → List AutoReport → List kept.Part → List PartText
parts_says stats automata reports parts = map (λ part. part_said stats (automaton_at (map automaton_of automata) part.0).units (report_at (reports_of reports) part.0) part.1) (enumerate_from 0 (map part_of parts))

-- whether these parts have an ask
abbrev pub are_asked : List kept.Part → Bool
are_asked parts = not (is_nil (names_of (map part_of parts)))

-- the lines before those of so many automata
abbrev pub front_lines : (asked ndfa : Bool) → (classes : List (List ℕ)) → (automata : ℕ) → List (List (List ℕ))
front_lines asked ndfa classes automata =
    header_line asked ∷ treatment_line ndfa
    ∷ (codes "classes" ∷ decimal (length classes) ∷ []) ∷ (map class_line classes ++ (codes "automata" ∷ decimal automata ∷ []) ∷ [])

-- a part whose automaton has these units, with what is shown of it
pub record IsWritable (units : List (List ℕ)) (part : Part) (shown : Option compiled.Shown) : Type 0 where
  pub table : IsTable part.rows (advance_of part)
  pub columns : part.columns ≤ class_limit
  pub asks : length part.asks ≤ unit_limit
  pub few_units : length units ≤ unit_limit
  pub reported : IfSome shown (IsShownOf units part)

-- each of these parts, with the automaton and the report of its place
pub record AreWritable (automata : List CheckedAutomaton) (reports : List AutoReport) (parts : List kept.Part) : Type 0 where
  pub each : length automata ≡ length parts
  pub reported : length reports ≡ length parts
  pub at : (a : ℕ) → a < length parts → IsWritable (automaton_at (map automaton_of automata) a).units (slice_index_or (map part_of parts) a no_part) (report_at (reports_of reports) a).shown
