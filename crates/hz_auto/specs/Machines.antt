-- The machine of a checked description.
use Rattle.std.specs.Prelude.{◌≡◌, ℕ, ◌<◌, Bool, if◌then◌else◌, List, map, length}
use Rattle.std.specs.List.{flat_map}
use Rattle.hz_description_model.specs.Check.CheckedShape.{ask_names}
use Rattle.hz_checked.specs.declared.checked.Checked.{Checked}
use Rattle.hz_checked.specs.Shape.{automaton_of, class_of}
use Rattle.hz_mdread.specs.Shape.{options as options_of}
use Rattle.hz_states.specs.declared.fault.StateFault.{StateFault}
use Rattle.hz_states.specs.declared.fault.StateFault.TheVariants.{GridLimit, SetLimit, MemberLimit, CellLimit, NoMemory as no_memory}
use Rattle.hz_auto.specs.declared.fault.Kind.TheVariants.{Grids, States, Members, Cells}
use Rattle.hz_tables.specs.declared.part.Part.{Part}
use Rattle.hz_tables.specs.Parts.{part_of}
use Rattle.hz_pipeline_model.specs.Tables.Machines.{part_at, names_of}
use Rattle.hz_pipeline_model.specs.Compiling.Compiled.{IsCompiledPart, IsFirstPast, report_at}
use Rattle.hz_pipeline_model.specs.Compiling.Compiled as model
use Rattle.hz_auto.specs.declared.fault.AutoFault.{AutoFault}
use Rattle.hz_auto.specs.declared.fault.AutoFault.TheVariants.{Limit, NoMemory}
use Rattle.hz_auto.specs.declared.report.AutoReport.{AutoReport}
use Rattle.hz_auto.specs.Faults.{count_of}
use Rattle.hz_auto.specs.Reports.{report_of}

-- the reports, as the definitions speak of them
abbrev pub reports_of : List AutoReport → List model.Report
reports_of reports = map report_of reports

-- A fault of compiling: the automaton is the first that has a count above its limit, and that of this kind is; want of
-- memory says nothing.
abbrev pub IsFaultOf : Checked → AutoFault → Type 0
IsFaultOf checked (Limit automaton kind) = IsFirstPast (options_of checked.options) (map automaton_of checked.automata.items) (map class_of checked.classes.items) automaton (count_of kind)
IsFaultOf checked NoMemory = Unit {0}

-- The fault of the automaton of this number: the count that is above its limit, or want of memory. Without choices grids,
-- states and members are one number, which is named by its grids.
abbrev pub IsFaultAt : Bool → ℕ → StateFault → AutoFault → Type 0
IsFaultAt ndfa a GridLimit fault = fault ≡ Limit a Grids
IsFaultAt ndfa a SetLimit fault = fault ≡ Limit a (if ndfa then States else Grids)
IsFaultAt ndfa a MemberLimit fault = fault ≡ Limit a (if ndfa then Members else Grids)
IsFaultAt ndfa a CellLimit fault = fault ≡ Limit a Cells
IsFaultAt ndfa a no_memory fault = fault ≡ NoMemory

-- what is asked for in all parts are the query units of all automata
abbrev pub AskQueries : Checked → List Part → Type 0
AskQueries checked parts = names_of (map part_of parts) ≡ flat_map ask_names (map automaton_of checked.automata.items)

-- a part and a report for each of the first automata
pub record AreCompiled (checked : Checked) (done : ℕ) (parts : List Part) (reports : List AutoReport) : Type 0 where
  pub each : length parts ≡ done
  pub reported : length reports ≡ done
  pub at : (a : ℕ) → a < done → IsCompiledPart checked.options.no_minimization (options_of checked.options) (map automaton_of checked.automata.items) (map class_of checked.classes.items) a (part_at (record { classes = map (λ c. c.name) checked.classes.items; parts = map part_of parts }) a) (report_at (reports_of reports) a)
