-- The part of a number with its automaton and its report, as a loop reads them.
use Rattle.std.proofs.Common.{◌≡◌, ℕ, ◌<◌, Bool, true, false, List, [], Option, Some, None, map, length, get_or, sym, ap, subst, ◌∙◌, arith}
use Rattle.std.specs.Prelude.{slice_index_or, IfSome, IsSomeAnd, MatchBool}
use Rattle.std.proofs.lemmas.List.{get_or-map, length-map}
use Rattle.hz_checked.specs.declared.checked.Checked.{Checked}
use Rattle.hz_checked.specs.declared.checked.CheckedAutomaton.{CheckedAutomaton}
use Rattle.hz_checked.specs.Shape.{automaton_of}
use Rattle.hz_description_model.specs.Check.CheckedParts.{AutomatonParts}
use Rattle.hz_auto.specs.declared.compiled.Compiled.{Compiled}
use Rattle.hz_auto.specs.declared.report.AutoReport.{AutoReport}
use Rattle.hz_auto.specs.Reports.{report_of}
use Rattle.hz_auto.specs.Machines.{reports_of}
use Rattle.hz_pipeline_model.specs.Compiling.AutomatonPipelines.{automaton_at}
use Rattle.hz_pipeline_model.specs.Compiling.Compiled as compiled
use Rattle.hz_pipeline_model.specs.Compiling.Compiled.{Report, report_at, shows_states}
use Rattle.hz_mdread.specs.Shape.{options as options_of}
use Rattle.hz_tables.specs.declared.part.Part as kept
use Rattle.hz_tables.specs.Parts.{part_of}
use Rattle.hz_pipeline_model.specs.Tables.Machines.{Part, no_part}
use Rattle.hz_tabtext_model.specs.Texts.{PartText}
use Rattle.hz_tabtext_model.specs.Said.{part_said, IsShownOf}
use Rattle.hz_tabfile.specs.Saying.{parts_says, IsSayable, IsWritable, AreWritable}
use Rattle.hz_tabfile.proofs.PartTexts.{made_there, made_length}

no_automaton : AutomatonParts
no_automaton = record { name = []; units = []; queries = []; statements = [] }

no_report : Report
no_report = record { grids = 0; states = 0; members = 0; shown = None }

module _ (stats : Bool) (automata : List CheckedAutomaton) (reports : List AutoReport) (parts : List kept.Part) (i : ℕ)
    (a : CheckedAutomaton) (r : AutoReport) (p : kept.Part) (units : List (List ℕ))
    (some_a : i < length automata) (some_r : i < length reports) (some_p : i < length parts)
    (is_a : a ≡ get_or automata i a) (is_r : r ≡ get_or reports i r) (is_p : p ≡ get_or parts i p) (is_units : units ≡ a.units.items) where
  units_there : (automaton_at (map automaton_of automata) i).units ≡ units
  unfolding no_automaton
  units_there = ap (λ (x : AutomatonParts). x.units) (get_or-map automaton_of automata i a no_automaton some_a ∙ ap automaton_of (sym is_a)) ∙ sym is_units

  report_there : report_at (reports_of reports) i ≡ report_of r
  unfolding no_report
  report_there = get_or-map report_of reports i r no_report some_r ∙ ap report_of (sym is_r)

  part_there : slice_index_or (map part_of parts) i no_part ≡ part_of p
  part_there = get_or-map part_of parts i p no_part some_p ∙ ap part_of (sym is_p)

  abbrev make : ℕ × Part → PartText
  make part = part_said stats (automaton_at (map automaton_of automata) part.0).units (report_at (reports_of reports) part.0) part.1

  -- what is said of it
  pub said_there : get_or (parts_says stats automata reports parts) i (make (0, no_part)) ≡ part_said stats units (report_of r) (part_of p)
  said_there =
      made_there make (map part_of parts) i no_part (omega (arith, some_p, length-map parts part_of))
      ∙ (ap (λ (part : Part). make (i, part)) part_there
      ∙ (ap (λ (us : List (List ℕ)). part_said stats us (report_at (reports_of reports) i) (part_of p)) units_there
      ∙ ap (λ (report : Report). part_said stats units report (part_of p)) report_there))

  pub writable_there : AreWritable automata reports parts → IsWritable units (part_of p) (report_of r).shown
  writable_there are =
      subst (λ (report : Report). IsWritable units (part_of p) report.shown) report_there
      (subst (λ (part : Part). IsWritable units part (report_at (reports_of reports) i).shown) part_there
      (subst (λ (us : List (List ℕ)). IsWritable us (slice_index_or (map part_of parts) i no_part) (report_at (reports_of reports) i).shown) units_there (are.at i some_p)))

pub says_length : (stats : Bool) (automata : List CheckedAutomaton) (reports : List AutoReport) (parts : List kept.Part) → length (parts_says stats automata reports parts) ≡ length parts
says_length stats automata reports parts = made_length (λ part. part_said stats (automaton_at (map automaton_of automata) part.0).units (report_at (reports_of reports) part.0) part.1) (map part_of parts) ∙ length-map parts part_of

reported_some : (P : compiled.Shown → Type 0) (b : Bool) (o : Option compiled.Shown) → MatchBool b (IsSomeAnd o P) (o ≡ None) → IfSome o P
reported_some P b None h = tt
reported_some P true (Some s) h = h
reported_some P false (Some s) h = absurd (cc)

-- what can be said has writable parts
pub are_writable : (all : Compiled) (checked : Checked) → IsSayable all checked → AreWritable checked.automata.items all.reports.items all.machine.parts.items
unfolding no_automaton
are_writable all checked can =
    let automata = checked.automata.items in
    let reports = all.reports.items in
    let parts = all.machine.parts.items in
    let long_a = length-map automata automaton_of in
    let long_r = length-map reports report_of in
    let long_p = length-map parts part_of in
    let same = can.parts in
    let reported = can.reported in
    let few_classes = all.machine.kept.class_count in
    record {
      each = omega (arith, long_a, long_p, same);
      reported = omega (arith, long_a, long_r, long_p, same, reported);
      at = λ a low.
          let inside : a < length (map part_of parts) = omega (arith, low, long_p) in
          let automaton : a < length (map automaton_of automata) = omega (arith, inside, same) in
          let is = all.machine.kept.parts a no_part inside in
          let most = is.columns in
          record {
            table = is.table;
            columns = omega (arith, most, few_classes);
            asks = is.asks;
            few_units = checked.kept.units a no_automaton automaton;
            reported = reported_some (IsShownOf (automaton_at (map automaton_of automata) a).units (slice_index_or (map part_of parts) a no_part)) (shows_states (options_of all.options)) (report_at (reports_of reports) a).shown (can.shown a automaton);
          };
    }
