use Rattle.std.proofs.Common.{◌<◌, ◌≤◌, ℕ, List, length, subst}
use Rattle.std.specs.Prelude.{All, IsTrue}
use Rattle.std.specs.Option.{ForSome}
use Rattle.hz_base_model.specs.Limits.{cycle_limit}
use Rattle.hz_base_model.specs.Names.{is_name}
use Rattle.hz_base_model.specs.Pairs.{Pair, IsAscendingBy}
use Rattle.hz_checked.specs.declared.checked.CheckedAutomaton.{CheckedAutomaton}
use Rattle.hz_checked.specs.Shape.{automaton_of}
use Rattle.hz_description_model.specs.Check.CheckedParts.{AutomatonParts}
use Rattle.hz_tables.specs.declared.part.Part.{Part}
use Rattle.hz_tables.specs.Parts.{rows_of, part_of}
use Rattle.hz_pipeline_model.specs.Tables.Machines as machines
use Rattle.hz_pipeline_model.specs.Tables.StateLimits.{state_limit}
use Rattle.hz_auto.specs.declared.report.AutoReport.{AutoReport}
use Rattle.hz_auto.specs.Reports.{report_of}
use Rattle.hz_pipeline_model.specs.Compiling.Compiled.{Report}
use Rattle.hz_tabtext_model.specs.Texts.{AreCounts}
use Rattle.hz_tabtext_model.specs.Said.{counts_said}
use Rattle.hz_grid.specs.Grids.{IsGrid}
use Rattle.hz_pipeline_model.specs.Single.Reported.{ListsAscending}
use Rattle.hz_tabfile.proofs.Ranges.{all_made, shown_again, shown_weaker}
use Rattle.hz_tabfile.proofs.writing.ranges.is_in_range.Goals as goal
use Rattle.std.specs.Ordering.{nat_cmp}

pub returns-clause-range : goal.returns-clause-range
returns-clause-range c =
    let parts = c.args.compiled.now.machine.parts.items in
    let automata = c.args.checked.now.automata.items in
    let reports = c.args.compiled.now.reports.items in
    let all = subst (λ (rs : List AutoReport). All (λ (r : AutoReport). ForSome r.shown (λ shown. All (λ grids. All IsGrid grids.items) shown.grids.items)) rs) c.deref-7.ensures.value c.are_shown.ensures in
    record {
      classes = subst (λ (names : List (List ℕ)). All (λ (name : List ℕ). IsTrue (is_name name)) names) c.deref.ensures.value c.are_names.ensures;
      parts = all_made (λ (part : machines.Part). IsTrue (is_name part.name)) part_of parts (subst (λ (ps : List Part). All (λ (part : Part). IsTrue (is_name part.name)) ps) c.deref-2.ensures.value c.are_named.ensures);
      asks = all_made (λ (part : machines.Part). All (λ (name : List ℕ). IsTrue (is_name name)) part.asks) part_of parts (subst (λ (ps : List Part). All (λ (part : Part). All (λ (name : List ℕ). IsTrue (is_name name)) part.asks.items) ps) c.deref-3.ensures.value c.are_asked.ensures);
      rows = all_made (λ (part : machines.Part). length part.rows ≤ state_limit) part_of parts (subst (λ (ps : List Part). All (λ (part : Part). length (rows_of part.table) ≤ state_limit) ps) c.deref-4.ensures.value c.are_tables.ensures);
      units = all_made (λ (a : AutomatonParts). All (λ (name : List ℕ). IsTrue (is_name name)) a.units) automaton_of automata (subst (λ (xs : List CheckedAutomaton). All (λ (a : CheckedAutomaton). All (λ (name : List ℕ). IsTrue (is_name name)) a.units.items) xs) c.deref-5.ensures.value c.are_units.ensures);
      counts = all_made (λ (r : Report). AreCounts (counts_said r)) report_of reports (subst (λ (rs : List AutoReport). All (λ (r : AutoReport). AreCounts (counts_said (report_of r))) rs) c.deref-6.ensures.value c.are_counted.ensures);
      cycles = all_made (λ (r : Report). ForSome r.shown (λ shown. All (All (All (λ (pair : Pair ℕ). pair.cycle < cycle_limit))) shown.states)) report_of reports
          (λ i d low. shown_again (All (All (λ (pair : Pair ℕ). pair.cycle < cycle_limit))) _ (shown_weaker (All IsGrid) (All (All (λ (pair : Pair ℕ). pair.cycle < cycle_limit))) (λ grids h j e within. (h j e within).cycles) _ (all i d low)));
    }

pub returns-clause-listed : goal.returns-clause-listed
returns-clause-listed c =
    let all = subst (λ (rs : List AutoReport). All (λ (r : AutoReport). ForSome r.shown (λ shown. All (λ grids. All IsGrid grids.items) shown.grids.items)) rs) c.deref-7.ensures.value c.are_shown.ensures in
    all_made ListsAscending report_of c.args.compiled.now.reports.items
    (λ i d low. shown_again (All (IsAscendingBy nat_cmp)) _ (shown_weaker (All IsGrid) (All (IsAscendingBy nat_cmp)) (λ grids h j e within. (h j e within).ascending) _ (all i d low)))
