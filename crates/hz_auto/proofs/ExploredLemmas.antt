-- An automaton of a checked description, explored and put together.
use Rattle.std.proofs.Common.{◌≡◌, ⊎_elim, ℕ, ◌+◌, ◌*◌, ◌<◌, ◌≤◌, Bool, true, false, List, [], length, map, get_or, All, Option, Some, None, refl, sym, ap, ◌∙◌, subst, subst₂, arith, Result, Ok, Err}
use Rattle.std.specs.Prelude.{MatchBool, IsSomeAnd, if◌then◌else◌, slice_index_or, IfOk}
use Rattle.std.specs.List.{sum_by}
use Rattle.std.specs.Option.{option_map}
use Rattle.std.specs.declared.alloc.Global.{Global}
use Rattle.std.specs.declared.vec.Vec.{Vec}
use Rattle.std.proofs.lemmas.List.{length-map, get_or-map}
use Rattle.hz_base_model.specs.Limits.{class_limit, unit_limit}
use Rattle.hz_base_model.specs.Pairs.{Pair}
use Rattle.hz_description_model.specs.Reservations.Sets.{Statement}
use Rattle.hz_pipeline_model.specs.Accepting.Fitting.{AskTheSame}
use Rattle.hz_pipeline_model.specs.Accepting.Replay.{first_fit, any_fit}
use Rattle.hz_description_model.specs.Reading.Descriptions as model
use Rattle.hz_description_model.specs.Check.CheckedParts.{AutomatonParts, ClassParts}
use Rattle.hz_description_model.specs.Check.CheckedShape.{ask_names}
use Rattle.hz_checked.specs.declared.checked.Checked.{Checked}
use Rattle.hz_checked.specs.declared.checked.CheckedAutomaton.{CheckedAutomaton}
use Rattle.hz_checked.specs.Shape.{automaton_of, class_of}
use Rattle.hz_mdread.specs.Shape.{options as options_of}
use Rattle.hz_checked.specs.declared.checked.CheckedClass.{CheckedClass}
use Rattle.hz_unitsets.specs.declared.set_rules.SetRule.{SetRule}
use Rattle.hz_unitsets.specs.SetRules.{statements_of}
use Rattle.hz_pipeline_model.specs.Tables.Tables.{IsTable}
use Rattle.hz_pipeline_model.specs.Tables.AskColumns.{HasAsks}
use Rattle.hz_pipeline_model.specs.Tables.Machines.{Part, IsPart}
use Rattle.hz_pipeline_model.specs.Reaching.Present.{MarksPresent}
use Rattle.hz_pipeline_model.proofs.Asks.AskLaws.{asked_table}
use Rattle.hz_pipeline_model.specs.Tables.StateLimits.{member_limit, grid_limit}
use Rattle.hz_determ.specs.declared.build.Caps.{Caps}
use Rattle.hz_determ.specs.declared.build.Explored.{Explored}
use Rattle.hz_determ.specs.Explored.{IsCaps, IsBuilt, AreWithin, PassesCap}
use Rattle.hz_determ.specs.Asking.{IsSingle}
use Rattle.hz_determ.specs.Spaces.{pipeline_of, lists_of}
use Rattle.hz_states.specs.declared.fault.StateFault.{StateFault}
use Rattle.hz_states.specs.declared.fault.StateFault.TheVariants.{CellLimit, NoMemory}
use Rattle.hz_pipeline_model.specs.Compiling.AutomatonPipelines.{automaton_at, lists_at, queries_at}
use Rattle.hz_pipeline_model.specs.Compiling.ClassColumns.{IsColumns}
use Rattle.hz_pipeline_model.specs.Compiling.Compiled.{IsCompiledPart}
use Rattle.hz_auto.specs.declared.part.Found.{Found}
use Rattle.hz_auto.specs.declared.report.Shown.{Shown}
use Rattle.hz_auto.specs.Parts.{HasTable, IsCapped, IsPastAt, IsWhole, found_part_of, shows}
use Rattle.hz_auto.specs.Asks.{IsAskable, HasRoom, LacksRoom, IsAskFault, entries_asked}
use Rattle.hz_auto.specs.Reports.{AreArranged, IsShownOf, report_of, shown_of}
use Rattle.hz_auto.proofs.CheckedFacts.{automaton_there, lists_count, few_classes, queries_few, no_queries}
use Rattle.hz_auto.proofs.SameParts.{same_part}
use Rattle.hz_auto.proofs.SingleLemmas.{single_sets}
use Rattle.hz_auto.proofs.AskLemmas.{columns_same}
use Rattle.hz_auto.proofs.ColumnLemmas.{few_columns}
use Rattle.hz_auto.proofs.PartLemmas.{past_at, within_limits, compiled_part, part_kept, members_few, grids_few, cells_few, cells_most, cells_past}
use Rattle.hz_auto.proofs.ReportLemmas.{sum_by_items}

-- the same of classes and sets that were borrowed
pub columns_now : (checked : Checked) (a : ℕ) (columns : List (List (List (Pair ℕ)))) (maps : List ℕ) (now : List CheckedClass) → now ≡ checked.classes.items → IsColumns (lists_at (map class_of now) a) columns maps → IsColumns (lists_at (map class_of checked.classes.items) a) columns maps
columns_now checked a columns maps now same is = subst (λ cs. IsColumns (lists_at (map class_of cs) a) columns maps) same is

pub asks_now : (rules : List (Statement ℕ)) (now sets : List SetRule) → now ≡ sets → AskTheSame rules (statements_of now) → AskTheSame rules (statements_of sets)
asks_now rules now sets same asks = subst (λ ss. AskTheSame rules (statements_of ss)) same asks

-- what both clauses of an answer give
pub both_then : {T E : Type 0} {P Q R : T → Type 0} (result : Result T E) → IfOk result P → IfOk result Q → ((x : T) → P x → Q x → R x) → IfOk result R
both_then (Ok x) one other next = next x one other
both_then (Err e) one other next = tt

module _ (checked : Checked) (a : ℕ) (low : a < length checked.automata.items) (d : CheckedAutomaton) (here : d ≡ get_or checked.automata.items a d) (columns : List (Vec (List (Pair ℕ)) Global)) (maps : List ℕ)
    (is : IsColumns (lists_at (map class_of checked.classes.items) a) (lists_of columns) maps) (rules : List (Statement ℕ)) (asks : AskTheSame rules (statements_of d.sets.items)) where
  abbrev options : model.Options
  options = options_of checked.options

  abbrev automata : List AutomatonParts
  automata = map automaton_of checked.automata.items

  abbrev classes : List ClassParts
  classes = map class_of checked.classes.items

  abbrev parts : AutomatonParts
  parts = automaton_of d

  parts_are : automaton_at automata a ≡ parts
  parts_are = automaton_there checked a d low ∙ ap automaton_of (sym here)

  -- the statements of the automaton
  asked : AskTheSame rules (automaton_at automata a).statements
  asked = subst (λ (p : AutomatonParts). AskTheSame rules p.statements) (sym parts_are) asks

  pub columns_few : length columns ≤ class_limit
  columns_few =
      let few = few_columns (lists_at classes a) (lists_of columns) maps is in
      let all = few_classes checked in
      omega (arith, few, all, lists_count checked.classes.items a, length-map columns (λ column. column.items))

  pub past : (caps : Caps) → IsCapped (shows checked.options) caps → (fault : StateFault) → PassesCap (pipeline_of (if checked.options.ndfa then any_fit else first_fit) rules columns) (length columns) caps fault → IsPastAt options automata classes a fault
  past caps capped fault over =
      past_at options automata classes a rules asked (lists_of columns) maps is caps capped fault
      (subst (λ n. PassesCap (pipeline_of (if checked.options.ndfa then any_fit else first_fit) rules columns) n caps fault) (sym (length-map columns (λ column. column.items))) over)

  module _ (caps : Caps) (is_caps : IsCaps caps) (explored : Explored) (built : IsBuilt (if checked.options.ndfa then any_fit else first_fit) rules columns explored) (within : AreWithin (pipeline_of (if checked.options.ndfa then any_fit else first_fit) rules columns) (length columns) caps) where
    abbrev sets : List (List ℕ)
    sets = map (λ (set : Vec ℕ Global). set.items) explored.sets.items

    number : length (lists_of columns) ≡ length columns
    number = length-map columns (λ column. column.items)

    pub members_reported : sum_by (λ set. length set.items) explored.sets.items ≤ member_limit
    members_reported = subst (λ n. n ≤ member_limit) (sym (sum_by_items explored.sets.items))
        (members_few options automata classes a rules asked (lists_of columns) (length columns) number explored.plain.rows explored.grids.items sets explored.parents.items built caps is_caps.members within)

    pub grids_reported : length explored.grids.items ≤ grid_limit
    grids_reported = grids_few options automata classes a rules asked (lists_of columns) (length columns) number explored.plain.rows explored.grids.items sets explored.parents.items built caps is_caps.grids within

    -- what holds of each set of numbers
    each_set : (P : List ℕ → Type 0) → ((k : ℕ) → k < length sets → P (slice_index_or sets k [])) → All (λ set. P set.items) explored.sets.items
    each_set P all k e below =
        subst P (get_or-map (λ (set : Vec ℕ Global). set.items) explored.sets.items k e [] below)
        (all k (omega (arith, below, length-map explored.sets.items (λ set. set.items))))

    pub numbers_there : All (λ set. All (λ number. number < length explored.grids.items) set.items) explored.sets.items
    numbers_there = each_set (All (λ number. number < length explored.grids.items)) built.within

    -- where units are asked for, each state has one grid
    single : 0 < length parts.queries → All (λ set. IsSingle (length explored.grids.items) set.items) explored.sets.items
    single some = by_option checked.options.ndfa refl
      where
        by_option : (b : Bool) → checked.options.ndfa ≡ b → All (λ set. IsSingle (length explored.grids.items) set.items) explored.sets.items
        by_option true e =
            let none = ap length (ap (λ (p : AutomatonParts). p.queries) (sym parts_are) ∙ no_queries checked a low e) in
            absurd (omega (arith, some, none))
        by_option false e =
            each_set (IsSingle (length explored.grids.items))
            (single_sets (pipeline_of (if checked.options.ndfa then any_fit else first_fit) rules columns) (ap (λ b. if b then any_fit else first_fit) e)
            (length columns) explored.plain.rows explored.grids.items sets explored.parents.items built)

    -- a column may be added for each query unit
    pub askable : IsAskable explored parts.queries caps
    askable = record {
      columns = length columns;
      table = built.shape;
      each = sym (length-map explored.sets.items (λ set. set.items)) ∙ built.each;
      single = single;
      few_columns = columns_few;
      few_asks = subst (λ (p : AutomatonParts). length p.queries ≤ unit_limit) parts_are (queries_few checked a low);
      cells = cells_few options automata classes a rules asked (lists_of columns) (length columns) number explored.plain.rows explored.grids.items sets explored.parents.items built caps within;
    }

    -- the same entries by the query units of the automaton
    entries_are : entries_asked explored parts.queries (length columns) ≡ length explored.plain.rows * (length columns + length (queries_at automata a) + 1)
    entries_are = ap (λ (p : AutomatonParts). length explored.plain.rows * (length columns + length p.queries + 1)) (sym parts_are)

    module _ (capped : IsCapped (shows checked.options) caps) where
      -- with those of the query units there are too many entries
      pub past_asked : (fault : StateFault) → IsAskFault explored parts.queries caps.cells fault → IsPastAt options automata classes a fault
      past_asked fault reported = ⊎_elim
          (λ (many : (fault ≡ CellLimit) × LacksRoom explored parts.queries caps.cells).
          subst (IsPastAt options automata classes a) (sym many.0)
          (cells_past options automata classes a rules asked (lists_of columns) (length columns) number explored.plain.rows explored.grids.items sets explored.parents.items built maps is caps capped
          (subst (λ n. caps.cells < n) entries_are (many.1.above (length columns) built.shape))))
          (λ (e : fault ≡ NoMemory). subst (IsPastAt options automata classes a) (sym e) tt)
          reported

      module _ (all : Found) (whole : IsWhole parts (shows checked.options) maps explored all) (room : HasRoom explored parts.queries caps.cells) where
        same_columns : explored.plain.columns ≡ length columns
        same_columns = columns_same explored.plain (whole.reported).kept (length columns) built.shape

        ask_count : length all.asks.items ≡ length parts.queries
        ask_count = ap length whole.asks ∙ length-map parts.queries (λ unit. slice_index_or parts.units unit [])

        -- its table has the columns of its classes, and one for each query unit
        wide : all.plain.columns ≡ length columns + length all.asks.items
        wide = let all_columns = (whole.asked).columns in omega (arith, all_columns, same_columns, ask_count)

        abbrev part : Part
        part = record { name = all.name; map = maps; columns = length columns; asks = all.asks.items; rows = all.plain.rows }

        is_part : part ≡ found_part_of all
        is_part = same_part part (found_part_of all) refl (sym whole.mapped) (omega (arith, wide)) refl refl

        has : HasAsks explored.plain.rows all.plain.rows (length columns) (length all.asks.items) (whole.asked).marks
        has = subst₂ (λ n k. HasAsks explored.plain.rows all.plain.rows n k (whole.asked).marks) same_columns (sym ask_count) (whole.asked).has

        names : part.asks ≡ ask_names (automaton_at automata a)
        names = whole.asks ∙ ap ask_names (sym parts_are)

        present : MarksPresent explored.grids.items sets (queries_at automata a) (whole.asked).marks
        present = subst (λ (p : AutomatonParts). MarksPresent explored.grids.items sets p.queries (whole.asked).marks) (sym parts_are) (whole.asked).present

        few_entries : length explored.plain.rows * (length columns + length (queries_at automata a) + 1) ≤ caps.cells
        few_entries = subst (λ n. n ≤ caps.cells) entries_are (room.within (length columns) built.shape)

        pub kept : IsPart (length checked.classes.items) (found_part_of all)
        kept = subst (λ n. IsPart n (found_part_of all)) (length-map checked.classes.items class_of)
            (subst (IsPart (length classes)) is_part
            (part_kept options automata classes a rules asked (lists_of columns) part is number names explored.plain.rows (whole.asked).marks has explored.grids.items sets explored.parents.items built
            caps.cells is_caps.cells (queries_few checked a low) few_entries))

        pub has_table : HasTable all
        has_table = record {
          wide = omega (arith, wide);
          table = subst (IsTable all.plain.rows) (sym wide) (asked_table explored.plain.rows all.plain.rows (length columns) (length all.asks.items) (whole.asked).marks built.shape has);
        }

        shown_reported : (b : Bool) (o : Option Shown) → MatchBool b (IsSomeAnd o (IsShownOf explored)) (o ≡ None) → MatchBool b (IsSomeAnd (option_map shown_of o) (λ s. (s.parents ≡ explored.parents.items) × AreArranged explored.grids.items sets s.states)) (option_map shown_of o ≡ None)
        shown_reported false o h = ap (option_map shown_of) h
        shown_reported true None h = h
        shown_reported true (Some shown) h = (h.parents, h.states)

        pub whole_compiled : IsCompiledPart true options automata classes a (found_part_of all) (report_of all.report)
        whole_compiled =
            subst (λ part. IsCompiledPart true options automata classes a part (report_of all.report)) is_part
            (compiled_part options automata classes a rules asked (lists_of columns) part is number names explored.plain.rows (whole.asked).marks has explored.grids.items sets explored.parents.items built (report_of all.report)
            (whole.named ∙ ap (λ (p : AutomatonParts). p.name) (sym parts_are))
            present (no_queries checked a low)
            (whole.reported).grids (whole.reported).states ((whole.reported).members ∙ sum_by_items explored.sets.items)
            (shown_reported (shows checked.options) all.report.shown (whole.reported).shown)
            (within_limits options automata classes a rules asked (lists_of columns) maps is caps capped
            (subst (λ n. AreWithin (pipeline_of (if checked.options.ndfa then any_fit else first_fit) rules columns) n caps) (sym number) within)
            (cells_most options automata classes a rules asked (lists_of columns) (length columns) number explored.plain.rows explored.grids.items sets explored.parents.items built caps.cells few_entries)))
