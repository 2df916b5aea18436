-- A machine that is compiled of the parts of a description without a fault can be said.
use Rattle.std.proofs.Common.{◌≡◌, ℕ, ◌+◌, ◌<◌, ◌≤◌, ⊎_elim, Bool, true, false, List, [], ◌∷◌, map, length, get_or, Contains, Option, Some, None, slice_get, refl, sym, ap, ◌∙◌, subst, arith}
use Rattle.std.specs.Prelude.{All, MatchBool, IsSomeAnd, slice_index_or}
use Rattle.std.proofs.lemmas.Bool.{cases_lt}
use Rattle.std.proofs.lemmas.List.{length-map, get_or-map, get_or_default}
use Rattle.std.proofs.lemmas.List.Elements.{All-contains, All-from_get_or, Contains-get_or, Contains-append_cases}
use Rattle.std.proofs.lemmas.Option.{slice_get-get_or, slice_get_past, get_or_from_slice_get}
use Rattle.hz_base_model.specs.Pairs.{Pair, later, placed}
use Rattle.hz_base_model.proofs.Elements.{Contains-nil, Contains-from_map}
use Rattle.hz_description_model.specs.Reservations.Alternatives.{Alternative}
use Rattle.hz_pipeline_model.specs.Accepting.Events.{Event, issue, advance, ask}
use Rattle.hz_pipeline_model.specs.Accepting.Replay.{Class, Pipeline, of_class, alternatives_at, pairs_at, chosen, calendar}
use Rattle.hz_pipeline_model.specs.Accepting.Restricted.{of_pairs}
use Rattle.hz_description_model.specs.Reading.Descriptions.{Options}
use Rattle.hz_description_model.specs.Check.CheckedParts.{AutomatonParts, ClassParts, BypassParts}
use Rattle.hz_description_model.specs.Check.CheckedShape.{IsKept}
use Rattle.hz_pipeline_model.specs.Tables.Tables.{walk, IsReached}
use Rattle.hz_pipeline_model.specs.Tables.Machines.{Part, Machine, IsMachine, part_at, no_part, part_walk, IsPart}
use Rattle.hz_pipeline_model.specs.Reaching.Reach.{Leaves}
use Rattle.hz_pipeline_model.specs.Reaching.Columns.{class_of_grids}
use Rattle.hz_pipeline_model.specs.Compiling.AutomatonPipelines.{automaton_at, lists_at, automaton_pipeline, no_automaton}
use Rattle.hz_pipeline_model.specs.Compiling.Compiled as compiled
use Rattle.hz_pipeline_model.specs.Compiling.Compiled.{Report, report_at, shows_states, IsShown, IsCompiledPart, IsCompiled}
use Rattle.hz_tabtext_model.specs.Said.{IsShownOf, CanBeSaid}
use Rattle.hz_pipeline_model.specs.Tables.AskColumns.{row_without_asks}
use Rattle.hz_pipeline_model.proofs.Single.WordLaws.{spell}
use Rattle.hz_pipeline_model.proofs.Single.PartLaws.{filled_part}
use Rattle.hz_pipeline_model.proofs.Asks.BareWords.{bare, bare_columns, bare_walk}

-- ---- units of what is left

module _ (n : ℕ) where
  abbrev AreBelow : List (Pair ℕ) → Type 0
  AreBelow pairs = All (λ p. p.unit < n) pairs

  -- what holds of each item holds of the one that is there
  there : {X : Type 0} (P : X → Type 0) (xs : List X) → All P xs → (i : ℕ) (x : X) → slice_get xs i ≡ Some x → P x
  there P xs all i x e =
      ⊎_elim
      (λ (lt : i < length xs). subst P (get_or_from_slice_get xs i x x e) (all i x lt))
      (λ (past : length xs ≤ i). let none = slice_get_past xs i past in absurd (cc))
      (cases_lt i (length xs))

  nothing_below : {X : Type 0} (P : X → Type 0) → All P []
  nothing_below P = λ i d low. absurd (omega (arith, low))

  of_class_below : (o : Option (Class ℕ)) → ((c : Class ℕ) → o ≡ Some c → All (λ a. AreBelow a.pairs) c.alternatives) → All (λ a. AreBelow a.pairs) (of_class o)
  of_class_below None h = nothing_below (λ a. AreBelow a.pairs)
  of_class_below (Some c) h = h c refl

  pairs_at_below : (o : Option (Alternative ℕ)) → ((a : Alternative ℕ) → o ≡ Some a → AreBelow a.pairs) → AreBelow (pairs_at o)
  pairs_at_below None h = nothing_below (λ p. p.unit < n)
  pairs_at_below (Some a) h = h a refl

  chosen_below : (m : Pipeline ℕ) → All (λ c. All (λ a. AreBelow a.pairs) c.alternatives) m.classes → (k i : ℕ) → AreBelow (chosen m k i)
  chosen_below m all k i =
      let alternatives = of_class_below (slice_get m.classes k) (λ c e. there (λ c. All (λ a. AreBelow a.pairs) c.alternatives) m.classes all k c e) in
      pairs_at_below (slice_get (alternatives_at m k) i) (λ a e. there (λ a. AreBelow a.pairs) (alternatives_at m k) alternatives i a e)

  placed_below : (pairs : List (Pair ℕ)) (now : ℕ) → AreBelow pairs → (q : Pair ℕ) → Contains (placed now pairs) q → q.unit < n
  placed_below pairs now below q h =
      let found = Contains-from_map (later now) pairs q h in
      let low : found.0.unit < n = All-contains (λ (p : Pair ℕ). p.unit < n) pairs found.0 below found.1 in
      subst (λ (u : ℕ). u < n) (ap (λ (p : Pair ℕ). p.unit) found.2) low

  calendar_below : (m : Pipeline ℕ) → ((k i : ℕ) → AreBelow (chosen m k i)) → (now : ℕ) (t : List Event) (choices : List ℕ) (q : Pair ℕ) → Contains (calendar m now t choices) q → q.unit < n
  calendar_below m all now [] choices q h = absurd (Contains-nil q h)
  calendar_below m all now (advance k ∷ t) choices q h = calendar_below m all (k + now) t choices q h
  calendar_below m all now (ask a u ∷ t) choices q h = calendar_below m all now t choices q h
  calendar_below m all now (issue k ∷ t) [] q h = absurd (Contains-nil q h)
  calendar_below m all now (issue k ∷ t) (i ∷ choices) q h =
      ⊎_elim
      (λ (c : Contains (placed now (chosen m k i)) q). placed_below (chosen m k i) now (all k i) q c)
      (λ (c : Contains (calendar m now t choices) q). calendar_below m all now t choices q c)
      (Contains-append_cases (placed now (chosen m k i)) (calendar m now t choices) q h)

  left_below : (m : Pipeline ℕ) → ((k i : ℕ) → AreBelow (chosen m k i)) → (t : List Event) (grid : List (Pair ℕ)) → Leaves m t grid → AreBelow grid
  left_below m all t grid leaves =
      let none : Pair ℕ = record { unit = 0; cycle = 0 } in
      All-from_get_or (λ p. p.unit < n) grid none (λ i low.
      let p : Pair ℕ = get_or grid i none in
      calendar_below m all 0 t leaves.0 _ ((leaves.2.pairs p.unit p.cycle).0 (Contains-get_or grid i none low)))

  -- the classes of lists of grids
  grids_below : (grids : List (List (Pair ℕ))) → All AreBelow grids → All (λ a. AreBelow a.pairs) (map of_pairs grids)
  grids_below grids all = All-from_get_or (λ a. AreBelow a.pairs) (map of_pairs grids) (of_pairs []) (λ i low.
      let inside : i < length grids = omega (arith, low, length-map grids of_pairs) in
      subst (λ (a : Alternative ℕ). AreBelow a.pairs) (sym (get_or-map of_pairs grids i [] (of_pairs []) inside)) (all i [] inside))

  lists_below : (lists : List (List (List (Pair ℕ)))) → All (All AreBelow) lists → All (λ c. All (λ a. AreBelow a.pairs) c.alternatives) (map class_of_grids lists)
  lists_below lists all = All-from_get_or (λ c. All (λ a. AreBelow a.pairs) c.alternatives) (map class_of_grids lists) (class_of_grids []) (λ i low.
      let inside : i < length lists = omega (arith, low, length-map lists class_of_grids) in
      subst (λ (c : Class ℕ). All (λ a. AreBelow a.pairs) c.alternatives) (sym (get_or-map class_of_grids lists i [] (class_of_grids []) inside)) (grids_below (get_or lists i []) (all i [] inside)))

-- ---- what is shown

item : {X : Type 0} (xs : List X) (k : ℕ) → k < length xs → (x : X) × (slice_get xs k ≡ Some x)
item [] k lt = absurd (omega (arith, lt))
item (x ∷ xs) k lt = (get_or (x ∷ xs) k x, slice_get-get_or (x ∷ xs) k x lt)

reported_as : (P Q : compiled.Shown → Type 0) → ((s : compiled.Shown) → P s → Q s) → (b : Bool) (o : Option compiled.Shown) → MatchBool b (IsSomeAnd o P) (o ≡ None) → MatchBool b (IsSomeAnd o Q) (o ≡ None)
reported_as P Q f true None h = h
reported_as P Q f true (Some s) h = f s h
reported_as P Q f false o h = h

module _ (options : Options) (automata : List AutomatonParts) (classes : List ClassParts) (bypasses : List BypassParts) (attributes : List (List ℕ × List (List ℕ))) (kept : IsKept automata classes bypasses attributes) where
  -- the lists of an automaton have units of it
  units_below : (a : ℕ) → a < length automata → All (All (AreBelow (length (automaton_at automata a).units))) (lists_at classes a)
  units_below a low = λ i d within.
      let inside : i < length classes = omega (arith, within, length-map classes (λ (c : ClassParts). slice_index_or c.lists a [])) in
      by_class i d inside
    where
      by_class : (i : ℕ) (d : List (List (Pair ℕ))) → i < length classes → All (AreBelow (length (automaton_at automata a).units)) (get_or (lists_at classes a) i d)
      by_class i d inside =
          let first : (c : ClassParts) × (slice_get classes i ≡ Some c) = item classes i inside in
          let same : get_or (lists_at classes a) i d ≡ slice_index_or (get_or classes i first.0).lists a [] = get_or-map (λ (c : ClassParts). slice_index_or c.lists a []) classes i first.0 d inside in
          let fits = kept.grids i first.0 inside a (automaton_at automata a) (slice_get-get_or automata a no_automaton low) in
          subst (All (AreBelow (length (automaton_at automata a).units))) (sym same) (λ j e in_list k f in_grid. (fits j e in_list k f in_grid).0)

  shown_is : (a : ℕ) → a < length automata → (part : Part) (report : Report) → IsPart (length classes) part → IsCompiledPart options.no_minimization options automata classes a part report → (shown : compiled.Shown) → IsShown (length classes) (automaton_pipeline options automata classes a) part shown → IsShownOf (automaton_at automata a).units part shown
  shown_is a low part report fits is shown h =
      let pipeline : Pipeline ℕ = automaton_pipeline options automata classes a in
      let n : ℕ = length (automaton_at automata a).units in
      let chosen_are : (k i : ℕ) → AreBelow n (chosen pipeline k i) = chosen_below n pipeline (lists_below n (lists_at classes a) (units_below a low)) in
      let filled = filled_part options.no_minimization options automata classes a part report is in
      record {
        places = h.parents.each ∙ length-map part.rows (row_without_asks part.columns (length part.asks));
        each = h.each;
        within = λ state some inside.
            let rows = length-map part.rows (row_without_asks part.columns (length part.asks)) in
            let read = h.parents.read state some (omega (arith, inside, rows)) in
            let row = read.row in
            (omega (arith, row, inside), read.column);
        named = λ state d inside j e in_state.
            let here : state < length part.rows = omega (arith, inside, h.each) in
            let reached : IsReached part.rows state = is.numbered.reached state here in
            let columns = bare part.columns (length part.asks) reached.0 in
            let s = spell (length classes) part filled columns (bare_columns part.columns (length part.asks) reached.0) in
            let walked : part_walk part 0 s.events ≡ Some state = ap (walk part.rows (Some 0)) s.word ∙ bare_walk part.rows part.columns (length part.asks) fits.table fits.stays reached.0 0 state reached.1 in
            let grids : List (List (Pair ℕ)) = slice_index_or shown.states state [] in
            let same : get_or shown.states state d ≡ grids = get_or_default shown.states state d [] inside in
            let low_j : j < length grids = subst (λ (gs : List (List (Pair ℕ))). j < length gs) same in_state in
            let leaves : Leaves pipeline s.events (get_or grids j e) = (h.left s.events state s.inside walked).only (get_or grids j e) (Contains-get_or grids j e low_j) in
            subst (λ (gs : List (List (Pair ℕ))). AreBelow n (get_or gs j e)) (sym same) (left_below n pipeline chosen_are s.events (get_or grids j e) leaves);
      }

  pub can_be_said : (m : Machine) (reports : List Report) → IsMachine m → IsCompiled options automata classes m reports → CanBeSaid options automata reports m
  can_be_said m reports machine is = record {
    parts = is.each;
    reported = is.reported;
    shown = λ a low.
        let each = is.each in
        let inside : a < length m.parts = omega (arith, low, each) in
        let part : Part = part_at m a in
        let report : Report = report_at reports a in
        let count : length m.classes ≡ length classes = ap length is.names ∙ length-map classes (λ (c : ClassParts). c.name) in
        let fits : IsPart (length classes) part = subst (λ (n : ℕ). IsPart n part) count (machine.parts a no_part inside) in
        let reported = is.parts a low in
        reported_as (IsShown (length classes) (automaton_pipeline options automata classes a) part) (IsShownOf (automaton_at automata a).units part) (λ s h. shown_is a low part report fits reported s h) (shows_states options) report.shown reported.shown;
  }
