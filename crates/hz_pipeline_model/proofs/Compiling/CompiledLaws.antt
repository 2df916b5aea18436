-- What a part is whose table is the automaton of the columns of its classes.
use Rattle.std.proofs.Common.{◌≡◌, ℕ, ◌+◌, ◌<◌, ◌≤◌, List, [], ◌∷◌, length, Option, Some, None, refl, sym, ap, ◌∙◌, subst, arith, Bool}
use Rattle.std.specs.Prelude.{◌↔◌, All, IsSome, slice_index_or, is_some}
use Rattle.hz_base_model.specs.Pairs.{Pair}
use Rattle.hz_description_model.specs.Reservations.Sets.{Statement}
use Rattle.hz_pipeline_model.specs.Accepting.Events.{Event, issue, advance, ask, IsOfClass}
use Rattle.hz_pipeline_model.specs.Accepting.Fitting.{AskTheSame}
use Rattle.hz_pipeline_model.specs.Accepting.Replay.{Pipeline, Treatment, Accepted, alternatives_at, first_fit}
use Rattle.hz_pipeline_model.specs.Tables.Machines.{Part, column_of, word_of, part_walk, advance_of}
use Rattle.hz_pipeline_model.proofs.Tables.TableLaws.{walk_stays, breadth_first_reached}
use Rattle.hz_pipeline_model.specs.Reaching.Reach.{Leaves, IsLeft, SameGrids}
use Rattle.hz_pipeline_model.specs.Reaching.Counts.{Count, CountIsAbove, CountIsAtMost}
use Rattle.hz_pipeline_model.specs.Reaching.Columns.{pipeline_on}
use Rattle.hz_pipeline_model.specs.Reaching.Built.{IsAutomaton, state_at}
use Rattle.hz_pipeline_model.proofs.Reaching.CountLaws.{has_then}
use Rattle.hz_pipeline_model.proofs.Reaching.WordLaws.{IsInside, inside_of_leaves}
use Rattle.hz_pipeline_model.specs.Compiling.ClassColumns.{IsColumns}
use Rattle.hz_pipeline_model.specs.Compiling.CompiledParts.{WalksAccepted, TellsWhatIsLeft, IsNumbered, TellsWhatIsHeld}
use Rattle.hz_pipeline_model.specs.Compiling.Moved.{IsMoved}
use Rattle.hz_pipeline_model.proofs.Compiling.MovedEvents.{moved}
use Rattle.hz_pipeline_model.proofs.Compiling.MovedLaws.{accepted_moved, held_moved}
use Rattle.hz_pipeline_model.proofs.Compiling.ColumnLaws.{columns_moved, moved_inside, nothing_past, unmoved, to_column}
use Rattle.hz_pipeline_model.proofs.Compiling.PartLaws.{part_accepts, part_stands, above_there, most_back, grid_moved, state_moved, grid_unmoved, state_unmoved}
use Rattle.hz_pipeline_model.specs.Tables.Tables.{Table}
use Rattle.hz_pipeline_model.specs.Tables.AskColumns.{HasAsks, places_beside}
use Rattle.hz_pipeline_model.proofs.Asks.AskLaws.{starts, marked_some}
use Rattle.hz_pipeline_model.proofs.Asks.NumberLaws.{numbers_beside}
use Rattle.hz_pipeline_model.proofs.Asks.AskLaws.{asked_table}
use Rattle.hz_pipeline_model.specs.Accepting.Asking.{IsHeld}
use Rattle.hz_pipeline_model.specs.Reaching.Present.{HasPresent, MarksPresent}
use Rattle.hz_pipeline_model.proofs.Reaching.HeldLaws.{held_is_present}
use Rattle.hz_pipeline_model.proofs.Reaching.LimitLaws.{one_left}
use Rattle.hz_pipeline_model.proofs.Reaching.AutomatonLaws.{leaves_of_accepted}
use Rattle.hz_base_model.proofs.Elements.{Contains-nil, Contains-head, Contains-tail}
use Rattle.std.proofs.lemmas.Option.{slice_get_within, get_or_from_slice_get}

some_of : (o : Option ℕ) → IsSome o → (s : ℕ) × (o ≡ Some s)
some_of None h = absurd (cc)
some_of (Some s) h = (s, refl)

-- what the same events leave is the same
pub left_same : {U : Type 0} (m : Pipeline U) (t : List Event) (xs ys : List (List (Pair U))) → IsLeft m t xs → IsLeft m t ys → SameGrids xs ys
left_same m t xs ys a b = record {
  there = λ x c. let found = b.all x (a.only x c) in (found.0, found.1, λ p. ((found.2 p).1, (found.2 p).0));
  back = λ y c. let found = a.all y (b.only y c) in (found.0, found.1, λ p. ((found.2 p).1, (found.2 p).0));
}

same_then : {U : Type 0} (xs ys zs : List (List (Pair U))) → SameGrids xs ys → SameGrids ys zs → SameGrids xs zs
same_then xs ys zs a b = record { there = has_then xs ys zs a.there b.there; back = has_then zs ys xs b.back a.back }

-- classes go by their columns, under statements that ask the same
asked_moved : (treatment : Treatment) (statements rules : List (Statement ℕ)) → AskTheSame statements rules → (lists columns : List (List (List (Pair ℕ)))) (maps : List ℕ) (is : IsColumns lists columns maps) (beside : ℕ) → IsMoved (to_column treatment statements lists columns maps is beside) (pipeline_on treatment statements lists) (pipeline_on treatment rules columns)
asked_moved treatment statements rules asks lists columns maps is beside =
    let moves = columns_moved treatment statements lists columns maps is beside in
    record { statements = asks; treatment = moves.treatment; alternatives = moves.alternatives }

module _ (treatment : Treatment) (statements rules : List (Statement ℕ)) (asks : AskTheSame statements rules) (lists columns : List (List (List (Pair ℕ)))) (part : Part) (is : IsColumns lists columns part.map) (count : length columns ≡ part.columns)
    (table : Table) (marks : ℕ → ℕ → Bool) (has : HasAsks table part.rows part.columns (length part.asks) marks)
    (grids : List (List (Pair ℕ))) (sets : List (List ℕ)) (parents : List (ℕ × ℕ)) (auto : IsAutomaton (pipeline_on treatment rules columns) part.columns table grids sets parents) where
  abbrev classes : Pipeline ℕ
  classes = pipeline_on treatment statements lists

  abbrev by_column : Pipeline ℕ
  by_column = pipeline_on treatment rules columns

  same_function : to_column treatment statements lists columns part.map is (length part.asks) ≡ column_of part
  same_function = ap (λ n k. slice_index_or part.map k (n + length part.asks + 1)) count

  pub part_moved : IsMoved (column_of part) classes by_column
  part_moved = subst (λ f. IsMoved f classes by_column) same_function (asked_moved treatment statements rules asks lists columns part.map is (length part.asks))

  none_past : (k : ℕ) → part.columns ≤ k → alternatives_at by_column k ≡ []
  none_past k high = nothing_past treatment rules columns k (omega (arith, high, count))

  inside : (t : List Event) → All (IsOfClass (length lists)) t → IsInside part.columns (moved (column_of part) t)
  inside t all = subst (λ n. IsInside n (moved (column_of part) t)) count (subst (λ f. IsInside (length columns) (moved f t)) same_function (moved_inside treatment statements lists columns part.map is (length part.asks) t all))

  pub walks_accepted : WalksAccepted (length lists) classes part
  walks_accepted = record { walks = λ t all. part_accepts part table marks has classes by_column grids sets parents part_moved none_past auto t (inside t all) }

  -- where events end stands for what they leave
  pub stands : (t : List Event) (state : ℕ) → All (IsOfClass (length lists)) t → part_walk part 0 t ≡ Some state → IsLeft classes t (state_at grids sets state)
  stands t state all h = part_stands part table marks has classes by_column grids sets parents part_moved none_past auto t state (inside t all) h

  -- and is a row
  pub low : (t : List Event) (state : ℕ) → part_walk part 0 t ≡ Some state → state < length table
  low t state h =
      let rows = asked_table table part.rows part.columns (length part.asks) marks auto.shape has in
      omega (arith, has.each, walk_stays part.rows (advance_of part) rows (Some 0) (starts part.rows rows.start) state (word_of part t) h)

  pub tells_left : TellsWhatIsLeft (length lists) classes part
  tells_left = record {
    one = λ t u xs ys all also left other accepted accepts. (
      λ same.
          let end = some_of (part_walk part 0 t) ((walks_accepted.walks t all).1 accepted) in
          let s = state_at grids sets end.0 in
          same_then xs s ys (left_same classes t xs s left (stands t end.0 all end.1)) (left_same classes u s ys (stands u end.0 also (sym same ∙ end.1)) other),
      λ same.
          let end = some_of (part_walk part 0 t) ((walks_accepted.walks t all).1 accepted) in
          let last = some_of (part_walk part 0 u) ((walks_accepted.walks u also).1 accepts) in
          let s = state_at grids sets end.0 in
          let r = state_at grids sets last.0 in
          let both = same_then s xs r (left_same classes t s xs (stands t end.0 all end.1) left) (same_then xs ys r same (left_same classes u ys r other (stands u last.0 also last.1))) in
          let one = auto.apart end.0 last.0 (low t end.0 end.1) (low u last.0 last.1) both in
          end.1 ∙ (ap Some one ∙ sym last.1),
    );
  }

  pub numbered : IsNumbered part
  numbered =
      let order = numbers_beside table part.rows part.columns (length part.asks) marks auto.shape has parents auto.breadth_first in
      record {
        reached = breadth_first_reached part.rows (advance_of part) (places_beside part.columns (length part.asks) parents) order;
        parents = places_beside part.columns (length part.asks) parents;
        breadth_first = order;
      }

  -- where each state's queries are marked by its grid, they are reported where they are held
  module _ (first : treatment ≡ first_fit) (queries : List ℕ) (many : length queries ≡ length part.asks) (present : MarksPresent grids sets queries marks) where
    one_grid : (t : List Event) (state : ℕ) → Accepted classes t → IsLeft classes t (state_at grids sets state) → (grid : List (Pair ℕ)) × (state_at grids sets state ≡ grid ∷ [])
    one_grid t state accepted left = by_list (state_at grids sets state) left
      where
        by_list : (xs : List (List (Pair ℕ))) → IsLeft classes t xs → (grid : List (Pair ℕ)) × (xs ≡ grid ∷ [])
        by_list [] is = let some = leaves_of_accepted classes t accepted in let found = is.all some.0 some.1 in absurd (Contains-nil found.0 found.1)
        by_list (grid ∷ []) is = (grid, refl)
        by_list (grid ∷ other ∷ more) is =
            absurd (is.different 0 1 [] (omega arith) (omega arith)
            (one_left classes first t grid other (is.only grid (Contains-head grid (other ∷ more))) (is.only other (Contains-tail grid other (other ∷ more) (Contains-head other more)))))

    pub tells_held : TellsWhatIsHeld (length lists) classes queries part
    tells_held = record {
      held = λ t state query unit all ends at.
          let row = low t state ends in
          let within = slice_get_within queries query unit at in
          let left = stands t state all ends in
          let accepted = (walks_accepted.walks t all).0 (ap is_some ends) in
          let grid = one_grid t state accepted left in
          let marked = ap is_some (has.marked state query row (omega (arith, within, many))) ∙ marked_some (marks state query) state in
          let here = present.present state query grid.0 (omega (arith, row, auto.each)) within grid.1 in
          let unit_is : slice_index_or queries query 0 ≡ unit = get_or_from_slice_get queries query unit 0 at in
          let held = held_is_present classes first t grid.0 (subst (λ xs. IsLeft classes t xs → Leaves classes t grid.0) (sym grid.1) (λ (is : IsLeft classes t (grid.0 ∷ [])). is.only grid.0 (Contains-head grid.0 [])) left) unit in (
            λ tells. held.1 (subst (HasPresent grid.0) unit_is (here.0 (sym marked ∙ tells))),
            λ is. marked ∙ here.1 (subst (HasPresent grid.0) (sym unit_is) (held.0 is)),
          );
    }

-- Counts by columns are counts by classes.
module _ (treatment : Treatment) (statements rules : List (Statement ℕ)) (asks : AskTheSame statements rules) (lists columns : List (List (List (Pair ℕ)))) (maps : List ℕ) (is : IsColumns lists columns maps) where
  abbrev f : ℕ → ℕ
  f = to_column treatment statements lists columns maps is 0

  moves : IsMoved f (pipeline_on treatment statements lists) (pipeline_on treatment rules columns)
  moves = asked_moved treatment statements rules asks lists columns maps is 0

  back : (t : List Event) (g : List (Pair ℕ)) → Leaves (pipeline_on treatment rules columns) t g → (u : List Event) × (moved f u ≡ t)
  back t g h = unmoved treatment statements lists columns maps is 0 t (inside_of_leaves (pipeline_on treatment rules columns) (length columns) (nothing_past treatment rules columns) t g h)

  pub counts_above : (n k : ℕ) (kind : Count) → CountIsAbove (pipeline_on treatment rules columns) n kind k → CountIsAbove (pipeline_on treatment statements lists) n kind k
  counts_above n k kind = above_there (pipeline_on treatment rules columns) (pipeline_on treatment statements lists)
      (grid_unmoved f (pipeline_on treatment statements lists) (pipeline_on treatment rules columns) moves back)
      (state_unmoved f (pipeline_on treatment statements lists) (pipeline_on treatment rules columns) moves back) n k kind

  pub counts_most : (n k : ℕ) (kind : Count) → CountIsAtMost (pipeline_on treatment rules columns) n kind k → CountIsAtMost (pipeline_on treatment statements lists) n kind k
  counts_most n k kind = most_back (pipeline_on treatment statements lists) (pipeline_on treatment rules columns)
      (grid_moved f (pipeline_on treatment statements lists) (pipeline_on treatment rules columns) moves)
      (state_moved f (pipeline_on treatment statements lists) (pipeline_on treatment rules columns) moves) n k kind

-- the same under the same numbers
moved_itself : (t : List Event) → moved (λ k. k) t ≡ t
moved_itself [] = refl
moved_itself (issue k ∷ t) = ap (λ es. issue k ∷ es) (moved_itself t)
moved_itself (advance n ∷ t) = ap (λ es. advance n ∷ es) (moved_itself t)
moved_itself (ask a u ∷ t) = ap (λ es. ask a u ∷ es) (moved_itself t)

module _ {U : Type 0} (m o : Pipeline U) (same : IsMoved (λ k. k) m o) where
  pub accepted_alike : (t : List Event) → Accepted m t ↔ Accepted o t
  accepted_alike t = let both = accepted_moved (λ k. k) m o same t in (λ h. subst (Accepted o) (moved_itself t) (both.0 h), λ h. both.1 (subst (Accepted o) (sym (moved_itself t)) h))

  pub held_alike : m.treatment ≡ first_fit → (t : List Event) → Accepted m t → (unit : U) → IsHeld m t unit ↔ IsHeld o t unit
  held_alike first t accepted unit = subst (λ es. IsHeld m t unit ↔ IsHeld o es unit) (moved_itself t) (held_moved (λ k. k) m o same first t accepted unit)

  pub above_alike : (n k : ℕ) (kind : Count) → CountIsAbove o n kind k → CountIsAbove m n kind k
  above_alike n k kind = above_there o m (grid_unmoved (λ k. k) m o same (λ t g h. (t, moved_itself t))) (state_unmoved (λ k. k) m o same (λ t g h. (t, moved_itself t))) n k kind

  pub most_alike : (n k : ℕ) (kind : Count) → CountIsAtMost o n kind k → CountIsAtMost m n kind k
  most_alike n k kind = most_back m o (grid_moved (λ k. k) m o same) (state_moved (λ k. k) m o same) n k kind
