-- A part whose table is the automaton of the columns walks what the pipeline of the classes accepts.
use Rattle.std.proofs.Common.{◌≡◌, ℕ, ◌≤◌, List, [], ◌∷◌, ◌++◌, Some, replicate, refl, sym, ap, ◌∙◌, subst, ◌+◌, zero, suc, Bool, length}
use Rattle.std.specs.Prelude.{◌↔◌, IsSome}
use Rattle.hz_base_model.specs.Pairs.{Pair}
use Rattle.hz_pipeline_model.specs.Accepting.Events.{Event, issue, advance, ask}
use Rattle.hz_pipeline_model.specs.Accepting.Replay.{Pipeline, Accepted, alternatives_at}
use Rattle.hz_pipeline_model.specs.Tables.Tables.{walk, Table}
use Rattle.hz_pipeline_model.specs.Tables.Machines.{Part, column_of, word_of, part_walk}
use Rattle.hz_pipeline_model.specs.Reaching.Reach.{Leaves, IsLeft, IsReachedGrid, IsReachedState}
use Rattle.hz_pipeline_model.specs.Reaching.Counts.{Count, IsAbove, IsAtMost, CountIsAbove, CountIsAtMost}
use Rattle.hz_pipeline_model.specs.Reaching.Counts as count
use Rattle.hz_pipeline_model.specs.Reaching.Columns.{events_at}
use Rattle.hz_pipeline_model.proofs.Reaching.Spelling.{spelled}
use Rattle.hz_pipeline_model.specs.Reaching.Built.{IsAutomaton, state_at}
use Rattle.hz_pipeline_model.proofs.Reaching.AutomatonLaws.{leaves_of_accepted, accepted_of_leaves}
use Rattle.hz_pipeline_model.proofs.Reaching.WordLaws.{IsInside, spelled_columns, leaves_spelled, leaves_from_spelled}
use Rattle.hz_pipeline_model.specs.Compiling.Moved.{IsMoved}
use Rattle.hz_pipeline_model.proofs.Compiling.MovedEvents.{moved}
use Rattle.hz_pipeline_model.proofs.Compiling.MovedLaws.{accepted_moved, leaves_there, leaves_back, left_there, left_back}
use Rattle.hz_pipeline_model.specs.Tables.AskColumns.{HasAsks, all_beside}
use Rattle.hz_pipeline_model.proofs.Asks.AskLaws.{same_walk}
use Rattle.hz_pipeline_model.proofs.Asks.AskLaws.{class_beside, advance_beside}

-- the advance again and again, beside asks
beside_advances : (columns asks n : ℕ) (w v : List ℕ) → w ≡ all_beside columns asks v → replicate n (columns + asks) ++ w ≡ all_beside columns asks (replicate n columns ++ v)
beside_advances columns asks zero w v e = e
beside_advances columns asks (suc n) w v e = λ i. sym (advance_beside columns asks) i ∷ beside_advances columns asks n w v e i

-- the word of a part is what its events are spelled by, by their columns, beside its asks
pub word_spelled : (part : Part) (t : List Event) → IsInside part.columns (moved (column_of part) t) → word_of part t ≡ all_beside part.columns (length part.asks) (spelled part.columns (moved (column_of part) t))
word_spelled part [] inside = refl
word_spelled part (issue k ∷ t) inside = λ i. sym (class_beside part.columns (length part.asks) (column_of part k) inside.0) i ∷ word_spelled part t inside.1 i
word_spelled part (ask a u ∷ t) inside = word_spelled part t inside
word_spelled part (advance n ∷ t) inside = beside_advances part.columns (length part.asks) n (word_of part t) (spelled part.columns (moved (column_of part) t)) (word_spelled part t inside)

-- A pipeline m, whose classes have the columns of the part in the pipeline c. The table is that of the part without its asks.
module _ {U : Type 0} (part : Part) (table : Table) (marks : ℕ → ℕ → Bool) (has : HasAsks table part.rows part.columns (length part.asks) marks) (m c : Pipeline U) (grids : List (List (Pair U))) (sets : List (List ℕ)) (parents : List (ℕ × ℕ))
    (same : IsMoved (column_of part) m c) (none : (k : ℕ) → part.columns ≤ k → alternatives_at c k ≡ []) (auto : IsAutomaton c part.columns table grids sets parents) where
  abbrev word : List Event → List ℕ
  word t = spelled part.columns (moved (column_of part) t)

  abbrev Inside : List Event → Type 0
  Inside t = IsInside part.columns (moved (column_of part) t)

  -- accepted by columns, one by one
  by_columns : (t : List Event) → Accepted m t → Accepted c (events_at part.columns (word t))
  by_columns t h =
      let there = (accepted_moved (column_of part) m c same t).0 h in
      let left = leaves_of_accepted c (moved (column_of part) t) there in
      accepted_of_leaves c (events_at part.columns (word t)) left.0 (leaves_spelled c part.columns none (moved (column_of part) t) left.0 left.1)

  from_columns : (t : List Event) → Inside t → Accepted c (events_at part.columns (word t)) → Accepted m t
  from_columns t inside h =
      let left = leaves_of_accepted c (events_at part.columns (word t)) h in
      (accepted_moved (column_of part) m c same t).1 (accepted_of_leaves c (moved (column_of part) t) left.0 (leaves_from_spelled c part.columns none (moved (column_of part) t) left.0 inside left.1))

  pub walked : (t : List Event) → Inside t → part_walk part 0 t ≡ walk table (Some 0) (word t)
  walked t inside =
      ap (walk part.rows (Some 0)) (word_spelled part t inside)
      ∙ same_walk table part.rows part.columns (length part.asks) marks auto.shape has 0 (auto.shape).start (word t) (spelled_columns part.columns (moved (column_of part) t) inside)

  pub part_accepts : (t : List Event) → Inside t → IsSome (part_walk part 0 t) ↔ Accepted m t
  part_accepts t inside =
      let both = auto.walks (word t) (spelled_columns part.columns (moved (column_of part) t) inside) in
      (λ h. from_columns t inside (both.0 (subst IsSome (walked t inside) h)), λ h. subst IsSome (sym (walked t inside)) (both.1 (by_columns t h)))

  -- the same is left
  left_of_columns : (t : List Event) (xs : List (List (Pair U))) → Inside t → IsLeft c (events_at part.columns (word t)) xs → IsLeft m t xs
  left_of_columns t xs inside h = left_back (column_of part) m c same t xs (record {
    different = h.different;
    all = λ g l. h.all g (leaves_spelled c part.columns none (moved (column_of part) t) g l);
    only = λ g k. leaves_from_spelled c part.columns none (moved (column_of part) t) g inside (h.only g k);
  })

  pub part_stands : (t : List Event) (state : ℕ) → Inside t → part_walk part 0 t ≡ Some state → IsLeft m t (state_at grids sets state)
  part_stands t state inside h = left_of_columns t (state_at grids sets state) inside (auto.stands (word t) state (spelled_columns part.columns (moved (column_of part) t) inside) (sym (walked t inside) ∙ h))

-- Counts of one pipeline are those of another where they reach the same.
module _ {U : Type 0} (m o : Pipeline U) (grid_there : (g : List (Pair U)) → IsReachedGrid m g → IsReachedGrid o g) (state_there : (s : List (List (Pair U))) → IsReachedState m s → IsReachedState o s) where
  pub above_there : (columns n : ℕ) (kind : Count) → CountIsAbove m columns kind n → CountIsAbove o columns kind n
  above_there columns n count.grids h = record { items = h.items; reached = λ x c. grid_there x (h.reached x c); different = h.different; above = h.above }
  above_there columns n count.states h = record { items = h.items; reached = λ x c. state_there x (h.reached x c); different = h.different; above = h.above }
  above_there columns n count.members h = record { items = h.items; reached = λ x c. state_there x (h.reached x c); different = h.different; above = h.above }
  above_there columns n count.cells h = record { items = h.items; reached = λ x c. state_there x (h.reached x c); different = h.different; above = h.above }

  pub most_back : (columns n : ℕ) (kind : Count) → CountIsAtMost o columns kind n → CountIsAtMost m columns kind n
  most_back columns n count.grids h = record { items = h.items; all = λ x r. h.all x (grid_there x r); most = h.most }
  most_back columns n count.states h = record { items = h.items; all = λ x r. h.all x (state_there x r); most = h.most }
  most_back columns n count.members h = record { items = h.items; all = λ x r. h.all x (state_there x r); most = h.most }
  most_back columns n count.cells h = record { items = h.items; all = λ x r. h.all x (state_there x r); most = h.most }

-- what classes by other numbers reach
module _ {U : Type 0} (f : ℕ → ℕ) (m o : Pipeline U) (same : IsMoved f m o) where
  pub grid_moved : (g : List (Pair U)) → IsReachedGrid m g → IsReachedGrid o g
  grid_moved g r = (moved f r.0, leaves_there f m o same r.0 g r.1)

  pub state_moved : (s : List (List (Pair U))) → IsReachedState m s → IsReachedState o s
  state_moved s r = (moved f r.0, (accepted_moved f m o same r.0).0 r.1, left_there f m o same r.0 s r.2)

  -- events of o that are the moved ones of m
  pub grid_unmoved : ((t : List Event) (g : List (Pair U)) → Leaves o t g → (u : List Event) × (moved f u ≡ t)) → (g : List (Pair U)) → IsReachedGrid o g → IsReachedGrid m g
  grid_unmoved back g r =
      let found = back r.0 g r.1 in
      (found.0, leaves_back f m o same found.0 g (subst (λ t. Leaves o t g) (sym found.1) r.1))

  pub state_unmoved : ((t : List Event) (g : List (Pair U)) → Leaves o t g → (u : List Event) × (moved f u ≡ t)) → (s : List (List (Pair U))) → IsReachedState o s → IsReachedState m s
  state_unmoved back s r =
      let left = leaves_of_accepted o r.0 r.1 in
      let found = back r.0 left.0 left.1 in
      (found.0, (accepted_moved f m o same found.0).1 (subst (Accepted o) (sym found.1) r.1), left_back f m o same found.0 s (subst (λ t. IsLeft o t s) (sym found.1) r.2))
