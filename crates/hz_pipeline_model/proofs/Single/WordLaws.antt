-- What is walked in a part is walked by events of its classes, and parts with one map take the same columns for events.
use Rattle.std.proofs.Common.{◌≡◌, ℕ, ◌+◌, ◌<◌, ◌≤◌, List, [], ◌∷◌, ◌++◌, length, All, Option, Some, None, replicate, refl, sym, ap, ◌∙◌, arith, ⊎_elim}
use Rattle.std.specs.Prelude.{slice_index_or}
use Rattle.std.proofs.lemmas.Bool.{cases_lt}
use Rattle.std.proofs.lemmas.List.{get_or_past}
use Rattle.std.proofs.lemmas.List.Elements.{All-cons, All-nil, All-head, All-tail}
use Rattle.std.proofs.lemmas.Option.{none-some}
use Rattle.hz_pipeline_model.specs.Accepting.Events.{Event, issue, advance, ask, IsOfClass}
use Rattle.hz_pipeline_model.specs.Tables.Tables.{Table, row_of, entry, IsTable}
use Rattle.hz_pipeline_model.specs.Tables.Machines.{Part, column_of, word_of, advance_of}
use Rattle.hz_pipeline_model.specs.Tables.AskColumns.{beside_asks, all_beside}
use Rattle.hz_pipeline_model.specs.Reaching.Columns.{AreColumns}
use Rattle.hz_pipeline_model.proofs.Asks.AskLaws.{class_beside, advance_beside}

-- each column is that of a class
abbrev pub IsFilled : ℕ → Part → Type 0
IsFilled classes part = (column : ℕ) → column < part.columns → (k : ℕ) × (k < classes) × (column_of part k ≡ column)

-- Events of classes that take these columns, beside the asks of the part.
pub record Spells (classes : ℕ) (part : Part) (w : List ℕ) : Type 0 where
  pub events : List Event
  pub inside : All (IsOfClass classes) events
  pub word : word_of part events ≡ all_beside part.columns (length part.asks) w

-- an entry that is there stands in a column
pub entry_low : (table : Table) (columns : ℕ) → IsTable table columns → (state column next : ℕ) → entry table state column ≡ Some next → column ≤ columns
entry_low table columns is state column next e = ⊎_elim
    (λ (here : state < length table). ⊎_elim
    (λ (low : column < columns + 1). omega (arith, low))
    (λ (high : columns + 1 ≤ column). absurd (none-some next (sym (get_or_past (row_of table state) column None (omega (arith, high, is.width state here))) ∙ e)))
    (cases_lt column (columns + 1)))
    (λ (past : length table ≤ state). absurd (none-some next (sym (ap (λ (row : List (Option ℕ)). slice_index_or row column None) (get_or_past table state [] past)) ∙ e)))
    (cases_lt state (length table))

module _ (classes : ℕ) (part : Part) (filled : IsFilled classes part) where
  -- columns of classes and advances are spelled
  pub spell : (w : List ℕ) → AreColumns part.columns w → Spells classes part w
  spell [] are = record { events = []; inside = All-nil (IsOfClass classes); word = refl }
  spell (column ∷ w) are = more (spell w (All-tail (λ (c : ℕ). c ≤ part.columns) column w are)) (All-head (λ (c : ℕ). c ≤ part.columns) column w are)
    where
      more : Spells classes part w → column ≤ part.columns → Spells classes part (column ∷ w)
      more rest low = ⊎_elim
          (λ (below : column < part.columns).
          let class = filled column below in
          let same = class.2 ∙ sym (class_beside part.columns (length part.asks) column below) in
          record {
            events = issue class.0 ∷ rest.events;
            inside = All-cons (IsOfClass classes) (issue class.0) rest.events class.1 rest.inside;
            word = λ i. same i ∷ rest.word i;
          })
          (λ (last : part.columns ≤ column).
          let here : part.columns ≡ column = omega (arith, last, low) in
          let same : advance_of part ≡ beside_asks part.columns (length part.asks) column = sym (advance_beside part.columns (length part.asks)) ∙ ap (beside_asks part.columns (length part.asks)) here in
          record {
            events = advance 1 ∷ rest.events;
            inside = All-cons (IsOfClass classes) (advance 1) rest.events tt rest.inside;
            word = λ i. same i ∷ rest.word i;
          })
          (cases_lt column part.columns)

-- events take the same columns in parts with one map and as many columns and asks
pub same_word : (part other : Part) → part.map ≡ other.map → advance_of part ≡ advance_of other → (t : List Event) → word_of part t ≡ word_of other t
same_word part other maps advances [] = refl
same_word part other maps advances (issue k ∷ t) = λ i. slice_index_or (maps i) k (advances i + 1) ∷ same_word part other maps advances t i
same_word part other maps advances (ask a u ∷ t) = same_word part other maps advances t
same_word part other maps advances (advance n ∷ t) = λ i. replicate n (advances i) ++ same_word part other maps advances t i
