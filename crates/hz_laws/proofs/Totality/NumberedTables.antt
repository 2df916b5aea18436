-- The table of what is numbered breadth-first, and what it walks.
use Rattle.std.proofs.Common.{◌≡◌, ℕ, zero, suc, ◌+◌, ◌<◌, ◌≤◌, inl, ⊎_elim, List, [], ◌∷◌, ◌++◌, length, get_or, Option, Some, None, refl, sym, ap, ◌∙◌, subst, arith}
use Rattle.std.specs.Prelude.{is_some}
use Rattle.std.proofs.lemmas.Bool.{cases_lt}
use Rattle.std.proofs.lemmas.List.{get_or_append_left, get_or_push, length_push, get_or_past}
use Rattle.std.proofs.lemmas.Option.{none-some}
use Rattle.hz_pipeline_model.specs.Tables.Tables.{Table, row_of, entry, walk}
use Rattle.hz_pipeline_model.specs.Tables.Orders.{IsFirstRead, IsBreadthFirst, place_of}
use Rattle.hz_laws.proofs.Totality.NumberingLaws.{Numbered, IsOrigin, read_row}

-- a list with a value for each number
pub listed_values : {A : Type 0} (d : A) (P : ℕ → A → Type 0) (n : ℕ) → ((k : ℕ) → k < n → (x : A) × P k x) → (xs : List A) × (length xs ≡ n) × ((k : ℕ) → k < n → P k (get_or xs k d))
listed_values d P zero each = ([], refl, λ k low. absurd (omega (arith, low)))
listed_values d P (suc n) each =
    let (xs, many, all) = listed_values d P n (λ k low. each k (omega (arith, low))) in
    let (x, is) = each n (omega arith) in (
      xs ++ x ∷ [],
      omega (arith, length_push xs x, many),
      λ k low. ⊎_elim
          (λ (here : k < n). subst (P k) (sym (get_or_append_left xs (x ∷ []) d k (omega (arith, here, many)))) (all k here))
          (λ (past : n ≤ k). let same : n ≡ k = omega (arith, low, past) in subst (λ j. P j (get_or (xs ++ x ∷ []) j d)) same (subst (P n) (sym (get_or_push xs x d n many)) is))
          (cases_lt k n),
    )

module _ {X : Type 0} (Same : X → X → Type 0) where
  -- both lead nowhere, or to what is the same
  abbrev pub Alike : Option X → Option X → Type 0
  Alike None None = Unit {0}
  Alike None (Some y) = ⊥
  Alike (Some x) None = ⊥
  Alike (Some x) (Some y) = Same x y

  -- the number stands for the item among so many
  abbrev pub Stands : X → List X → ℕ → Option X → Option ℕ → Type 0
  Stands start items n None None = Unit {0}
  Stands start items n None (Some state) = ⊥
  Stands start items n (Some x) None = ⊥
  Stands start items n (Some x) (Some state) = (state < n) × Same x (get_or items state start)

-- what a list of columns leads to
abbrev pub run : {X : Type 0} → (ℕ → X → Option X) → Option X → List ℕ → Option X
run next None w = None
run next (Some x) [] = Some x
run next (Some x) (column ∷ w) = run next (next column x) w

-- A table over different items that are led to, numbered breadth-first.
pub record IsNumberedTable {X : Type 0} (Same : X → X → Type 0) (columns : ℕ) (next : ℕ → X → Option X) (start : X) (table : Table) (items : List X) (places : List (ℕ × ℕ)) : Type 0 where
  pub each : length items ≡ length table
  pub some : 0 < length table
  pub first : get_or items 0 start ≡ start
  pub width : (state : ℕ) → state < length table → length (row_of table state) ≡ columns + 1
  pub entries : (state column : ℕ) → state < length table → column ≤ columns → Stands Same start items (length table) (next column (get_or items state start)) (entry table state column)
  pub different : (i j : ℕ) → i < j → j < length table → Same (get_or items i start) (get_or items j start) → ⊥
  pub led : (state : ℕ) → 0 < state → state < length table → (from : ℕ) × (column : ℕ) × (from < state) × (column ≤ columns) × (next column (get_or items from start) ≡ Some (get_or items state start))
  pub breadth_first : IsBreadthFirst table columns places

module _ {X : Type 0} (Same : X → X → Type 0) (turned : (x y : X) → Same x y → Same y x) (joined : (x y z : X) → Same x y → Same y z → Same x z) (columns : ℕ) (next : ℕ → X → Option X) (start : X) where
  abbrev IsRow : List X → ℕ → X → List (Option ℕ) → Type 0
  IsRow items n x row = (length row ≡ columns + 1) × ((c : ℕ) → c ≤ columns → Stands Same start items n (next c x) (get_or row c None))

  module _ (n : ℕ) (s : Numbered Same columns next start n 0) (all : length s.items ≡ n) where
    abbrev item : ℕ → X
    item k = get_or s.items k start

    entry_there : (x : X) → ((c : ℕ) → c ≤ columns → (y : X) → next c x ≡ Some y → (j : ℕ) × (j < n) × Same y (item j)) → (c : ℕ) → c ≤ columns → (o : Option ℕ) × Stands Same start s.items n (next c x) o
    entry_there x known c low = by_next (next c x) refl
      where
        by_next : (o : Option X) → next c x ≡ o → (p : Option ℕ) × Stands Same start s.items n o p
        by_next None e = (None, tt)
        by_next (Some y) e = let (j, less, same) = known c low y e in (Some j, (less, same))

    known_at : (k : ℕ) → k < n → (c : ℕ) → c ≤ columns → (y : X) → next c (item k) ≡ Some y → (j : ℕ) × (j < n) × Same y (item j)
    known_at k below c low y led =
        let (j, less, same) = s.known k c low (omega (arith, below, all)) (inl below) y led in
        (j, omega (arith, less, all), same)

    row_there : (k : ℕ) → k < n → (row : List (Option ℕ)) × IsRow s.items n (item k) row
    row_there k below =
        let (row, many, each) = listed_values None (λ c o. Stands Same start s.items n (next c (item k)) o) (suc columns) (λ c low. entry_there (item k) (known_at k below) c (omega (arith, low))) in
        (row, (omega (arith, many), λ c low. each c (omega (arith, low))))

    table_there : (table : Table) × (length table ≡ n) × ((k : ℕ) → k < n → IsRow s.items n (item k) (get_or table k []))
    table_there = listed_values [] (λ k row. IsRow s.items n (item k) row) n row_there

    module _ (table : Table) (rows : length table ≡ n) (are : (k : ℕ) → k < n → IsRow s.items n (item k) (get_or table k [])) where
      -- an entry that is there is a column, and leads to what its number stands for
      entry_is : (k c j : ℕ) → k < n → entry table k c ≡ Some j → (c ≤ columns) × (y : X) × (next c (item k) ≡ Some y) × Same y (item j)
      entry_is k c j below e = ⊎_elim
          (λ (low : c < columns + 1).
          let few : c ≤ columns = omega (arith, low) in
          let found = by_next (next c (item k)) refl (subst (Stands Same start s.items n (next c (item k))) e ((are k below).1 c few)) in
          (few, found.0, found.1, found.2))
          (λ (high : columns + 1 ≤ c). let wide = (are k below).0 in absurd (none-some j (sym (get_or_past (get_or table k []) c None (omega (arith, wide, high))) ∙ e)))
          (cases_lt c (columns + 1))
        where
          by_next : (o : Option X) → next c (item k) ≡ o → Stands Same start s.items n o (Some j) → (y : X) × (next c (item k) ≡ Some y) × Same y (item j)
          by_next None led none = absurd none
          by_next (Some y) led is = (y, led, is.1)

      -- items that are the same have one number
      one_number : (i j : ℕ) → i < n → j < n → Same (item i) (item j) → i ≡ j
      one_number i j low low' same = ⊎_elim
          (λ (below : i < j). absurd (s.different i j below (omega (arith, low', all)) same))
          (λ (above : j ≤ i). ⊎_elim
          (λ (below : j < i). absurd (s.different j i below (omega (arith, low, all)) (turned (item i) (item j) same)))
          (λ (past : i ≤ j). omega (arith, above, past))
          (cases_lt j i))
          (cases_lt i j)

      entry_to : (k c state : ℕ) → k < n → c ≤ columns → state < n → next c (item k) ≡ Some (item state) → entry table k c ≡ Some state
      entry_to k c state below low within led = by_entry (entry table k c) refl
        where
          by_entry : (o : Option ℕ) → entry table k c ≡ o → entry table k c ≡ Some state
          by_entry None e = absurd (subst (λ p. Stands Same start s.items n p None) led (subst (Stands Same start s.items n (next c (item k))) e ((are k below).1 c low)))
          by_entry (Some j) e =
              let is : (j < n) × Same (item state) (item j) = subst (λ p. Stands Same start s.items n p (Some j)) led (subst (Stands Same start s.items n (next c (item k))) e ((are k below).1 c low)) in
              e ∙ ap Some (one_number j state is.0 within (turned (item state) (item j) is.1))

      first_read : (state : ℕ) → 0 < state → state < n → IsFirstRead table columns state (place_of s.places state)
      first_read state high within =
          let origin : IsOrigin Same columns next start s.items state (place_of s.places state) = s.origins state high (omega (arith, within, all)) in
          let above = origin.row in record {
            row = origin.row;
            column = origin.column;
            there = entry_to (place_of s.places state).0 (place_of s.places state).1 state (omega (arith, above, within)) origin.column within origin.led;
            first = λ r c before e.
                let less = read_row r c (place_of s.places state).0 (place_of s.places state).1 before in
                let (few, y, led, same) = entry_is r c state (omega (arith, less, above, within)) e in
                let (j, lower, also) = origin.before r c few before y led in
                let one = one_number j state (omega (arith, lower, within)) within (joined (item j) y (item state) (turned y (item j) also) same) in
                omega (arith, one, lower);
          }

      ordered : IsBreadthFirst table columns s.places
      ordered = record {
        each = let each = s.each in omega (arith, each, all, rows);
        start = s.begun;
        read = λ state high within. first_read state high (omega (arith, within, rows));
        ascending = λ one other high less within. s.ascending one other high less (omega (arith, within, rows, all));
      }

      numbered_table : IsNumberedTable Same columns next start table s.items s.places
      numbered_table = record {
        each = omega (arith, all, rows);
        some = let some = s.some in omega (arith, some, all, rows);
        first = s.first;
        width = λ state low. (are state (omega (arith, low, rows))).0;
        entries = λ state column low few. subst (λ m. Stands Same start s.items m (next column (item state)) (entry table state column)) (sym rows) ((are state (omega (arith, low, rows))).1 column few);
        different = λ i j less low. s.different i j less (omega (arith, low, rows, all));
        led = λ state high low.
            let origin : IsOrigin Same columns next start s.items state (place_of s.places state) = s.origins state high (omega (arith, low, rows, all)) in
            ((place_of s.places state).0, (place_of s.places state).1, origin.row, origin.column, origin.led);
        breadth_first = ordered;
      }

    pub some_table : (table : Table) × IsNumberedTable Same columns next start table s.items s.places
    some_table = let (table, rows, are) = table_there in (table, numbered_table table rows are)

-- A table of items that lead alike where they are the same walks what is led to.
module _ {X : Type 0} (Same : X → X → Type 0) (joined : (x y z : X) → Same x y → Same y z → Same x z) (columns : ℕ) (next : ℕ → X → Option X) (start : X)
    (past : (c : ℕ) (x : X) → columns < c → next c x ≡ None) (alike : (x y : X) → Same x y → (c : ℕ) → Alike Same (next c x) (next c y))
    (table : Table) (items : List X) (places : List (ℕ × ℕ)) (is : IsNumberedTable Same columns next start table items places) where
  abbrev IsAt : Option X → Option ℕ → Type 0
  IsAt o p = Stands Same start items (length table) o p

  alike_then : (o o' : Option X) (p : Option ℕ) → Alike Same o o' → IsAt o' p → IsAt o p
  alike_then None None None one other = tt
  alike_then None None (Some j) one other = absurd other
  alike_then None (Some y) p one other = absurd one
  alike_then (Some x) None p one other = absurd one
  alike_then (Some x) (Some y) None one other = absurd other
  alike_then (Some x) (Some y) (Some j) one other = (other.0, joined x y (get_or items j start) one other.1)

  entry_at : (state column : ℕ) → state < length table → IsAt (next column (get_or items state start)) (entry table state column)
  entry_at state column low = ⊎_elim
      (λ (few : column < columns + 1). is.entries state column low (omega (arith, few)))
      (λ (many : columns + 1 ≤ column).
      let wide = is.width state low in
      subst (λ p. IsAt (next column (get_or items state start)) p) (sym (get_or_past (row_of table state) column None (omega (arith, many, wide))))
      (subst (λ o. IsAt o None) (sym (past column (get_or items state start) (omega (arith, many)))) tt))
      (cases_lt column (columns + 1))

  pub walked_at : (w : List ℕ) (o : Option X) (p : Option ℕ) → IsAt o p → IsAt (run next o w) (walk table p w)
  walked_at w None None at = tt
  walked_at w None (Some j) at = absurd at
  walked_at w (Some x) None at = absurd at
  walked_at [] (Some x) (Some j) at = at
  walked_at (column ∷ w) (Some x) (Some j) at =
      walked_at w (next column x) (entry table j column)
      (alike_then (next column x) (next column (get_or items j start)) (entry table j column) (alike x (get_or items j start) at.1 column) (entry_at j column at.0))

  pub some_alike : (o : Option X) (p : Option ℕ) → IsAt o p → is_some o ≡ is_some p
  some_alike None None at = refl
  some_alike None (Some j) at = absurd at
  some_alike (Some x) None at = absurd at
  some_alike (Some x) (Some j) at = refl

  entry_low : (state column to : ℕ) → state < length table → entry table state column ≡ Some to → to < length table
  entry_low state column to low e = by_next (next column (get_or items state start)) (subst (λ p. IsAt (next column (get_or items state start)) p) e (entry_at state column low))
    where
      by_next : (o : Option X) → IsAt o (Some to) → to < length table
      by_next None at = absurd at
      by_next (Some y) at = at.0

  -- an entry is a row
  pub entry_row : (state column to : ℕ) → entry table state column ≡ Some to → to < length table
  entry_row state column to e = ⊎_elim
      (λ (low : state < length table). entry_low state column to low e)
      (λ (out : length table ≤ state). absurd (none-some to (sym (ap (λ (row : List (Option ℕ)). get_or row column None) (get_or_past table state [] out) ∙ get_or_past [] column None (omega arith)) ∙ e)))
      (cases_lt state (length table))

-- what holds of the start, and of what columns lead to, holds of all items
pub all_items : {X : Type 0} (Same : X → X → Type 0) (columns : ℕ) (next : ℕ → X → Option X) (start : X) (table : Table) (items : List X) (places : List (ℕ × ℕ)) → IsNumberedTable Same columns next start table items places → (P : X → Type 0) → P start → ((x y : X) (c : ℕ) → c ≤ columns → P x → next c x ≡ Some y → P y) → (n k : ℕ) → k < n → k < length table → P (get_or items k start)
all_items Same columns next start table items places is P begun onward zero k less low = absurd (omega (arith, less))
all_items Same columns next start table items places is P begun onward (suc n) k less low = ⊎_elim
    (λ (high : 0 < k).
    let (from, column, above, few, led) = is.led k high low in
    onward (get_or items from start) (get_or items k start) column few (all_items Same columns next start table items places is P begun onward n from (omega (arith, above, less)) (omega (arith, above, low))) led)
    (λ (none : k ≤ 0). let same : 0 ≡ k = omega (arith, none) in subst (λ j. P (get_or items j start)) same (subst P (sym is.first) begun))
    (cases_lt 0 k)
