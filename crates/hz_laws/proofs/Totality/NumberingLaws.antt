-- Numbering breadth-first: what columns lead to from a start is numbered as it is read first, row by row.
use Rattle.std.proofs.Common.{◌≡◌, ℕ, zero, suc, ◌+◌, ◌<◌, ◌≤◌, ◌⊎◌, inl, inr, ⊎_elim, List, [], ◌∷◌, ◌++◌, length, get_or, Option, Some, None, Contains, refl, sym, ap, ◌∙◌, subst, arith}
use Rattle.std.proofs.lemmas.Bool.{cases_lt}
use Rattle.std.proofs.lemmas.List.{get_or_append_left, get_or_push, length_push, get_or_default}
use Rattle.std.proofs.lemmas.List.Elements.{Contains-get_or}
use Rattle.std.proofs.lemmas.Option.{none-some}
use Rattle.hz_pipeline_model.specs.Reaching.Reach.{AreDifferent}
use Rattle.hz_pipeline_model.specs.Tables.Orders.{IsReadBefore, place_of}
use Rattle.hz_pipeline_model.proofs.Decidable.DecidedLaws.{IsDecided, some_reported}

-- One item is no other.
pub some_is : {X : Type 0} (x y : X) → Some x ≡ Some y → x ≡ y
some_is x y e = ap (λ o. get x o) e
  where
    get : {X : Type 0} → X → Option X → X
    get d None = d
    get d (Some z) = z

-- the same place, or one before it
read_or_here : (r c row column : ℕ) → IsReadBefore (r, c) (row, suc column) → IsReadBefore (r, c) (row, column) ⊎ ((r ≡ row) × (c ≡ column))
read_or_here r c row column (inl above) = inl (inl above)
read_or_here r c row column (inr (same, low)) = ⊎_elim
    (λ (less : c < column). inl (inr (same, less)))
    (λ (more : column ≤ c). inr (same, omega (arith, low, more)))
    (cases_lt c column)

read_later : (place : ℕ × ℕ) (row column : ℕ) → IsReadBefore place (row, column) → IsReadBefore place (row, suc column)
read_later place row column (inl above) = inl above
read_later place row column (inr (same, low)) = inr (same, omega (arith, low))

pub read_row : (r c row column : ℕ) → IsReadBefore (r, c) (row, column) → r ≤ row
read_row r c row column (inl above) = omega (arith, above)
read_row r c row column (inr (same, low)) = omega (arith, same)

module _ {X : Type 0} (Same : X → X → Type 0) (columns : ℕ) (next : ℕ → X → Option X) (start : X) where
  abbrev pub item : List X → ℕ → X
  item items k = get_or items k start

  -- what the place leads to is one of the first n items
  abbrev pub IsKnown : List X → ℕ → ℕ → ℕ → Type 0
  IsKnown items n row column = (y : X) → next column (item items row) ≡ Some y → (j : ℕ) × (j < n) × Same y (item items j)

  -- An item is led to at a place, and none before leads to it.
  pub record IsOrigin (items : List X) (state : ℕ) (place : ℕ × ℕ) : Type 0 where
    pub row : place.0 < state
    pub column : place.1 ≤ columns
    pub led : next place.1 (item items place.0) ≡ Some (item items state)
    pub before : (r c : ℕ) → c ≤ columns → IsReadBefore (r, c) place → IsKnown items state r c

  -- Items that are numbered as far as all places before this one are read.
  pub record Numbered (row column : ℕ) : Type 0 where
    pub items : List X
    pub places : List (ℕ × ℕ)
    pub each : length places ≡ length items
    pub some : 0 < length items
    pub first : item items 0 ≡ start
    pub begun : place_of places 0 ≡ (0, 0)
    pub different : (i j : ℕ) → i < j → j < length items → Same (item items i) (item items j) → ⊥
    pub origins : (k : ℕ) → 0 < k → k < length items → IsOrigin items k (place_of places k)
    pub beyond : (k : ℕ) → 0 < k → k < length items → IsReadBefore (place_of places k) (row, column)
    pub ascending : (i j : ℕ) → 0 < i → i < j → j < length items → IsReadBefore (place_of places i) (place_of places j)
    pub known : (r c : ℕ) → c ≤ columns → r < length items → IsReadBefore (r, c) (row, column) → IsKnown items (length items) r c

  there_at : (items : List X) (x : X) → Contains items x → (k : ℕ) × (k < length items) × (item items k ≡ x)
  there_at items x (k, low, at) = (k, low, get_or_default items k start x low ∙ at)

  begin : Numbered 0 0
  begin = record {
    items = start ∷ [];
    places = (0, 0) ∷ [];
    each = refl;
    some = omega arith;
    first = refl;
    begun = refl;
    different = λ i j low within same. absurd (omega (arith, low, within));
    origins = λ k high low. absurd (omega (arith, high, low));
    beyond = λ k high low. absurd (omega (arith, high, low));
    ascending = λ i j high more low. absurd (omega (arith, high, more, low));
    known = λ r c low there before. none r c before;
  }
    where
      none : (r c : ℕ) → IsReadBefore (r, c) (0, 0) → IsKnown (start ∷ []) 1 r c
      none r c (inl above) = absurd (omega (arith, above))
      none r c (inr (same, less)) = absurd (omega (arith, less))

  -- What one place leads to is known.
  abbrev skip : (row column : ℕ) (s : Numbered row column) → IsKnown s.items (length s.items) row column → Numbered row (suc column)
  skip row column s here = record {
    items = s.items;
    places = s.places;
    each = s.each;
    some = s.some;
    first = s.first;
    begun = s.begun;
    different = s.different;
    origins = s.origins;
    beyond = λ k high low. read_later (place_of s.places k) row column (s.beyond k high low);
    ascending = s.ascending;
    known = λ r c low there before. ⊎_elim
        (λ early. s.known r c low there early)
        (λ (same : (r ≡ row) × (c ≡ column)). subst (λ j. IsKnown s.items (length s.items) j c) (sym same.0) (subst (λ j. IsKnown s.items (length s.items) row j) (sym same.1) here))
        (read_or_here r c row column before);
  }

  -- One item more.
  module _ (row column : ℕ) (low : column ≤ columns) (s : Numbered row column) (there : row < length s.items) (y : X) (is : next column (item s.items row) ≡ Some y) (other : (x : X) → Contains s.items x → Same y x → ⊥) (itself : (x : X) → Same x x) (turned : (x z : X) → Same x z → Same z x) where
    abbrev more : List X
    more = s.items ++ y ∷ []

    abbrev further : List (ℕ × ℕ)
    further = s.places ++ (row, column) ∷ []

    count : length more ≡ length s.items + 1
    count = length_push s.items y

    old_item : (k : ℕ) → k < length s.items → item more k ≡ item s.items k
    old_item k below = get_or_append_left s.items (y ∷ []) start k below

    new_item : item more (length s.items) ≡ y
    new_item = get_or_push s.items y start (length s.items) refl

    old_place : (k : ℕ) → k < length s.items → place_of further k ≡ place_of s.places k
    old_place k below = let each = s.each in get_or_append_left s.places ((row, column) ∷ []) (0, 0) k (omega (arith, below, each))

    new_place : place_of further (length s.items) ≡ (row, column)
    new_place = get_or_push s.places (row, column) (0, 0) (length s.items) s.each

    old_or_new : (k : ℕ) → k < length more → (k < length s.items) ⊎ (length s.items ≡ k)
    old_or_new k below = ⊎_elim
        (λ (here : k < length s.items). inl here)
        (λ (past : length s.items ≤ k). inr (omega (arith, below, past, count)))
        (cases_lt k (length s.items))

    known_more : (n r c : ℕ) → n ≤ length s.items → r < length s.items → IsKnown s.items n r c → IsKnown more n r c
    known_more n r c few below known z led =
        let (j, less, same) = known z (ap (next c) (sym (old_item r below)) ∙ led) in
        (j, less, subst (Same z) (sym (old_item j (omega (arith, less, few)))) same)

    known_wider : (n r c : ℕ) → IsKnown more n r c → n ≤ length more → IsKnown more (length more) r c
    known_wider n r c known few z led = let (j, less, same) = known z led in (j, omega (arith, less, few), same)

    known_here : IsKnown more (length more) row column
    known_here z led =
        let same : y ≡ z = some_is y z (sym is ∙ (ap (next column) (sym (old_item row there)) ∙ led)) in
        (length s.items, omega (arith, count), subst (λ x. Same x (item more (length s.items))) same (subst (Same y) (sym new_item) (itself y)))

    different_more : (i j : ℕ) → i < j → j < length more → Same (item more i) (item more j) → ⊥
    different_more i j less below same = ⊎_elim
        (λ (here : j < length s.items). s.different i j less here (subst (Same (item s.items i)) (old_item j here) (subst (λ x. Same x (item more j)) (old_item i (omega (arith, less, here))) same)))
        (λ (last : length s.items ≡ j).
        let early : i < length s.items = omega (arith, less, last) in
        let at : item more j ≡ y = ap (item more) (sym last) ∙ new_item in
        other (item s.items i) (Contains-get_or s.items i start early)
        (turned (item s.items i) y (subst (Same (item s.items i)) at (subst (λ x. Same x (item more j)) (old_item i early) same))))
        (old_or_new j below)

    origin_old : (k : ℕ) (place : ℕ × ℕ) → k < length s.items → IsOrigin s.items k place → IsOrigin more k place
    origin_old k place below origin =
        let above = origin.row in record {
          row = origin.row;
          column = origin.column;
          led = ap (next place.1) (old_item place.0 (omega (arith, above, below))) ∙ (origin.led ∙ ap Some (sym (old_item k below)));
          before = λ r c few before. known_more k r c (omega (arith, below)) (let less = read_row r c place.0 place.1 before in omega (arith, less, above, below)) (origin.before r c few before);
        }

    origin_new : IsOrigin more (length s.items) (row, column)
    origin_new = record {
      row = there;
      column = low;
      led = ap (next column) (old_item row there) ∙ (is ∙ ap Some (sym new_item));
      before = λ r c few before.
          let less = read_row r c row column before in
          let below : r < length s.items = omega (arith, less, there) in
          known_more (length s.items) r c (omega arith) below (s.known r c few below before);
    }

    origins_more : (k : ℕ) → 0 < k → k < length more → IsOrigin more k (place_of further k)
    origins_more k high below = ⊎_elim
        (λ (here : k < length s.items). subst (IsOrigin more k) (sym (old_place k here)) (origin_old k (place_of s.places k) here (s.origins k high here)))
        (λ (last : length s.items ≡ k). subst (λ j. IsOrigin more j (place_of further j)) last (subst (IsOrigin more (length s.items)) (sym new_place) origin_new))
        (old_or_new k below)

    after_more : (k : ℕ) → 0 < k → k < length more → IsReadBefore (place_of further k) (row, suc column)
    after_more k high below = ⊎_elim
        (λ (here : k < length s.items). subst (λ p. IsReadBefore p (row, suc column)) (sym (old_place k here)) (read_later (place_of s.places k) row column (s.beyond k high here)))
        (λ (last : length s.items ≡ k). subst (λ j. IsReadBefore (place_of further j) (row, suc column)) last (subst (λ p. IsReadBefore p (row, suc column)) (sym new_place) (inr (refl, omega arith))))
        (old_or_new k below)

    ascending_more : (i j : ℕ) → 0 < i → i < j → j < length more → IsReadBefore (place_of further i) (place_of further j)
    ascending_more i j high less below = ⊎_elim
        (λ (here : j < length s.items). subst (IsReadBefore (place_of further i)) (sym (old_place j here)) (subst (λ p. IsReadBefore p (place_of s.places j)) (sym (old_place i (omega (arith, less, here)))) (s.ascending i j high less here)))
        (λ (last : length s.items ≡ j).
        let early : i < length s.items = omega (arith, less, last) in
        subst (λ k. IsReadBefore (place_of further i) (place_of further k)) last (subst (IsReadBefore (place_of further i)) (sym new_place) (subst (λ p. IsReadBefore p (row, column)) (sym (old_place i early)) (s.beyond i high early))))
        (old_or_new j below)

    known_after : (r c : ℕ) → c ≤ columns → r < length more → IsReadBefore (r, c) (row, suc column) → IsKnown more (length more) r c
    known_after r c few below before = ⊎_elim
        (λ early.
        let less = read_row r c row column early in
        let under : r < length s.items = omega (arith, less, there) in
        known_wider (length s.items) r c (known_more (length s.items) r c (omega arith) under (s.known r c few under early)) (omega (arith, count)))
        (λ (same : (r ≡ row) × (c ≡ column)). subst (λ j. IsKnown more (length more) j c) (sym same.0) (subst (λ j. IsKnown more (length more) row j) (sym same.1) known_here))
        (read_or_here r c row column before)

    abbrev add : Numbered row (suc column)
    add =
        let some = s.some in record {
          items = more;
          places = further;
          each = let each = s.each in omega (arith, each, count, length_push s.places (row, column));
          some = omega (arith, some, count);
          first = old_item 0 some ∙ s.first;
          begun = old_place 0 some ∙ s.begun;
          different = different_more;
          origins = origins_more;
          beyond = after_more;
          ascending = ascending_more;
          known = known_after;
        }

  module _ (reported : (x y : X) → IsDecided (Same x y)) (itself : (x : X) → Same x x) (turned : (x y : X) → Same x y → Same y x) where
    -- one place is read
    place_read : (row column : ℕ) → column ≤ columns → (s : Numbered row column) → row < length s.items → (t : Numbered row (suc column)) × (length s.items ≤ length t.items)
    place_read row column low s there = by_next (next column (item s.items row)) refl
      where
        by_next : (o : Option X) → next column (item s.items row) ≡ o → (t : Numbered row (suc column)) × (length s.items ≤ length t.items)
        by_next None e = (skip row column s (λ y led. absurd (none-some y (sym e ∙ led))), omega arith)
        by_next (Some y) e = ⊎_elim
            (λ (found : (x : X) × Contains s.items x × Same y x).
            let (k, below, at) = there_at s.items found.0 found.1 in
            (skip row column s (λ z led. (k, below, subst (λ x. Same x (item s.items k)) (some_is y z (sym e ∙ led)) (subst (Same y) (sym at) found.2))), omega arith))
            (λ (none : (x : X) → Contains s.items x → Same y x → ⊥). (add row column low s there y e none itself turned, omega (arith, length_push s.items y)))
            (some_reported (Same y) (reported y) s.items)

    -- so many columns of a row are read
    columns_read : (row : ℕ) (s : Numbered row 0) → row < length s.items → (n : ℕ) → n ≤ columns + 1 → (t : Numbered row n) × (length s.items ≤ length t.items)
    columns_read row s there zero few = (s, omega arith)
    columns_read row s there (suc n) few =
        let (t, more) = columns_read row s there n (omega (arith, few)) in
        let (u, further) = place_read row n (omega (arith, few)) t (omega (arith, there, more)) in
        (u, omega (arith, more, further))

    -- a row is read
    abbrev row_over : (row : ℕ) → Numbered row (suc columns) → Numbered (suc row) 0
    row_over row s = record {
      items = s.items;
      places = s.places;
      each = s.each;
      some = s.some;
      first = s.first;
      begun = s.begun;
      different = s.different;
      origins = s.origins;
      beyond = λ k high low. over (place_of s.places k) (s.beyond k high low);
      ascending = s.ascending;
      known = λ r c low there before. s.known r c low there (back r c low before);
    }
      where
        over : (place : ℕ × ℕ) → IsReadBefore place (row, suc columns) → IsReadBefore place (suc row, 0)
        over place (inl above) = inl (omega (arith, above))
        over place (inr (same, low)) = inl (omega (arith, same))

        back : (r c : ℕ) → c ≤ columns → IsReadBefore (r, c) (suc row, 0) → IsReadBefore (r, c) (row, suc columns)
        back r c low (inl above) = ⊎_elim
            (λ (less : r < row). inl less)
            (λ (more : row ≤ r). inr (omega (arith, above, more), omega (arith, low)))
            (cases_lt r row)
        back r c low (inr (same, less)) = absurd (omega (arith, less))

    -- All rows are read.
    abbrev pub Finished : Type 0
    Finished = (n : ℕ) × (s : Numbered n 0) × (length s.items ≡ n)

    rows_read : (n : ℕ) → Finished ⊎ ((s : Numbered n 0) × (n ≤ length s.items))
    rows_read zero = inr (begin, omega arith)
    rows_read (suc n) = ⊎_elim
        inl
        (λ (sofar : (s : Numbered n 0) × (n ≤ length s.items)). ⊎_elim
        (λ (more : n < length (sofar.0).items).
        let (t, grown) = columns_read n sofar.0 more (suc columns) (omega arith) in
        inr (row_over n t, omega (arith, more, grown)))
        (λ (over : length (sofar.0).items ≤ n). let many = sofar.1 in inl (n, sofar.0, omega (arith, over, many)))
        (cases_lt n (length (sofar.0).items)))
        (rows_read n)

    pub finished : (most : ℕ) → ((row : ℕ) (s : Numbered row 0) → length s.items ≤ most) → Finished
    finished most few = ⊎_elim
        (λ all. all)
        (λ (sofar : (s : Numbered (suc most) 0) × (suc most ≤ length s.items)). let many = sofar.1 in let less = few (suc most) sofar.0 in absurd (omega (arith, many, less)))
        (rows_read (suc most))

  -- what holds of the start, and of what columns lead to, holds of all items
  pub all_led : (P : X → Type 0) → P start → ((x y : X) (c : ℕ) → c ≤ columns → P x → next c x ≡ Some y → P y) → (row column : ℕ) (s : Numbered row column) (n k : ℕ) → k < n → k < length s.items → P (item s.items k)
  all_led P begun onward row column s zero k less low = absurd (omega (arith, less))
  all_led P begun onward row column s (suc n) k less low = ⊎_elim
      (λ (high : 0 < k).
      let origin = s.origins k high low in
      let above = origin.row in
      let from = place_of s.places k in
      onward (item s.items from.0) (item s.items k) from.1 origin.column (all_led P begun onward row column s n from.0 (omega (arith, above, less)) (omega (arith, above, low))) origin.led)
      (λ (none : k ≤ 0). let same : 0 ≡ k = omega (arith, none) in subst (λ j. P (item s.items j)) same (subst P (sym s.first) begun))
      (cases_lt 0 k)

  pub all_different : (row column : ℕ) (s : Numbered row column) → AreDifferent Same s.items
  all_different row column s i j d less low same =
      s.different i j less low
      (subst (λ x. Same x (item s.items j)) (get_or_default s.items i d start (omega (arith, less, low)))
      (subst (Same (get_or s.items i d)) (get_or_default s.items j d start low) same))
