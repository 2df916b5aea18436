-- Beside asks states keep their breadth-first numbers.
use Rattle.std.proofs.Common.{◌≡◌, ℕ, ◌+◌, ◌<◌, ◌≤◌, inl, inr, ⊎_elim, Bool, true, false, nat_lt, if◌then◌else◌, List, Some, length, map, sym, ap, ◌∙◌, subst, subst₂, arith, length-set, get_or-set_same, get_or-set_other}
use Rattle.std.proofs.lemmas.Bool.{cases_lt}
use Rattle.std.proofs.lemmas.Bool.Decides.{nat_tests}
use Rattle.std.proofs.lemmas.List.{length-map, get_or-map}
use Rattle.hz_pipeline_model.specs.Tables.Tables.{Table, entry, IsTable}
use Rattle.hz_pipeline_model.specs.Tables.Orders.{IsReadBefore, IsFirstRead, place_of, IsBreadthFirst}
use Rattle.hz_pipeline_model.specs.Tables.AskColumns.{HasAsks, beside_asks, place_beside, places_beside}
use Rattle.hz_pipeline_model.proofs.Asks.AskLaws.{one_column, by_column, class_beside, advance_beside, no_entry, none_is_some, ask_stays}

module _ (table asked : Table) (columns asks : ℕ) (marks : ℕ → ℕ → Bool) (is : IsTable table columns) (has : HasAsks table asked columns asks marks) (parents : List (ℕ × ℕ)) (order : IsBreadthFirst table columns parents) where
  abbrev up : ℕ × ℕ → ℕ × ℕ
  up = place_beside columns asks

  up_in_order : (p q : ℕ × ℕ) → p.1 ≤ columns → q.1 ≤ columns → IsReadBefore p q → IsReadBefore (up p) (up q)
  up_in_order p q low low_too (inl lt) = inl lt
  up_in_order p q low low_too (inr (same, lt)) =
      let first = class_beside columns asks p.1 (omega arith) in
      inr (same, subst (λ c. c < beside_asks columns asks q.1) (sym first) (higher (nat_lt q.1 columns)))
    where
      higher : (b : Bool) → p.1 < (if b then q.1 else q.1 + asks)
      higher true = lt
      higher false = omega arith

  -- the column of an entry that leads to another state is one of these
  from_up : (row column state : ℕ) → row < length table → entry asked row column ≡ Some state → (row ≡ state → ⊥) → (c : ℕ) × (c ≤ columns) × (beside_asks columns asks c ≡ column) × (entry table row c ≡ Some state)
  from_up row column state within e other =
      by_column {Goal = (c : ℕ) × (c ≤ columns) × (beside_asks columns asks c ≡ column) × (entry table row c ≡ Some state)} columns asks column
      (λ lt. (column, omega arith, class_beside columns asks column lt, sym (has.classes row column within lt) ∙ e))
      (λ ask lt at. absurd (other (sym (ask_stays table asked columns asks marks is has row ask state within lt (ap (entry asked row) at ∙ e)))))
      (λ at. (columns, omega arith, advance_beside columns asks ∙ at, sym (has.advance row within) ∙ ap (entry asked row) at ∙ e))
      (λ past. none_is_some (entry asked row column) state (no_entry asked row column (columns + asks) (has.width row within) past) e)

  up_place : (state : ℕ) → 0 < state → state < length table → place_of (places_beside columns asks parents) state ≡ up (place_of parents state)
  up_place state some within =
      get_or-set_other (map up parents) 0 state (0, 0) (0, 0) (omega (arith, some)) ∙ get_or-map up parents state (0, 0) (0, 0) (omega (arith, within, order.each))

  -- a lower column is no lower beside asks
  back_down : (c d : ℕ) → beside_asks columns asks c < beside_asks columns asks d → c < d
  back_down c d h =
      ⊎_elim
      (λ (lt : c < d). lt)
      (λ (ge : d ≤ c). absurd (
      ⊎_elim
      (λ (low : c < columns).
      let x = class_beside columns asks c low in
      let y = class_beside columns asks d (omega arith) in
      omega arith)
      (λ (high : columns ≤ c).
      let one : nat_lt c columns ≡ false = grind (arith, nat_tests) in
      let x : beside_asks columns asks c ≡ c + asks = ap (λ b. if b then c else c + asks) one in
      let most : beside_asks columns asks d ≤ d + asks = at_most d (nat_lt d columns) in
      omega arith)
      (cases_lt c columns)))
      (cases_lt c d)
    where
      at_most : (e : ℕ) (b : Bool) → (if b then e else e + asks) ≤ e + asks
      at_most e true = omega arith
      at_most e false = omega arith

  before_below : (row column : ℕ) (place : ℕ × ℕ) → IsReadBefore (row, column) place → row ≤ place.0
  before_below row column place (inl lt) = omega arith
  before_below row column place (inr (same, lt)) = omega arith

  before_back : (row c : ℕ) (place : ℕ × ℕ) → IsReadBefore (row, beside_asks columns asks c) (up place) → IsReadBefore (row, c) place
  before_back row c place (inl lt) = inl lt
  before_back row c place (inr (same, lt)) = inr (same, back_down c place.1 lt)

  up_low : (c : ℕ) → c ≤ columns → beside_asks columns asks c ≤ columns + asks
  up_low c low = by_test (nat_lt c columns)
    where
      by_test : (b : Bool) → (if b then c else c + asks) ≤ columns + asks
      by_test true = omega arith
      by_test false = omega arith

  read_beside : (state : ℕ) → 0 < state → state < length table → IsFirstRead asked (columns + asks) state (up (place_of parents state))
  read_beside state some within =
      let read = order.read state some within in
      let place = place_of parents state in
      let row_in : place.0 < length table = omega (arith, read.row, within) in
      record {
        row = read.row;
        column = up_low place.1 read.column;
        there = one_column table asked columns asks marks is has place.0 place.1 row_in read.column ∙ read.there;
        first = λ row column before e.
            let low = before_below row column (up place) before in
            let (c, small, at, there) = from_up row column state (omega (arith, low, row_in)) e (λ same. let r = read.row in omega arith) in
            read.first row c (before_back row c place (subst (λ k. IsReadBefore (row, k) (up place)) (sym at) before)) there;
      }

  pub numbers_beside : IsBreadthFirst asked (columns + asks) (places_beside columns asks parents)
  numbers_beside = record {
    each = length-set (map up parents) 0 (0, 0) ∙ length-map parents up ∙ order.each ∙ sym has.each;
    start = get_or-set_same (map up parents) 0 (0, 0) (0, 0) (let some = is.start in let many = length-map parents up in let each = order.each in omega arith);
    read = λ state some within.
        let inside : state < length table = omega (arith, within, has.each) in
        subst (IsFirstRead asked (columns + asks) state) (sym (up_place state some inside)) (read_beside state some inside);
    ascending = λ one other some lt within.
        let inside : other < length table = omega (arith, within, has.each) in
        let here : one < length table = omega arith in
        let low = (order.read one some here).column in
        let low_too = (order.read other (omega arith) inside).column in
        subst₂ IsReadBefore (sym (up_place one some here)) (sym (up_place other (omega arith) inside)) (up_in_order (place_of parents one) (place_of parents other) low low_too (order.ascending one other some lt inside));
  }
