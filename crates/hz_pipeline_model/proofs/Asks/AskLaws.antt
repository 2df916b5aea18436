-- Ask columns: what is walked beside them, and that a least table keeps them.
use Rattle.std.proofs.Common.{◌≡◌, ◌≢◌, ℕ, ◌+◌, ◌-◌, ◌<◌, ◌≤◌, ⊎_elim, Bool, true, false, nat_lt, if◌then◌else◌, List, [], ◌∷◌, ◌++◌, Option, Some, None, is_some, length, get_or, refl, sym, ap, ◌∙◌, arith}
use Rattle.std.proofs.lemmas.Bool.{cases_lt, cases_eq}
use Rattle.std.proofs.lemmas.Bool.Decides.{nat_tests}
use Rattle.std.proofs.lemmas.List.{get_or_past}
use Rattle.std.proofs.lemmas.List.Elements.{All-head, All-tail}
use Rattle.hz_pipeline_model.specs.Tables.Tables.{Table, row_of, entry, walk, IsTable, IsReached}
use Rattle.hz_pipeline_model.specs.Tables.Apart.{WalkTheSame}
use Rattle.hz_pipeline_model.proofs.Tables.TableLaws.{walk-append, walk_stays, breadth_first_reached}
use Rattle.hz_pipeline_model.specs.Reaching.Columns.{AreColumns}
use Rattle.hz_pipeline_model.specs.Least.Normal.{IsNormal}
use Rattle.hz_pipeline_model.specs.Tables.AskColumns.{HasAsks, AsksStay, beside_asks, all_beside}

pub starts : (table : Table) → 0 < length table → (state : ℕ) → Some 0 ≡ Some state → state < length table
starts table some state e = let same : 0 ≡ state = cc in omega arith

-- one column more, and none
pub walk_one : (table : Table) (from : Option ℕ) (state : ℕ) (column : ℕ) (v w : List ℕ) → walk table from v ≡ Some state → walk table from (v ++ column ∷ w) ≡ walk table (entry table state column) w
walk_one table from state column v w e = walk-append table from v (column ∷ w) ∙ ap (λ (o : Option ℕ). walk table o (column ∷ w)) e

pub walk_end : (table : Table) (o : Option ℕ) → walk table o [] ≡ o
walk_end table None = refl
walk_end table (Some state) = refl

some_of : (o : Option ℕ) → is_some o ≡ true → (r : ℕ) × (o ≡ Some r)
some_of (Some r) e = (r, refl)
some_of None e = cc

pub marked_some : (b : Bool) (state : ℕ) → is_some (if b then Some state else None) ≡ b
marked_some true state = refl
marked_some false state = refl

marked_self : (b : Bool) (state : ℕ) → is_some (if b then Some state else None) ≡ true → (if b then Some state else None) ≡ Some state
marked_self true state e = refl
marked_self false state e = cc

-- a column is that of a class, of an ask or of the advance, or there is none
pub by_column : {Goal : Type 0} (columns asks column : ℕ) → (column < columns → Goal) → ((ask : ℕ) → ask < asks → columns + ask ≡ column → Goal) → (columns + asks ≡ column → Goal) → (columns + asks < column → Goal) → Goal
by_column {Goal} columns asks column class ask advance none =
    ⊎_elim
    class
    (λ (after : columns ≤ column). ⊎_elim
    (λ (lt : column < columns + asks). ask (column - columns) (omega arith) (omega arith))
    (λ (past : columns + asks ≤ column). ⊎_elim
    none
    (λ (low : column ≤ columns + asks). advance (omega arith))
    (cases_lt (columns + asks) column))
    (cases_lt column (columns + asks)))
    (cases_lt column columns)

pub class_beside : (columns asks column : ℕ) → column < columns → beside_asks columns asks column ≡ column
class_beside columns asks column lt =
    let test : nat_lt column columns ≡ true = grind (arith, nat_tests) in
    ap (λ b. if b then column else column + asks) test

pub advance_beside : (columns asks : ℕ) → beside_asks columns asks columns ≡ columns + asks
advance_beside columns asks =
    let test : nat_lt columns columns ≡ false = grind (arith, nat_tests) in
    ap (λ b. if b then columns else columns + asks) test

-- past the advance there is no entry
pub no_entry : (table : Table) (state column width : ℕ) → length (row_of table state) ≡ width + 1 → width < column → entry table state column ≡ None
no_entry table state column width wide past = get_or_past (row_of table state) column None (omega arith)

pub no_row : (table : Table) (state column : ℕ) → length table ≤ state → entry table state column ≡ None
no_row table state column past = ap (λ (row : List (Option ℕ)). get_or row column None) (get_or_past table state [] past)

pub none_is_some : {Goal : Type 0} (o : Option ℕ) (next : ℕ) → o ≡ None → o ≡ Some next → Goal
none_is_some None next none some = absurd (cc)
none_is_some (Some other) next none some = absurd (cc)

marked_next : (b : Bool) (state next : ℕ) → (if b then Some state else None) ≡ Some next → next ≡ state
marked_next true state next e = cc
marked_next false state next e = absurd (cc)

module _ (table asked : Table) (columns asks : ℕ) (marks : ℕ → ℕ → Bool) (is : IsTable table columns) (has : HasAsks table asked columns asks marks) where
  -- an ask leads to its own state
  pub ask_stays : (state ask next : ℕ) → state < length table → ask < asks → entry asked state (columns + ask) ≡ Some next → next ≡ state
  ask_stays state ask next within lt e = marked_next (marks state ask) state next (sym (has.marked state ask within lt) ∙ e)

  pub asks_stay : AsksStay asked columns asks
  asks_stay = record {
    stays = λ state ask next lt e. ⊎_elim
        (λ within. ask_stays state ask next within lt e)
        (λ past. none_is_some (entry asked state (columns + ask)) next (no_row asked state (columns + ask) (let each = has.each in omega arith)) e)
        (cases_lt state (length table));
  }

  -- what an entry leads to is a state
  targets_within : (state column next : ℕ) → state < length table → entry asked state column ≡ Some next → next < length table
  targets_within state column next within e = by_column {Goal = next < length table} columns asks column
      (λ lt. is.targets state column next (sym (has.classes state column within lt) ∙ e))
      (λ ask lt at. let same = ask_stays state ask next within lt (ap (entry asked state) at ∙ e) in omega arith)
      (λ at. is.targets state columns next (sym (has.advance state within) ∙ ap (entry asked state) at ∙ e))
      (λ past. none_is_some (entry asked state column) next (no_entry asked state column (columns + asks) (has.width state within) past) e)

  pub asked_table : IsTable asked (columns + asks)
  asked_table = record {
    start = let some = is.start in let each = has.each in omega arith;
    width = λ state within. has.width state (let each = has.each in omega arith);
    targets = λ state column next e. ⊎_elim
        (λ within. let there = targets_within state column next within e in let each = has.each in omega arith)
        (λ past. none_is_some (entry asked state column) next (no_row asked state column (let each = has.each in omega arith)) e)
        (cases_lt state (length table));
    advances = λ state within none. is.advances state (let each = has.each in omega arith) (sym (has.advance state (let each = has.each in omega arith)) ∙ none);
  }

  pub one_column : (state column : ℕ) → state < length table → column ≤ columns → entry asked state (beside_asks columns asks column) ≡ entry table state column
  one_column state column within low =
      ⊎_elim
      (λ (lt : column < columns). ap (entry asked state) (class_beside columns asks column lt) ∙ has.classes state column within lt)
      (λ (ge : columns ≤ column).
      let last : column ≡ columns = omega arith in
      ap (λ c. entry asked state (beside_asks columns asks c)) last ∙ ap (entry asked state) (advance_beside columns asks) ∙ has.advance state within ∙ ap (entry table state) (sym last))
      (cases_lt column columns)

  pub same_walk : (state : ℕ) → state < length table → (w : List ℕ) → AreColumns columns w → walk asked (Some state) (all_beside columns asks w) ≡ walk table (Some state) w
  same_walk state within [] are = refl
  same_walk state within (column ∷ w) are =
      let low = All-head (λ c. c ≤ columns) column w are in
      ap (λ (o : Option ℕ). walk asked o (all_beside columns asks w)) (one_column state column within low)
      ∙ go (entry table state column) refl (λ next there. same_walk next there w (All-tail (λ c. c ≤ columns) column w are))
    where
      go : (o : Option ℕ) → entry table state column ≡ o → ((next : ℕ) → next < length table → walk asked (Some next) (all_beside columns asks w) ≡ walk table (Some next) w) → walk asked o (all_beside columns asks w) ≡ walk table o w
      go None e rest = refl
      go (Some next) e rest = rest next (is.targets state column next e)

  module _ (least : Table) (same : WalkTheSame asked least) where
    pub same_least : (w : List ℕ) → AreColumns columns w → is_some (walk least (Some 0) (all_beside columns asks w)) ≡ is_some (walk table (Some 0) w)
    same_least w are = sym (same.same (all_beside columns asks w)) ∙ ap is_some (same_walk 0 is.start w are)

    pub tells_marks : (w : List ℕ) → AreColumns columns w → (state next ask : ℕ) → walk table (Some 0) w ≡ Some state → walk least (Some 0) (all_beside columns asks w) ≡ Some next → ask < asks → is_some (entry least next (columns + ask)) ≡ marks state ask
    tells_marks w are state next ask there led lt =
        let up = all_beside columns asks w in
        let column = columns + ask in
        let within = walk_stays table columns is (Some 0) (starts table is.start) state w there in
        let in_asked : walk asked (Some 0) up ≡ Some state = same_walk 0 is.start w are ∙ there in
        ap is_some (sym (walk_end least (entry least next column)) ∙ sym (walk_one least (Some 0) next column up [] led))
        ∙ sym (same.same (up ++ column ∷ []))
        ∙ ap is_some (walk_one asked (Some 0) state column up [] in_asked ∙ walk_end asked (entry asked state column) ∙ has.marked state ask within lt)
        ∙ marked_some (marks state ask) state

-- A normal table that walks the same as one in which an ask leads to no other state.
module _ (first least : Table) (columns asks : ℕ) (whole : IsTable first (columns + asks)) (stay : AsksStay first columns asks) (same : WalkTheSame first least) (normal : IsNormal least (columns + asks)) where
  -- what is walked from a state is what is walked after a list of columns that leads to it
  module _ (state ask next : ℕ) (within : state < length least) (lt : ask < asks) (there : entry least state (columns + ask) ≡ Some next) where
    abbrev column : ℕ
    column = columns + ask

    abbrev reached : IsReached least state
    reached = breadth_first_reached least (columns + asks) normal.parents normal.order state within

    beyond : (v : List ℕ) → is_some (walk least (Some state) v) ≡ is_some (walk first (walk first (Some 0) (reached.0)) v)
    beyond v = ap is_some (ap (λ (o : Option ℕ). walk least o v) (sym reached.1) ∙ sym (walk-append least (Some 0) reached.0 v)) ∙ sym (same.same (reached.0 ++ v)) ∙ ap is_some (walk-append first (Some 0) reached.0 v)

    origin : (r : ℕ) × (walk first (Some 0) reached.0 ≡ Some r)
    origin = some_of (walk first (Some 0) reached.0) (same.same reached.0 ∙ ap is_some reached.1)

    from_origin : (v : List ℕ) → is_some (walk least (Some state) v) ≡ is_some (walk first (Some origin.0) v)
    from_origin v = beyond v ∙ ap (λ (o : Option ℕ). is_some (walk first o v)) origin.1

    asked_there : entry first origin.0 column ≡ Some origin.0
    asked_there =
        let some : is_some (entry first origin.0 column) ≡ true =
        ap is_some (sym (walk_end first (entry first origin.0 column))) ∙ sym (from_origin (column ∷ [])) ∙ ap (λ (o : Option ℕ). is_some (walk least o [])) there in
        let found = some_of (entry first origin.0 column) some in
        found.1 ∙ ap Some (stay.stays origin.0 ask found.0 lt found.1)

    same_after : (v : List ℕ) → is_some (walk least (Some next) v) ≡ is_some (walk least (Some state) v)
    same_after v =
        ap (λ (o : Option ℕ). is_some (walk least o v)) (sym there) ∙ from_origin (column ∷ v) ∙ ap (λ (o : Option ℕ). is_some (walk first o v)) asked_there ∙ sym (from_origin v)

    stays_there : next ≡ state
    stays_there =
        ⊎_elim
        (λ (e : next ≡ state). e)
        (λ (other : next ≢ state).
        let apart = normal.apart.apart next state (normal.is.targets state column next there) within other in
        absurd (apart.once (same_after apart.word)))
        (cases_eq next state)

  pub least_stays : AsksStay least columns asks
  least_stays = record {
    stays = λ state ask next lt there. ⊎_elim
        (λ within. stays_there state ask next within lt there)
        (λ past. none_is_some (entry least state (columns + ask)) next (no_row least state (columns + ask) past) there)
        (cases_lt state (length least));
  }
