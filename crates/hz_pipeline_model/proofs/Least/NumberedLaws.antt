-- Tables that are numbered breadth-first are one, where they walk the same and the same lists of columns end together.
use Rattle.std.proofs.Common.{◌≡◌, ◌⊎◌, inl, inr, ⊎_elim, ℕ, zero, suc, ◌<◌, ◌≤◌, List, [], ◌∷◌, ◌++◌, length, Option, Some, None, refl, sym, ap, ◌∙◌, subst, arith}
use Rattle.std.specs.Prelude.{is_some}
use Rattle.std.proofs.lemmas.Bool.{cases_lt, cases_order}
use Rattle.std.proofs.lemmas.List.{ext_get_or}
use Rattle.hz_pipeline_model.specs.Tables.Tables.{Table, row_of, entry, walk, IsTable}
use Rattle.hz_pipeline_model.specs.Tables.Apart.{WalkTheSame}
use Rattle.hz_pipeline_model.specs.Tables.Orders.{IsReadBefore, IsFirstRead, place_of, IsBreadthFirst}
use Rattle.hz_pipeline_model.proofs.Tables.TableLaws.{walk-append, walk_stays}
use Rattle.hz_pipeline_model.proofs.Least.PlaceLaws.{before_itself, read_earlier}

-- where two lists of columns end in one state of the first table, they end together in the second
pub record MeetAlso (first second : Table) : Type 0 where
  pub meet : (v w : List ℕ) (state : ℕ) → walk first (Some 0) v ≡ Some state → walk first (Some 0) w ≡ Some state → walk second (Some 0) v ≡ walk second (Some 0) w

-- a state of one table and one of another to which the same list of columns leads
record Together (one other : Table) (state mate : ℕ) : Type 0 where
  word : List ℕ
  here : walk one (Some 0) word ≡ Some state
  there : walk other (Some 0) word ≡ Some mate

turned : (one other : Table) (state mate : ℕ) → Together one other state mate → Together other one mate state
turned one other state mate both = record { word = both.word; here = both.there; there = both.here }

-- one state is together with one state of another table only
one_mate : (one other : Table) → MeetAlso one other → (state mate last : ℕ) → Together one other state mate → Together one other state last → mate ≡ last
one_mate one other meets state mate last both both' =
    let same = meets.meet both.word both'.word state both.here both'.here in
    let found = both.there in
    let found' = both'.there in
    cc

pub within : (table : Table) (columns : ℕ) → IsTable table columns → (w : List ℕ) (state : ℕ) → walk table (Some 0) w ≡ Some state → state < length table
within table columns is w state e = walk_stays table columns is (Some 0) (λ first h. let same : 0 ≡ first = cc in subst (λ n. n < length table) same is.start) state w e

-- one column after a list that is walked
step_on : (table : Table) (w : List ℕ) (state column : ℕ) → walk table (Some 0) w ≡ Some state → walk table (Some 0) (w ++ column ∷ []) ≡ walk table (entry table state column) []
step_on table w state column e = walk-append table (Some 0) w (column ∷ []) ∙ ap (λ from. walk table from (column ∷ [])) e

-- where one leads to a state, the other leads to one that is together with it
steps : (one other : Table) → WalkTheSame one other → (state mate column next : ℕ) → Together one other state mate → entry one state column ≡ Some next → (t : ℕ) × (entry other mate column ≡ Some t) × Together one other next t
steps one other walks state mate column next both e = by_entry (entry other mate column) refl
  where
    word : List ℕ
    word = both.word ++ column ∷ []

    here : walk one (Some 0) word ≡ Some next
    here = step_on one both.word state column both.here ∙ ap (λ from. walk one from []) e

    there : walk other (Some 0) word ≡ walk other (entry other mate column) []
    there = step_on other both.word mate column both.there

    by_entry : (o : Option ℕ) → entry other mate column ≡ o → (t : ℕ) × (entry other mate column ≡ Some t) × Together one other next t
    by_entry None at =
        let none = there ∙ ap (λ from. walk other from []) at in
        let some = ap is_some (sym here) ∙ walks.same word ∙ ap is_some none in
        absurd (cc)
    by_entry (Some t) at = (t, at, record { word = word; here = here; there = there ∙ ap (λ from. walk other from []) at })

pub walks_turned : (one other : Table) → WalkTheSame one other → WalkTheSame other one
walks_turned one other walks = record { same = λ w. sym (walks.same w) }

module _ (columns : ℕ) (one other : Table) (parents parents' : List (ℕ × ℕ)) (is : IsTable one columns) (is' : IsTable other columns) (order : IsBreadthFirst one columns parents) (order' : IsBreadthFirst other columns parents') (walks : WalkTheSame one other) (meets : MeetAlso one other) (meets' : MeetAlso other one) where
  -- what is together with a lower state
  module _ (state : ℕ) (below : (lower : ℕ) → lower < state → Together one other lower lower) where
    not_lower : (mate : ℕ) → Together one other state mate → mate < state → ⊥
    not_lower mate both less =
        let same = one_mate other one meets' mate state mate (turned one other state mate both) (turned one other mate mate (below mate less)) in
        omega (arith, same, less)

    not_lower_mate : (lower : ℕ) → Together one other lower state → lower < state → ⊥
    not_lower_mate lower both less =
        let same = one_mate one other meets lower state lower both (below lower less) in
        omega (arith, same, less)

    -- a higher one is read too late
    not_higher : 0 < state → state < length one → (mate : ℕ) → entry other (place_of parents state).0 (place_of parents state).1 ≡ Some mate → mate < length other → state < mate → ⊥
    not_higher above low mate there inside less = by_order (cases_order next.0 state)
      where
        place : ℕ × ℕ
        place = place_of parents' state

        read : IsFirstRead other columns state place
        read = order'.read state above (omega (arith, inside, less))

        early : IsReadBefore place (place_of parents state)
        early = read_earlier other columns parents' order' state mate (place_of parents state).0 (place_of parents state).1 above less inside there

        next : (t : ℕ) × (entry one place.0 place.1 ≡ Some t) × Together other one state t
        next = steps other one (walks_turned one other walks) place.0 place.0 place.1 state (turned one other place.0 place.0 (below place.0 read.row)) read.there

        by_order : (next.0 ≡ state) ⊎ ((next.0 < state) ⊎ (state < next.0)) → ⊥
        by_order (inl same) = (order.read state above low).first place.0 place.1 early (next.1 ∙ ap Some same)
        by_order (inr (inl lower)) = not_lower_mate next.0 (turned other one state next.0 next.2) lower
        by_order (inr (inr higher)) =
            let low' = within one columns is next.2.word next.0 next.2.there in
            before_itself (place_of parents state) place (read_earlier one columns parents order state next.0 place.0 place.1 above higher low' next.1) early

    next_together : 0 < state → state < length one → Together one other state state
    next_together above low = by_order (cases_order next.0 state)
      where
        place : ℕ × ℕ
        place = place_of parents state

        read : IsFirstRead one columns state place
        read = order.read state above low

        next : (t : ℕ) × (entry other place.0 place.1 ≡ Some t) × Together one other state t
        next = steps one other walks place.0 place.0 place.1 state (below place.0 read.row) read.there

        by_order : (next.0 ≡ state) ⊎ ((next.0 < state) ⊎ (state < next.0)) → Together one other state state
        by_order (inl same) = subst (Together one other state) same next.2
        by_order (inr (inl less)) = absurd (not_lower next.0 next.2 less)
        by_order (inr (inr more)) = absurd (not_higher above low next.0 next.1 (within other columns is' next.2.word next.0 next.2.there) more)

  together_below : (n state : ℕ) → state < n → state < length one → Together one other state state
  together_below zero state less low = absurd (omega (arith, less))
  together_below (suc n) zero less low = record { word = []; here = refl; there = refl }
  together_below (suc n) (suc state) less low = next_together (suc state) (λ lower below. together_below n lower (omega (arith, below, less)) (omega (arith, below, low))) (omega arith) low

  together : (state : ℕ) → state < length one → Together one other state state
  together state low = together_below (suc state) state (omega arith) low

  no_longer : length one ≤ length other
  no_longer = ⊎_elim
      (λ (longer : length other < length one).
      let both = together (length other) longer in
      let inside = within other columns is' both.word (length other) both.there in
      absurd (omega (arith, inside)))
      (λ (fits : length one ≤ length other). fits)
      (cases_lt (length other) (length one))

  -- an entry of one stands in the other
  entry_also : (state column next : ℕ) → state < length one → entry one state column ≡ Some next → entry other state column ≡ Some next
  entry_also state column next low e =
      let found = steps one other walks state state column next (together state low) e in
      let inside = is.targets state column next e in
      let same = one_mate one other meets next found.0 next found.2 (together next inside) in
      found.1 ∙ ap Some same

-- the one table for what is walked and meets
pub numbered_one : (columns : ℕ) (one other : Table) (parents parents' : List (ℕ × ℕ)) → IsTable one columns → IsTable other columns → IsBreadthFirst one columns parents → IsBreadthFirst other columns parents' → WalkTheSame one other → MeetAlso one other → MeetAlso other one → one ≡ other
numbered_one columns one other parents parents' is is' order order' walks meets meets' = ext_get_or [] one other long
    (λ state low. ext_get_or None (row_of one state) (row_of other state)
    (is.width state low ∙ sym (is'.width state (omega (arith, low, long))))
    (λ column inside. entries state column low (entry one state column) (entry other state column) refl refl))
  where
    long : length one ≡ length other
    long = omega (arith, no_longer columns one other parents parents' is is' order order' walks meets meets', no_longer columns other one parents' parents is' is order' order (walks_turned one other walks) meets' meets)

    there : (state column next : ℕ) → state < length one → entry one state column ≡ Some next → entry other state column ≡ Some next
    there = entry_also columns one other parents parents' is is' order order' walks meets meets'

    back : (state column next : ℕ) → state < length other → entry other state column ≡ Some next → entry one state column ≡ Some next
    back = entry_also columns other one parents' parents is' is order' order (walks_turned one other walks) meets' meets

    entries : (state column : ℕ) → state < length one → (a b : Option ℕ) → entry one state column ≡ a → entry other state column ≡ b → entry one state column ≡ entry other state column
    entries state column low None None e e' = e ∙ sym e'
    entries state column low (Some next) b e e' = e ∙ sym (there state column next low e)
    entries state column low None (Some next) e e' = back state column next (omega (arith, low, long)) e' ∙ sym e'
