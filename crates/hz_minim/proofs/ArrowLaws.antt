-- The entries of a table, read one after the other.
use Rattle.std.proofs.Common.{◌≡◌, ◌≢◌, ℕ, ◌+◌, ◌<◌, ◌≤◌, inl, inr, ⊎_elim, List, length, Some, None, Contains, sym, ap, ◌∙◌, subst, arith}
use Rattle.std.proofs.lemmas.Bool.{cases_eq}
use Rattle.hz_pipeline_model.specs.Tables.Tables.{Table, entry, IsTable}
use Rattle.hz_tables.specs.Rows.{Rows}
use Rattle.hz_minim.specs.declared.arrows.Arrow.{Arrow}
use Rattle.hz_minim.specs.Lists.{list_at, added}
use Rattle.hz_minim.specs.Arrows.{arrow_from, AreArrows, AreWithin, HasRead}
use Rattle.hz_minim.proofs.ListLaws.{added-holds, added-kept, added-only, length-added}
use Rattle.hz_minim.proofs.TableLaws.{entry_within}

-- the same of a place further on, if what is read between is none
module _ (table : Table) (state column : ℕ) (arrows : List (List Arrow)) (has : HasRead table state column arrows) where
  pub read_skipped : entry table state column ≡ None → HasRead table state (column + 1) arrows
  read_skipped none = record {
    each = has.each;
    there = has.there;
    read = λ source at target before e. ⊎_elim
        (λ (lt : source < state). has.read source at target (inl lt) e)
        (λ (both : (source ≡ state) × (at < column + 1)). ⊎_elim
        (λ (here : at ≡ column).
        let entries : entry table source at ≡ entry table state column = (λ i. entry table (both.0 i) (here i)) in
        cc)
        (λ (ne : at ≢ column). let low = both.1 in has.read source at target (inr (both.0, omega arith)) e)
        (cases_eq at column))
        before;
  }

  pub read_more : (next : ℕ) → next < length table → entry table state column ≡ Some next → HasRead table state (column + 1) (added next (arrow_from state column) arrows)
  read_more next within there = record {
    each = length-added next (arrow_from state column) arrows ∙ has.each;
    there = λ target arrow h. ⊎_elim
        (λ (old : Contains (list_at arrows target) arrow). has.there target arrow old)
        (λ (new : (target ≡ next) × (arrow_from state column ≡ arrow)).
        subst (λ (a : Arrow). entry table a.source a.column ≡ Some target) new.1 (there ∙ ap (λ (n : ℕ). Some n) (sym new.0)))
        (added-only next (arrow_from state column) arrows target arrow h);
    read = λ source at target before e.
        let keep : Contains (list_at arrows target) (arrow_from source at) → Contains (list_at (added next (arrow_from state column) arrows) target) (arrow_from source at) = added-kept next (arrow_from state column) arrows target (arrow_from source at) in
        ⊎_elim
        (λ (lt : source < state). keep (has.read source at target (inl lt) e))
        (λ (both : (source ≡ state) × (at < column + 1)). ⊎_elim
        (λ (here : at ≡ column).
        let entries : entry table source at ≡ entry table state column = (λ i. entry table (both.0 i) (here i)) in
        let same : target ≡ next = cc in
        let inside : next < length arrows = omega (arith, has.each) in
        let arrow : arrow_from state column ≡ arrow_from source at = (λ i. arrow_from (sym both.0 i) (sym here i)) in
        subst (λ (t : ℕ). Contains (list_at (added next (arrow_from state column) arrows) t) (arrow_from source at)) (sym same)
        (subst (Contains (list_at (added next (arrow_from state column) arrows) next)) arrow (added-holds next (arrow_from state column) arrows inside)))
        (λ (ne : at ≢ column). let low = both.1 in keep (has.read source at target (inr (both.0, omega arith)) e))
        (cases_eq at column))
        before;
  }

pub read_row : (table : Table) (columns state : ℕ) (arrows : List (List Arrow)) → IsTable table columns → HasRead table state (columns + 1) arrows → HasRead table (state + 1) 0 arrows
read_row table columns state arrows is has = record {
  each = has.each;
  there = has.there;
  read = λ source at target before e. ⊎_elim
      (λ (lt : source < state + 1). ⊎_elim
      (λ (here : source ≡ state). has.read source at target (inr (here, (entry_within table columns is source at target e).1)) e)
      (λ (ne : source ≢ state). has.read source at target (inl (omega arith)) e)
      (cases_eq source state))
      (λ (both : (source ≡ state + 1) × (at < 0)). let lt = both.1 in absurd (omega arith))
      before;
}

pub read_all : (plain : Rows) (arrows : List (List Arrow)) (count : ℕ) → IsTable plain.rows plain.columns → length plain.rows ≤ count → HasRead plain.rows count 0 arrows → AreArrows plain arrows
read_all plain arrows count is all has = record {
  there = has.there;
  all = λ source at target e. let within = (entry_within plain.rows plain.columns is source at target e).0 in has.read source at target (inl (omega arith)) e;
}

pub arrows_within : (plain : Rows) (arrows : List (List Arrow)) → IsTable plain.rows plain.columns → AreArrows plain arrows → AreWithin (length plain.rows) (plain.columns + 1) arrows
arrows_within plain arrows is are = record {
  source = λ target arrow h. (entry_within plain.rows plain.columns is arrow.source arrow.column target (are.there target arrow h)).0;
  column = λ target arrow h. (entry_within plain.rows plain.columns is arrow.source arrow.column target (are.there target arrow h)).1;
}
