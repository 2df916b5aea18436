-- Blocks of states that are apart.
use Rattle.std.proofs.Common.{◌≡◌, ◌≢◌, ℕ, ◌<◌, ◌≤◌, ⊎_elim, List, length, Some, None, All, Contains, sym, ap, ◌∙◌, arith}
use Rattle.std.proofs.lemmas.List.Elements.{All-from_get_or}
use Rattle.hz_pipeline_model.specs.Tables.Tables.{Table, entry, IsTable}
use Rattle.hz_pipeline_model.specs.Tables.Apart.{Apart}
use Rattle.hz_pipeline_model.specs.Least.Blocks.{KeepsApart, block_of}
use Rattle.hz_tables.specs.Rows.{Rows}
use Rattle.hz_minim.specs.declared.arrows.Arrow.{Arrow}
use Rattle.hz_minim.specs.Arrows.{AreArrows, arrow_from}
use Rattle.hz_minim.specs.Buckets.{AreBuckets}
use Rattle.hz_minim.specs.Lists.{list_at}
use Rattle.hz_minim.specs.Moves.{IsListed, IsMoved, IsSeparate}
use Rattle.hz_minim.proofs.ListLaws.{place_within}
use Rattle.hz_minim.proofs.TableLaws.{option_cases, entry_within, apart_symmetric, apart_by_entry, apart_before}

-- What leads to a block in a column is apart from what doesn't.
module _ (plain : Rows) (is : IsTable plain.rows plain.columns) (arrows : List (List Arrow)) (are : AreArrows plain arrows) (blocks : List ℕ) (keeps : KeepsApart plain.rows blocks) (block : ℕ) (buckets : List (List ℕ)) (filled : AreBuckets arrows blocks block buckets) (column : ℕ) where
  apart_from_others : (state other : ℕ) → Contains (list_at buckets column) state → (Contains (list_at buckets column) other → ⊥) → Apart plain.rows state other
  apart_from_others state other h out =
      let to = filled.only column state h in
      let there : entry plain.rows state column ≡ Some to.0 = are.there to.0 (arrow_from state column) to.3 in
      ⊎_elim
      (λ (none : entry plain.rows other column ≡ None). apart_by_entry plain.rows state other column to.0 there none)
      (λ (some : (n : ℕ) × (entry plain.rows other column ≡ Some n)).
      let inside : some.0 < length plain.rows = is.targets other column some.0 some.1 in
      let each = keeps.each in
      let differ : block_of blocks to.0 ≢ block_of blocks some.0 = (λ e. out (filled.all some.0 column other (omega arith) (sym e ∙ to.2) (are.all other column some.0 some.1))) in
      apart_before plain.rows state other column to.0 some.0 there some.1 (keeps.apart to.0 some.0 (is.targets state column to.0 there) inside differ))
      (option_cases (entry plain.rows other column))

  pub buckets_are_separate : IsSeparate plain.rows (list_at buckets column)
  buckets_are_separate = record {
    within = λ state h. let to = filled.only column state h in (entry_within plain.rows plain.columns is state column to.0 (are.there to.0 (arrow_from state column) to.3)).0;
    apart = λ state other h _ out. apart_from_others state other h out;
  }

-- States that are apart from all others may go where their blocks go.
module _ (table : Table) (goes : ℕ → ℕ) (states before after : List ℕ) (separate : IsSeparate table states) (keeps : KeepsApart table before) (moved : IsMoved goes states before after) where
  pub moved_apart : KeepsApart table after
  moved_apart = record {
    each = moved.each ∙ keeps.each;
    apart = λ one other within inside differ.
        let each = keeps.each in
        ⊎_elim
        (λ (first : Contains states one × (block_of after one ≡ goes (block_of before one))). ⊎_elim
        (λ (second : Contains states other × (block_of after other ≡ goes (block_of before other))). keeps.apart one other within inside (λ e. differ (first.1 ∙ ap goes e ∙ sym second.1)))
        (λ (second : (Contains states other → ⊥) × (block_of after other ≡ block_of before other)). separate.apart one other first.0 inside second.0)
        (moved.at other (omega arith)))
        (λ (first : (Contains states one → ⊥) × (block_of after one ≡ block_of before one)). ⊎_elim
        (λ (second : Contains states other × (block_of after other ≡ goes (block_of before other))). apart_symmetric table other one (separate.apart other one second.0 within first.0))
        (λ (second : (Contains states other → ⊥) × (block_of after other ≡ block_of before other)). keeps.apart one other within inside (λ e. differ (first.1 ∙ e ∙ sym second.1)))
        (moved.at other (omega arith)))
        (moved.at one (omega arith));
  }

-- each state's block is there
pub block_within : (blocks : List ℕ) (members : List (List ℕ)) → IsListed blocks members → (state : ℕ) → state < length blocks → block_of blocks state < length members
block_within blocks members listed state within = place_within members (block_of blocks state) state (listed.there state within)

pub blocks_below : (blocks : List ℕ) (members : List (List ℕ)) (limit : ℕ) → IsListed blocks members → length members ≤ limit → All (λ block. block < limit) blocks
blocks_below blocks members limit listed few = All-from_get_or (λ block. block < limit) blocks 0 (λ state within. let below = block_within blocks members listed state within in omega arith)
