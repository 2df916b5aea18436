-- What a packed table keeps of its comb.
use Rattle.std.proofs.Common.{◌≡◌, ℕ, ◌+◌, ◌*◌, ◌<◌, ◌≤◌, ◌≢◌, if◌then◌else◌, List, [], length, slice_index, All, ⊎_elim, Some, None, sym, ap, ◌∙◌, subst, arith}
use Rattle.std.proofs.lemmas.Bool.{eq-eqb, ne_eqb}
use Rattle.std.proofs.lemmas.List.Elements.{All-from_get_or}
use Rattle.std.proofs.lemmas.Nat.{mul-le}
use Rattle.hz_tables.specs.Rows.{Rows, KeepsRows}
use Rattle.hz_pipeline_model.specs.Tables.StateLimits.{state_limit}
use Rattle.hz_pipeline_model.specs.Tables.Tables.{Table, row_of, entry}
use Rattle.hz_pipeline_model.specs.Tables.AskColumns.{column_limit}
use Rattle.hz_pipeline_model.specs.Combs.Combs.{Comb, place_at, laid, rows_in, entries_of}
use Rattle.hz_pipeline_model.proofs.Combs.CombLaws.{rows_in-each, rows_in-width, rows_in-entry, rows_in-entries, rows_in-table}
use Rattle.hz_tables.specs.Laying.{IsLaid}
use Rattle.hz_tables.specs.Packing.{Packing, packing_of, IsPacked}

pub states_kept : (comb : Comb) (seen : Packing) → packing_of comb ≡ seen → length seen.rows ≡ length comb.bases
states_kept comb seen is = ap (λ p. length p.rows) (sym is) ∙ rows_in-each comb

pub wide_kept : (comb : Comb) (seen : Packing) → packing_of comb ≡ seen → (state : ℕ) → state < length seen.rows → length (row_of seen.rows state) ≡ seen.columns + 1
wide_kept comb seen is state within =
    let each = states_kept comb seen is in
    subst (λ (p : Packing). length (row_of p.rows state) ≡ p.columns + 1) is (rows_in-width comb state (omega (arith, each, within)))

pub place_kept : (comb : Comb) (seen : Packing) → packing_of comb ≡ seen → IsPacked comb → (state column : ℕ) → state < length seen.rows → column ≤ seen.columns
    → (state < length comb.bases) × (place_at comb state column < length comb.owners)
place_kept comb seen is packed state column within among =
    let each = states_kept comb seen is in
    let same : comb.columns ≡ seen.columns = ap (λ p. p.columns) is in
    let last = packed.places.within state (omega arith) in
    (omega arith, omega arith)

pub entry_kept : (comb : Comb) (seen : Packing) → packing_of comb ≡ seen → (state column : ℕ) → state < length seen.rows → column ≤ seen.columns → laid comb state column ≡ entry seen.rows state column
entry_kept comb seen is state column within among =
    let each = states_kept comb seen is in
    let same : comb.columns ≡ seen.columns = ap (λ p. p.columns) is in
    sym (rows_in-entry comb state column (omega arith) (omega arith)) ∙ ap (λ p. entry p.rows state column) is

pub owned_entry : (comb : Comb) (seen : Packing) → packing_of comb ≡ seen → (state column : ℕ) → state < length seen.rows → column ≤ seen.columns
    → slice_index comb.owners (place_at comb state column) ≡ state → Some (slice_index comb.targets (place_at comb state column)) ≡ entry seen.rows state column
owned_entry comb seen is state column within among owned =
    sym (ap (λ b. if b then Some (slice_index comb.targets (place_at comb state column)) else None) (eq-eqb (slice_index comb.owners (place_at comb state column)) state owned))
    ∙ entry_kept comb seen is state column within among

pub not_owned_entry : (comb : Comb) (seen : Packing) → packing_of comb ≡ seen → (state column : ℕ) → state < length seen.rows → column ≤ seen.columns
    → slice_index comb.owners (place_at comb state column) ≢ state → None ≡ entry seen.rows state column
not_owned_entry comb seen is state column within among other =
    sym (ap (λ b. if b then Some (slice_index comb.targets (place_at comb state column)) else None) (ne_eqb (slice_index comb.owners (place_at comb state column)) state other))
    ∙ entry_kept comb seen is state column within among

pub entries_kept : (comb : Comb) (seen : Packing) → packing_of comb ≡ seen → IsPacked comb → entries_of seen.rows ≤ length comb.owners
entries_kept comb seen is packed = subst (λ p. entries_of p.rows ≤ length comb.owners) is (rows_in-entries comb packed.places)

pub most_kept : (comb : Comb) (seen : Packing) → packing_of comb ≡ seen → IsPacked comb → length comb.owners ≤ length seen.rows * (seen.columns + 1)
most_kept comb seen is packed =
    subst (λ n. length comb.owners ≤ n * (seen.columns + 1)) (sym (states_kept comb seen is))
    (subst (λ n. length comb.owners ≤ length comb.bases * (n + 1)) (ap (λ p. p.columns) is) packed.most)

-- ---- what is packed

pub small_owners : (table : Table) (comb : Comb) (bound : ℕ) → length table < bound → IsLaid table comb → (owners : List ℕ) → owners ≡ comb.owners → All (λ owner. owner < bound) owners
small_owners table comb bound small is owners same =
    subst (All (λ owner. owner < bound)) (sym same) (All-from_get_or (λ owner. owner < bound) comb.owners 0 (λ place within.
    ⊎_elim (λ lower. let few = is.few in omega (arith, lower)) (λ free. omega (arith, free)) (is.owners place within)))

pub small_targets : (table : Table) (comb : Comb) (bound : ℕ) → length table < bound → IsLaid table comb → (targets : List ℕ) → targets ≡ comb.targets → All (λ target. target < bound) targets
small_targets table comb bound small is targets same =
    subst (All (λ target. target < bound)) (sym same) (All-from_get_or (λ target. target < bound) comb.targets 0 (λ place within.
    let long = is.places.same in let low = is.targets place (omega arith) in omega arith))

pub small_bases : (rows : Rows) → KeepsRows rows → (comb : Comb) → IsLaid rows.rows comb → length comb.bases ≡ length rows.rows
    → length comb.owners ≤ length rows.rows * (rows.columns + 1) → (bases : List ℕ) → bases ≡ comb.bases → All (λ base. base < 4294967296) bases
small_bases rows keeps comb is all few bases same =
    let wide = keeps.columns in
    let high = keeps.few in
    let most : length rows.rows * (rows.columns + 1) ≤ state_limit * (column_limit + 1) = mul-le (length rows.rows) (rows.columns + 1) state_limit (column_limit + 1) high (omega arith) in
    subst (All (λ base. base < 4294967296)) (sym same) (All-from_get_or (λ base. base < 4294967296) comb.bases 0 (λ state within.
    let place = is.places.within state within in omega arith))

row_width : (rows : Rows) → KeepsRows rows → (state : ℕ) → state < length rows.rows → length (row_of rows.rows state) ≡ rows.columns + 1
row_width rows keeps state within = keeps.width state [] within

pub packed_rows : (rows : Rows) → KeepsRows rows → (comb : Comb) → IsLaid rows.rows comb → length comb.bases ≡ length rows.rows → comb.columns ≡ rows.columns → rows_in comb ≡ rows.rows
packed_rows rows keeps comb is all same = rows_in-table rows.rows comb (sym all)
    (λ state within. row_width rows keeps state within ∙ ap (λ n. n + 1) (sym same))
    (λ state column within among. is.entries state column (omega arith) among)

pub packed_are_rows : (rows : Rows) → KeepsRows rows → (laid_comb : Comb) → IsLaid rows.rows laid_comb → length laid_comb.bases ≡ length rows.rows → laid_comb.columns ≡ rows.columns
    → (columns : ℕ) (bases owners targets : List ℕ) → columns ≡ laid_comb.columns → bases ≡ laid_comb.bases → owners ≡ laid_comb.owners → targets ≡ laid_comb.targets
    → rows_in (record { columns = columns; bases = bases; owners = owners; targets = targets }) ≡ rows.rows
packed_are_rows rows keeps laid_comb is all same columns bases owners targets c b o t =
    (λ i. rows_in (record { columns = c i; bases = b i; owners = o i; targets = t i })) ∙ packed_rows rows keeps laid_comb is all same
