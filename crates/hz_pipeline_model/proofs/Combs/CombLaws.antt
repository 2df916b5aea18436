-- What is laid in a comb.
use Rattle.std.proofs.Common.{◌≡◌, ℕ, ◌+◌, ◌<◌, ◌≤◌, ◌==◌, if◌then◌else◌, zero, suc, List, [], ◌∷◌, length, map, drop, get_or, slice_index, Option, None, Some, Bool, true, false, ◌⊎◌, inl, inr, refl, sym, ap, ◌∙◌, arith}
use Rattle.std.specs.List.{range_with_len}
use Rattle.std.proofs.lemmas.List.{ext_get_or, drop_more}
use Rattle.std.proofs.lemmas.List.FromFn as made
use Rattle.std.proofs.lemmas.Bool.Decides.{nat_tests}
use Rattle.std.proofs.lemmas.Bool.{eqb-true}
use Rattle.hz_pipeline_model.specs.Tables.Tables.{Table, row_of, entry}
use Rattle.hz_pipeline_model.specs.Combs.Combs.{Comb, HasPlaces, laid_at, laid, rows_in, entries_in, entries_of}

abbrev pub row_laid : Comb → ℕ → List (Option ℕ)
row_laid comb state = map (laid comb state) (range_with_len 0 (comb.columns + 1))

pub rows_in-each : (comb : Comb) → length (rows_in comb) ≡ length comb.bases
rows_in-each comb = made.length-map-range_with_len (row_laid comb) 0 (length comb.bases)

pub rows_in-row : (comb : Comb) (state : ℕ) → state < length comb.bases → row_of (rows_in comb) state ≡ row_laid comb state
rows_in-row comb state within = made.get_or-map-range_with_len (row_laid comb) 0 (length comb.bases) state state [] within (omega arith)

pub rows_in-width : (comb : Comb) (state : ℕ) → state < length comb.bases → length (row_of (rows_in comb) state) ≡ comb.columns + 1
rows_in-width comb state within = ap length (rows_in-row comb state within) ∙ made.length-map-range_with_len (laid comb state) 0 (comb.columns + 1)

pub rows_in-entry : (comb : Comb) (state column : ℕ) → state < length comb.bases → column ≤ comb.columns → entry (rows_in comb) state column ≡ laid comb state column
rows_in-entry comb state column within among =
    ap (λ row. get_or row column None) (rows_in-row comb state within)
    ∙ made.get_or-map-range_with_len (laid comb state) 0 (comb.columns + 1) column column None (omega arith) (omega arith)

-- two tables of one width are one where their entries are
same_rows : (columns : ℕ) (one other : Table) → length one ≡ length other
    → ((state : ℕ) → state < length one → length (row_of one state) ≡ columns + 1)
    → ((state : ℕ) → state < length one → length (row_of other state) ≡ columns + 1)
    → ((state column : ℕ) → state < length one → column ≤ columns → entry one state column ≡ entry other state column)
    → one ≡ other
same_rows columns one other each width width_other same = ext_get_or [] one other each (λ state within.
    ext_get_or None (row_of one state) (row_of other state) (width state within ∙ sym (width_other state within))
    (λ column among. let wide = width state within in same state column within (omega arith)))

pub rows_in-table : (table : Table) (comb : Comb) → length table ≡ length comb.bases
    → ((state : ℕ) → state < length table → length (row_of table state) ≡ comb.columns + 1)
    → ((state column : ℕ) → state < length table → column ≤ comb.columns → laid comb state column ≡ entry table state column)
    → rows_in comb ≡ table
rows_in-table table comb each width same =
    let long = rows_in-each comb in
    same_rows comb.columns (rows_in comb) table (omega arith)
    (λ state within. rows_in-width comb state (omega arith))
    (λ state within. width state (omega arith))
    (λ state column within among. rows_in-entry comb state column (omega arith) among ∙ same state column (omega arith) among)

-- ---- a place for each entry

-- how often a number is another
abbrev pub counts : ℕ → ℕ → ℕ
counts owner state = if owner == state then 1 else 0

-- how many places have this owner
abbrev pub owned : ℕ → List ℕ → ℕ
owned state [] = 0
owned state (owner ∷ owners) = counts owner state + owned state owners

-- the same of so many states from one on
abbrev pub owned_from : ℕ → ℕ → List ℕ → ℕ
owned_from state zero owners = 0
owned_from state (suc count) owners = owned state owners + owned_from (state + 1) count owners

counts_lower : (owner state : ℕ) → owner < state → counts owner state ≡ 0
counts_lower owner state lower = grind (arith, nat_tests)

counts_one : (owner state : ℕ) → (counts owner state ≡ 0) ⊎ ((counts owner state ≡ 1) × (owner < state + 1))
counts_one owner state = by_test (owner == state) (λ e. omega (arith, eqb-true owner state e))
  where
    by_test : (b : Bool) → (b ≡ true → owner < state + 1) → (◌≡◌ {A = ℕ} (if b then 1 else 0) 0) ⊎ ((◌≡◌ {A = ℕ} (if b then 1 else 0) 1) × (owner < state + 1))
    by_test false lower = inl refl
    by_test true lower = inr (refl, lower refl)

owned_from-lower : (state count owner : ℕ) (owners : List ℕ) → owner < state → owned_from state count (owner ∷ owners) ≡ owned_from state count owners
owned_from-lower state zero owner owners lower = refl
owned_from-lower state (suc count) owner owners lower =
    let here = counts_lower owner state lower in
    let rest = owned_from-lower (state + 1) count owner owners (omega arith) in
    omega arith

owned_from-one : (state count owner : ℕ) (owners : List ℕ) → owned_from state count (owner ∷ owners) ≤ suc (owned_from state count owners)
owned_from-one state zero owner owners = omega arith
owned_from-one state (suc count) owner owners = elim (counts_one owner state) [
  | inl none ↦ let rest = owned_from-one (state + 1) count owner owners in omega arith
  | inr once ↦ let one = once.0 in let rest = owned_from-lower (state + 1) count owner owners once.1 in omega arith
]

owned_from-all : (state count : ℕ) (owners : List ℕ) → owned_from state count owners ≤ length owners
owned_from-all state zero [] = omega arith
owned_from-all state (suc count) [] = omega (arith, owned_from-all (state + 1) count [])
owned_from-all state count (owner ∷ owners) = omega (arith, owned_from-one state count owner owners, owned_from-all state count owners)

owned-drop : (state n : ℕ) (owners : List ℕ) → owned state (drop n owners) ≤ owned state owners
owned-drop state zero owners = omega arith
owned-drop state (suc n) [] = omega arith
owned-drop state (suc n) (owner ∷ owners) = omega (arith, owned-drop state n owners)

one_entry : (b : Bool) (target : ℕ) (row : List (Option ℕ)) → entries_in ((if b then Some target else None) ∷ row) ≡ (if b then 1 else 0) + entries_in row
one_entry false target row = omega arith
one_entry true target row = omega arith

-- the entries of a row are at most the places of its state, from its base on
row_entries : (owners targets : List ℕ) (state base from count : ℕ) → base + (from + count) ≤ length owners
    → entries_in (map (λ column. laid_at owners targets state (base + column)) (range_with_len from count)) ≤ owned state (drop (base + from) owners)
row_entries owners targets state base from zero within = omega arith
row_entries owners targets state base from (suc count) within =
    let more : drop (base + from) owners ≡ get_or owners (base + from) 0 ∷ drop (base + from + 1) owners = drop_more owners (base + from) 0 (omega arith) in
    let next : base + from + 1 ≡ base + (from + 1) = omega arith in
    let rest = row_entries owners targets state base (from + 1) count (omega arith) in
    let here = one_entry (get_or owners (base + from) 0 == state) (get_or targets (base + from) 0) (map (λ column. laid_at owners targets state (base + column)) (range_with_len (from + 1) count)) in
    let there : owned state (drop (base + from) owners) ≡ counts (get_or owners (base + from) 0) state + owned state (drop (base + (from + 1)) owners) =
    ap (owned state) more ∙ ap (λ n. counts (get_or owners (base + from) 0) state + owned state (drop n owners)) next in
    omega arith

table_entries : (comb : Comb) → HasPlaces comb → (from count : ℕ) → from + count ≤ length comb.bases
    → entries_of (map (row_laid comb) (range_with_len from count)) ≤ owned_from from count comb.owners
table_entries comb has from zero within = omega arith
table_entries comb has from (suc count) within =
    let base = slice_index comb.bases from in
    let place = has.within from (omega arith) in
    let row = row_entries comb.owners comb.targets from base 0 (comb.columns + 1) (omega arith) in
    let start : base + 0 ≡ base = omega arith in
    let all = owned-drop from (base + 0) comb.owners in
    let rest = table_entries comb has (from + 1) count (omega arith) in
    omega arith

pub rows_in-entries : (comb : Comb) → HasPlaces comb → entries_of (rows_in comb) ≤ length comb.owners
rows_in-entries comb has =
    let rows = table_entries comb has 0 (length comb.bases) (omega arith) in
    let all = owned_from-all 0 (length comb.bases) comb.owners in
    omega arith
