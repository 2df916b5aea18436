-- Entries of tables, and states that entries put apart.
use Rattle.std.proofs.Common.{◌≡◌, ℕ, ◌+◌, ◌<◌, ◌≤◌, ◌⊎◌, inl, inr, ⊎_elim, true, false, List, [], ◌∷◌, length, get_or, Option, Some, None, is_some, refl, sym, ap, ◌∙◌, arith}
use Rattle.std.proofs.lemmas.Bool.{cases_lt, false≢true}
use Rattle.std.proofs.lemmas.List.{get_or_past}
use Rattle.hz_pipeline_model.specs.Tables.Tables.{Table, row_of, entry, walk, IsTable}
use Rattle.hz_pipeline_model.specs.Tables.Apart.{Apart}

pub option_cases : (o : Option ℕ) → (o ≡ None) ⊎ ((n : ℕ) × (o ≡ Some n))
option_cases None = inl refl
option_cases (Some n) = inr (n, refl)

-- an entry that isn't none is within the table
pub entry_within : (table : Table) (columns : ℕ) → IsTable table columns → (state column next : ℕ) → entry table state column ≡ Some next → (state < length table) × (column < columns + 1)
entry_within table columns is state column next e = ⊎_elim
    (λ (within : state < length table). ⊎_elim
    (λ (inside : column < length (row_of table state)). (within, omega (arith, is.width state within)))
    (λ (past : length (row_of table state) ≤ column). let none : entry table state column ≡ None = get_or_past (row_of table state) column None past in absurd (cc))
    (cases_lt column (length (row_of table state))))
    (λ (past : length table ≤ state).
    let none : entry table state column ≡ None = ap (λ (row : List (Option ℕ)). get_or row column None) (get_or_past table state [] past) in
    absurd (cc))
    (cases_lt state (length table))

pub apart_symmetric : (table : Table) (one other : ℕ) → Apart table one other → Apart table other one
apart_symmetric table one other apart = record { word = apart.word; once = λ e. apart.once (sym e) }

-- one of them has an entry where the other has none
pub apart_by_entry : (table : Table) (one other column next : ℕ) → entry table one column ≡ Some next → entry table other column ≡ None → Apart table one other
apart_by_entry table one other column next there none = record {
  word = column ∷ [];
  once = λ e.
      let some : is_some (walk table (entry table one column) []) ≡ true = ap (λ (o : Option ℕ). is_some (walk table o [])) there in
      let nothing : is_some (walk table (entry table other column) []) ≡ false = ap (λ (o : Option ℕ). is_some (walk table o [])) none in
      false≢true (sym nothing ∙ sym e ∙ some);
}

-- they lead to states that are apart
pub apart_before : (table : Table) (one other column next to : ℕ) → entry table one column ≡ Some next → entry table other column ≡ Some to → Apart table next to → Apart table one other
apart_before table one other column next to first second apart = record {
  word = column ∷ apart.word;
  once = λ e.
      let left : is_some (walk table (entry table one column) apart.word) ≡ is_some (walk table (Some next) apart.word) = ap (λ (o : Option ℕ). is_some (walk table o apart.word)) first in
      let right : is_some (walk table (entry table other column) apart.word) ≡ is_some (walk table (Some to) apart.word) = ap (λ (o : Option ℕ). is_some (walk table o apart.word)) second in
      apart.once (sym left ∙ e ∙ right);
}
