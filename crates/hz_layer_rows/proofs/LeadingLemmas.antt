-- Rows that are looked at one by one are those of a table.
use Rattle.std.proofs.Common.{◌≡◌, ℕ, ◌<◌, ◌≤◌, Some, None, length, get_or, List, [], Option, sym, ap, ◌∙◌, arith, ⊎_elim}
use Rattle.std.proofs.lemmas.Bool.{cases_lt}
use Rattle.std.proofs.lemmas.List.{get_or_past}
use Rattle.hz_pipeline_model.specs.Tables.Tables.{row_of, IsTable}
use Rattle.hz_tables.specs.Rows.{Rows, KeepsRows}
use Rattle.hz_layer_rows.proofs.LeadingRows.{AreRows}

none_some : (next : ℕ) → None ≡ Some next → ⊥
none_some next e = cc

pub table_of_rows : (table : Rows) → KeepsRows table → AreRows table.rows table.columns (length table.rows) → 0 < length table.rows → IsTable table.rows table.columns
table_of_rows table keeps are some = record {
  start = some;
  width = λ state low. keeps.width state [] low;
  targets = λ state column next there. ⊎_elim
      (λ (low : state < length table.rows). ⊎_elim
      (λ (past : table.columns < column). absurd (none_some next (sym (get_or_past (row_of table.rows state) column None (let width = keeps.width state [] low in omega arith)) ∙ there)))
      (λ (within : column ≤ table.columns). (are.each state low).targets column next within there)
      (cases_lt table.columns column))
      (λ (high : length table.rows ≤ state). absurd (none_some next (sym (ap (λ (row : List (Option ℕ)). get_or row column None) (get_or_past table.rows state [] high)) ∙ there)))
      (cases_lt state (length table.rows));
  advances = λ state low. (are.each state low).advances;
}
