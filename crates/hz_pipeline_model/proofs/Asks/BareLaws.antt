-- With its ask columns taken out a table is what it was.
use Rattle.std.proofs.Common.{◌≡◌, ℕ, ◌+◌, ◌-◌, ◌<◌, ◌≤◌, ⊎_elim, Bool, List, [], Option, None, length, take, drop, get_or, sym, ap, ◌∙◌, arith}
use Rattle.std.proofs.lemmas.Bool.{cases_lt}
use Rattle.std.proofs.lemmas.List.{ext_get_or, length-append, length-take-le, length-drop, length-map, get_or-map, get_or-take, get_or-drop, get_or_append_left, get_or-append_right}
use Rattle.hz_pipeline_model.specs.Tables.Tables.{Table, row_of, entry, IsTable}
use Rattle.hz_pipeline_model.specs.Tables.AskColumns.{HasAsks, row_without_asks, without_asks}

module _ (columns asks : ℕ) (row : List (Option ℕ)) (wide : length row ≡ columns + asks + 1) where
  front : length (take columns row) ≡ columns
  front = length-take-le columns row (omega arith)

  pub bare_width : length (row_without_asks columns asks row) ≡ columns + 1
  bare_width =
      let both = length-append (take columns row) (drop (columns + asks) row) in
      let last = length-drop (columns + asks) row in
      let few = front in
      omega arith

  pub bare_class : (column : ℕ) → column < columns → get_or (row_without_asks columns asks row) column None ≡ get_or row column None
  bare_class column lt =
      let few = front in
      get_or_append_left (take columns row) (drop (columns + asks) row) None column (omega arith) ∙ get_or-take columns row column None lt

  pub bare_advance : get_or (row_without_asks columns asks row) columns None ≡ get_or row (columns + asks) None
  bare_advance =
      get_or-append_right (take columns row) (drop (columns + asks) row) columns columns None front (omega arith)
      ∙ get_or-drop (columns + asks) row (columns - columns) None
      ∙ ap (λ c. get_or row c None) (omega arith)

module _ (table asked : Table) (columns asks : ℕ) (marks : ℕ → ℕ → Bool) (is : IsTable table columns) (has : HasAsks table asked columns asks marks) where
  bare_row : (state : ℕ) → state < length table → row_without_asks columns asks (row_of asked state) ≡ row_of table state
  bare_row state within =
      let wide = has.width state within in
      let bare = bare_width columns asks (row_of asked state) wide in
      let was = is.width state within in
      ext_get_or None (row_without_asks columns asks (row_of asked state)) (row_of table state) (omega arith)
      (λ column inside. ⊎_elim
      (λ (lt : column < columns). bare_class columns asks (row_of asked state) wide column lt ∙ has.classes state column within lt)
      (λ (past : columns ≤ column).
      let last : column ≡ columns = omega arith in
      ap (λ c. get_or (row_without_asks columns asks (row_of asked state)) c None) last
      ∙ bare_advance columns asks (row_of asked state) wide
      ∙ has.advance state within
      ∙ ap (entry table state) (sym last))
      (cases_lt column columns))

  pub without : without_asks columns asks asked ≡ table
  without =
      let many = length-map asked (row_without_asks columns asks) in
      let each = has.each in
      ext_get_or [] (without_asks columns asks asked) table (omega arith)
      (λ state inside.
      get_or-map (row_without_asks columns asks) asked state [] [] (omega arith)
      ∙ bare_row state (omega arith))
