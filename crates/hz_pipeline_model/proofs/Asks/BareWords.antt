-- Lists of columns without those of asks: they lead to the same state, and what is walked in a table without its asks.
use Rattle.std.proofs.Common.{◌≡◌, ℕ, ◌+◌, ◌-◌, ◌<◌, ◌≤◌, ⊎_elim, Bool, true, false, nat_lt, if◌then◌else◌, List, [], ◌∷◌, Option, Some, None, refl, sym, ap, ◌∙◌, subst, arith}
use Rattle.std.proofs.lemmas.Bool.{cases_lt}
use Rattle.std.proofs.lemmas.Bool.Decides.{nat_tests}
use Rattle.std.proofs.lemmas.List.Elements.{All-nil, All-cons}
use Rattle.std.proofs.lemmas.Option.{none-some}
use Rattle.hz_pipeline_model.specs.Tables.Tables.{Table, entry, walk, IsTable}
use Rattle.hz_pipeline_model.specs.Tables.AskColumns.{AsksStay, beside_asks, all_beside}
use Rattle.hz_pipeline_model.specs.Reaching.Columns.{AreColumns}
use Rattle.hz_pipeline_model.proofs.Tables.TableLaws.{walk-none}
use Rattle.hz_pipeline_model.proofs.Single.WordLaws.{entry_low}

-- the columns of classes and advances, those of asks left out
abbrev pub bare : ℕ → ℕ → List ℕ → List ℕ
bare columns asks [] = []
bare columns asks (column ∷ w) =
    if nat_lt column columns then column ∷ bare columns asks w else (if nat_lt column (columns + asks) then bare columns asks w else columns ∷ bare columns asks w)

pub bare_columns : (columns asks : ℕ) (w : List ℕ) → AreColumns columns (bare columns asks w)
bare_columns columns asks [] = All-nil (λ (c : ℕ). c ≤ columns)
bare_columns columns asks (column ∷ w) = by_test (bare columns asks w) (bare_columns columns asks w) (nat_lt column columns) (nat_lt column (columns + asks)) (λ low. grind (arith, nat_tests))
  where
    by_test : (rest : List ℕ) → AreColumns columns rest → (class ask : Bool) → (class ≡ true → column ≤ columns) → AreColumns columns (if class then column ∷ rest else (if ask then rest else columns ∷ rest))
    by_test rest are true ask low = All-cons (λ (c : ℕ). c ≤ columns) column rest (low refl) are
    by_test rest are false true low = are
    by_test rest are false false low = let same : columns ≤ columns = omega arith in All-cons (λ (c : ℕ). c ≤ columns) columns rest same are

module _ (table : Table) (columns asks : ℕ) (is : IsTable table (columns + asks)) (stay : AsksStay table columns asks) where
  pub bare_walk : (w : List ℕ) (from end : ℕ) → walk table (Some from) w ≡ Some end → walk table (Some from) (all_beside columns asks (bare columns asks w)) ≡ Some end
  bare_walk [] from end e = e
  bare_walk (column ∷ w) from end e = by_next (entry table from column) refl e (λ next. bare_walk w next end)
    where
      by_next : (o : Option ℕ) → entry table from column ≡ o → walk table o w ≡ Some end → ((next : ℕ) → walk table (Some next) w ≡ Some end → walk table (Some next) (all_beside columns asks (bare columns asks w)) ≡ Some end)
          → walk table (Some from) (all_beside columns asks (bare columns asks (column ∷ w))) ≡ Some end
      by_next None at h rest = absurd (none-some end (sym (walk-none table w) ∙ h))
      by_next (Some next) at h rest =
          let on = rest next h in
          let low = entry_low table (columns + asks) is from column next at in
          ⊎_elim
          (λ (class : column < columns).
          let test : nat_lt column columns ≡ true = grind (arith, nat_tests) in
          let here : bare columns asks (column ∷ w) ≡ column ∷ bare columns asks w = ap (λ b. if b then column ∷ bare columns asks w else (if nat_lt column (columns + asks) then bare columns asks w else columns ∷ bare columns asks w)) test in
          let up : beside_asks columns asks column ≡ column = ap (λ b. if b then column else column + asks) test in
          ap (λ v. walk table (Some from) (all_beside columns asks v)) here
          ∙ ap (λ c. walk table (entry table from c) (all_beside columns asks (bare columns asks w))) up
          ∙ ap (λ o. walk table o (all_beside columns asks (bare columns asks w))) at ∙ on)
          (λ (later : columns ≤ column).
          let test : nat_lt column columns ≡ false = grind (arith, nat_tests) in
          ⊎_elim
          (λ (ask : column < columns + asks).
          let also : nat_lt column (columns + asks) ≡ true = grind (arith, nat_tests) in
          let here : bare columns asks (column ∷ w) ≡ bare columns asks w = λ i. if test i then column ∷ bare columns asks w else (if also i then bare columns asks w else columns ∷ bare columns asks w) in
          let place : columns + (column - columns) ≡ column = omega arith in
          let same : next ≡ from = stay.stays from (column - columns) next (omega arith) (ap (entry table from) place ∙ at) in
          ap (λ v. walk table (Some from) (all_beside columns asks v)) here
          ∙ subst (λ s. walk table (Some s) (all_beside columns asks (bare columns asks w)) ≡ Some end) same on)
          (λ (past : columns + asks ≤ column).
          let also : nat_lt column (columns + asks) ≡ false = grind (arith, nat_tests) in
          let here : bare columns asks (column ∷ w) ≡ columns ∷ bare columns asks w = λ i. if test i then column ∷ bare columns asks w else (if also i then bare columns asks w else columns ∷ bare columns asks w) in
          let last : columns + asks ≡ column = omega (arith, past, low) in
          let not : nat_lt columns columns ≡ false = grind (arith, nat_tests) in
          let up : beside_asks columns asks columns ≡ column = ap (λ b. if b then columns else columns + asks) not ∙ last in
          ap (λ v. walk table (Some from) (all_beside columns asks v)) here
          ∙ ap (λ c. walk table (entry table from c) (all_beside columns asks (bare columns asks w))) up
          ∙ ap (λ o. walk table o (all_beside columns asks (bare columns asks w))) at ∙ on)
          (cases_lt column (columns + asks)))
          (cases_lt column columns)
