-- What the table of leaders is: it walks what the table walks, its states are apart, and they are read in their order.
use Rattle.std.proofs.Common.{◌≡◌, ◌≢◌, ℕ, ◌+◌, ◌<◌, ◌≤◌, List, [], ◌∷◌, length, Option, Some, None, refl, sym, ap, ◌∙◌, subst, arith, ⊎_elim}
use Rattle.std.specs.Prelude.{is_some}
use Rattle.std.proofs.lemmas.Bool.{cases_lt}
use Rattle.std.proofs.lemmas.List.{get_or_past}
use Rattle.hz_pipeline_model.specs.Tables.Tables.{Table, row_of, entry, walk, IsTable}
use Rattle.hz_pipeline_model.specs.Tables.Apart.{Apart, AllApart, WalkTheSame}
use Rattle.hz_pipeline_model.specs.Least.Normal.{IsNormal}
use Rattle.hz_tables.specs.Rows.{Rows}
use Rattle.hz_minim.specs.Leading.{leader_of, led, led_entry, IsSettled}
use Rattle.hz_minim.specs.Folding.{numbered, IsNumber, IsFolded}
use Rattle.hz_pipeline_model.proofs.Least.ReadLaws.{breadth_first}

-- after the last column there is no entry
past_columns : (table : Table) (columns state column : ℕ) → length (row_of table state) ≡ columns + 1 → columns < column → entry table state column ≡ None
past_columns table columns state column width past = get_or_past (row_of table state) column None (omega arith)

same_some : (a b : ℕ) → Some a ≡ Some b → a ≡ b
same_some a b e = cc

module _ (table : Table) (columns : ℕ) (leaders : List ℕ) (folded : Rows) (is : IsTable table columns) (settled : IsSettled table columns leaders) (fold : IsFolded table columns leaders folded) where
  -- an entry of a state is one of its leader's number, by leaders and numbers
  stepped : (state number column : ℕ) → state < length table → number < length fold.order → numbered fold.order number ≡ leader_of leaders state → IsNumber fold.order (led_entry table leaders state column) (entry folded.rows number column)
  stepped state number column low below same = ⊎_elim
      (λ (past : columns < column).
      subst (λ (next : Option ℕ). IsNumber fold.order (led leaders next) (entry folded.rows number column)) (sym (past_columns table columns state column (is.width state low) past))
      (subst (IsNumber fold.order None) (sym (past_columns folded.rows columns number column (fold.width number below) past)) tt))
      (λ (within : column ≤ columns).
      subst (λ (target : Option ℕ). IsNumber fold.order target (entry folded.rows number column))
      (ap (λ (s : ℕ). led_entry table leaders s column) same ∙ sym ((settled.all.each state low).alike column (omega arith)))
      (fold.entries number column below within))
      (cases_lt columns column)

  walked : (from to : Option ℕ) (w : List ℕ) → ((state : ℕ) → from ≡ Some state → state < length table) → IsNumber fold.order (led leaders from) to → is_some (walk table from w) ≡ is_some (walk folded.rows to w)
  walked None None w within is_number = refl
  walked None (Some number) w within is_number = absurd is_number
  walked (Some state) None w within is_number = absurd is_number
  walked (Some state) (Some number) [] within is_number = refl
  walked (Some state) (Some number) (column ∷ w) within is_number =
      walked (entry table state column) (entry folded.rows number column) w (λ next e. is.targets state column next e)
      (stepped state number column (within state refl) is_number.0 is_number.1)

  walked_from : (state number : ℕ) (w : List ℕ) → state < length table → number < length fold.order → numbered fold.order number ≡ leader_of leaders state → is_some (walk table (Some state) w) ≡ is_some (walk folded.rows (Some number) w)
  walked_from state number w low below same = walked (Some state) (Some number) w (λ next e. subst (λ (s : ℕ). s < length table) (same_some state next e) low) (below, same)

  filled : 0 < length fold.order
  filled = fold.read.read.some

  pub folded_walks : WalkTheSame table folded.rows
  folded_walks = record { same = λ w. walked_from 0 0 w is.start filled fold.start }

  folded_apart : AllApart folded.rows
  folded_apart = record {
    apart = λ one other low low' differ.
        let below : one < length fold.order = omega (arith, fold.rows) in
        let below' : other < length fold.order = omega (arith, fold.rows) in
        let apart : Apart table (numbered fold.order one) (numbered fold.order other) = settled.coarse.apart (numbered fold.order one) (numbered fold.order other) (fold.within one below) (fold.within other below')
        (λ e. differ (fold.different one other below below' (sym (fold.leads one below) ∙ e ∙ fold.leads other below'))) in
        record {
          word = apart.word;
          once = λ e. apart.once
              (walked_from (numbered fold.order one) one apart.word (fold.within one below) below (sym (fold.leads one below)) ∙ e
              ∙ sym (walked_from (numbered fold.order other) other apart.word (fold.within other below') below' (sym (fold.leads other below'))));
        };
  }

  advances : (number : ℕ) → number < length fold.order → entry folded.rows number columns ≢ None
  advances number below none = by_target (entry table (numbered fold.order number) columns) refl (subst (IsNumber fold.order (led_entry table leaders (numbered fold.order number) columns)) none (fold.entries number columns below (omega arith)))
    where
      by_target : (next : Option ℕ) → entry table (numbered fold.order number) columns ≡ next → IsNumber fold.order (led leaders next) None → ⊥
      by_target None e is_number = is.advances (numbered fold.order number) (fold.within number below) e
      by_target (Some next) e is_number = is_number

  folded_table : IsTable folded.rows columns
  folded_table = record {
    start = let some = filled in omega (arith, fold.rows);
    width = λ number low. fold.width number (omega (arith, fold.rows));
    targets = λ row column next e. let low = fold.read.read.targets row column next e in omega (arith, fold.rows);
    advances = λ number low. advances number (omega (arith, fold.rows));
  }

  pub folded_normal : IsNormal folded.rows folded.columns
  folded_normal = subst (IsNormal folded.rows) (sym fold.across) (record {
    is = folded_table;
    parents = fold.read.parents;
    order = breadth_first folded.rows columns (length fold.order) fold.read.parents fold.rows fold.read.read;
    apart = folded_apart;
  })

  pub folded_fewer : length folded.rows ≤ length table
  folded_fewer = let few = fold.few in omega (arith, fold.rows)
