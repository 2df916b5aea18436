-- Tables that tell the same at asks walk the same.
use Rattle.std.proofs.Common.{◌≡◌, ℕ, ◌+◌, ◌<◌, ◌≤◌, List, [], ◌∷◌, ◌++◌, Option, Some, None, is_some, refl, sym, ap, ◌∙◌, arith}
use Rattle.std.proofs.lemmas.List.Elements.{All-nil, All-cons, All-append}
use Rattle.hz_pipeline_model.specs.Tables.Tables.{Table, entry, walk, IsTable}
use Rattle.hz_pipeline_model.specs.Tables.Apart.{WalkTheSame}
use Rattle.hz_pipeline_model.specs.Tables.AskColumns.{AsksStay, AsksAlike, beside_asks, all_beside}
use Rattle.hz_pipeline_model.specs.Reaching.Columns.{AreColumns}
use Rattle.hz_pipeline_model.proofs.Tables.TableLaws.{walk_stays}
use Rattle.hz_pipeline_model.proofs.Asks.AskLaws.{starts, walk_one, walk_end, by_column, class_beside, advance_beside, no_entry}

-- what is walked after a front, of two tables, where the front leads to states of both or of neither
pub both_from : (first second : Table) (a b : Option ℕ) → is_some a ≡ is_some b → (w : List ℕ)
    → ((p q : ℕ) → a ≡ Some p → b ≡ Some q → is_some (walk first (Some p) w) ≡ is_some (walk second (Some q) w))
    → is_some (walk first a w) ≡ is_some (walk second b w)
both_from first second None None e w both = refl
both_from first second (Some p) (Some q) e w both = both p q refl refl
both_from first second None (Some q) e w both = cc
both_from first second (Some p) None e w both = cc

all_beside-append : (columns asks : ℕ) (v w : List ℕ) → all_beside columns asks (v ++ w) ≡ all_beside columns asks v ++ all_beside columns asks w
all_beside-append columns asks [] w = refl
all_beside-append columns asks (c ∷ v) w = ap (λ (cs : List ℕ). beside_asks columns asks c ∷ cs) (all_beside-append columns asks v w)

module _ (first second : Table) (columns asks : ℕ) (one : IsTable first (columns + asks)) (two : IsTable second (columns + asks)) (stay : AsksStay first columns asks) (stay_too : AsksStay second columns asks) (alike : AsksAlike first second columns asks) where
  -- after each front of classes and advances that leads to states, the same is walked
  abbrev Alike : List ℕ → Type 0
  Alike w = (front : List ℕ) → AreColumns columns front → (p q : ℕ) → walk first (Some 0) (all_beside columns asks front) ≡ Some p → walk second (Some 0) (all_beside columns asks front) ≡ Some q → is_some (walk first (Some p) w) ≡ is_some (walk second (Some q) w)

  module _ (column : ℕ) (w : List ℕ) (rest : Alike w) (front : List ℕ) (are : AreColumns columns front) (p q : ℕ) (led : walk first (Some 0) (all_beside columns asks front) ≡ Some p) (led_too : walk second (Some 0) (all_beside columns asks front) ≡ Some q) where
    abbrev Goal : Type 0
    Goal = is_some (walk first (Some p) (column ∷ w)) ≡ is_some (walk second (Some q) (column ∷ w))

    as_class : (c : ℕ) → c ≤ columns → beside_asks columns asks c ≡ column → Goal
    as_class c low is =
        let longer = front ++ c ∷ [] in
        let each : AreColumns columns longer = All-append (λ k. k ≤ columns) front (c ∷ []) are (All-cons (λ k. k ≤ columns) c [] low (All-nil (λ k. k ≤ columns))) in
        let up : all_beside columns asks longer ≡ all_beside columns asks front ++ column ∷ [] =
        all_beside-append columns asks front (c ∷ []) ∙ ap (λ k. all_beside columns asks front ++ k ∷ []) is in
        let there : walk first (Some 0) (all_beside columns asks longer) ≡ entry first p column = ap (walk first (Some 0)) up ∙ walk_one first (Some 0) p column (all_beside columns asks front) [] led ∙ walk_end first (entry first p column) in
        let there_too : walk second (Some 0) (all_beside columns asks longer) ≡ entry second q column = ap (walk second (Some 0)) up ∙ walk_one second (Some 0) q column (all_beside columns asks front) [] led_too ∙ walk_end second (entry second q column) in
        both_from first second (entry first p column) (entry second q column) (ap is_some (sym there) ∙ alike.walks longer each ∙ ap is_some there_too) w
        (λ p' q' e e'. rest longer each p' q' (there ∙ e) (there_too ∙ e'))

    as_ask : (ask : ℕ) → ask < asks → columns + ask ≡ column → Goal
    as_ask ask lt is =
        let asked = all_beside columns asks front ++ (columns + ask) ∷ [] in
        let there : walk first (Some 0) asked ≡ entry first p column = walk_one first (Some 0) p (columns + ask) (all_beside columns asks front) [] led ∙ walk_end first (entry first p (columns + ask)) ∙ ap (entry first p) is in
        let there_too : walk second (Some 0) asked ≡ entry second q column = walk_one second (Some 0) q (columns + ask) (all_beside columns asks front) [] led_too ∙ walk_end second (entry second q (columns + ask)) ∙ ap (entry second q) is in
        both_from first second (entry first p column) (entry second q column) (ap is_some (sym there) ∙ alike.tells front are ask lt ∙ ap is_some there_too) w
        (λ p' q' e e'.
        let same = stay.stays p ask p' lt (ap (entry first p) is ∙ e) in
        let same_too = stay_too.stays q ask q' lt (ap (entry second q) is ∙ e') in
        rest front are p' q' (led ∙ ap Some (sym same)) (led_too ∙ ap Some (sym same_too)))

    nowhere : columns + asks < column → Goal
    nowhere past =
        let within = walk_stays first (columns + asks) one (Some 0) (starts first one.start) p (all_beside columns asks front) led in
        let within_too = walk_stays second (columns + asks) two (Some 0) (starts second two.start) q (all_beside columns asks front) led_too in
        let none = no_entry first p column (columns + asks) (one.width p within) past in
        let none_too = no_entry second q column (columns + asks) (two.width q within_too) past in
        ap (λ (o : Option ℕ). is_some (walk first o w)) none ∙ sym (ap (λ (o : Option ℕ). is_some (walk second o w)) none_too)

    one_column_more : Goal
    one_column_more = by_column {Goal = Goal} columns asks column
        (λ lt. as_class column (omega arith) (class_beside columns asks column lt))
        as_ask
        (λ at. as_class columns (omega arith) (advance_beside columns asks ∙ at))
        nowhere

  from_front : (w : List ℕ) → Alike w
  from_front [] front are p q led led_too = refl
  from_front (column ∷ w) front are p q led led_too = one_column_more column w (from_front w) front are p q led led_too

  pub walk_the_same : WalkTheSame first second
  walk_the_same = record { same = λ w. from_front w [] (All-nil (λ c. c ≤ columns)) 0 0 refl refl }
