-- Rows of numbers of pairs of classes, and the end of a list.
use Rattle.std.proofs.Common.{◌≡◌, ℕ, zero, suc, ◌<◌, ◌+◌, ◌==◌, List, [], ◌∷◌, length, drop, get_or, get_or-set_same, get_or-set_other, Option, Some, Bool, true, false, ◌||◌, ◌&&◌, refl, sym, ap, ◌∙◌, subst, arith, cond, Vec, Global, add-one}
use Rattle.std.proofs.Math.ListN.{set}
use Rattle.std.proofs.Math.Seq.{drop-cons}
use Rattle.std.proofs.lemmas.Bool.{cases_Bool, eqb-true}
use Rattle.std.proofs.lemmas.Bool.Decides.{nat_tests}
use Rattle.std.proofs.lemmas.List.{length-map, map-set}
use Rattle.std.proofs.lemmas.Option.{slice_get_read, slice_get-map, get_or_from_slice_get}
use Rattle.std.specs.List.{AllPairs, list_any}
use Rattle.std.specs.Option.{option_map}
use Rattle.hz_base_model.proofs.Ascending.{AllPairs-tail}
use Rattle.hz_checked.specs.NumberRows.{given_in, rows_of, number_at}

pub drop_number : (xs : List ℕ) (i : ℕ) → i < length xs → drop i xs ≡ get_or xs i 0 ∷ drop (i + 1) xs
drop_number xs i lt = drop-cons xs i 0 lt ∙ ap (λ (n : ℕ). get_or xs i 0 ∷ drop n xs) (sym (add-one i))

pub AllPairs-drop : {A : Type 0} (R : A → A → Type 0) (n : ℕ) (xs : List A) → AllPairs R xs → AllPairs R (drop n xs)
AllPairs-drop R zero xs h = h
AllPairs-drop R (suc n) [] h = h
AllPairs-drop R (suc n) (x ∷ xs) h = AllPairs-drop R n xs (AllPairs-tail R x xs h)

-- the row of a number
pub row_at : (rows : List (Vec (Option ℕ) Global)) (o : ℕ) (row : Vec (Option ℕ) Global) → o < length rows → row ≡ get_or rows o row → get_or (rows_of rows) o [] ≡ row.items
row_at rows o row lt is =
    get_or_from_slice_get (rows_of rows) o row.items []
    (slice_get-map (λ (r : Vec (Option ℕ) Global). r.items) rows o ∙ ap (option_map (λ (r : Vec (Option ℕ) Global). r.items)) (slice_get_read rows (length rows) o row refl lt is))

pick : (b rest ins : Bool) (v new old : Option ℕ) → (b ≡ true → new ≡ cond ins v old) → (b ≡ false → new ≡ old) → cond (rest && ins) v new ≡ cond ((b || rest) && ins) v old
pick true true true v new old here there = refl
pick true true false v new old here there = here refl
pick true false true v new old here there = here refl
pick true false false v new old here there = here refl
pick false true true v new old here there = refl
pick false true false v new old here there = there refl
pick false false ins v new old here there = there refl

set_here : (rows : List (Vec (Option ℕ) Global)) (x : ℕ) (new : Vec (Option ℕ) Global) → x < length rows → get_or (rows_of (set rows x new)) x [] ≡ new.items
set_here rows x new lt =
    ap (λ (rs : List (List (Option ℕ))). get_or rs x []) (map-set (λ (r : Vec (Option ℕ) Global). r.items) rows x new)
    ∙ get_or-set_same (rows_of rows) x new.items [] (omega (arith, length-map rows (λ (r : Vec (Option ℕ) Global). r.items)))

set_apart : (rows : List (Vec (Option ℕ) Global)) (x o : ℕ) (new : Vec (Option ℕ) Global) → (x == o) ≡ false → get_or (rows_of (set rows x new)) o [] ≡ get_or (rows_of rows) o []
set_apart rows x o new f =
    ap (λ (rs : List (List (Option ℕ))). get_or rs o []) (map-set (λ (r : Vec (Option ℕ) Global). r.items) rows x new) ∙ get_or-set_other (rows_of rows) x o new.items [] (λ (e : o ≡ x). absurd (grind (arith, nat_tests)))

-- one producing class more gets the number
pub given_next : (rows : List (Vec (Option ℕ) Global)) (x : ℕ) (row : List (Option ℕ)) (new : Vec (Option ℕ) Global) (outs : List ℕ) (k : ℕ) (ins : List ℕ) (number o i : ℕ) (all : Option ℕ) → x < length rows → get_or (rows_of rows) x [] ≡ row → k < length outs → x ≡ get_or outs k 0
    → ((j : ℕ) → given_in new.items j ≡ cond (list_any (λ m. m == j) ins) (Some number) (given_in row j))
    → cond (list_any (λ p. p == o) (drop k outs) && list_any (λ j. j == i) ins) (Some number) (number_at (rows_of rows) o i) ≡ all
    → cond (list_any (λ p. p == o) (drop (k + 1) outs) && list_any (λ j. j == i) ins) (Some number) (number_at (rows_of (set rows x new)) o i) ≡ all
given_next rows x row new outs k ins number o i all lt is within at given kept =
    let rest : Bool = list_any (λ p. p == o) (drop (k + 1) outs) in
    let there : Bool = list_any (λ j. j == i) ins in
    pick (x == o) rest there (Some number) (number_at (rows_of (set rows x new)) o i) (number_at (rows_of rows) o i)
    (λ (t : (x == o) ≡ true).
    ap (λ (r : List (Option ℕ)). given_in r i) (subst (λ (p : ℕ). get_or (rows_of (set rows x new)) p [] ≡ new.items) (eqb-true x o t) (set_here rows x new lt))
    ∙ (given i ∙ ap (λ (r : List (Option ℕ)). cond there (Some number) (given_in r i)) (sym (subst (λ (p : ℕ). get_or (rows_of rows) p [] ≡ row) (eqb-true x o t) is))))
    (λ (f : (x == o) ≡ false). ap (λ (r : List (Option ℕ)). given_in r i) (set_apart rows x o new f))
    ∙ (ap (λ (n : ℕ). cond (((n == o) || rest) && there) (Some number) (number_at (rows_of rows) o i)) at
    ∙ (ap (λ (xs : List ℕ). cond (list_any (λ p. p == o) xs && there) (Some number) (number_at (rows_of rows) o i)) (sym (drop_number outs k within)) ∙ kept))
