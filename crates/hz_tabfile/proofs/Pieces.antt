-- A text that is cut at its first such byte, and the count of its pieces.
use Rattle.std.proofs.Common.{◌≡◌, ℕ, suc, ◌+◌, ◌≤◌, ◌==◌, Bool, true, false, cond, not, nat_lt, List, [], ◌∷◌, length, take, drop, Option, Some, None, refl, sym, ap, ◌∙◌, subst, arith, ⊎_elim}
use Rattle.std.specs.Prelude.{IfSome, is_some}
use Rattle.std.specs.Borrow.{Bor}
use Rattle.std.specs.Option.{option_map}
use Rattle.std.specs.List.{slice_split, onto_first, position, position_or_len, list_all}
use Rattle.std.proofs.lemmas.Bool.{ltb-true, ltb-false, eqb-true, eqb-false, cases_Bool}
use Rattle.std.proofs.lemmas.Option.{cond_some, none-some}
use Rattle.std.proofs.lemmas.List.Elements.{All-from_get_or}
use Rattle.std.proofs.lemmas.List.Sums.{fails_before_first}
use Rattle.std.proofs.lemmas.List.Splits.{slice_split_first, slice_split_none}
use Rattle.hz_tabtext_model.specs.Fields.{is_nil}
use Rattle.hz_tabfile.specs.Cutting.{pieces, fields_in, counted}

-- at the place of the first such byte
pub split_at_place : (p : ℕ → Bool) (xs : List ℕ) (n : ℕ) → position p xs ≡ Some n → slice_split p xs ≡ take n xs ∷ slice_split p (drop (n + 1) xs)
split_at_place p xs n h =
    let found = cond_some (nat_lt (position_or_len p xs) (length xs)) _ n h in
    subst (λ (k : ℕ). slice_split p xs ≡ take k xs ∷ slice_split p (drop (k + 1) xs)) found.1 (slice_split_first p xs 0 (ltb-true _ _ found.0))

-- where there is none
pub split_nowhere : (p : ℕ → Bool) (xs : List ℕ) → position p xs ≡ None → slice_split p xs ≡ xs ∷ []
split_nowhere p xs h =
    let far : length xs ≤ position_or_len p xs = ⊎_elim (λ e. absurd (none-some _ (sym h ∙ ap (λ t. cond t (Some (position_or_len p xs)) None) e))) (λ e. ltb-false _ _ e) (cases_Bool (nat_lt (position_or_len p xs) (length xs))) in
    slice_split_none p xs (All-from_get_or (λ x. p x ≡ false) xs 0 (λ i lt. fails_before_first p xs i 0 (omega arith)))

-- how long what is left is, a place before it with it
abbrev pub left : Option (Bor (List ℕ)) → ℕ
left None = 0
left (Some text) = 1 + length text.now

pub is_some_field : (field : List ℕ) → (length field == 0) ≡ false → is_nil field ≡ false
is_some_field [] h = absurd (eqb-false 0 0 h refl)
is_some_field (b ∷ bs) h = refl

pub is_no_field : (field : List ℕ) → (length field == 0) ≡ true → is_nil field ≡ true
is_no_field [] h = refl
is_no_field (b ∷ bs) h = absurd (omega (arith, eqb-true (length (b ∷ bs)) 0 h))

abbrev pub counted_on : ℕ → Option ℕ → Option ℕ
counted_on n count = option_map (λ k. n + k) count

one_more : (n : ℕ) (b : Bool) (k : ℕ) → option_map (λ (k : ℕ). n + k) (cond b (Some (suc k)) None) ≡ option_map (λ (k : ℕ). n + 1 + k) (cond b (Some k) None)
one_more n true k = ap Some (omega arith)
one_more n false k = refl

pub count_step : (n : ℕ) (field : List ℕ) (fields : List (List ℕ)) → (length field == 0) ≡ false → counted_on n (counted (field ∷ fields)) ≡ counted_on (n + 1) (counted fields)
unfolding counted
count_step n field fields h = let some = is_some_field field h in rw some (one_more n (list_all (λ f. not (is_nil f)) fields) (length fields))

pub count_stops : (n : ℕ) (field : List ℕ) (fields : List (List ℕ)) → (length field == 0) ≡ true → counted_on n (counted (field ∷ fields)) ≡ None
unfolding counted
count_stops n field fields h = let none = is_no_field field h in rw none refl

pub count_ends : (n : ℕ) → counted_on n (counted []) ≡ Some n
unfolding counted
count_ends n = ap Some (omega arith)

-- what comes after a piece is shorter than the text
pub left_after : (after : Option (Bor (List ℕ))) (piece text : List ℕ) → IfSome after (λ rest. length piece + 1 + length rest.now ≡ length text) → left after ≤ length text
left_after None piece text h = omega arith
left_after (Some rest) piece text h = omega (arith, h)

module _ (n : ℕ) (rest : Option (Bor (List ℕ))) (total : Option ℕ) (so_far : counted_on n (counted (fields_in rest)) ≡ total) where
  module _ (text : Bor (List ℕ)) (field : List ℕ) (fields : List (List ℕ)) (is : rest ≡ Some text) (cut : fields_in (Some text) ≡ field ∷ fields) where
    at_field : counted_on n (counted (field ∷ fields)) ≡ total
    at_field = sym (ap (λ fs. counted_on n (counted fs)) (ap fields_in is ∙ cut)) ∙ so_far

    pub count_goes : (length field == 0) ≡ false → counted_on (n + 1) (counted fields) ≡ total
    count_goes h = sym (count_step n field fields h) ∙ at_field

    pub count_none : (length field == 0) ≡ true → None ≡ total
    count_none h = sym (count_stops n field fields h) ∙ at_field

  pub count_done : rest ≡ None → Some n ≡ total
  count_done is = sym (count_ends n) ∙ (sym (ap (λ r. counted_on n (counted (fields_in r))) is) ∙ so_far)

some_pieces : (p : ℕ → Bool) (xs : List ℕ) → is_nil (slice_split p xs) ≡ false
some_pieces p [] = refl
some_pieces p (x ∷ xs) = by_test (p x) (slice_split p xs)
  where
    by_test : (t : Bool) (others : List (List ℕ)) → is_nil (cond t ([] ∷ others) (onto_first x others)) ≡ false
    by_test true others = refl
    by_test false [] = refl
    by_test false (other ∷ others) = refl

-- whether a piece is left
pub nil_pieces : (byte : ℕ) (rest : Option (Bor (List ℕ))) → is_nil (pieces byte rest) ≡ not (is_some rest)
nil_pieces byte None = refl
nil_pieces byte (Some text) = some_pieces (λ b. b == byte) text.now

pub nil_fields : (rest : Option (Bor (List ℕ))) → is_nil (fields_in rest) ≡ not (is_some rest)
nil_fields rest = nil_pieces 32 rest
