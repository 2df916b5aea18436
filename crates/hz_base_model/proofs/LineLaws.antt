use Rattle.std.proofs.Common.{◌≡◌, ℕ, ◌+◌, ◌-◌, ◌*◌, ◌<◌, ◌≤◌, ◌==◌, Bool, true, false, cond, not, List, [], ◌∷◌, ◌++◌, length, take, drop, refl, sym, ap, suc, ◌∙◌, arith, subst, Some, None, nat_lt, ⊎_elim}
use Rattle.std.proofs.lemmas.Bool.{ltb-true, ltb-false, cases_Bool}
use Rattle.std.proofs.lemmas.Option.{cond_some, none-some}
use Rattle.std.specs.List.{onto_first, position, position_or_len, before_first, after_first, prefix_len}
use Rattle.hz_base_model.specs.Lines.{lines_of, number_from}

abbrev pub is_line_feed : ℕ → Bool
is_line_feed b = b == 10

-- a text that has a line feed is its first line and the lines after it
pub lines_of_first : (xs : List ℕ) → position_or_len is_line_feed xs < length xs → lines_of xs ≡ before_first is_line_feed xs ∷ lines_of (after_first is_line_feed xs)
lines_of_first [] = λ h. absurd (omega arith)
lines_of_first (b ∷ bs) =
    elim (b == 10) as (λ t. cond (not t) (1 + prefix_len (λ x. not (is_line_feed x)) bs) 0 < length (b ∷ bs) → cond t ([] ∷ lines_of bs) (onto_first b (lines_of bs)) ≡ take (cond (not t) (1 + prefix_len (λ x. not (is_line_feed x)) bs) 0) (b ∷ bs) ∷ lines_of (drop (cond (not t) (1 + prefix_len (λ x. not (is_line_feed x)) bs) 0 + 1) (b ∷ bs))) [
      | true ↦ λ h. refl
      | false ↦ λ h.
          let n : ℕ = prefix_len (λ x. not (is_line_feed x)) bs in
          let one : 1 + n ≡ suc n = omega arith in
          let two : 1 + n + 1 ≡ suc (n + 1) = omega arith in
          rw (two, one) (ap (onto_first b) (lines_of_first bs (omega arith)))
    ]

-- a text with no line feed is one line, unless it is empty
pub lines_of_last : (xs : List ℕ) → 0 < length xs → length xs ≤ position_or_len is_line_feed xs → lines_of xs ≡ xs ∷ []
lines_of_last [] = λ h k. absurd (omega arith)
lines_of_last (b ∷ []) =
    elim (b == 10) as (λ t. 0 < 1 → 1 ≤ cond (not t) (1 + 0) 0 → cond t ([] ∷ []) ((b ∷ []) ∷ []) ≡ (b ∷ []) ∷ []) [ true ↦ λ h k. absurd (omega arith) | false ↦ λ h k. refl ]
lines_of_last (b ∷ c ∷ bs) =
    elim (b == 10) as (λ t. 0 < length (b ∷ c ∷ bs) → length (b ∷ c ∷ bs) ≤ cond (not t) (1 + prefix_len (λ x. not (is_line_feed x)) (c ∷ bs)) 0 → cond t ([] ∷ lines_of (c ∷ bs)) (onto_first b (lines_of (c ∷ bs))) ≡ (b ∷ c ∷ bs) ∷ []) [
      | true ↦ λ h k. absurd (omega arith)
      | false ↦ λ h k. ap (onto_first b) (lines_of_last (c ∷ bs) (omega arith) (omega arith))
    ]

-- one more digit
pub number_from_more : (high : ℕ) (xs : List ℕ) (x : ℕ) → number_from high (xs ++ x ∷ []) ≡ number_from high xs * 10 + (x - 48)
number_from_more high [] x = refl
number_from_more high (y ∷ ys) x = number_from_more (high * 10 + (y - 48)) ys x

-- the same, where the place of the first line feed is known
pub lines_of_at : (xs : List ℕ) (n : ℕ) → position is_line_feed xs ≡ Some n → lines_of xs ≡ take n xs ∷ lines_of (drop (n + 1) xs)
lines_of_at xs n h =
    let found = cond_some (nat_lt (position_or_len is_line_feed xs) (length xs)) _ n h in
    subst (λ (k : ℕ). lines_of xs ≡ take k xs ∷ lines_of (drop (k + 1) xs)) found.1 (lines_of_first xs (ltb-true _ _ found.0))

pub lines_of_none : (xs : List ℕ) → 0 < length xs → position is_line_feed xs ≡ None → lines_of xs ≡ xs ∷ []
lines_of_none xs some h =
    lines_of_last xs some (⊎_elim (λ e. absurd (none-some _ (sym h ∙ ap (λ t. cond t (Some (position_or_len is_line_feed xs)) None) e))) (λ e. ltb-false _ _ e) (cases_Bool (nat_lt (position_or_len is_line_feed xs) (length xs))))
