-- Repeats as sequences, and how many alternatives expressions have.
use Rattle.std.proofs.Common.{◌≡◌, ℕ, zero, suc, ◌+◌, ◌*◌, ◌^◌, ◌<◌, List, [], ◌∷◌, map, length, get_or, refl, sym, ap, ◌∙◌, arith, max, add-zero, length-append, inl, inr}
use Rattle.std.specs.Prelude.{IsTrue, ◌&&◌}
use Rattle.std.proofs.lemmas.Bool.{and_parts}
use Rattle.std.proofs.lemmas.List.{append-nil, length-map, get_or-map, get_or_append_left, get_or-append-add}
use Rattle.hz_description_model.specs.Reservations.Alternatives.{Alternative, Expression, named, nothing, sequence, one_of, all_of, repeat, Parts, none, more, alternatives_of, in_sequence, any_of, together, each_choice, followed_by, beside, copies, empty}
use Rattle.std.proofs.Math.Nat.{pow-succ', pow-zero, mul-pos}
use Rattle.hz_description_model.specs.Reservations.Meanings.{Mentions, MentionsIn}
use Rattle.hz_description_model.specs.Reservations.Expressions.{are_several, is_expression, are_expressions, repeated, product_of_counts, sum_of_counts}

pub length-each_choice : {A : Type 0} (join : A → A → A) (xs ys : List A) → length (each_choice join xs ys) ≡ length xs * length ys
length-each_choice join [] ys = omega arith
length-each_choice join (x ∷ xs) ys = omega (arith, length-append (map (join x) ys) (each_choice join xs ys), length-map ys (join x), length-each_choice join xs ys)

-- the choice of item i and item j comes after those of all items before i, and of all before j with i
pub ordered_choices : {A : Type 0} (join : A → A → A) (xs ys : List A) (i j : ℕ) (d : A) → i < length xs → j < length ys → get_or (each_choice join xs ys) (i * length ys + j) d ≡ join (get_or xs i d) (get_or ys j d)
ordered_choices join [] ys i j d h k = absurd (omega arith)
ordered_choices join (x ∷ xs) ys zero j d h k =
    let long = length-map ys (join x) in
    let at : 0 * length ys + j ≡ j = omega arith in
    rw at (get_or_append_left (map (join x) ys) (each_choice join xs ys) d j (omega arith) ∙ get_or-map (join x) ys j d d k)
ordered_choices join (x ∷ xs) ys (suc i) j d h k =
    let at : suc i * length ys + j ≡ length (map (join x) ys) + (i * length ys + j) = omega (arith, length-map ys (join x)) in
    rw at (get_or-append-add (map (join x) ys) (each_choice join xs ys) (i * length ys + j) d ∙ ordered_choices join xs ys i j d (omega arith) k)

pub positive_product : (a b : ℕ) → 0 < a → 0 < b → 0 < a * b
positive_product a b h k = mul-pos h k

module _ {U : Type 0} where
  pub count_copies : (n : ℕ) (xs : List (Alternative U)) → length (copies n xs) ≡ length xs ^ n
  count_copies zero xs = sym (pow-zero (length xs))
  count_copies (suc n) xs = length-each_choice followed_by xs (copies n xs) ∙ (ap (λ (k : ℕ). length xs * k) (count_copies n xs) ∙ sym (pow-succ' (length xs) n))

  -- an alternative followed by nothing, or beside nothing
  pub one_followed : (xs : List (Alternative U)) → each_choice followed_by xs (empty ∷ []) ≡ xs
  one_followed [] = refl
  one_followed (x ∷ xs) = rw (append-nil x.pairs, add-zero x.cycles, one_followed xs) refl

  pub one_beside : (xs : List (Alternative U)) → each_choice beside xs (empty ∷ []) ≡ xs
  one_beside [] = refl
  one_beside (x ∷ xs) = let most : max x.cycles 0 ≡ x.cycles = omega arith in rw (append-nil x.pairs, most, one_beside xs) refl

module _ {U : Type 0} (known : List ℕ → List (Alternative U)) where
  -- a repeat is the sequence of its copies
  copies_in_sequence : (part : Expression) (n : ℕ) → copies n (alternatives_of known part) ≡ in_sequence known (repeated n part)
  copies_in_sequence part zero = refl
  copies_in_sequence part (suc n) = ap (each_choice followed_by (alternatives_of known part)) (copies_in_sequence part n)

  pub repeat_as_sequence : (part : Expression) (n : ℕ) → alternatives_of known (repeat part n) ≡ alternatives_of known (sequence (repeated n part))
  repeat_as_sequence part n = copies_in_sequence part n

  pub count_sequence : (parts : Parts) → length (in_sequence known parts) ≡ product_of_counts known parts
  count_sequence none = refl
  count_sequence (more first others) = length-each_choice followed_by (alternatives_of known first) (in_sequence known others) ∙ ap (λ (n : ℕ). length (alternatives_of known first) * n) (count_sequence others)

  pub count_together : (parts : Parts) → length (together known parts) ≡ product_of_counts known parts
  count_together none = refl
  count_together (more first others) = length-each_choice beside (alternatives_of known first) (together known others) ∙ ap (λ (n : ℕ). length (alternatives_of known first) * n) (count_together others)

  pub count_any : (parts : Parts) → length (any_of known parts) ≡ sum_of_counts known parts
  count_any none = refl
  count_any (more first others) = omega (arith, length-append (alternatives_of known first) (any_of known others), count_any others)

  pub count_repeat : (part : Expression) (n : ℕ) → length (copies n (alternatives_of known part)) ≡ length (alternatives_of known part) ^ n
  count_repeat part n = count_copies n (alternatives_of known part)

  -- the names in an expression have alternatives
  abbrev HaveSome : (List ℕ → Type 0) → Type 0
  HaveSome names = (name : List ℕ) → names name → 0 < length (known name)

  pub some_copies : (n : ℕ) (xs : List (Alternative U)) → 0 < length xs → 0 < length (copies n xs)
  some_copies zero xs h = omega arith
  some_copies (suc n) xs h =
      let product = positive_product _ _ h (some_copies n xs h) in
      omega (arith, length-each_choice followed_by xs (copies n xs))

  mutual
    pub some_alternatives : (e : Expression) → IsTrue (is_expression e) → HaveSome (Mentions e) → 0 < length (alternatives_of known e)
    some_alternatives (named name) is have = have name refl
    some_alternatives nothing is have = omega arith
    some_alternatives (sequence parts) is have = some_sequence parts (and_parts _ _ is).1 have
    some_alternatives (one_of none) is have = absurd (cc)
    some_alternatives (one_of (more first others)) is have =
        let here : 0 < length (alternatives_of known first) = some_alternatives first (and_parts (is_expression first) (are_expressions others) (and_parts (are_several (more first others)) (is_expression first && are_expressions others) is).1).0 (λ name h. have name (inl h)) in
        omega (arith, length-append (alternatives_of known first) (any_of known others))
    some_alternatives (all_of parts) is have = some_together parts (and_parts _ _ is).1 have
    some_alternatives (repeat part times) is have = some_copies times (alternatives_of known part) (some_alternatives part (and_parts _ _ (and_parts _ _ is).0).0 have)

    pub some_sequence : (parts : Parts) → IsTrue (are_expressions parts) → HaveSome (MentionsIn parts) → 0 < length (in_sequence known parts)
    some_sequence none is have = omega arith
    some_sequence (more first others) is have =
        let each = and_parts _ _ is in
        let product = positive_product _ _ (some_alternatives first each.0 (λ name h. have name (inl h))) (some_sequence others each.1 (λ name h. have name (inr h))) in
        omega (arith, length-each_choice followed_by (alternatives_of known first) (in_sequence known others))

    pub some_together : (parts : Parts) → IsTrue (are_expressions parts) → HaveSome (MentionsIn parts) → 0 < length (together known parts)
    some_together none is have = omega arith
    some_together (more first others) is have =
        let each = and_parts _ _ is in
        let product = positive_product _ _ (some_alternatives first each.0 (λ name h. have name (inl h))) (some_together others each.1 (λ name h. have name (inr h))) in
        omega (arith, length-each_choice beside (alternatives_of known first) (together known others))

  pub one_in_sequence : (part : Expression) → alternatives_of known (sequence (more part none)) ≡ alternatives_of known part
  one_in_sequence part = one_followed (alternatives_of known part)

  pub one_together : (part : Expression) → alternatives_of known (all_of (more part none)) ≡ alternatives_of known part
  one_together part = one_beside (alternatives_of known part)

  pub one_of_one : (part : Expression) → alternatives_of known (one_of (more part none)) ≡ alternatives_of known part
  one_of_one part = append-nil (alternatives_of known part)
