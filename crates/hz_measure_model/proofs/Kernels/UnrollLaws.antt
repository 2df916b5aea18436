-- Copies of a body in a row: which instruction stands where, and which registers are written between two places.
use Rattle.std.proofs.Common.{◌≡◌, ℕ, zero, suc, ◌+◌, ◌*◌, ◌<◌, ◌≤◌, Bool, true, false, ◌||◌, List, [], ◌∷◌, ◌++◌, length, take, drop, Some, refl, sym, ap, ◌∙◌, arith}
use Rattle.std.specs.Prelude.{slice_get}
use Rattle.std.specs.List.{list_any, repeat}
use Rattle.std.proofs.lemmas.List.{length-append, append_assoc, take-append-le}
use Rattle.hz_block_model.specs.Running.Blocks.{Instruction}
use Rattle.hz_block_model.specs.Dependences.Dependences.{is_written}
use Rattle.hz_block_model.proofs.Dependences.WrittenLaws.{writes, written_here, Writer, written_by}

module _ {X : Type 0} where
  pub length-repeat : (n : ℕ) (xs : List X) → length (repeat n xs) ≡ n * length xs
  length-repeat zero xs = omega arith
  length-repeat (suc n) xs = let more = length-append xs (repeat n xs) in omega (arith, more, length-repeat n xs)

  pub repeat-add : (k n : ℕ) (xs : List X) → repeat (k + n) xs ≡ repeat k xs ++ repeat n xs
  repeat-add zero n xs = let same : 0 + n ≡ n = omega arith in ap (λ (m : ℕ). repeat m xs) same
  repeat-add (suc k) n xs =
      let same : suc k + n ≡ suc (k + n) = omega arith in
      ap (λ (m : ℕ). repeat m xs) same ∙ (ap (λ (ys : List X). xs ++ ys) (repeat-add k n xs) ∙ sym (append_assoc xs (repeat k xs) (repeat n xs)))

  get-past : (xs ys : List X) (i : ℕ) → slice_get (xs ++ ys) (length xs + i) ≡ slice_get ys i
  get-past [] ys i = let same : 0 + i ≡ i = omega arith in ap (slice_get ys) same
  get-past (x ∷ xs) ys i = let same : suc (length xs) + i ≡ suc (length xs + i) = omega arith in ap (slice_get (x ∷ (xs ++ ys))) same ∙ get-past xs ys i

  get-within : (xs ys : List X) (i : ℕ) → i < length xs → slice_get (xs ++ ys) i ≡ slice_get xs i
  get-within [] ys i lt = absurd (omega arith)
  get-within (x ∷ xs) ys zero lt = refl
  get-within (x ∷ xs) ys (suc i) lt = get-within xs ys i (omega arith)

  -- the item at a place of a copy
  pub get-repeat : (n k p : ℕ) (xs : List X) → k < n → p < length xs → slice_get (repeat n xs) (k * length xs + p) ≡ slice_get xs p
  get-repeat zero k p xs lt low = absurd (omega arith)
  get-repeat (suc n) zero p xs lt low = let same : 0 * length xs + p ≡ p = omega arith in ap (slice_get (xs ++ repeat n xs)) same ∙ get-within xs (repeat n xs) p low
  get-repeat (suc n) (suc k) p xs lt low =
      let same : suc k * length xs + p ≡ length xs + (k * length xs + p) = omega arith in
      ap (slice_get (xs ++ repeat n xs)) same ∙ (get-past xs (repeat n xs) (k * length xs + p) ∙ get-repeat n k p xs (omega arith) low)

  cut-past : (xs ys : List X) (i j : ℕ) → drop (length xs + i) (take (length xs + j) (xs ++ ys)) ≡ drop i (take j ys)
  cut-past [] ys i j =
      let first : 0 + i ≡ i = omega arith in
      let second : 0 + j ≡ j = omega arith in
      ap (λ (n : ℕ). drop n (take (0 + j) ys)) first ∙ ap (λ (n : ℕ). drop i (take n ys)) second
  cut-past (x ∷ xs) ys i j =
      let first : suc (length xs) + i ≡ suc (length xs + i) = omega arith in
      let second : suc (length xs) + j ≡ suc (length xs + j) = omega arith in
      ap (λ (n : ℕ). drop n (take (suc (length xs) + j) (x ∷ (xs ++ ys)))) first ∙ (ap (λ (n : ℕ). drop (suc (length xs + i)) (take n (x ∷ (xs ++ ys)))) second ∙ cut-past xs ys i j)

  -- what is cut of copies is cut of fewer, where the first copies stand before it and the last after it
  pub cut-repeat : (k n rest i j : ℕ) (xs : List X) → j ≤ n * length xs → drop (k * length xs + i) (take (k * length xs + j) (repeat (k + (n + rest)) xs)) ≡ drop i (take j (repeat n xs))
  cut-repeat k n rest i j xs le =
      let long : length (repeat k xs) ≡ k * length xs = length-repeat k xs in
      let wide = length-repeat n xs in
      ap (λ (ys : List X). drop (k * length xs + i) (take (k * length xs + j) ys)) (repeat-add k (n + rest) xs)
      ∙ (ap (λ (l : ℕ). drop (l + i) (take (l + j) (repeat k xs ++ repeat (n + rest) xs))) (sym long)
      ∙ (cut-past (repeat k xs) (repeat (n + rest) xs) i j
      ∙ (ap (λ (ys : List X). drop i (take j ys)) (repeat-add n rest xs)
      ∙ ap (drop i) (take-append-le j (repeat n xs) (repeat rest xs) (omega arith)))))

-- ---- what is written between places of copies

module _ (body : List Instruction) where
  pub written-shift : (k n rest i j r : ℕ) → j ≤ n * length body → is_written (repeat (k + (n + rest)) body) (k * length body + i) (k * length body + j) r ≡ is_written (repeat n body) i j r
  written-shift k n rest i j r le = ap (list_any (λ x. writes x r)) (cut-repeat k n rest i j body le)

  -- a copy holds only what the body holds
  in_body : (xs : List Instruction) (m r : ℕ) (x : Instruction) → slice_get xs m ≡ Some x → writes x r ≡ true → list_any (λ y. writes y r) xs ≡ true
  in_body [] m r x at w = absurd (cc)
  in_body (y ∷ xs) zero r x at w =
      let same : y ≡ x = cc in
      ap (λ (z : Instruction). writes z r || list_any (λ i. writes i r) xs) same ∙ ap (λ (b : Bool). b || list_any (λ i. writes i r) xs) w
  in_body (y ∷ xs) (suc m) r x at w = or_true (writes y r) (list_any (λ i. writes i r) xs) (in_body xs m r x at w)
    where
      or_true : (a b : Bool) → b ≡ true → (a || b) ≡ true
      or_true true b e = refl
      or_true false b e = e

  any-append : (f : Instruction → Bool) (xs ys : List Instruction) → list_any f (xs ++ ys) ≡ (list_any f xs || list_any f ys)
  any-append f [] ys = refl
  any-append f (x ∷ xs) ys = go (f x) (any-append f xs ys)
    where
      go : (a : Bool) → list_any f (xs ++ ys) ≡ (list_any f xs || list_any f ys) → (a || list_any f (xs ++ ys)) ≡ ((a || list_any f xs) || list_any f ys)
      go true e = refl
      go false e = e

  any-repeat : (f : Instruction → Bool) (n : ℕ) → list_any f (repeat n body) ≡ true → list_any f body ≡ true
  any-repeat f zero e = absurd (cc)
  any-repeat f (suc n) e = go (list_any f body) (sym (any-append f body (repeat n body)) ∙ e) (any-repeat f n)
    where
      go : (a : Bool) → (a || list_any f (repeat n body)) ≡ true → (list_any f (repeat n body) ≡ true → a ≡ true) → a ≡ true
      go true e more = refl
      go false e more = more e

  -- a register that the body writes is written at a place of it
  place_in : (xs : List Instruction) (r : ℕ) → list_any (λ y. writes y r) xs ≡ true → Writer xs 0 (length xs) r
  place_in xs r e = written_by xs 0 (length xs) r (ap (list_any (λ y. writes y r)) (take_whole xs) ∙ e)
    where
      take_whole : (ys : List Instruction) → take (length ys) ys ≡ ys
      take_whole [] = refl
      take_whole (y ∷ ys) = ap (λ (zs : List Instruction). y ∷ zs) (take_whole ys)

  -- where the second copy stands between two places, what is written between them is what the body writes
  pub written-around : (n i j r : ℕ) → i ≤ length body → 2 * length body ≤ j → j ≤ n * length body → is_written (repeat n body) i j r ≡ list_any (λ x. writes x r) body
  written-around n i j r low high within = go (is_written (repeat n body) i j r) (list_any (λ x. writes x r) body) there back
    where
      there : is_written (repeat n body) i j r ≡ true → list_any (λ x. writes x r) body ≡ true
      there e =
          let w = written_by (repeat n body) i j r e in
          any-repeat (λ x. writes x r) n (in_body (repeat n body) w.place r w.who w.at w.writes_it)

      back : list_any (λ x. writes x r) body ≡ true → is_written (repeat n body) i j r ≡ true
      back e =
          let w = place_in body r e in
          let h = w.high in
          let several : 1 < n = more n within in
          written_here (repeat n body) i j (1 * length body + w.place) r w.who (omega arith) (omega arith) (get-repeat n 1 w.place body several h ∙ w.at) w.writes_it
        where
          more : (count : ℕ) → j ≤ count * length body → 1 < count
          more zero le = let w = place_in body r e in let h = w.high in absurd (omega arith)
          more (suc zero) le = let w = place_in body r e in let h = w.high in absurd (omega arith)
          more (suc (suc count)) le = omega arith

      go : (a b : Bool) → (a ≡ true → b ≡ true) → (b ≡ true → a ≡ true) → a ≡ b
      go true true f g = refl
      go true false f g = sym (f refl)
      go false true f g = g refl
      go false false f g = refl
