-- Dependences and costs between copies of a body: they depend on how far the copies are apart alone, and from two copies on not
-- even on that.
use Rattle.std.proofs.Common.{◌≡◌, ℕ, zero, suc, ◌+◌, ◌*◌, ◌-◌, ◌<◌, ◌≤◌, Bool, true, false, ◌&&◌, ◌||◌, cond, max, List, [], ◌∷◌, length, Some, ⊎_elim, refl, sym, ap, ◌∙◌, subst, arith, rules}
use Rattle.std.specs.Prelude.{slice_get, nat_lt, IsTrue}
use Rattle.std.specs.List.{repeat}
use Rattle.std.proofs.Math.Path.{fun_ext}
use Rattle.std.proofs.lemmas.Bool.{lt-ltb, cases_lt}
use Rattle.hz_block_model.specs.Running.Blocks.{Instruction}
use Rattle.hz_block_model.specs.Dependences.Accesses.{Access, access_of}
use Rattle.hz_block_model.specs.Dependences.Dependences.{is_true, is_anti, is_output, is_written, at_places, depends, Timing, cost}
use Rattle.hz_block_model.proofs.Dependences.UpwardLaws.{upwards}
use Rattle.hz_measure_model.proofs.Kernels.UnrollLaws.{get-repeat, written-shift, written-around}

-- a test of two instructions asks what they are, and what is written between them
module _ (test : (between since : ℕ → Bool) (first second : Access) → Bool) (one other : List Instruction) (i j k l : ℕ) (x y : Instruction)
    (at_i : slice_get one i ≡ Some x) (at_j : slice_get one j ≡ Some y) (at_k : slice_get other k ≡ Some x) (at_l : slice_get other l ≡ Some y)
    (beyond : (r : ℕ) → is_written one (i + 1) j r ≡ is_written other (k + 1) l r) (from : (r : ℕ) → is_written one i j r ≡ is_written other k l r) where
  pub same_test : at_places test one i j (slice_get one i) (slice_get one j) ≡ at_places test other k l (slice_get other k) (slice_get other l)
  same_test =
      (λ t. at_places test one i j (at_i t) (at_j t))
      ∙ ((λ t. test (fun_ext beyond t) (fun_ext from t) (access_of x) (access_of y))
      ∙ sym (λ t. at_places test other k l (at_k t) (at_l t)))

-- two pairs of places at which the same stands, and between which the same is written
pub record Alike (one other : List Instruction) (i j k l : ℕ) : Type 0 where
  pub first : Instruction
  pub second : Instruction
  pub at_i : slice_get one i ≡ Some first
  pub at_j : slice_get one j ≡ Some second
  pub at_k : slice_get other k ≡ Some first
  pub at_l : slice_get other l ≡ Some second
  pub beyond : (r : ℕ) → is_written one (i + 1) j r ≡ is_written other (k + 1) l r
  pub from : (r : ℕ) → is_written one i j r ≡ is_written other k l r
  pub order : nat_lt i j ≡ nat_lt k l

module _ (one other : List Instruction) (i j k l : ℕ) (a : Alike one other i j k l) where
  test_alike : (test : (between since : ℕ → Bool) (first second : Access) → Bool) → at_places test one i j (slice_get one i) (slice_get one j) ≡ at_places test other k l (slice_get other k) (slice_get other l)
  test_alike test = same_test test one other i j k l a.first a.second a.at_i a.at_j a.at_k a.at_l a.beyond a.from

  pub depends_alike : depends one i j ≡ depends other k l
  depends_alike = λ t. (a.order) t && test_alike (λ b s f g. is_true b s f g || is_anti b s f g || is_output b s f g) t

  pub cost_alike : (t u : Timing) → t.number i j ≡ u.number k l → t.latency i ≡ u.latency k → t.latency j ≡ u.latency l → cost one t i j ≡ cost other u k l
  cost_alike t u n p q = λ s. max (cond (test_alike is_true s) (n s) 0) (cond (test_alike is_output s) (p s - q s) 0)

-- the item of a body
pub at_body : (body : List Instruction) (p : ℕ) → p < length body → (x : Instruction) × (slice_get body p ≡ Some x)
at_body body p lt = found body p lt
  where
    found : (xs : List Instruction) (q : ℕ) → q < length xs → (x : Instruction) × (slice_get xs q ≡ Some x)
    found [] q low = absurd (omega arith)
    found (x ∷ xs) zero low = (x, refl)
    found (x ∷ xs) (suc q) low = found xs q (omega arith)

module _ (body : List Instruction) where
  same_order : (i j k l : ℕ) → (i < j) → (k < l) → nat_lt i j ≡ nat_lt k l
  same_order i j k l lt less = lt-ltb i j lt ∙ sym (lt-ltb k l less)

  -- between the same places of other copies
  pub alike_shifted : (k n rest p d q : ℕ) → p < length body → q < length body → d < n → p < d * length body + q
      → Alike (repeat (k + (n + rest)) body) (repeat n body) (k * length body + p) (k * length body + (d * length body + q)) p (d * length body + q)
  alike_shifted k n rest p d q low inside far up =
      let (x, at) = at_body body p low in
      let (y, there) = at_body body q inside in
      let end : d * length body + q ≤ n * length body = below n d far in
      let copies : k * length body + (d * length body + q) ≡ (k + d) * length body + q = omega arith in
      let front : 0 * length body + p ≡ p = omega arith in
      let next : (k * length body + p) + 1 ≡ k * length body + (p + 1) = omega arith in
      record {
        first = x;
        second = y;
        at_i = get-repeat (k + (n + rest)) k p body (omega arith) low ∙ at;
        at_j = ap (slice_get (repeat (k + (n + rest)) body)) copies ∙ (get-repeat (k + (n + rest)) (k + d) q body (omega arith) inside ∙ there);
        at_k = ap (slice_get (repeat n body)) (sym front) ∙ (get-repeat n 0 p body (omega arith) low ∙ at);
        at_l = get-repeat n d q body far inside ∙ there;
        beyond = λ r. ap (λ (i : ℕ). is_written (repeat (k + (n + rest)) body) i (k * length body + (d * length body + q)) r) next ∙ written-shift body k n rest (p + 1) (d * length body + q) r end;
        from = λ r. written-shift body k n rest p (d * length body + q) r end;
        order = same_order (k * length body + p) (k * length body + (d * length body + q)) p (d * length body + q) (omega arith) up;
      }
    where
      below : (n d : ℕ) → d < n → d * length body + q ≤ n * length body
      below zero d lt = absurd (omega arith)
      below (suc n) zero lt = omega arith
      below (suc n) (suc d) lt = let h = below n d (omega arith) in omega arith

  -- from two copies on
  pub alike_far : (n p d q : ℕ) → p < length body → q < length body → 2 ≤ d → d < n
      → Alike (repeat n body) (repeat 3 body) p (d * length body + q) p (2 * length body + q)
  alike_far n p d q low inside far within =
      let (x, at) = at_body body p low in
      let (y, there) = at_body body q inside in
      let front : 0 * length body + p ≡ p = omega arith in
      let many : 2 * length body ≤ d * length body = least 2 d far in
      let end : d * length body + q ≤ n * length body = let h = least (suc d) n (omega arith) in omega arith in
      record {
        first = x;
        second = y;
        at_i = ap (slice_get (repeat n body)) (sym front) ∙ (get-repeat n 0 p body (omega arith) low ∙ at);
        at_j = get-repeat n d q body within inside ∙ there;
        at_k = ap (slice_get (repeat 3 body)) (sym front) ∙ (get-repeat 3 0 p body (omega arith) low ∙ at);
        at_l = get-repeat 3 2 q body (omega arith) inside ∙ there;
        beyond = λ r. written-around body n (p + 1) (d * length body + q) r (omega arith) (omega arith) end
            ∙ sym (written-around body 3 (p + 1) (2 * length body + q) r (omega arith) (omega arith) (omega arith));
        from = λ r. written-around body n p (d * length body + q) r (omega arith) (omega arith) end
            ∙ sym (written-around body 3 p (2 * length body + q) r (omega arith) (omega arith) (omega arith));
        order = same_order p (d * length body + q) p (2 * length body + q) (omega arith) (omega arith);
      }
    where
      least : (a b : ℕ) → a ≤ b → a * length body ≤ b * length body
      least zero b le = omega arith
      least (suc a) zero le = absurd (omega arith)
      least (suc a) (suc b) le = let h = least a b (omega arith) in omega arith

-- What latencies and bypasses say of an instruction is said of each of its copies.
pub record IsOfCopies (size count : ℕ) (t u : Timing) : Type 0 where
  pub latency : (k p : ℕ) → k < count → p < size → u.latency (k * size + p) ≡ t.latency p
  pub number : (k l p q : ℕ) → k < count → l < count → p < size → q < size → u.number (k * size + p) (l * size + q) ≡ t.number p q

-- ---- three copies are enough

-- Each dependence of so many copies of a body is kept, where `at` tells which places of the body are issued at which cycles, and each
-- copy is issued this interval after the one before it.
abbrev pub CopiesKeep : (body : List Instruction) (t : Timing) (interval : ℕ) (at : ℕ → ℕ → Type 0) (count : ℕ) → Type 0
CopiesKeep body t interval at count =
    (k p a l q b : ℕ) → k < count → l < count → p < length body → q < length body → at p a → at q b
    → depends (repeat count body) (k * length body + p) (l * length body + q) ≡ true
    → (k * interval + a) + cost (repeat count body) t (k * length body + p) (l * length body + q) ≤ l * interval + b

-- a product grows with its first factor
pub more_copies : (a b size : ℕ) → a ≤ b → a * size ≤ b * size
more_copies zero b size le = omega arith
more_copies (suc a) zero size le = absurd (omega arith)
more_copies (suc a) (suc b) size le = let h = more_copies a b size (omega arith) in omega arith

-- a later place stands in a copy that is not earlier
pub earlier_copy : (k l p q size : ℕ) → q < size → k * size + p < l * size + q → k ≤ l
earlier_copy k l p q size low lt = ⊎_elim
    (λ (less : l < k). let h = more_copies (suc l) k size (omega arith) in absurd (omega arith))
    (λ (le : k ≤ l). le)
    (cases_lt l k)

module _ (body : List Instruction) (t three u : Timing) where
  -- A pair of places of any copies, `d` copies apart, and a pair of places of three copies that is like it and no farther apart.
  pub record Near (n k p d q : ℕ) : Type 0 where
    pub far : ℕ
    pub few : far < 3
    pub no_more : far ≤ d
    pub depending : depends (repeat n body) (k * length body + p) (k * length body + (d * length body + q)) ≡ depends (repeat 3 body) (0 * length body + p) (far * length body + q)
    pub costing : cost (repeat n body) u (k * length body + p) (k * length body + (d * length body + q)) ≡ cost (repeat 3 body) three (0 * length body + p) (far * length body + q)

  -- the timing of the copies from this one on
  abbrev later : ℕ → Timing
  later k = record { latency = λ i. u.latency (k * length body + i); number = λ i j. u.number (k * length body + i) (k * length body + j) }

  module _ (k rest d : ℕ) (of_three : IsOfCopies (length body) 3 t three) (of_all : IsOfCopies (length body) (k + (suc d + rest)) t u) (p q : ℕ) (low : p < length body) (inside : q < length body) (up : p < d * length body + q) where
    n : ℕ
    n = k + (suc d + rest)

    first_latency : (far : ℕ) → far < 3 → u.latency (k * length body + p) ≡ three.latency (0 * length body + p)
    first_latency far few = of_all.latency k p (omega arith) low ∙ sym (of_three.latency 0 p (omega arith) low)

    copies : k * length body + (d * length body + q) ≡ (k + d) * length body + q
    copies = omega arith

    second_latency : (far : ℕ) → far < 3 → u.latency (k * length body + (d * length body + q)) ≡ three.latency (far * length body + q)
    second_latency far few = ap (u.latency) copies ∙ (of_all.latency (k + d) q (omega arith) inside ∙ sym (of_three.latency far q few inside))

    numbers : (far : ℕ) → far < 3 → u.number (k * length body + p) (k * length body + (d * length body + q)) ≡ three.number (0 * length body + p) (far * length body + q)
    numbers far few = ap (u.number (k * length body + p)) copies ∙ (of_all.number k (k + d) p q (omega arith) (omega arith) low inside ∙ sym (of_three.number 0 far p q (omega arith) few low inside))

    shifted : Alike (repeat (k + (suc d + rest)) body) (repeat (suc d) body) (k * length body + p) (k * length body + (d * length body + q)) p (d * length body + q)
    shifted = alike_shifted body k (suc d) rest p d q low inside (omega arith) up

    front : 0 * length body + p ≡ p
    front = omega arith

    -- as far apart in three copies
    near_here : (others : ℕ) → suc d + others ≡ 3 → Near (k + (suc d + rest)) k p d q
    near_here others three_copies =
        let back = alike_shifted body 0 (suc d) others p d q low inside (omega arith) up in
        let same_front : 0 * length body + (d * length body + q) ≡ d * length body + q = omega arith in
        let whole : 0 + (suc d + others) ≡ 3 = omega (arith, three_copies) in
        let few : d < 3 = omega (arith, three_copies) in
        record {
          far = d;
          few = few;
          no_more = omega arith;
          depending = depends_alike _ _ _ _ _ _ shifted
              ∙ (sym (depends_alike _ _ _ _ _ _ back)
              ∙ (λ s. depends (repeat (whole s) body) (0 * length body + p) (same_front s)));
          costing = cost_alike _ _ _ _ _ _ shifted u (later k) refl refl refl
              ∙ (sym (cost_alike _ _ _ _ _ _ back three (later k)
              (ap (three.number (0 * length body + p)) same_front ∙ sym (numbers d few))
              (sym (first_latency d few))
              (ap (three.latency) same_front ∙ sym (second_latency d few)))
              ∙ (λ s. cost (repeat (whole s) body) three (0 * length body + p) (same_front s)));
        }

    -- farther apart
    near_far : 2 ≤ d → Near (k + (suc d + rest)) k p d q
    near_far farther =
        let there = alike_far body (suc d) p d q low inside farther (omega arith) in
        record {
          far = 2;
          few = omega arith;
          no_more = farther;
          depending = depends_alike _ _ _ _ _ _ shifted
              ∙ (depends_alike _ _ _ _ _ _ there
              ∙ (λ s. depends (repeat 3 body) (sym front s) (2 * length body + q)));
          costing = cost_alike _ _ _ _ _ _ shifted u (later k) refl refl refl
              ∙ (cost_alike _ _ _ _ _ _ there (later k) three (numbers 2 (omega arith) ∙ ap (λ (i : ℕ). three.number i (2 * length body + q)) front) (first_latency 2 (omega arith) ∙ ap (three.latency) front) (second_latency 2 (omega arith))
              ∙ (λ s. cost (repeat 3 body) three (sym front s) (2 * length body + q)));
        }

    pub near : Near (k + (suc d + rest)) k p d q
    near = ⊎_elim
        (λ (close : d < 2). near_here (2 - d) (omega arith))
        (λ (farther : 2 ≤ d). near_far farther)
        (cases_lt d 2)

tested : (b : Bool) → b ≡ true → IsTrue b
tested true e = search rules
tested false e = absurd (cc)

-- the costs that three copies keep are kept by any number of them
pub three_are_enough : (body : List Instruction) (t three u : Timing) (interval : ℕ) (at : ℕ → ℕ → Type 0) (n : ℕ) → IsOfCopies (length body) 3 t three → IsOfCopies (length body) n t u
    → CopiesKeep body three interval at 3 → CopiesKeep body u interval at n
three_are_enough body t three u interval at n of_three of_all keeps k p a l q b k_low l_low low inside is there depending =
    go (l - k) (n - suc l) (omega (arith, order)) (omega (arith, order))
  where
    up : k * length body + p < l * length body + q
    up = less (k * length body + p) (l * length body + q) depending
      where
        less : (i j : ℕ) → depends (repeat n body) i j ≡ true → i < j
        less i j e = (upwards (repeat n body) i j (tested (depends (repeat n body) i j) e)).0

    order : k ≤ l
    order = earlier_copy k l p q (length body) inside up

    go : (d rest : ℕ) → l ≡ k + d → n ≡ k + (suc d + rest) → (k * interval + a) + cost (repeat n body) u (k * length body + p) (l * length body + q) ≤ l * interval + b
    go d rest apart all =
        let places : l * length body + q ≡ k * length body + (d * length body + q) = ap (λ (m : ℕ). m * length body + q) apart ∙ (let same : (k + d) * length body + q ≡ k * length body + (d * length body + q) = omega arith in same) in
        let v = near body t three u k rest d of_three (subst (λ (m : ℕ). IsOfCopies (length body) m t u) all of_all) p q low inside (omega (arith, up, places)) in
        let h = keeps 0 p a v.far q b (omega arith) v.few low inside is there
        (sym v.depending ∙ ((λ s. depends (repeat (sym all s) body) (k * length body + p) (sym places s)) ∙ depending)) in
        let same : cost (repeat n body) u (k * length body + p) (l * length body + q) ≡ cost (repeat 3 body) three (0 * length body + p) (v.far * length body + q) =
        (λ s. cost (repeat (all s) body) u (k * length body + p) (places s)) ∙ v.costing in
        let more = more_copies v.far d interval v.no_more in
        let ends : l * interval ≡ k * interval + d * interval = ap (λ (m : ℕ). m * interval) apart ∙ (let dist : (k + d) * interval ≡ k * interval + d * interval = omega arith in dist) in
        omega (arith, h, same, more, ends)
