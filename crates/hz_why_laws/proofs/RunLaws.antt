-- Runs have the numbers, and none goes on with the next.
use Rattle.std.proofs.Common.{◌≡◌, ℕ, suc, ◌+◌, ◌-◌, ◌≤◌, Bool, true, false, cond, List, [], ◌∷◌, ◌++◌, refl, ap, ◌∙◌, arith}
use Rattle.std.specs.Prelude.{⊤, ◌==◌, All}
use Rattle.std.specs.List.{flat_map, range_with_len}
use Rattle.std.proofs.lemmas.Bool.{eqb-true, eqb-false}
use Rattle.std.proofs.lemmas.List.Elements.{All-cons}
use Rattle.hz_why_model.specs.Lists.{Run, before_runs, runs}
use Rattle.hz_why_laws.specs.Grouped.{numbers_of, AreApart}

-- a number as a run
abbrev one : ℕ → Run
one n = record { first = n; last = n }

-- each run ascends
abbrev Ascend : List Run → Type 0
Ascend [] = ⊤
Ascend (r ∷ rs) = (r.first ≤ r.last) × Ascend rs

one_number : (n : ℕ) → numbers_of (one n) ≡ n ∷ []
one_number n = let single : suc n - n ≡ 1 = omega arith in ap (range_with_len n) single

-- a run that begins a number earlier
longer : (n : ℕ) (r : Run) → suc n ≡ r.first → r.first ≤ r.last → numbers_of (record { first = n; last = r.last }) ≡ n ∷ numbers_of r
longer n r next order =
    let count : suc r.last - n ≡ suc (suc r.last - r.first) = omega arith in
    let second : n + 1 ≡ r.first = omega arith in
    ap (range_with_len n) count ∙ ap (λ (m : ℕ). n ∷ range_with_len m (suc r.last - r.first)) second

before_numbers : (n : ℕ) (rs : List Run) → Ascend rs → flat_map numbers_of (before_runs n rs) ≡ n ∷ flat_map numbers_of rs
before_numbers n [] order = ap (λ (ns : List ℕ). ns ++ []) (one_number n)
before_numbers n (r ∷ rs) order = by_test (suc n == r.first) refl
  where
    by_test : (b : Bool) → (suc n == r.first) ≡ b → flat_map numbers_of (cond b (record { first = n; last = r.last } ∷ rs) (one n ∷ r ∷ rs)) ≡ n ∷ flat_map numbers_of (r ∷ rs)
    by_test true is = ap (λ (ns : List ℕ). ns ++ flat_map numbers_of rs) (longer n r (eqb-true (suc n) r.first is) order.0)
    by_test false is = ap (λ (ns : List ℕ). ns ++ flat_map numbers_of (r ∷ rs)) (one_number n)

before_ascend : (n : ℕ) (rs : List Run) → Ascend rs → Ascend (before_runs n rs)
before_ascend n [] order = (omega arith, tt)
before_ascend n (r ∷ rs) order = by_test (suc n == r.first) refl
  where
    by_test : (b : Bool) → (suc n == r.first) ≡ b → Ascend (cond b (record { first = n; last = r.last } ∷ rs) (one n ∷ r ∷ rs))
    by_test true is = let next = eqb-true (suc n) r.first is in let up = order.0 in (omega arith, order.1)
    by_test false is = (omega arith, order)

before_apart : (n : ℕ) (rs : List Run) → AreApart rs → AreApart (before_runs n rs)
before_apart n [] apart = tt
before_apart n (r ∷ rs) apart = by_test (suc n == r.first) refl
  where
    shifted : (qs : List Run) → AreApart (r ∷ qs) → AreApart (record { first = n; last = r.last } ∷ qs)
    shifted [] are = tt
    shifted (q ∷ qs) are = are

    by_test : (b : Bool) → (suc n == r.first) ≡ b → AreApart (cond b (record { first = n; last = r.last } ∷ rs) (one n ∷ r ∷ rs))
    by_test true is = shifted rs apart
    by_test false is = (eqb-false (suc n) r.first is, apart)

ascend : (ns : List ℕ) → Ascend (runs ns)
ascend [] = tt
ascend (n ∷ ns) = before_ascend n (runs ns) (ascend ns)

pub have_numbers : (ns : List ℕ) → flat_map numbers_of (runs ns) ≡ ns
have_numbers [] = refl
have_numbers (n ∷ ns) = before_numbers n (runs ns) (ascend ns) ∙ ap (λ (ms : List ℕ). n ∷ ms) (have_numbers ns)

pub are_apart : (ns : List ℕ) → AreApart (runs ns)
are_apart [] = tt
are_apart (n ∷ ns) = before_apart n (runs ns) (are_apart ns)

each_ascends : (rs : List Run) → Ascend rs → All (λ (r : Run). r.first ≤ r.last) rs
each_ascends [] order = λ k d low. absurd (omega arith)
each_ascends (r ∷ rs) order = All-cons (λ (q : Run). q.first ≤ q.last) r rs order.0 (each_ascends rs order.1)

pub all_ascend : (ns : List ℕ) → All (λ (r : Run). r.first ≤ r.last) (runs ns)
all_ascend ns = each_ascends (runs ns) (ascend ns)
