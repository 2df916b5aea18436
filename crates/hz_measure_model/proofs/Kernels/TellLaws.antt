-- Whether an interval repeats can be reported.
use Rattle.std.proofs.Common.{◌≡◌, ℕ, zero, suc, ◌+◌, ◌<◌, ◌≤◌, Bool, true, false, inl, inr, ⊎_elim, List, [], ◌∷◌, length, Contains, Option, Some, None, refl, sym, ap, ◌∙◌, subst, arith}
use Rattle.std.specs.Prelude.{◌⊎◌}
use Rattle.std.specs.List.{repeat}
use Rattle.std.proofs.lemmas.Bool.{cases_eq, cases_lt}
use Rattle.hz_block_model.specs.Running.Blocks.{Instruction}
use Rattle.hz_block_model.specs.Dependences.Dependences.{depends, Timing, cost}
use Rattle.hz_pipeline_model.specs.Tables.Machines.{Machine, machine_walk, IsWalked}
use Rattle.hz_block_model.specs.Scheduling.Schedules.{Graph, Slot, spell}
use Rattle.hz_pipeline_model.proofs.Decidable.DecidedLaws.{IsDecided, low_reported, less_reported, same_reported, each_reported}
use Rattle.hz_measure_model.specs.Kernels.Turns.{repeated, turns, start, stages}
use Rattle.hz_measure_model.specs.Kernels.Repeats.{KeepsCosts, stage_limit, repeat_limit, Repeats}

-- ---- what can be reported

both_reported : {A B : Type 0} → IsDecided A → IsDecided B → IsDecided (A × B)
both_reported {A} {B} one other = ⊎_elim
    (λ (a : A). ⊎_elim (λ (b : B). inl (a, b)) (λ (no : B → ⊥). inr (λ p. no p.1)) other)
    (λ (no : A → ⊥). inr (λ p. no p.0))
    one

from_reported : {A B : Type 0} → IsDecided A → IsDecided B → IsDecided (A → B)
from_reported {A} {B} one other = ⊎_elim
    (λ (a : A). ⊎_elim (λ (b : B). inl (λ _. b)) (λ (no : B → ⊥). inr (λ f. no (f a))) other)
    (λ (no : A → ⊥). inl (λ a. absurd (no a)))
    one

none_reported : {A : Type 0} → IsDecided A → IsDecided (A → ⊥)
none_reported {A} reported = ⊎_elim (λ (a : A). inr (λ no. no a)) (λ (no : A → ⊥). inl no) reported

by_reported : {A B : Type 0} → (A → B) → (B → A) → IsDecided A → IsDecided B
by_reported {A} {B} there back reported = ⊎_elim (λ (a : A). inl (there a)) (λ (no : A → ⊥). inr (λ b. no (back b))) reported

true_reported : (b : Bool) → IsDecided (b ≡ true)
true_reported true = inl refl
true_reported false = inr (λ e. cc)

list_reported : (xs ys : List ℕ) → IsDecided (xs ≡ ys)
list_reported [] [] = inl refl
list_reported [] (y ∷ ys) = inr (λ e. cc)
list_reported (x ∷ xs) [] = inr (λ e. cc)
list_reported (x ∷ xs) (y ∷ ys) = by_reported (λ (p : (x ≡ y) × (xs ≡ ys)). λ i. p.0 i ∷ p.1 i) (λ e. (cc, cc)) (both_reported (same_reported x y) (list_reported xs ys))

states_reported : (one other : Option (List ℕ)) → IsDecided (one ≡ other)
states_reported None None = inl refl
states_reported None (Some ys) = inr (λ e. cc)
states_reported (Some xs) None = inr (λ e. cc)
states_reported (Some xs) (Some ys) = by_reported (λ (e : xs ≡ ys). ap Some e) (λ e. cc) (list_reported xs ys)

-- A number below a bound of which it holds, and of none below it.
pub record IsLeast (P : ℕ → Type 0) (n : ℕ) : Type 0 where
  pub number : ℕ
  pub within : number < n
  pub holds : P number
  pub least : (k : ℕ) → k < number → P k → ⊥

module _ (P : ℕ → Type 0) (reported : (k : ℕ) → IsDecided (P k)) where
  -- of each number below a bound
  pub below_reported : (n : ℕ) → IsDecided ((k : ℕ) → k < n → P k)
  below_reported zero = inl (λ k lt. absurd (omega arith))
  below_reported (suc n) = by_reported
      (λ (p : ((k : ℕ) → k < n → P k) × P n). λ k lt. ⊎_elim (λ (e : k ≡ n). subst P (sym e) p.1) (λ (ne : k ≡ n → ⊥). p.0 k (less k lt ne)) (cases_eq k n))
      (λ all. ((λ k lt. all k (omega arith)), all n (omega arith)))
      (both_reported (below_reported n) (reported n))
    where
      less : (k : ℕ) → k < suc n → (k ≡ n → ⊥) → k < n
      less k lt ne = ⊎_elim (λ (l : k < n). l) (λ (ge : n ≤ k). absurd (ne (omega arith))) (cases_lt k n)

  -- the least number below a bound, or none
  pub least_reported : (n : ℕ) → IsLeast P n ⊎ ((k : ℕ) → k < n → P k → ⊥)
  least_reported zero = inr (λ k lt h. omega arith)
  least_reported (suc n) = ⊎_elim
      (λ (found : IsLeast P n). inl (record { number = found.number; within = let w = found.within in omega arith; holds = found.holds; least = found.least }))
      (λ (none : (k : ℕ) → k < n → P k → ⊥). ⊎_elim
      (λ (h : P n). inl (record { number = n; within = omega arith; holds = h; least = none }))
      (λ (no : P n → ⊥). inr (λ k lt h. ⊎_elim (λ (e : k ≡ n). no (subst P e h)) (λ (ne : k ≡ n → ⊥). none k (less k lt ne) h) (cases_eq k n)))
      (reported n))
      (least_reported n)
    where
      less : (k : ℕ) → k < suc n → (k ≡ n → ⊥) → k < n
      less k lt ne = ⊎_elim (λ (l : k < n). l) (λ (ge : n ≤ k). absurd (ne (omega arith))) (cases_lt k n)

  pub some_below_reported : (n : ℕ) → IsDecided ((k : ℕ) × (k < n) × P k)
  some_below_reported n = ⊎_elim
      (λ (found : IsLeast P n). inl (found.number, found.within, found.holds))
      (λ (none : (k : ℕ) → k < n → P k → ⊥). inr (λ s. none s.0 s.1 s.2))
      (least_reported n)

-- ---- an interval

module _ (m : Machine) (body : List Instruction) (t : Timing) (g : Graph) (slots : List Slot) (interval : ℕ) where
  abbrev edge_at : ℕ → Option (List ℕ)
  edge_at turn = machine_walk m (start (length body) interval slots g turn)

  abbrev three : List Slot
  three = turns (length body) interval slots 3

  kept_reported : (x y : Slot) → IsDecided (depends (repeat 3 body) x.place y.place ≡ true → x.cycle + cost (repeat 3 body) t x.place y.place ≤ y.cycle)
  kept_reported x y = from_reported (true_reported (depends (repeat 3 body) x.place y.place)) (low_reported (x.cycle + cost (repeat 3 body) t x.place y.place) y.cycle)

  costs_reported : IsDecided (KeepsCosts body t interval slots 3)
  costs_reported = by_reported
      (λ (h : (x : Slot) → Contains three x → (y : Slot) → Contains three y → depends (repeat 3 body) x.place y.place ≡ true → x.cycle + cost (repeat 3 body) t x.place y.place ≤ y.cycle). λ x y c e. h x c y e)
      (λ h. λ x c y e. h x y c e)
      (each_reported (λ x. (y : Slot) → Contains three y → depends (repeat 3 body) x.place y.place ≡ true → x.cycle + cost (repeat 3 body) t x.place y.place ≤ y.cycle)
      (λ x. each_reported (λ y. depends (repeat 3 body) x.place y.place ≡ true → x.cycle + cost (repeat 3 body) t x.place y.place ≤ y.cycle) (λ y. kept_reported x y) three) three)

  -- two starts below a bound are different
  abbrev Differ : ℕ → Type 0
  Differ second = (b : ℕ) → b < second → (a : ℕ) → a < b → stages interval slots ≤ a → edge_at a ≡ edge_at b → ⊥

  differ_reported : (second : ℕ) → IsDecided (Differ second)
  differ_reported second = below_reported (λ b. (a : ℕ) → a < b → stages interval slots ≤ a → edge_at a ≡ edge_at b → ⊥)
      (λ b. below_reported (λ a. stages interval slots ≤ a → edge_at a ≡ edge_at b → ⊥)
      (λ a. from_reported (low_reported (stages interval slots) a) (none_reported (states_reported (edge_at a) (edge_at b)))) b) second

  abbrev EachWalked : ℕ → Type 0
  EachWalked second = (count : ℕ) → count < suc second → IsWalked m (spell (repeated g count) (turns (length body) interval slots count))

  each_walked_reported : (second : ℕ) → IsDecided (EachWalked second)
  each_walked_reported second = below_reported (λ count. IsWalked m (spell (repeated g count) (turns (length body) interval slots count))) (λ count. true_reported _) (suc second)

  abbrev Parts : ℕ → ℕ → Type 0
  Parts first second =
      ((stages interval slots ≤ stage_limit) × KeepsCosts body t interval slots 3)
      × (((stages interval slots ≤ first) × (first < second)) × ((second ≤ stages interval slots + repeat_limit)
      × ((IsWalked m (start (length body) interval slots g first) × (edge_at first ≡ edge_at second))
      × (Differ second × EachWalked second))))

  pub repeats_reported : (first second : ℕ) → IsDecided (Repeats m body t g slots interval first second)
  repeats_reported first second = by_reported
      (λ (p : Parts first second). record {
        few = p.0.0;
        costs = p.0.1;
        settled = p.1.0.0;
        before = p.1.0.1;
        soon = p.1.1.0;
        walked = p.1.1.1.0.0;
        same = p.1.1.1.0.1;
        different = λ a b low lt high e. p.1.1.1.1.0 b high a lt low e;
        each = λ count le. p.1.1.1.1.1 count (omega arith);
      })
      (λ r. (
        (r.few, r.costs),
        ((r.settled, r.before), (r.soon, ((r.walked, r.same), ((λ b high a lt low e. r.different a b low lt high e), (λ count lt. r.each count (omega arith)))))),
      ))
      (both_reported (both_reported (low_reported _ _) costs_reported) (both_reported (both_reported (low_reported _ _) (less_reported _ _)) (both_reported (low_reported _ _)
      (both_reported (both_reported (true_reported _) (states_reported _ _)) (both_reported (differ_reported second) (each_walked_reported second))))))

  -- some two starts are the first that are the same
  abbrev pub RepeatsSoon : Type 0
  RepeatsSoon = (second : ℕ) × (second < suc (stages interval slots + repeat_limit)) × ((first : ℕ) × (first < second) × Repeats m body t g slots interval first second)

  pub soon_reported : IsDecided RepeatsSoon
  soon_reported = some_below_reported (λ second. (first : ℕ) × (first < second) × Repeats m body t g slots interval first second)
      (λ second. some_below_reported (λ first. Repeats m body t g slots interval first second) (λ first. repeats_reported first second) second)
      (suc (stages interval slots + repeat_limit))

  pub soon_from : (first second : ℕ) → Repeats m body t g slots interval first second → RepeatsSoon
  soon_from first second r = (second, let h = r.soon in omega arith, (first, r.before, r))

  -- the two starts are one pair
  pub one_pair : (a b c d : ℕ) → Repeats m body t g slots interval a b → Repeats m body t g slots interval c d → (a ≡ c) × (b ≡ d)
  one_pair a b c d one other = ⊎_elim
      (λ (lt : b < d). absurd (other.different a b one.settled one.before lt one.same))
      (λ (ge : d ≤ b). ⊎_elim
      (λ (lt : d < b). absurd (one.different c d other.settled other.before lt other.same))
      (λ (le : b ≤ d). let same : b ≡ d = omega arith in (firsts same, same))
      (cases_lt d b))
      (cases_lt b d)
    where
      firsts : b ≡ d → a ≡ c
      firsts e =
          let ends : edge_at a ≡ edge_at c = one.same ∙ (ap edge_at e ∙ sym other.same) in
          let before = one.before in
          let after = other.before in
          ⊎_elim
          (λ (lt : a < c). absurd (one.different a c one.settled lt (omega (arith, e)) ends))
          (λ (ge : c ≤ a). ⊎_elim
          (λ (lt : c < a). absurd (one.different c a other.settled lt before (sym ends)))
          (λ (le : a ≤ c). omega arith)
          (cases_lt c a))
          (cases_lt a c)
