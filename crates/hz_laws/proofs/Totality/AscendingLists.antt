-- Of every list there is one of the same items that ascends, each item once: of grids, and of numbers below a bound.
use Rattle.std.proofs.Common.{Ordering, ◌≡◌, ◌⊎◌, inl, inr, ⊎_elim, ℕ, zero, suc, ◌+◌, ◌<◌, ◌≤◌, List, [], ◌∷◌, ◌++◌, get_or, Contains, refl, sym, ap, ◌∙◌, subst, arith}
use Rattle.std.specs.List.{AllPairs}
use Rattle.std.specs.List.Sorted.{IsSorted}
use Rattle.std.specs.Ordering.{is_lt, ordering_reverse}
use Rattle.std.specs.declared.cmp.Ordering.TheVariants.{Less, Equal, Greater}
use Rattle.std.proofs.lemmas.Bool.{cases_lt}
use Rattle.std.proofs.lemmas.List.Elements.{All-contains, Contains-get_or, Contains-append_left, Contains-append_right, Contains-append_cases}
use Rattle.std.proofs.lemmas.List.Kept.{AllPairs-cons}
use Rattle.hz_base_model.specs.Pairs.{Pair, grid_cmp}
use Rattle.hz_base_model.proofs.Ascending.{AllPairs-head, AllPairs-tail, AllPairs-append}
use Rattle.hz_base_model.proofs.Elements.{Contains-nil, Contains-head, Contains-tail, Contains-cons_cases}
use Rattle.hz_pipeline_model.proofs.Decidable.DecidedLaws.{IsDecided}
use Rattle.hz_base_model.proofs.PairOrder.{grid_total, grid_exact}

-- The items of the one list and one more, in ascending order.
record IsWith {X : Type 0} (R : X → X → Type 0) (x : X) (ys zs : List X) : Type 0 where
  up : AllPairs R zs
  there : Contains zs x
  all : (y : X) → Contains ys y → Contains zs y
  only : (z : X) → Contains zs z → (x ≡ z) ⊎ Contains ys z

-- The same items, in ascending order.
pub record IsListed {X : Type 0} (R : X → X → Type 0) (xs ys : List X) : Type 0 where
  pub up : AllPairs R ys
  pub all : (x : X) → Contains xs x → Contains ys x
  pub only : (x : X) → Contains ys x → Contains xs x

none_ascends : {X : Type 0} (R : X → X → Type 0) → AllPairs R []
none_ascends R i j d less low = absurd (omega (arith, low))

module _ {X : Type 0} (R : X → X → Type 0) (order : (x y : X) → R x y ⊎ ((x ≡ y) ⊎ R y x)) (chain : (x y z : X) → R x y → R y z → R x z) where
  with_item : (x : X) (ys : List X) → AllPairs R ys → (zs : List X) × IsWith R x ys zs
  with_item x [] up = (
    x ∷ [],
    record {
      up = AllPairs-cons R x [] (λ k d low. absurd (omega (arith, low))) (none_ascends R);
      there = Contains-head x [];
      all = λ y h. absurd (Contains-nil y h);
      only = λ z h. Contains-cons_cases x z [] h;
    },
  )
  with_item x (y ∷ ys) up = by_order (order x y) (with_item x ys (AllPairs-tail R y ys up))
    where
      later : (z : X) → Contains ys z → R y z
      later z h = All-contains (R y) ys z (AllPairs-head R y ys up) h

      by_order : R x y ⊎ ((x ≡ y) ⊎ R y x) → (zs : List X) × IsWith R x ys zs → (zs : List X) × IsWith R x (y ∷ ys) zs
      by_order (inl below) rest = (
        x ∷ y ∷ ys,
        record {
          up = AllPairs-cons R x (y ∷ ys)
              (λ k d low. ⊎_elim
              (λ (e : y ≡ get_or (y ∷ ys) k d). subst (R x) e below)
              (λ (h : Contains ys (get_or (y ∷ ys) k d)). chain x y (get_or (y ∷ ys) k d) below (later (get_or (y ∷ ys) k d) h))
              (Contains-cons_cases y (get_or (y ∷ ys) k d) ys (Contains-get_or (y ∷ ys) k d low)))
              up;
          there = Contains-head x (y ∷ ys);
          all = λ z h. Contains-tail x z (y ∷ ys) h;
          only = λ z h. Contains-cons_cases x z (y ∷ ys) h;
        },
      )
      by_order (inr (inl same)) rest = (
        y ∷ ys,
        record {
          up = up;
          there = subst (Contains (y ∷ ys)) (sym same) (Contains-head y ys);
          all = λ z h. h;
          only = λ z h. inr h;
        },
      )
      by_order (inr (inr above)) (zs, is) = (
        y ∷ zs,
        record {
          up = AllPairs-cons R y zs
              (λ k d low. ⊎_elim
              (λ (e : x ≡ get_or zs k d). subst (R y) e above)
              (λ (h : Contains ys (get_or zs k d)). later (get_or zs k d) h)
              (is.only (get_or zs k d) (Contains-get_or zs k d low)))
              is.up;
          there = Contains-tail y x zs is.there;
          all = λ z h. ⊎_elim
              (λ (e : y ≡ z). subst (Contains (y ∷ zs)) e (Contains-head y zs))
              (λ (k : Contains ys z). Contains-tail y z zs (is.all z k))
              (Contains-cons_cases y z ys h);
          only = λ z h. ⊎_elim
              (λ (e : y ≡ z). inr (subst (Contains (y ∷ ys)) e (Contains-head y ys)))
              (λ (k : Contains zs z). ⊎_elim (λ (e : x ≡ z). inl e) (λ (g : Contains ys z). inr (Contains-tail y z ys g)) (is.only z k))
              (Contains-cons_cases y z zs h);
        },
      )

  pub ascending_list : (xs : List X) → (ys : List X) × IsListed R xs ys
  ascending_list [] = ([], record { up = none_ascends R; all = λ x h. h; only = λ x h. h })
  ascending_list (x ∷ xs) =
      let (ys, are) = ascending_list xs in
      let (zs, is) = with_item x ys are.up in (
        zs,
        record {
          up = is.up;
          all = λ z h. ⊎_elim
              (λ (e : x ≡ z). subst (Contains zs) e is.there)
              (λ (k : Contains xs z). is.all z (are.all z k))
              (Contains-cons_cases x z xs h);
          only = λ z h. ⊎_elim
              (λ (e : x ≡ z). subst (Contains (x ∷ xs)) e (Contains-head x xs))
              (λ (k : Contains ys z). Contains-tail x z xs (are.only z k))
              (is.only z h);
        },
      )

-- ---- grids

abbrev pub IsBelow : List (Pair ℕ) → List (Pair ℕ) → Type 0
IsBelow x y = grid_cmp x y ≡ Less

grid_place : (x y : List (Pair ℕ)) → IsBelow x y ⊎ ((x ≡ y) ⊎ IsBelow y x)
grid_place x y = by_order (grid_cmp x y) refl
  where
    by_order : (o : Ordering) → grid_cmp x y ≡ o → IsBelow x y ⊎ ((x ≡ y) ⊎ IsBelow y x)
    by_order Less e = inl e
    by_order Equal e = inr (inl (grid_exact x y e))
    by_order Greater e = inr (inr (grid_total.antisymm y x ∙ ap ordering_reverse e))

pub below_once : (x y : List (Pair ℕ)) → IsBelow x y → x ≡ y → ⊥
below_once x y below same =
    let other : IsBelow y y = subst (λ z. IsBelow z y) same below in
    let turned = grid_total.antisymm y y ∙ ap ordering_reverse other in
    cc

pub grids_listed : (xs : List (List (Pair ℕ))) → (ys : List (List (Pair ℕ))) × IsListed IsBelow xs ys
grids_listed xs = ascending_list IsBelow grid_place (λ x y z one other. grid_total.trans x y z one other) xs

pub sorted_below : (xs : List (List (Pair ℕ))) → AllPairs IsBelow xs → IsSorted grid_cmp xs
sorted_below xs up k d low inside =
    let below = up k (k + 1) d (omega arith) inside in
    ap is_lt (grid_total.antisymm (get_or xs (k + 1) d) (get_or xs k d) ∙ ap ordering_reverse below)

-- ---- numbers

-- The numbers below a bound of which something holds, in ascending order.
pub record AreBelow (P : ℕ → Type 0) (n : ℕ) (xs : List ℕ) : Type 0 where
  pub up : AllPairs (λ a b. a < b) xs
  pub only : (b : ℕ) → Contains xs b → (b < n) × P b
  pub all : (b : ℕ) → b < n → P b → Contains xs b

pub numbers_listed : (P : ℕ → Type 0) → ((b : ℕ) → IsDecided (P b)) → (n : ℕ) → (xs : List ℕ) × AreBelow P n xs
numbers_listed P reported zero = ([], record { up = none_ascends (λ a b. a < b); only = λ b h. absurd (Contains-nil b h); all = λ b low is. absurd (omega (arith, low)) })
numbers_listed P reported (suc n) =
    let (xs, are) = numbers_listed P reported n in
    ⊎_elim
    (λ (is : P n). (
      xs ++ n ∷ [],
      record {
        up = AllPairs-append (λ a b. a < b) xs (n ∷ []) are.up (AllPairs-cons (λ a b. a < b) n [] (λ k d low. absurd (omega (arith, low))) (none_ascends (λ a b. a < b)))
            (λ x y h k. ⊎_elim
            (λ (e : n ≡ y). let low = (are.only x h).0 in omega (arith, low, e))
            (λ none. absurd (Contains-nil y none))
            (Contains-cons_cases n y [] k));
        only = λ b h. ⊎_elim
            (λ (k : Contains xs b). let found = are.only b k in let low = found.0 in (omega (arith, low), found.1))
            (λ (k : Contains (n ∷ []) b). ⊎_elim
            (λ (e : n ≡ b). (omega (arith, e), subst P e is))
            (λ none. absurd (Contains-nil b none))
            (Contains-cons_cases n b [] k))
            (Contains-append_cases xs (n ∷ []) b h);
        all = λ b low here. ⊎_elim
            (λ (less : b < n). Contains-append_left xs (n ∷ []) b (are.all b less here))
            (λ (past : n ≤ b). let same : n ≡ b = omega (arith, low, past) in subst (Contains (xs ++ n ∷ [])) same (Contains-append_right xs (n ∷ []) n (Contains-head n [])))
            (cases_lt b n);
      },
    ))
    (λ (none : P n → ⊥). (
      xs,
      record {
        up = are.up;
        only = λ b h. let found = are.only b h in let low = found.0 in (omega (arith, low), found.1);
        all = λ b low here. ⊎_elim
            (λ (less : b < n). are.all b less here)
            (λ (past : n ≤ b). let same : b ≡ n = omega (arith, low, past) in absurd (none (subst P same here)))
            (cases_lt b n);
      },
    ))
    (reported n)
