-- What holds of each item so far, and of one more.
use Rattle.std.proofs.Common.{◌≡◌, ℕ, zero, suc, Option, Some, None, refl, ◌+◌, ◌<◌, ◌≤◌, List, [], ◌∷◌, length, map, get_or, take, sym, subst, arith}
use Rattle.std.specs.Prelude.{All}
use Rattle.std.specs.Option.{option_map, ForSome}
use Rattle.hz_base_model.specs.Pairs.{Pair}
use Rattle.hz_auto.specs.declared.report.Shown.{Shown}
use Rattle.hz_auto.specs.Reports.{shown_of}
use Rattle.hz_pipeline_model.specs.Compiling.Compiled as compiled
use Rattle.std.proofs.lemmas.List.{take_more, take_all}
use Rattle.std.proofs.lemmas.List.Elements.{All-push}

pub all_more : {X : Type 0} (P : X → Type 0) (xs : List X) (i : ℕ) (x : X) → i < length xs → x ≡ get_or xs i x → All P (take i xs) → P x → All P (take (i + 1) xs)
all_more P xs i x inside is before here =
    subst (All P) (sym (take_more xs i x inside)) (All-push P (take i xs) (get_or xs i x) before (subst P is here))

pub all_done : {X : Type 0} (P : X → Type 0) (xs : List X) (i : ℕ) → length xs ≤ i → All P (take i xs) → All P xs
all_done P xs i most all = subst (All P) (take_all i xs most) all

-- what holds of what items are made to
pub all_made : {X Y : Type 0} (P : Y → Type 0) (make : X → Y) (xs : List X) → All (λ x. P (make x)) xs → All P (map make xs)
all_made P make xs all = λ i d low. made_at P make xs all i d low
  where
    made_at : {X Y : Type 0} (P : Y → Type 0) (make : X → Y) (xs : List X) → All (λ x. P (make x)) xs → (i : ℕ) (d : Y) → i < length (map make xs) → P (get_or (map make xs) i d)
    made_at P make [] all i d low = absurd (omega (arith, low))
    made_at P make (x ∷ xs) all zero d low = all zero x (omega arith)
    made_at P make (x ∷ xs) all (suc i) d low = made_at P make xs (λ j e under. all (suc j) e (omega (arith, under))) i d (omega (arith, low))

-- what is shown, of which something narrower is known
pub shown_weaker : (P Q : List (List (Pair ℕ)) → Type 0) → ((grids : List (List (Pair ℕ))) → P grids → Q grids) → (o : Option Shown) → ForSome o (λ shown. All (λ grids. P grids.items) shown.grids.items) → ForSome o (λ shown. All (λ grids. Q grids.items) shown.grids.items)
shown_weaker P Q f o h = λ x e i d low. f _ (h x e i d low)

-- what holds of lists of grids, as the definitions speak of them
pub shown_again : (P : List (List (Pair ℕ)) → Type 0) (o : Option Shown) → ForSome o (λ shown. All (λ grids. P grids.items) shown.grids.items) → ForSome (option_map shown_of o) (λ shown. All P shown.states)
shown_again P None h = λ x e. absurd (cc)
shown_again P (Some shown) h = λ x e.
    let here : All P (shown_of shown).states = all_made P (λ grids. grids.items) shown.grids.items (h shown refl) in
    let same : shown_of shown ≡ x = some_is (shown_of shown) x e in
    subst (λ (s : compiled.Shown). All P s.states) same here
  where
    some_is : (a b : compiled.Shown) → Some a ≡ Some b → a ≡ b
    some_is a b e = cc
