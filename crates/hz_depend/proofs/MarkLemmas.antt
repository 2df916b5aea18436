-- Marks one after another.
use Rattle.std.proofs.Common.{◌≡◌, ◌≢◌, ℕ, suc, ◌+◌, ◌<◌, ◌==◌, Bool, true, false, cond, ⊎_elim, List, [], ◌∷◌, ◌++◌, length, map, drop, drop-cons, get_or, set, Contains, refl, sym, ap, ◌∙◌, arith, length-set, get_or-set_same, get_or-set_other}
use Rattle.std.specs.Prelude.{slice_index}
use Rattle.std.specs.List.{flat_map}
use Rattle.std.specs.declared.alloc.Global.{Global}
use Rattle.std.specs.declared.vec.Vec.{Vec}
use Rattle.std.proofs.lemmas.Bool.{cases_eq, eqb-true, eq-eqb}
use Rattle.hz_base_model.proofs.Elements.{Contains-nil, Contains-cons_cases}
use Rattle.hz_depend.specs.Lists.{lists_of}
use Rattle.hz_depend.specs.Marks.{marked, other_lists}

pub marked_append : (stamps : List ℕ) (stamp : ℕ) (xs ys : List ℕ) → marked (marked stamps stamp xs) stamp ys ≡ marked stamps stamp (xs ++ ys)
marked_append stamps stamp [] ys = refl
marked_append stamps stamp (x ∷ xs) ys = marked_append (set stamps x stamp) stamp xs ys

-- at one more item its places are marked
module _ {A B : Type 0} (f : B → List ℕ) (v : A → B) (xs : List A) (i : ℕ) (d : A) (stamp : ℕ) (now next target : List ℕ) where
  pub marked_more : i < length xs → next ≡ marked now stamp (f (v (get_or xs i d))) → marked now stamp (flat_map f (map v (drop i xs))) ≡ target → marked next stamp (flat_map f (map v (drop (i + 1) xs))) ≡ target
  marked_more lt e is =
      let one : i + 1 ≡ suc i = omega arith in
      ap (λ (k : ℕ). marked next stamp (flat_map f (map v (drop k xs)))) one
      ∙ (ap (λ (s : List ℕ). marked s stamp (flat_map f (map v (drop (suc i) xs)))) e
      ∙ (marked_append now stamp (f (v (get_or xs i d))) (flat_map f (map v (drop (suc i) xs)))
      ∙ (ap (λ (ys : List A). marked now stamp (flat_map f (map v ys))) (sym (drop-cons xs i d lt))
      ∙ is)))

pub marked_flat : {A : Type 0} (f : A → List ℕ) (xs : List A) (i : ℕ) (d : A) (stamp : ℕ) (now next target : List ℕ) → i < length xs → next ≡ marked now stamp (f (get_or xs i d)) → marked now stamp (flat_map f (drop i xs)) ≡ target
    → marked next stamp (flat_map f (drop (i + 1) xs)) ≡ target
marked_flat f xs i d stamp now next target lt e is =
    let one : i + 1 ≡ suc i = omega arith in
    ap (λ (k : ℕ). marked next stamp (flat_map f (drop k xs))) one
    ∙ (ap (λ (s : List ℕ). marked s stamp (flat_map f (drop (suc i) xs))) e
    ∙ (marked_append now stamp (f (get_or xs i d)) (flat_map f (drop (suc i) xs))
    ∙ (ap (λ ys. marked now stamp (flat_map f ys)) (sym (drop-cons xs i d lt))
    ∙ is)))

module _ (lists : List (Vec ℕ Global)) (number i : ℕ) (list : Vec ℕ Global) (stamp : ℕ) (now next target : List ℕ) (lt : i < length lists) (at : list ≡ get_or lists i list) (is : marked now stamp (other_lists number i (lists_of (drop i lists))) ≡ target) where
  abbrev later : List ℕ
  later = other_lists number (suc i) (lists_of (drop (suc i) lists))

  unfolded : marked now stamp (cond (i == number) [] list.items ++ later) ≡ target
  unfolded =
      ap (λ (v : Vec ℕ Global). marked now stamp (cond (i == number) [] v.items ++ later)) at
      ∙ (ap (λ (vs : List (Vec ℕ Global)). marked now stamp (other_lists number i (lists_of vs))) (sym (drop-cons lists i list lt)) ∙ is)

  -- at one more list its places are marked, but for one list
  others_step : (b : Bool) → (i == number) ≡ b → next ≡ marked now stamp (cond b [] list.items) → marked next stamp (other_lists number (i + 1) (lists_of (drop (i + 1) lists))) ≡ target
  others_step b same e =
      let one : i + 1 ≡ suc i = omega arith in
      ap (λ (k : ℕ). marked next stamp (other_lists number k (lists_of (drop k lists)))) one
      ∙ (ap (λ (s : List ℕ). marked s stamp later) e
      ∙ (marked_append now stamp (cond b [] list.items) later
      ∙ (ap (λ (x : Bool). marked now stamp (cond x [] list.items ++ later)) (sym same)
      ∙ unfolded)))

  pub others_kept : i ≡ number → next ≡ now → marked next stamp (other_lists number (i + 1) (lists_of (drop (i + 1) lists))) ≡ target
  others_kept same e = others_step true (eq-eqb i number same) e

  pub others_marked : i ≢ number → next ≡ marked now stamp list.items → marked next stamp (other_lists number (i + 1) (lists_of (drop (i + 1) lists))) ≡ target
  others_marked ne e = go (i == number) refl
    where
      go : (b : Bool) → (i == number) ≡ b → marked next stamp (other_lists number (i + 1) (lists_of (drop (i + 1) lists))) ≡ target
      go true same = absurd (ne (eqb-true i number same))
      go false same = others_step false same e

module _ (stamp : ℕ) where
  set_stays : (stamps : List ℕ) (p i : ℕ) → i < length stamps → slice_index stamps i ≡ stamp → slice_index (set stamps p stamp) i ≡ stamp
  set_stays stamps p i lt e = ⊎_elim
      (λ (same : i ≡ p). ap (λ (q : ℕ). get_or (set stamps p stamp) q 0) same ∙ get_or-set_same stamps p stamp 0 (omega arith))
      (λ (ne : i ≢ p). get_or-set_other stamps p i stamp 0 ne ∙ e)
      (cases_eq i p)

  stays : (stamps places : List ℕ) (i : ℕ) → i < length stamps → slice_index stamps i ≡ stamp → slice_index (marked stamps stamp places) i ≡ stamp
  stays stamps [] i lt e = e
  stays stamps (p ∷ places) i lt e = stays (set stamps p stamp) places i (let l = length-set stamps p stamp in omega arith) (set_stays stamps p i lt e)

  pub has_mark : (stamps places : List ℕ) (i : ℕ) → i < length stamps → Contains places i → slice_index (marked stamps stamp places) i ≡ stamp
  has_mark stamps [] i lt c = absurd (Contains-nil i c)
  has_mark stamps (p ∷ places) i lt c =
      let l : i < length (set stamps p stamp) = let n = length-set stamps p stamp in omega arith in
      ⊎_elim
      (λ (same : p ≡ i). stays (set stamps p stamp) places i l (ap (λ (q : ℕ). get_or (set stamps p stamp) q 0) (sym same) ∙ get_or-set_same stamps p stamp 0 (omega arith)))
      (λ (further : Contains places i). has_mark (set stamps p stamp) places i l further)
      (Contains-cons_cases p i places c)
