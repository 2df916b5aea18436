-- What is reported of an automaton: its members, and the grids of its states.
use Rattle.std.proofs.Common.{◌≡◌, ◌≢◌, ⊎_elim, ℕ, ◌+◌, ◌<◌, ◌≤◌, List, [], ◌∷◌, ◌++◌, take, length, map, get_or, All, refl, sym, ap, ◌∙◌, subst, arith}
use Rattle.std.specs.Prelude.{IsPermutation}
use Rattle.std.specs.List.{AllPairs, sum_by, range_with_len}
use Rattle.std.specs.declared.vec.Vec.{Vec}
use Rattle.std.specs.declared.alloc.Global.{Global}
use Rattle.std.proofs.lemmas.Bool.{cases_lt}
use Rattle.std.proofs.Math.Seq.{get_or-append_seam}
use Rattle.std.proofs.lemmas.List.{length-map, ext_get_or, get_or-map, map_push, take_more, length_push, get_or_append_left}
use Rattle.std.proofs.lemmas.List.FromFn.{get_or-map-range_with_len, length-map-range_with_len}
use Rattle.std.proofs.lemmas.List.Sorted.{Contains-permutation, IsPermutation-sym}
use Rattle.std.proofs.lemmas.List.Sums.{sum_by-cons}
use Rattle.std.proofs.lemmas.Map.Keys.{IsDistinct-IsPermutation}
use Rattle.std.proofs.lemmas.Map.Made.{AllPairs-from_IsDistinct, IsDistinct-from_AllPairs}
use Rattle.hz_base_model.specs.Pairs.{Pair, SamePairs, grid_eq}
use Rattle.hz_pipeline_model.specs.Accepting.Events.{Event}
use Rattle.hz_pipeline_model.specs.Accepting.Replay.{Pipeline}
use Rattle.hz_pipeline_model.specs.Reaching.Reach.{AreDifferent, IsLeft}
use Rattle.hz_pipeline_model.specs.Reaching.Built.{grid_at, state_at}
use Rattle.hz_pipeline_model.proofs.Reaching.CountLaws.{same_pairs_itself}
use Rattle.hz_grid.specs.Grids.{IsGrid, grid_eq-laws}
use Rattle.hz_grid.specs.Hashes.{grid_eq-Decides}
use Rattle.hz_grid.proofs.Pairs.{same_grids}
use Rattle.hz_auto.specs.Reports.{IsArranged, AreArranged}

-- how many numbers all lists have together
pub sum_by_items : (sets : List (Vec ℕ Global)) → sum_by (λ set. length set.items) sets ≡ sum_by length (map (λ (set : Vec ℕ Global). set.items) sets)
sum_by_items [] = refl
sum_by_items (set ∷ sets) =
    sum_by-cons (λ (s : Vec ℕ Global). length s.items) set sets
    ∙ (ap (λ n. length set.items + n) (sum_by_items sets)
    ∙ sym (sum_by-cons length set.items (map (λ (s : Vec ℕ Global). s.items) sets)))

-- the grids of sets are as many as their numbers
sum_by_mapped : {X Y : Type 0} (f : X → Y) (sets : List (List X)) → sum_by length (map (map f) sets) ≡ sum_by length sets
sum_by_mapped f [] = refl
sum_by_mapped f (set ∷ sets) =
    let rest = sum_by_mapped f sets in
    let one = length-map set f in
    omega (arith, sum_by-cons length (map f set) (map (map f) sets), sum_by-cons length set sets, rest, one)

pub members_listed : (grids : List (List (Pair ℕ))) (sets : List (List ℕ)) (n : ℕ) → length sets ≡ n → sum_by length (map (state_at grids sets) (range_with_len 0 n)) ≡ sum_by length sets
members_listed grids sets n e = ap (sum_by length) same ∙ sum_by_mapped (grid_at grids) sets
  where
    same : map (state_at grids sets) (range_with_len 0 n) ≡ map (map (grid_at grids)) sets
    same = ext_get_or [] (map (state_at grids sets) (range_with_len 0 n)) (map (map (grid_at grids)) sets)
        (length-map-range_with_len (state_at grids sets) 0 n ∙ (sym e ∙ sym (length-map sets (map (grid_at grids)))))
        (λ i low.
        let count = length-map-range_with_len (state_at grids sets) 0 n in
        get_or-map-range_with_len (state_at grids sets) 0 n i i [] (omega (arith, low, count)) (omega arith)
        ∙ sym (get_or-map (map (grid_at grids)) sets i [] [] (omega (arith, low, count, e))))

grid_eq_flips : (x y : List (Pair ℕ)) → grid_eq x y ≡ grid_eq y x
grid_eq_flips x y = grid_eq-laws.symm x y

-- different grids stay different in another order
different_moved : (xs ys : List (List (Pair ℕ))) → IsPermutation xs ys → All IsGrid ys → AreDifferent SamePairs xs → AreDifferent SamePairs ys
different_moved xs ys moved each different =
    let unequal : AllPairs (λ x y. x ≢ y) xs = λ i j d low high same. different i j d low high (subst (SamePairs (get_or xs i d)) same (same_pairs_itself (get_or xs i d))) in
    let apart : AllPairs (λ x y. x ≢ y) ys = AllPairs-from_IsDistinct grid_eq-Decides ys (IsDistinct-IsPermutation grid_eq grid_eq_flips xs ys moved (IsDistinct-from_AllPairs grid_eq-Decides xs unequal)) in
    λ i j d low high same. apart i j d low high (same_grids (get_or ys i d) (get_or ys j d) (each i d (omega (arith, low, high))) (each j d high) same)

-- what is left is the same in another order
pub left_arranged : (m : Pipeline ℕ) (t : List Event) (grids : List (List (Pair ℕ))) (set : List ℕ) (state : List (List (Pair ℕ))) → IsArranged grids set state → IsLeft m t (map (grid_at grids) set) → IsLeft m t state
left_arranged m t grids set state is left = record {
  different = different_moved (map (grid_at grids) set) state is.moved is.each left.different;
  all = λ grid leaves. let found = left.all grid leaves in (found.0, Contains-permutation (map (grid_at grids) set) state found.0 is.moved found.1, found.2);
  only = λ grid c. left.only grid (Contains-permutation state (map (grid_at grids) set) grid (IsPermutation-sym (map (grid_at grids) set) state is.moved) c);
}

-- one grid more is copied
pub copied_more : (grids : List (List (Pair ℕ))) (set : List ℕ) (i : ℕ) (old new : List (List (Pair ℕ))) (grid : List (Pair ℕ)) → i < length set → grid ≡ grid_at grids (get_or set i 0) → new ≡ old ++ grid ∷ [] → old ≡ map (grid_at grids) (take i set) → new ≡ map (grid_at grids) (take (i + 1) set)
copied_more grids set i old new grid low is pushed done =
    pushed
    ∙ (ap (λ gs. gs ++ grid ∷ []) done
    ∙ (ap (λ g. map (grid_at grids) (take i set) ++ g ∷ []) is
    ∙ (sym (map_push (grid_at grids) (take i set) (get_or set i 0)) ∙ ap (map (grid_at grids)) (sym (take_more set i 0 low)))))

-- the grids of one state more are arranged
pub arranged_more : (grids : List (List (Pair ℕ))) (sets : List (List ℕ)) (states : List (List (List (Pair ℕ)))) (set : List ℕ) (state : List (List (Pair ℕ))) → AreArranged grids sets states → IsArranged grids set state → AreArranged grids (sets ++ set ∷ []) (states ++ state ∷ [])
arranged_more grids sets states set state are is = record {
  each = length_push states state ∙ (ap (λ n. n + 1) are.each ∙ sym (length_push sets set));
  at = λ n low. ⊎_elim
      (λ (here : n < length sets).
      let each = are.each in
      subst (λ s. IsArranged grids s (get_or (states ++ state ∷ []) n [])) (sym (get_or_append_left sets (set ∷ []) [] n here))
      (subst (IsArranged grids (get_or sets n [])) (sym (get_or_append_left states (state ∷ []) [] n (omega (arith, here, each)))) (are.at n here)))
      (λ (past : length sets ≤ n).
      let each = are.each in
      let long = length_push sets set in
      let last : n ≡ length sets = omega (arith, low, past, long) in
      let last' : n ≡ length states = omega (arith, last, each) in
      subst (λ s. IsArranged grids s (get_or (states ++ state ∷ []) n [])) (sym (ap (λ k. get_or (sets ++ set ∷ []) k []) last ∙ get_or-append_seam sets set [] []))
      (subst (IsArranged grids set) (sym (ap (λ k. get_or (states ++ state ∷ []) k []) last' ∙ get_or-append_seam states state [] [])) is))
      (cases_lt n (length sets));
}
