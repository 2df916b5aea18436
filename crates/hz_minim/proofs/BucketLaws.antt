-- How buckets are filled.
use Rattle.std.proofs.Common.{◌≡◌, ◌≢◌, ℕ, ◌+◌, ◌<◌, ◌⊎◌, inl, inr, ⊎_elim, List, [], ◌∷◌, ◌++◌, length, get_or, take, Contains, sym, ap, ◌∙◌, subst}
use Rattle.std.proofs.lemmas.List.{take_more}
use Rattle.std.proofs.lemmas.List.Elements.{Contains-append_left, Contains-push, Contains-push_cases}
use Rattle.hz_pipeline_model.specs.Least.Blocks.{block_of}
use Rattle.hz_minim.specs.declared.arrows.Arrow.{Arrow}
use Rattle.hz_minim.specs.Arrows.{arrow_from}
use Rattle.hz_minim.specs.Buckets.{AddsArrows, AreBuckets}
use Rattle.hz_minim.specs.Lists.{list_at, added}
use Rattle.hz_minim.specs.Moves.{IsListed}
use Rattle.hz_minim.proofs.ListLaws.{added-holds, added-kept, added-only, length-added}

module _ {X : Type 0} where
  -- a front of a list with one item more
  pub contains_more : (xs : List X) (i : ℕ) (x : X) → i < length xs → x ≡ get_or xs i x → Contains (take (i + 1) xs) x
  contains_more xs i x within e = subst (λ (ys : List X). Contains ys x) (sym (take_more xs i x within ∙ ap (λ (y : X). take i xs ++ y ∷ []) (sym e))) (Contains-push (take i xs) x)

  pub contains_still : (xs : List X) (i : ℕ) (x y : X) → i < length xs → x ≡ get_or xs i x → Contains (take i xs) y → Contains (take (i + 1) xs) y
  contains_still xs i x y within e h = subst (λ (ys : List X). Contains ys y) (sym (take_more xs i x within)) (Contains-append_left (take i xs) (get_or xs i x ∷ []) y h)

  pub contains_cases : (xs : List X) (i : ℕ) (x y : X) → i < length xs → x ≡ get_or xs i x → Contains (take (i + 1) xs) y → Contains (take i xs) y ⊎ (x ≡ y)
  contains_cases xs i x y within e h = Contains-push_cases (take i xs) x y (subst (λ (ys : List X). Contains ys y) (take_more xs i x within ∙ ap (λ (z : X). take i xs ++ z ∷ []) (sym e)) h)

-- one arrow more
pub adds_more : (arrows : List Arrow) (before mid : List (List ℕ)) (i : ℕ) (arrow : Arrow) → i < length arrows → arrow ≡ get_or arrows i arrow → arrow.column < length mid → AddsArrows (take i arrows) before mid → AddsArrows (take (i + 1) arrows) before (added arrow.column arrow.source mid)
adds_more arrows before mid i arrow within e inside adds =
    let after = added arrow.column arrow.source mid in
    let holds : Contains (list_at after arrow.column) arrow.source = added-holds arrow.column arrow.source mid inside in
    let keep : (column state : ℕ) → Contains (list_at mid column) state → Contains (list_at after column) state = added-kept arrow.column arrow.source mid in
    record {
      size = length-added arrow.column arrow.source mid ∙ adds.size;
      kept = λ column state h. keep column state (adds.kept column state h);
      put = λ column state h. ⊎_elim
          (λ (old : Contains (take i arrows) (arrow_from state column)). keep column state (adds.put column state old))
          (λ (new : arrow ≡ arrow_from state column). subst (λ (a : Arrow). Contains (list_at after a.column) a.source) new holds)
          (contains_cases arrows i arrow (arrow_from state column) within e h);
      only = λ column state h. ⊎_elim
          (λ (old : Contains (list_at mid column) state). ⊎_elim
          (λ (first : Contains (list_at before column) state). inl first)
          (λ (put : Contains (take i arrows) (arrow_from state column)). inr (contains_still arrows i arrow (arrow_from state column) within e put))
          (adds.only column state old))
          (λ (new : (column ≡ arrow.column) × (arrow.source ≡ state)).
          let same : arrow ≡ arrow_from state column = (λ j. arrow_from (new.1 j) (sym new.0 j)) in
          inr (subst (Contains (take (i + 1) arrows)) same (contains_more arrows i arrow within e)))
          (added-only arrow.column arrow.source mid column state h);
    }

-- buckets of the states of a block that are among some
pub record AreFilled (arrows : List (List Arrow)) (blocks : List ℕ) (block : ℕ) (states : List ℕ) (buckets : List (List ℕ)) : Type 0 where
  pub all : (target column state : ℕ) → Contains states target → block_of blocks target ≡ block → Contains (list_at arrows target) (arrow_from state column) → Contains (list_at buckets column) state
  pub only : (column state : ℕ) → Contains (list_at buckets column) state → (target : ℕ) × (target < length blocks) × (block_of blocks target ≡ block) × Contains (list_at arrows target) (arrow_from state column)

module _ (arrows : List (List Arrow)) (blocks : List ℕ) (block : ℕ) (states : List ℕ) (i here : ℕ) (within : i < length states) (read : here ≡ get_or states i here) (before : List (List ℕ)) (filled : AreFilled arrows blocks block (take i states) before) where
  -- a state that left the block
  pub filled_skipped : block_of blocks here ≢ block → AreFilled arrows blocks block (take (i + 1) states) before
  filled_skipped left = record {
    all = λ target column state h e arrow. ⊎_elim
        (λ (old : Contains (take i states) target). filled.all target column state old e arrow)
        (λ (new : here ≡ target). absurd (left (ap (block_of blocks) new ∙ e)))
        (contains_cases states i here target within read h);
    only = filled.only;
  }

  -- a state of the block
  pub filled_more : here < length blocks → block_of blocks here ≡ block → (after : List (List ℕ)) → AddsArrows (list_at arrows here) before after → AreFilled arrows blocks block (take (i + 1) states) after
  filled_more inside is after adds = record {
    all = λ target column state h e arrow. ⊎_elim
        (λ (old : Contains (take i states) target). adds.kept column state (filled.all target column state old e arrow))
        (λ (new : here ≡ target). adds.put column state (subst (λ (t : ℕ). Contains (list_at arrows t) (arrow_from state column)) (sym new) arrow))
        (contains_cases states i here target within read h);
    only = λ column state h. ⊎_elim
        (λ (old : Contains (list_at before column) state). filled.only column state old)
        (λ (new : Contains (list_at arrows here) (arrow_from state column)). (here, inside, is, new))
        (adds.only column state h);
  }

-- all that are listed in the block
pub filled_all : (arrows : List (List Arrow)) (blocks : List ℕ) (block : ℕ) (members buckets : List (List ℕ)) → IsListed blocks members → AreFilled arrows blocks block (list_at members block) buckets → AreBuckets arrows blocks block buckets
filled_all arrows blocks block members buckets listed filled = record {
  all = λ target column state within e arrow. filled.all target column state (subst (λ (b : ℕ). Contains (list_at members b) target) e (listed.there target within)) e arrow;
  only = filled.only;
}
