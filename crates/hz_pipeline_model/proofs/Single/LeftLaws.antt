-- What events leave: the grids that all events together leave being on a list, there can't be no list of those that these
-- events leave.
use Rattle.std.proofs.Common.{◌≡◌, ⊎_elim, List, [], ◌∷◌, Contains, sym, subst, arith}
use Rattle.std.proofs.lemmas.List.Kept.{AllPairs-cons}
use Rattle.std.proofs.lemmas.List.Elements.{Contains-get_or}
use Rattle.hz_base_model.specs.Pairs.{Pair, SamePairs}
use Rattle.hz_base_model.proofs.Elements.{Contains-nil, Contains-head, Contains-tail, Contains-cons_cases}
use Rattle.hz_pipeline_model.specs.Accepting.Events.{Event}
use Rattle.hz_pipeline_model.specs.Accepting.Replay.{Pipeline}
use Rattle.hz_pipeline_model.specs.Reaching.Reach.{AreDifferent, Leaves, IsLeft, IsReachedGrid}
use Rattle.hz_pipeline_model.specs.Reaching.Counts.{IsAtMost}
use Rattle.hz_pipeline_model.proofs.Reaching.CountLaws.{same_pairs_back, same_pairs_then, same_pairs_itself}

-- Those of a list's items that something holds of, each once.
record Chosen {X : Type 0} (P : X → Type 0) (Same : X → X → Type 0) (xs : List X) : Type 0 where
  items : List X
  different : AreDifferent Same items
  all : (x : X) → Contains xs x → P x → (y : X) × Contains items y × Same y x
  only : (y : X) → Contains items y → P y

-- there can't be no such list
chosen_not_none : {X : Type 0} (P : X → Type 0) (Same : X → X → Type 0) → ((x : X) → Same x x) → ((x y : X) → Same x y → Same y x) → (xs : List X) → (Chosen P Same xs → ⊥) → ⊥
chosen_not_none P Same itself back [] none = none (record {
  items = [];
  different = λ i j d less low. absurd (omega (arith, low));
  all = λ x c. absurd (Contains-nil x c);
  only = λ y c. absurd (Contains-nil y c);
})
chosen_not_none P Same itself back (x ∷ xs) none = chosen_not_none P Same itself back xs (λ rest. none (without rest (λ holds. absurd (none (beside rest holds)))))
  where
    -- the item is the same as one that is there
    without : (rest : Chosen P Same xs) → (P x → (y : _) × Contains rest.items y × Same y x) → Chosen P Same (x ∷ xs)
    without rest there = record {
      items = rest.items;
      different = rest.different;
      all = λ z c holds. ⊎_elim
          (λ (e : x ≡ z). subst (λ w. (y : _) × Contains rest.items y × Same y w) e (there (subst P (sym e) holds)))
          (λ (m : Contains xs z). rest.all z m holds)
          (Contains-cons_cases x z xs c);
      only = rest.only;
    }

    -- it is another
    beside : (rest : Chosen P Same xs) → P x → Chosen P Same (x ∷ xs)
    beside rest holds = record {
      items = x ∷ rest.items;
      different = AllPairs-cons (λ a b. Same a b → ⊥) x rest.items
          (λ k d low same. none (without rest (λ h. (_, Contains-get_or rest.items k d low, back x _ same))))
          rest.different;
      all = λ z c h. ⊎_elim
          (λ (e : x ≡ z). (x, Contains-head x rest.items, subst (Same x) e (itself x)))
          (λ (m : Contains xs z). let found = rest.all z m h in (found.0, Contains-tail x found.0 rest.items found.1, found.2))
          (Contains-cons_cases x z xs c);
      only = λ y c. ⊎_elim
          (λ (e : x ≡ y). subst P e holds)
          (λ (m : Contains rest.items y). rest.only y m)
          (Contains-cons_cases x y rest.items c);
    }

module _ {U : Type 0} (m : Pipeline U) where
  -- a grid is left as a set of pairs
  leaves_same : (t : List Event) (grid other : List (Pair U)) → SamePairs grid other → Leaves m t grid → Leaves m t other
  leaves_same t grid other same leaves = (
    leaves.0,
    leaves.1,
    record {
      pairs = λ unit cycle. let both = same (record { unit = unit; cycle = cycle }) in let pairs = leaves.2.pairs unit cycle in (λ h. pairs.0 (both.1 h), λ h. both.0 (pairs.1 h));
    },
  )

  pub left_not_none : (weight : List (Pair U) → _) (n : _) → IsAtMost (IsReachedGrid m) SamePairs weight n → (t : List Event) → ((xs : List (List (Pair U))) → IsLeft m t xs → ⊥) → ⊥
  left_not_none weight n most t none = chosen_not_none (Leaves m t) SamePairs same_pairs_itself same_pairs_back most.items (λ chosen. none chosen.items (record {
    different = chosen.different;
    all = λ grid leaves.
        let there = most.all grid (t, leaves) in
        let found = chosen.all there.0 there.1 (leaves_same t grid there.0 there.2 leaves) in
        (found.0, found.1, same_pairs_then found.0 there.0 grid found.2 (same_pairs_back grid there.0 there.2));
    only = chosen.only;
  }))
