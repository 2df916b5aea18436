-- The first states of blocks, one state after another.
use Rattle.std.proofs.Common.{◌≡◌, ℕ, ◌+◌, ◌<◌, ◌≤◌, List, [], ◌∷◌, ◌++◌, length, get_or, set, replicate, Option, Some, None, All, sym, ap, ◌∙◌, subst, arith, ⊎_elim}
use Rattle.std.proofs.lemmas.Bool.{cases_lt, cases_eq}
use Rattle.std.proofs.lemmas.List.{length_push, length-set, length-replicate, get_or_append_left, get_or_push, get_or-set_same, get_or-set_other, get_or-replicate, get_or_past}
use Rattle.hz_pipeline_model.specs.Least.Blocks.{block_of}
use Rattle.hz_minim.specs.Leading.{leader_of, HasFirst, IsLed}
use Rattle.hz_minim.proofs.LedStates.{LedSoFar}

same_some : (a b : ℕ) → Some a ≡ Some b → a ≡ b
same_some a b e = cc

none_replicated : (size block : ℕ) → get_or (replicate size None) block None ≡ (let none : Option ℕ = None in none)
none_replicated size block = ⊎_elim
    (λ (low : block < size). get_or-replicate size block None None low)
    (λ (high : size ≤ block). get_or_past (replicate size None) block None (omega (arith, length-replicate {A = Option ℕ} size None)))
    (cases_lt block size)

module _ (blocks : List ℕ) (k : ℕ) (firsts : List (Option ℕ)) (leaders : List ℕ) (so : LedSoFar blocks k firsts leaders) (low : k < length blocks) where
  old_leader : (first state : ℕ) → state < k → leader_of (leaders ++ first ∷ []) state ≡ leader_of leaders state
  old_leader first state less = get_or_append_left leaders (first ∷ []) 0 state (omega (arith, so.each))

  new_leader : (first : ℕ) → leader_of (leaders ++ first ∷ []) k ≡ first
  new_leader first = get_or_push leaders first 0 k so.each

  -- of what is noted so, each state of a block finds its first one
  more : (first : ℕ) (new : List (Option ℕ)) → All (λ b. b < length new) blocks → ((state : ℕ) → state < k → get_or new (block_of blocks state) None ≡ Some (leader_of leaders state)) → get_or new (block_of blocks k) None ≡ Some first → ((b state : ℕ) → get_or new b None ≡ Some state → (state < k + 1) × (leader_of (leaders ++ first ∷ []) state ≡ state)) → LedSoFar blocks (k + 1) new (leaders ++ first ∷ [])
  more first new room held here firsts_lead = record {
    each = omega (arith, length_push leaders first, so.each);
    room = room;
    held = λ state below. ⊎_elim
        (λ (less : state < k). held state less ∙ ap Some (sym (old_leader first state less)))
        (λ (last : k ≤ state).
        let same : k ≡ state = omega arith in
        subst (λ (s : ℕ). get_or new (block_of blocks s) None ≡ Some (leader_of (leaders ++ first ∷ []) s)) same (here ∙ ap Some (sym (new_leader first))))
        (cases_lt state k);
    first = firsts_lead;
  }

  old_first : (first b state : ℕ) → get_or firsts b None ≡ Some state → (state < k + 1) × (leader_of (leaders ++ first ∷ []) state ≡ state)
  old_first first b state is = let was = so.first b state is in let less = was.0 in (omega arith, old_leader first state less ∙ was.1)

  pub led_more : (new : List (Option ℕ)) (first : ℕ) → HasFirst firsts (block_of blocks k) k new first → LedSoFar blocks (k + 1) new (leaders ++ first ∷ [])
  led_more new first has = ⊎_elim
      (λ known. subst (λ (xs : List (Option ℕ)). LedSoFar blocks (k + 1) xs (leaders ++ first ∷ [])) (sym known.1) (more first firsts so.room so.held known.0 (old_first first)))
      (λ next. subst (λ (xs : List (Option ℕ)). LedSoFar blocks (k + 1) xs (leaders ++ first ∷ [])) (sym next.2) (noted next.0 next.1))
      has.step
    where
      noted : get_or firsts (block_of blocks k) None ≡ None → first ≡ k → LedSoFar blocks (k + 1) (set firsts (block_of blocks k) (Some k)) (leaders ++ first ∷ [])
      noted none is = more first (set firsts (block_of blocks k) (Some k)) room held (here ∙ ap Some (sym is)) leads
        where
          inside : block_of blocks k < length firsts
          inside = so.room k 0 low

          room : All (λ b. b < length (set firsts (block_of blocks k) (Some k))) blocks
          room = λ i d within. let was = so.room i d within in omega (arith, length-set firsts (block_of blocks k) (Some k))

          here : get_or (set firsts (block_of blocks k) (Some k)) (block_of blocks k) None ≡ Some k
          here = get_or-set_same firsts (block_of blocks k) (Some k) None inside

          held : (state : ℕ) → state < k → get_or (set firsts (block_of blocks k) (Some k)) (block_of blocks state) None ≡ Some (leader_of leaders state)
          held state less = get_or-set_other firsts (block_of blocks k) (block_of blocks state) (Some k) None (λ (e : block_of blocks state ≡ block_of blocks k). let was = so.held state less in let moved = ap (λ (b : ℕ). get_or firsts b None) e in cc) ∙ so.held state less

          leads : (b state : ℕ) → get_or (set firsts (block_of blocks k) (Some k)) b None ≡ Some state → (state < k + 1) × (leader_of (leaders ++ first ∷ []) state ≡ state)
          leads b state found = ⊎_elim
              (λ (same : b ≡ block_of blocks k).
              let this : k ≡ state = same_some k state (sym here ∙ ap (λ (x : ℕ). get_or (set firsts (block_of blocks k) (Some k)) x None) (sym same) ∙ found) in (
                omega arith,
                subst (λ (s : ℕ). leader_of (leaders ++ first ∷ []) s ≡ s) this (new_leader first ∙ is),
              ))
              (λ other. old_first first b state (sym (get_or-set_other firsts (block_of blocks k) b (Some k) None other) ∙ found))
              (cases_eq b (block_of blocks k))

pub led_all : (blocks : List ℕ) (firsts : List (Option ℕ)) (leaders : List ℕ) → LedSoFar blocks (length blocks) firsts leaders → IsLed blocks leaders
led_all blocks firsts leaders so = record {
  each = so.each;
  within = λ state low. (so.first (block_of blocks state) (leader_of leaders state) (so.held state low)).0;
  itself = λ state low. (so.first (block_of blocks state) (leader_of leaders state) (so.held state low)).1;
  same = λ one other low low' e. same_some (leader_of leaders one) (leader_of leaders other) (sym (so.held one low) ∙ ap (λ (b : ℕ). get_or firsts b None) e ∙ so.held other low');
}
