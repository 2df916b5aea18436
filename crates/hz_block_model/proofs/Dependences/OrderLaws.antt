-- Every order that keeps the dependences leaves what the order of the source leaves.
use Rattle.std.proofs.Common.{◌≡◌, ℕ, zero, suc, ◌+◌, ◌<◌, ◌==◌, Bool, true, false, ◌||◌, cond, List, [], ◌∷◌, ◌++◌, length, Option, Some, None, Contains, refl, sym, ap, ◌∙◌, append_assoc, arith}
use Rattle.std.specs.Prelude.{slice_get}
use Rattle.std.specs.List.{range_with_len}
use Rattle.std.proofs.lemmas.Bool.{eqb-true}
use Rattle.std.proofs.lemmas.List.Elements.{Contains-append_right}
use Rattle.hz_base_model.proofs.Elements.{Contains-head, Contains-tail}
use Rattle.hz_block_model.specs.Running.Blocks.{Instruction}
use Rattle.hz_block_model.specs.Running.States.{State, all_stored, after_place, run}
use Rattle.hz_block_model.specs.Dependences.Accesses.{is_among}
use Rattle.hz_block_model.specs.Dependences.Dependences.{depends}
use Rattle.hz_block_model.specs.Dependences.Orders.{IsOrder, Keeps}
use Rattle.hz_block_model.proofs.Dependences.SourceLaws.{contains_among, stores_at, source, given}
use Rattle.hz_block_model.proofs.Dependences.DoneLaws.{not_true, made, Closed, one_more, still_closed}

pub among_contains : (places : List ℕ) (k : ℕ) → is_among places k ≡ true → Contains places k
among_contains [] k e = absurd (cc)
among_contains (m ∷ places) k e = go (m == k) refl e (among_contains places k)
  where
    go : (b : Bool) → (m == k) ≡ b → (b || is_among places k) ≡ true → (is_among places k ≡ true → Contains places k) → Contains (m ∷ places) k
    go true is h further = let same : k ≡ m = sym (eqb-true m k is) in rw same (Contains-head m places)
    go false is h further = Contains-tail m k places (further h)

among-append : (places : List ℕ) (i k : ℕ) → is_among (places ++ i ∷ []) k ≡ (is_among places k || (i == k))
among-append [] i k = or_none (i == k)
  where
    or_none : (b : Bool) → (b || false) ≡ b
    or_none true = refl
    or_none false = refl
among-append (m ∷ places) i k = go (m == k) (among-append places i k)
  where
    go : (b : Bool) → is_among (places ++ i ∷ []) k ≡ (is_among places k || (i == k)) → (b || is_among (places ++ i ∷ []) k) ≡ ((b || is_among places k) || (i == k))
    go true h = refl
    go false h = h

found_at : (block : List Instruction) (i : ℕ) → i < length block → (x : Instruction) × (slice_get block i ≡ Some x)
found_at [] i lt = absurd (omega arith)
found_at (x ∷ block) zero lt = (x, refl)
found_at (y ∷ block) (suc i) lt = found_at block i (omega arith)

-- one more place
abbrev with_place : (ℕ → Bool) → ℕ → ℕ → Bool
with_place done i k = done k || (i == k)

-- all places of a list
abbrev with_all : (ℕ → Bool) → List ℕ → ℕ → Bool
with_all done [] k = done k
with_all done (i ∷ rest) k = with_all (with_place done i) rest k

covers : (done : ℕ → Bool) (rest : List ℕ) (k : ℕ) → (done k || is_among rest k) ≡ true → with_all done rest k ≡ true
covers done [] k e = go (done k) e
  where
    go : (b : Bool) → (b || false) ≡ true → b ≡ true
    go true h = refl
    go false h = h
covers done (i ∷ rest) k e = covers (with_place done i) rest k (go (done k) (i == k) (is_among rest k) e)
  where
    go : (a b c : Bool) → (a || (b || c)) ≡ true → ((a || b) || c) ≡ true
    go true b c h = refl
    go false b c h = h

module _ (block : List Instruction) (s : State) where
  stored_again : (o : Option Instruction) (t : State) → after_place o t ≡ all_stored t (stores_at o t)
  stored_again None t = refl
  stored_again (Some i) t = refl

  run_source : (m k : ℕ) → run block (range_with_len k m) (source block s k) ≡ source block s (k + m)
  run_source zero k = let same : k ≡ k + 0 = omega arith in ap (source block s) same
  run_source (suc m) k =
      let next : suc k ≡ k + 1 = omega arith in
      let same : (k + 1) + m ≡ k + suc m = omega arith in
      ap (run block (range_with_len (k + 1) m)) (stored_again (slice_get block k) (source block s k) ∙ ap (source block s) next) ∙ (run_source m (k + 1) ∙ ap (source block s) same)

  made_none : (k : ℕ) → made block s (λ _. false) k ≡ s
  made_none zero = refl
  made_none (suc k) = made_none k

  made_all : (done : ℕ → Bool) (k : ℕ) → ((j : ℕ) → j < k → done j ≡ true) → made block s done k ≡ source block s k
  made_all done zero h = refl
  made_all done (suc k) h =
      ap (λ (b : Bool). cond b (all_stored (made block s done k) (given block s k)) (made block s done k)) (h k (omega arith))
      ∙ ap (λ (u : State). all_stored u (given block s k)) (made_all done k (λ j lt. h j (omega arith)))

  -- Each place of the list is left, and all that it depends on is done or stands before it.
  abbrev Fits : (ℕ → Bool) → List ℕ → Type 0
  Fits done [] = Unit {0}
  Fits done (i ∷ rest) = (i < length block) × (done i ≡ false) × ((k : ℕ) → depends block k i ≡ true → done k ≡ true) × Fits (with_place done i) rest

  follow : (rest : List ℕ) (done : ℕ → Bool) → Closed block s done → Fits done rest → run block rest (made block s done (length block)) ≡ made block s (with_all done rest) (length block)
  follow [] done closed fits = refl
  follow (i ∷ rest) done closed fits =
      let (x, here) = found_at block i fits.0 in
      ap (run block rest) (one_more block s done closed i x here fits.1 fits.2 (length block) fits.0)
      ∙ follow rest (with_place done i) (still_closed block s done closed i x here fits.1 fits.2) fits.3

  module _ (order : List ℕ) (whole : IsOrder (length block) order) (kept : Keeps block order) where
    fits_from : (before rest : List ℕ) (done : ℕ → Bool) → ((k : ℕ) → done k ≡ is_among before k) → order ≡ before ++ rest → Fits done rest
    fits_from before [] done same is = tt
    fits_from before (i ∷ rest) done same is = (
      whole.only i (rw is (Contains-append_right before (i ∷ rest) i (Contains-head i rest))),
      not_true (done i) (λ e. whole.once before rest i is (among_contains before i (sym (same i) ∙ e))),
      (λ k d. same k ∙ contains_among before k (kept before rest k i is d)),
      fits_from (before ++ i ∷ []) rest (with_place done i) (λ k. ap (λ (b : Bool). b || (i == k)) (same k) ∙ sym (among-append before i k)) (is ∙ sym (append_assoc before (i ∷ []) rest)),
    )

    pub commutes : run block order s ≡ run block (range_with_len 0 (length block)) s
    commutes =
        ap (run block order) (sym (made_none (length block)))
        ∙ (follow order (λ _. false) (λ k j d e. absurd (cc)) (fits_from [] order (λ _. false) (λ k. refl) refl)
        ∙ (made_all (with_all (λ _. false) order) (length block) (λ j lt. covers (λ _. false) order j (contains_among order j (whole.each j lt)))
        ∙ sym (run_source (length block) 0 ∙ ap (source block s) (let same : 0 + length block ≡ length block = omega arith in same))))
