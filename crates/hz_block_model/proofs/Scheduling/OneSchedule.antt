-- A graph has one schedule that is legal and greedy.
use Rattle.std.proofs.Common.{◌≡◌, ℕ, ◌<◌, ◌≤◌, inl, inr, ⊎_elim, List, [], ◌∷◌, ◌++◌, refl, sym, ◌∙◌, subst, append_assoc, arith}
use Rattle.std.specs.List.{AllPairs}
use Rattle.std.proofs.lemmas.Bool.{cases_lt}
use Rattle.std.proofs.lemmas.List.{append-nil}
use Rattle.std.proofs.lemmas.List.Elements.{All-contains, Contains-append_right}
use Rattle.hz_base_model.proofs.Elements.{Contains-head}
use Rattle.hz_base_model.proofs.Ascending.{AllPairs-head, AllPairs-tail}
use Rattle.hz_pipeline_model.specs.Accepting.Events.{Event}
use Rattle.hz_block_model.specs.Scheduling.Schedules.{Graph, Slot, present, GoesBefore, Legal, Greedy, IsCandidate, FollowsGreedily}

-- cycles don't fall from one slot to another
abbrev pub Rises : Slot → Slot → Type 0
Rises x y = x.cycle ≤ y.cycle

-- in rising slots the present cycle before a slot is at most its own
pub present_below : (before after : List Slot) (x : Slot) (cycle : ℕ) → cycle ≤ x.cycle → AllPairs Rises (before ++ x ∷ after) → present cycle before ≤ x.cycle
present_below [] after x cycle le rising = le
present_below (y ∷ before) after x cycle le rising =
    present_below before after x y.cycle
    (All-contains (Rises y) (before ++ x ∷ after) x (AllPairs-head Rises y (before ++ x ∷ after) rising) (Contains-append_right before (x ∷ after) x (Contains-head x after)))
    (AllPairs-tail Rises y (before ++ x ∷ after) rising)

same_place : (g : Graph) (i j : ℕ) → GoesBefore g i j → GoesBefore g j i → i ≡ j
same_place g i j (inl h) (inl k) = absurd (omega arith)
same_place g i j (inl h) (inr k) = absurd (omega (arith, k.0))
same_place g i j (inr h) (inl k) = absurd (omega (arith, h.0))
same_place g i j (inr h) (inr k) = omega (arith, h.1, k.1)

module _ (accepts : List Event → Type 0) (g : Graph) where
  -- two slots that follow the same ones greedily are one
  same_slot : (before : List Slot) (x y : Slot) → present 0 before ≤ x.cycle → present 0 before ≤ y.cycle → FollowsGreedily accepts g before x → FollowsGreedily accepts g before y → x ≡ y
  same_slot before x y above over f h =
      let cycles : x.cycle ≡ y.cycle =
      ⊎_elim
      (λ (lt : x.cycle < y.cycle). absurd (h.soonest x.cycle x.place above lt f.may))
      (λ (ge : y.cycle ≤ x.cycle). ⊎_elim
      (λ (lt : y.cycle < x.cycle). absurd (f.soonest y.cycle y.place over lt h.may))
      (λ (le : x.cycle ≤ y.cycle). omega arith)
      (cases_lt y.cycle x.cycle))
      (cases_lt x.cycle y.cycle) in
      let there : IsCandidate accepts g before x.cycle y.place = subst (λ (c : ℕ). IsCandidate accepts g before c y.place) (sym cycles) h.may in
      let back : IsCandidate accepts g before y.cycle x.place = subst (λ (c : ℕ). IsCandidate accepts g before c x.place) cycles f.may in
      let here : x.place ≡ y.place = same_place g x.place y.place (f.first y.place there) (h.first x.place back) in
      λ i. record { place = here i; cycle = cycles i }

  -- the places of a legal schedule are all of them
  no_more : (before : List Slot) (y : Slot) → Legal accepts g before → FollowsGreedily accepts g before y → ⊥
  no_more before y legal f = (f.may).left ((legal.order).each y.place (f.may).within)

  module _ (ss ts : List Slot) (legal : Legal accepts g ss) (greedy : Greedy accepts g ss) (lawful : Legal accepts g ts) (eager : Greedy accepts g ts) where
    rest : (before s t : List Slot) → ss ≡ before ++ s → ts ≡ before ++ t → s ≡ t
    rest before [] [] e f = refl
    rest before [] (y ∷ t) e f = absurd (no_more before y (subst (Legal accepts g) (e ∙ append-nil before) legal) (eager before t y f))
    rest before (x ∷ s) [] e f = absurd (no_more before x (subst (Legal accepts g) (f ∙ append-nil before) lawful) (greedy before s x e))
    rest before (x ∷ s) (y ∷ t) e f =
        let low = present_below before s x 0 (omega arith) (subst (AllPairs Rises) e legal.rising) in
        let high = present_below before t y 0 (omega arith) (subst (AllPairs Rises) f lawful.rising) in
        let same : x ≡ y = same_slot before x y low high (greedy before s x e) (eager before t y f) in
        let more : ts ≡ before ++ x ∷ t = subst (λ (z : Slot). ts ≡ before ++ z ∷ t) (sym same) f in
        let tails : s ≡ t = rest (before ++ x ∷ []) s t (e ∙ sym (append_assoc before (x ∷ []) s)) (more ∙ sym (append_assoc before (x ∷ []) t)) in
        λ i. same i ∷ tails i

    pub one_schedule : ss ≡ ts
    one_schedule = rest [] ss ts refl refl
