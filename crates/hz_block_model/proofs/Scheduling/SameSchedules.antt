-- What accepts the same traces has the same schedules.
use Rattle.std.proofs.Common.{◌≡◌, ℕ, ◌-◌, ◌<◌, Bool, true, false, cond, List, [], ◌∷◌, ◌++◌, length, map, All, get_or, refl, sym, ◌∙◌, subst, append_assoc, arith}
use Rattle.std.specs.Prelude.{nat_lt}
use Rattle.std.proofs.lemmas.List.{append-nil, length-map, length-append, get_or-map, get_or_append_left}
use Rattle.std.proofs.lemmas.List.Elements.{All-nil, All-cons, All-append, All-push, All-get_or, All-map, All-head, All-tail}
use Rattle.hz_pipeline_model.specs.Accepting.Events.{Event, issue, advance, IsOfClass}
use Rattle.hz_block_model.specs.Scheduling.Schedules.{Node, Graph, Slot, class_at, present, advance_to, spelled, spell, Legal, Greedy, IsCandidate}

pub All-before : {X : Type 0} (P : X → Type 0) (xs ys : List X) → All P (xs ++ ys) → All P xs
All-before {X} P xs ys all k d lt =
    let long = length-append xs ys in
    subst P (get_or_append_left xs ys d k lt) (all k d (omega arith))

-- the places are of instructions
abbrev pub AreWithin : Graph → List Slot → Type 0
AreWithin g slots = All (λ x. x.place < length g.nodes) slots

-- ---- classes in traces

module _ (classes : ℕ) (g : Graph) (ranges : All (λ n. n.class < classes) g.nodes) where
  pub class_below : (j : ℕ) → j < length g.nodes → class_at g j < classes
  class_below j lt =
      let long = length-map g.nodes (λ (n : Node). n.class) in
      All-get_or (λ c. c < classes) (map (λ n. n.class) g.nodes) j 0 (omega arith) (All-map (λ c. c < classes) (λ n. n.class) g.nodes ranges)

  pub advance_of_class : (cycle later : ℕ) → All (IsOfClass classes) (advance_to cycle later)
  advance_of_class cycle later = go (nat_lt cycle later)
    where
      go : (b : Bool) → All (IsOfClass classes) (cond b (advance (later - cycle) ∷ []) [])
      go true = All-cons (IsOfClass classes) (advance (later - cycle)) [] tt (All-nil (IsOfClass classes))
      go false = All-nil (IsOfClass classes)

  pub issue_of_class : (j : ℕ) (t : List Event) → j < length g.nodes → All (IsOfClass classes) t → All (IsOfClass classes) (issue (class_at g j) ∷ t)
  issue_of_class j t lt all = All-cons (IsOfClass classes) (issue (class_at g j)) t (class_below j lt) all

  pub spelled_of_class : (cycle : ℕ) (slots : List Slot) → AreWithin g slots → All (IsOfClass classes) (spelled g cycle slots)
  spelled_of_class cycle [] within = All-nil (IsOfClass classes)
  spelled_of_class cycle (x ∷ slots) within =
      All-append (IsOfClass classes) (advance_to cycle x.cycle) (issue (class_at g x.place) ∷ spelled g x.cycle slots) (advance_of_class cycle x.cycle)
      (issue_of_class x.place (spelled g x.cycle slots) (All-head (λ x. x.place < length g.nodes) x slots within) (spelled_of_class x.cycle slots (All-tail (λ x. x.place < length g.nodes) x slots within)))

  pub candidate_of_class : (slots : List Slot) (cycle j : ℕ) → AreWithin g slots → j < length g.nodes → All (IsOfClass classes) (spell g slots ++ (advance_to (present 0 slots) cycle ++ issue (class_at g j) ∷ []))
  candidate_of_class slots cycle j within lt =
      All-append (IsOfClass classes) (spell g slots) (advance_to (present 0 slots) cycle ++ issue (class_at g j) ∷ []) (spelled_of_class 0 slots within)
      (All-append (IsOfClass classes) (advance_to (present 0 slots) cycle) (issue (class_at g j) ∷ []) (advance_of_class (present 0 slots) cycle) (issue_of_class j [] lt (All-nil (IsOfClass classes))))

-- ---- greedy slots are of instructions

module _ (accepts : List Event → Type 0) (g : Graph) (slots : List Slot) (greedy : Greedy accepts g slots) where
  all_from : (before after : List Slot) → slots ≡ before ++ after → AreWithin g before → AreWithin g slots
  all_from before [] e done = subst (AreWithin g) (sym (e ∙ append-nil before)) done
  all_from before (x ∷ after) e done =
      all_from (before ++ x ∷ []) after (e ∙ sym (append_assoc before (x ∷ []) after)) (All-push (λ x. x.place < length g.nodes) before x done ((greedy before after x e).may).within)

  pub greedy_within : AreWithin g slots
  greedy_within = all_from [] slots refl (All-nil (λ x. x.place < length g.nodes))

-- ---- two that accept the same

module _ (classes : ℕ) (one other : List Event → Type 0) (there : (t : List Event) → All (IsOfClass classes) t → one t → other t) (back : (t : List Event) → All (IsOfClass classes) t → other t → one t)
    (g : Graph) (ranges : All (λ n. n.class < classes) g.nodes) (slots : List Slot) where
  candidate_there : (before : List Slot) (cycle j : ℕ) → AreWithin g before → IsCandidate one g before cycle j → IsCandidate other g before cycle j
  candidate_there before cycle j within c = record {
    within = c.within;
    left = c.left;
    ready = c.ready;
    fits = there _ (candidate_of_class classes g ranges before cycle j within c.within) c.fits;
  }

  candidate_back : (before : List Slot) (cycle j : ℕ) → AreWithin g before → IsCandidate other g before cycle j → IsCandidate one g before cycle j
  candidate_back before cycle j within c = record {
    within = c.within;
    left = c.left;
    ready = c.ready;
    fits = back _ (candidate_of_class classes g ranges before cycle j within c.within) c.fits;
  }

  pub greedy_there : Greedy one g slots → Greedy other g slots
  greedy_there greedy before after x e =
      let f = greedy before after x e in
      let within = All-before (λ x. x.place < length g.nodes) before (x ∷ after) (subst (AreWithin g) e (greedy_within one g slots greedy)) in
      record {
        may = candidate_there before x.cycle x.place within f.may;
        first = λ j c. f.first j (candidate_back before x.cycle j within c);
        soonest = λ cycle j low high c. f.soonest cycle j low high (candidate_back before cycle j within c);
      }

  pub legal_there : Legal one g slots → Legal other g slots
  legal_there legal = record {
    order = legal.order;
    rising = legal.rising;
    kept = legal.kept;
    accepted = there _ (spelled_of_class classes g ranges 0 slots within) legal.accepted;
  }
    where
      within : AreWithin g slots
      within k d lt =
          let long = length-map slots (λ (x : Slot). x.place) in
          (legal.order).only (get_or slots k d).place (k, omega arith, get_or-map (λ (x : Slot). x.place) slots k d (get_or slots k d).place lt)
