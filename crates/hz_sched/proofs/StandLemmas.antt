-- One step of a schedule: a cycle, or an issue.
use Rattle.std.proofs.Common.{◌≡◌, ℕ, ◌+◌, ◌-◌, ◌<◌, ◌≤◌, ⊎_elim, true, List, [], ◌∷◌, ◌++◌, length, Option, Some, None, is_some, Contains, refl, sym, ap, ◌∙◌, subst, arith}
use Rattle.std.specs.Prelude.{IsSome}
use Rattle.std.proofs.lemmas.Bool.{cases_lt}
use Rattle.hz_base_model.proofs.Elements.{Contains-nil, Contains-cons_cases, Contains-map}
use Rattle.std.proofs.lemmas.List.Elements.{Contains-append_cases}
use Rattle.hz_pipeline_model.specs.Accepting.Events.{issue, advance}
use Rattle.hz_pipeline_model.specs.Tables.Machines.{Machine, parts_walk, machine_walk, starts_of, IsWalked}
use Rattle.hz_block_model.specs.Scheduling.Schedules.{Graph, Slot, class_at, places, present, advance_to, spell, GoesBefore, Legal, Greedy, IsCandidate, FollowsGreedily}
use Rattle.hz_block_model.proofs.Scheduling.GrowLaws.{greedy-push, legal_when_all}
use Rattle.hz_sched.specs.Waits.{issued_at, and_issued}
use Rattle.hz_sched.specs.Standing.{IsAt, left_below}
use Rattle.hz_block_model.proofs.Scheduling.SlotLaws.{spelled-push, present-push, rising-push, no_front}
use Rattle.hz_sched.proofs.SlotLemmas.{issued_none, slot_of_issue, issued-push, same_issued, other_issued, all_issued}
use Rattle.hz_sched.proofs.WalkLemmas.{front_walked, walk_after, one_more, walk_to, no_advance}

module _ (m : Machine) (g : Graph) (slots : List Slot) (cycle : ℕ) (states : List ℕ) (at : IsAt m g slots cycle states) where
  -- what is walked after the advance to the present cycle
  pub issue_walk : (j : ℕ) → machine_walk m (spell g slots ++ (advance_to (present 0 slots) cycle ++ issue (class_at g j) ∷ [])) ≡ parts_walk m.parts states (issue (class_at g j) ∷ [])
  issue_walk j =
      walk_to m (spell g slots) (issue (class_at g j) ∷ []) (present 0 slots) cycle at.reached
      ∙ walk_after m (spell g slots) (cycle - present 0 slots) states at.walked (issue (class_at g j) ∷ [])

  pub candidate_fits : (j : ℕ) → IsCandidate (IsWalked m) g slots cycle j → is_some (parts_walk m.parts states (issue (class_at g j) ∷ [])) ≡ true
  candidate_fits j c = subst (λ (o : Option (List ℕ)). IsSome o) (issue_walk j) c.fits

  pub fits_candidate : (j : ℕ) → is_some (parts_walk m.parts states (issue (class_at g j) ∷ [])) ≡ true → IsWalked m (spell g slots ++ (advance_to (present 0 slots) cycle ++ issue (class_at g j) ∷ []))
  fits_candidate j h = subst (λ (o : Option (List ℕ)). IsSome o) (sym (issue_walk j)) h

  -- one cycle more, where none is a candidate
  pub next_cycle : ((j : ℕ) → IsCandidate (IsWalked m) g slots cycle j → ⊥) → (next : List ℕ) → parts_walk m.parts states (advance 1 ∷ []) ≡ Some next → IsAt m g slots (cycle + 1) next
  next_cycle none next step = record {
    reached = (let low = at.reached in omega arith);
    walked = subst (λ (n : ℕ). machine_walk m (spell g slots ++ advance n ∷ []) ≡ Some next) (let low = at.reached in omega arith) (one_more m (spell g slots) (cycle - present 0 slots) states at.walked next step);
    rising = at.rising;
    greedy = at.greedy;
    reported = at.reported;
    barren = λ c j low high k. ⊎_elim
        (λ (lt : c < cycle). at.barren c j low lt k)
        (λ (ge : cycle ≤ c). let same : c ≡ cycle = omega arith in none j (subst (λ (n : ℕ). IsCandidate (IsWalked m) g slots n j) same k))
        (cases_lt c cycle);
  }

  module _ (j : ℕ) (may : IsCandidate (IsWalked m) g slots cycle j) (first : (i : ℕ) → IsCandidate (IsWalked m) g slots cycle i → GoesBefore g j i) where
    abbrev one : Slot
    one = record { place = j; cycle = cycle }

    unissued : issued_at slots j ≡ None
    unissued = issued_none slots j may.left

    follows : FollowsGreedily (IsWalked m) g slots one
    follows = record { may = may; first = first; soonest = at.barren }

    greedy_next : Greedy (IsWalked m) g (slots ++ one ∷ [])
    greedy_next = greedy-push (IsWalked m) g slots one at.greedy follows

    reported_next : (x : Slot) → Contains (slots ++ one ∷ []) x → issued_at (slots ++ one ∷ []) x.place ≡ Some x.cycle
    reported_next x h = ap (λ (f : ℕ → Option ℕ). f x.place) (issued-push slots one unissued) ∙ ⊎_elim
        (λ (there : Contains slots x).
        let was = at.reported x there in
        other_issued (issued_at slots) j cycle x.place (λ (e : x.place ≡ j). let none = ap (issued_at slots) e ∙ unissued in absurd (cc)) ∙ was)
        (λ (last : Contains (one ∷ []) x). ⊎_elim
        (λ (e : one ≡ x). subst (λ (y : Slot). and_issued (issued_at slots) j cycle y.place ≡ Some y.cycle) e (same_issued (issued_at slots) j cycle))
        (λ (no_more : Contains [] x). absurd (Contains-nil x no_more))
        (Contains-cons_cases one x [] last))
        (Contains-append_cases slots (one ∷ []) x h)

    -- one issue more
    pub next_issue : (next : List ℕ) → parts_walk m.parts states (issue (class_at g j) ∷ []) ≡ Some next → IsAt m g (slots ++ one ∷ []) cycle next
    next_issue next step =
        let now = present-push 0 slots one in
        record {
          reached = omega (arith, now);
          walked = subst (λ (n : ℕ). machine_walk m (spell g (slots ++ one ∷ []) ++ advance n ∷ []) ≡ Some next) (omega (arith, now))
              (no_advance m (spell g (slots ++ one ∷ [])) ∙ (ap (machine_walk m) (spelled-push g 0 slots one) ∙ (issue_walk j ∙ step)));
          rising = rising-push slots one at.rising at.reached;
          greedy = greedy_next;
          reported = reported_next;
          barren = λ c i low high k. absurd (omega (arith, now));
        }

    pub now_issued : issued_at (slots ++ one ∷ []) ≡ and_issued (issued_at slots) j cycle
    now_issued = issued-push slots one unissued

    pub was_left : issued_at slots j ≡ None
    was_left = unissued

  -- ---- all is issued

  pub is_legal : left_below (issued_at slots) (length g.nodes) ≡ 0 → Legal (IsWalked m) g slots
  is_legal none = legal_when_all (IsWalked m) g slots at.rising at.greedy (front_walked m (spell g slots) (advance (cycle - present 0 slots) ∷ []) states at.walked) each
    where
      each : (i : ℕ) → i < length g.nodes → Contains (places slots) i
      each i lt = go (issued_at slots i) refl (all_issued (issued_at slots) (length g.nodes) i none lt)
        where
          go : (o : Option ℕ) → issued_at slots i ≡ o → is_some (issued_at slots i) ≡ true → Contains (places slots) i
          go None e h = absurd (cc)
          go (Some c) e h = let (x, there, place, when) = slot_of_issue slots i c e in subst (Contains (places slots)) place (Contains-map (λ (y : Slot). y.place) slots x there)

-- nothing is issued yet
pub at_start : (m : Machine) (g : Graph) → machine_walk m [] ≡ Some (starts_of m) → IsAt m g [] 0 (starts_of m)
at_start m g h = record {
  reached = omega arith;
  walked = no_advance m [] ∙ h;
  rising = λ i j d lt inside. absurd (omega (arith, inside));
  greedy = λ before after x e. absurd (no_front before after x e);
  reported = λ x h. absurd (Contains-nil x h);
  barren = λ c j low high k. absurd (omega arith);
}
