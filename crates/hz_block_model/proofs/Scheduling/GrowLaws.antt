-- Slots that grow greedily, until all instructions are issued.
use Rattle.std.proofs.Common.{◌≡◌, ℕ, ◌<◌, List, [], ◌∷◌, ◌++◌, length, Contains, sym, subst}
use Rattle.std.specs.List.{AllPairs}
use Rattle.std.proofs.lemmas.List.Elements.{All-contains}
use Rattle.hz_base_model.proofs.Elements.{Contains-from_map}
use Rattle.hz_pipeline_model.specs.Accepting.Events.{Event}
use Rattle.hz_block_model.specs.Scheduling.Schedules.{Graph, Slot, places, spell, Legal, Greedy, FollowsGreedily}
use Rattle.hz_block_model.proofs.Scheduling.OneSchedule.{Rises}
use Rattle.hz_block_model.proofs.Scheduling.SameSchedules.{greedy_within}
use Rattle.hz_block_model.proofs.Scheduling.SlotLaws.{Split, last, earlier, split, at_place}

module _ (accepts : List Event → Type 0) (g : Graph) (slots : List Slot) where
  -- one more slot that follows greedily
  pub greedy-push : (x : Slot) → Greedy accepts g slots → FollowsGreedily accepts g slots x → Greedy accepts g (slots ++ x ∷ [])
  greedy-push x greedy follows before after y e = go (split slots x before after y e)
    where
      go : Split slots x before y → FollowsGreedily accepts g before y
      go (last same is) = subst (λ (xs : List Slot). FollowsGreedily accepts g xs y) same (subst (FollowsGreedily accepts g slots) is follows)
      go (earlier rest same) = greedy before rest y same

  -- greedy slots that rise, are accepted and issue all are legal
  pub legal_when_all : AllPairs Rises slots → Greedy accepts g slots → accepts (spell g slots) → ((i : ℕ) → i < length g.nodes → Contains (places slots) i) → Legal accepts g slots
  legal_when_all rising greedy accepted each = record {
    order = record { each = each; only = only; once = once };
    rising = rising;
    kept = λ before after x e. ((greedy before after x e).may).ready;
    accepted = accepted;
  }
    where
      only : (i : ℕ) → Contains (places slots) i → i < length g.nodes
      only i h =
          let (x, there, place) = Contains-from_map (λ (y : Slot). y.place) slots i h in
          subst (λ (k : ℕ). k < length g.nodes) place (All-contains (λ (y : Slot). y.place < length g.nodes) slots x (greedy_within accepts g slots greedy) there)

      once : (before after : List ℕ) (i : ℕ) → places slots ≡ before ++ i ∷ after → Contains before i → ⊥
      once before after i e h =
          let p = at_place slots before after i e in
          let f = greedy p.front p.back p.slot p.all in
          (f.may).left (subst (λ (k : ℕ). Contains (places p.front) k) (sym p.place) (subst (λ (xs : List ℕ). Contains xs i) (sym p.places_before) h))
