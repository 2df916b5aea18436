-- A legal schedule of two blocks keeps both.
use Rattle.std.proofs.Common.{◌≡◌, ℕ, ◌<◌, ◌≤◌, inl, inr, ◌⊎◌, ⊎_elim, List, map, length, Contains, refl, sym, ap, ◌∙◌, subst, arith}
use Rattle.std.proofs.lemmas.Bool.{cases_lt}
use Rattle.hz_base_model.proofs.Elements.{Contains-from_map}
use Rattle.hz_pipeline_model.specs.Accepting.Replay.{Accepted}
use Rattle.hz_description_model.specs.Check.Places.{Known}
use Rattle.hz_description_model.specs.Reading.Descriptions.{Description}
use Rattle.hz_pipeline_model.specs.Pipelines.Pipelines.{pipeline_with}
use Rattle.hz_block_model.specs.Running.Blocks.{Instruction}
use Rattle.std.specs.List.{range_with_len}
use Rattle.hz_block_model.specs.Running.States.{State, run}
use Rattle.hz_block_model.specs.Dependences.Graphs.{edge}
use Rattle.hz_block_model.proofs.Dependences.UpwardLaws.{upwards}
use Rattle.hz_block_model.specs.Scheduling.Schedules.{Graph, Slot, places, Legal}
use Rattle.hz_block_model.specs.Scheduled.BlockGraphs.{timing_in, classes_of, IsGraphOf}
use Rattle.hz_block_model.proofs.Scheduled.GraphLaws.{as_many}
use Rattle.hz_measure_model.specs.TwoContexts.Joining.{joined, ContextSlot, in_context, own}
use Rattle.hz_measure_model.specs.TwoContexts.TwoContexts.{KeepsContext, KeepsBoth}
use Rattle.hz_measure_model.proofs.TwoContexts.JoinLaws.{KeepsGraph, IsWithin, keeps_first, keeps_second, graph_kept, run_two_is, is_first, is_second}

module _ (d : Description) (known : Known) where
  within_block : (block : List Instruction) (g : Graph) → IsGraphOf d block g → IsWithin g
  within_block block g graph = record {
    from = λ e there. let (up, low, holds, weight) = (graph.edges).only e there in omega (arith, up, low, as_many d block g graph);
    to = λ e there. let (up, low, holds, weight) = (graph.edges).only e there in omega (arith, low, as_many d block g graph);
  }

  keeps_context : (block : List Instruction) (g : Graph) (slots : List Slot) → IsGraphOf d block g → KeepsGraph g slots → KeepsContext d known block g slots
  keeps_context block g slots graph keeps = record {
    each = rw (sym (as_many d block g graph)) keeps.each;
    kept = λ before after x i is depending.
        let (up, inside) = upwards block i x.place depending in
        keeps.kept before after x is (edge block (timing_in d (classes_of g) block) i x.place) ((graph.edges).each i x.place (omega (arith, up, inside)) inside depending) refl;
  }

  pub keeps_both : (first second : List Instruction) (g h : Graph) (slots : List Slot) → IsGraphOf d first g → IsGraphOf d second h → Legal (Accepted (pipeline_with d known)) (joined g h) slots → KeepsBoth d known first second g h slots
  keeps_both first second g h slots one other legal = record {
    of_first = keeps_context first g (own 1 two) one mine;
    of_second = keeps_context second h (own 2 two) other yours;
    rising = legal.rising;
    accepted = legal.accepted;
    leaves = λ s t.
        run_two_is first second two contexts s t
        ∙ (ap (λ (r : State). (r, run second (places (own 2 two)) t)) (graph_kept first (timing_in d (classes_of g) first) g (own 1 two) one.edges (as_many d first g one) mine s)
        ∙ ap (λ (r : State). (run first (range_with_len 0 (length first)) s, r)) (graph_kept second (timing_in d (classes_of h) second) h (own 2 two) other.edges (as_many d second h other) yours t));
  }
    where
      two : List ContextSlot
      two = map (in_context (length first)) slots

      same : (n : ℕ) → length g.nodes ≡ n → KeepsGraph g (own 1 (map (in_context n) slots)) × KeepsGraph h (own 2 (map (in_context n) slots))
      same n e = subst (λ (n : ℕ). KeepsGraph g (own 1 (map (in_context n) slots)) × KeepsGraph h (own 2 (map (in_context n) slots))) e
          (keeps_first (Accepted (pipeline_with d known)) g h slots legal (within_block first g one), keeps_second (Accepted (pipeline_with d known)) g h slots legal (within_block second h other))

      mine : KeepsGraph g (own 1 two)
      mine = (same (length first) (as_many d first g one)).0

      yours : KeepsGraph h (own 2 two)
      yours = (same (length first) (as_many d first g one)).1

      contexts : (x : ContextSlot) → Contains two x → (x.context ≡ 1) ⊎ (x.context ≡ 2)
      contexts x there =
          let (y, held, e) = Contains-from_map (in_context (length first)) slots x there in
          ⊎_elim
          (λ (lt : y.place < length first). inl (sym (ap (λ (z : ContextSlot). z.context) e) ∙ ap (λ (z : ContextSlot). z.context) (is_first (length first) y lt)))
          (λ (le : length first ≤ y.place). inr (sym (ap (λ (z : ContextSlot). z.context) e) ∙ ap (λ (z : ContextSlot). z.context) (is_second (length first) y le)))
          (cases_lt y.place (length first))
