-- The first instruction whose class can't be issued from the start.
use Rattle.std.proofs.Common.{◌≡◌, ℕ, ◌<◌, Bool, true, false, cond, not, length, Some, None, get_or, ap, ◌∙◌, arith}
use Rattle.std.specs.Prelude.{nat_lt}
use Rattle.std.specs.List.{position_or_len}
use Rattle.std.proofs.lemmas.Bool.{ltb-false}
use Rattle.std.proofs.lemmas.List.{get_or-map}
use Rattle.std.proofs.lemmas.List.Sums.{fails_before_first}
use Rattle.std.proofs.lemmas.List.Quantifiers.{position-Some}
use Rattle.hz_pipeline_model.specs.Tables.Machines.{Machine}
use Rattle.hz_block_model.specs.Scheduling.Schedules.{Node, Graph, class_at}
use Rattle.hz_block_model.specs.Scheduling.Machines.{can_start, cannot_start_alone}

no_node : Node
no_node = record { class = 0; height = 0 }

is_true : (b : Bool) → not b ≡ false → b ≡ true
is_true true h = λ i. true
is_true false h = absurd (cc)

is_false : (b : Bool) → not b ≡ true → b ≡ false
is_false true h = absurd (cc)
is_false false h = λ i. false

module _ (m : Machine) (g : Graph) where
  class_is : (i : ℕ) → i < length g.nodes → class_at g i ≡ (get_or g.nodes i no_node).class
  class_is i lt = get_or-map (λ (n : Node). n.class) g.nodes i no_node 0 lt

  -- what is reported of the first that is stuck
  pub first_stuck : (place : ℕ) → cannot_start_alone m g ≡ Some place → (place < length g.nodes) × (can_start m (class_at g place) ≡ false) × ((i : ℕ) → i < place → can_start m (class_at g i) ≡ true)
  first_stuck place e =
      let (inside, here, before) = position-Some (λ (n : Node). not (can_start m n.class)) g.nodes place no_node e in (
        inside,
        ap (can_start m) (class_is place inside) ∙ is_false _ here,
        λ i lt. ap (can_start m) (class_is i (omega arith)) ∙ is_true _ (before i lt),
      )

  -- what is reported where none is
  pub none_stuck : cannot_start_alone m g ≡ None → (i : ℕ) → i < length g.nodes → can_start m (class_at g i) ≡ true
  none_stuck e i lt = ap (can_start m) (class_is i lt) ∙ is_true _ (go (nat_lt (position_or_len (λ (n : Node). not (can_start m n.class)) g.nodes) (length g.nodes)) (λ j. nat_lt (position_or_len (λ (n : Node). not (can_start m n.class)) g.nodes) (length g.nodes)) e)
    where
      go : (b : Bool) → nat_lt (position_or_len (λ (n : Node). not (can_start m n.class)) g.nodes) (length g.nodes) ≡ b → cond b (Some (position_or_len (λ (n : Node). not (can_start m n.class)) g.nodes)) None ≡ None → not (can_start m (get_or g.nodes i no_node).class) ≡ false
      go true h e = absurd (cc)
      go false h e = let all = ltb-false (position_or_len (λ (n : Node). not (can_start m n.class)) g.nodes) (length g.nodes) h in fails_before_first (λ (n : Node). not (can_start m n.class)) g.nodes i no_node (omega arith)
