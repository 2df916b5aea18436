-- Walks of intervals.
use Rattle.std.proofs.Common.{◌≡◌, ℕ, zero, suc, ◌+◌, ◌-◌, ◌≤◌, ◌&&◌, Bool, true, false, cond, List, [], ◌∷◌, ◌++◌, map, get_or, Option, Some, None, refl, sym, ap, ◌∙◌, append-nil, append_assoc, arith}
use Rattle.std.specs.Prelude.{nat_le, option_and_then}
use Rattle.std.specs.List.{filter}
use Rattle.hz_pipeline_model.specs.Accepting.Events.{Event, issue}
use Rattle.hz_pipeline_model.specs.Tables.Machines.{Part, Machine, parts_walk}
use Rattle.hz_pipeline_model.proofs.Tables.MachineLaws.{parts_walk-append}
use Rattle.hz_block_model.specs.Scheduling.Schedules.{Graph, class_at, present, advance_to, spelled}
use Rattle.hz_measure_model.specs.Kernels.Kernels as model
use Rattle.hz_modulo.specs.declared.parts.KernelSlot.{KernelSlot}
use Rattle.hz_modulo.specs.Walking.{kernel_slot_of, graph_of, walk_rest, drained_from}

-- after a walk no more is walked to where it ends
pub stands_after : (parts : List Part) (states next : List ℕ) (t : List Event) → parts_walk parts states t ≡ Some next → parts_walk parts next [] ≡ Some next
stands_after parts states next t e =
    ap (option_and_then (λ s. parts_walk parts s [])) (sym e)
    ∙ (sym (parts_walk-append parts states t [])
    ∙ (ap (parts_walk parts states) (append-nil t) ∙ e))

pub walked_after : (parts : List Part) (states next : List ℕ) (s t : List Event) (o : Option (List ℕ)) → parts_walk parts states s ≡ Some next → parts_walk parts next t ≡ o → parts_walk parts states (s ++ t) ≡ o
walked_after parts states next s t o e f = parts_walk-append parts states s t ∙ (ap (option_and_then (λ n. parts_walk parts n t)) e ∙ f)

module _ (m : Machine) (g : Graph) (interval least most : ℕ) where
  -- what is left, walked slot by slot, is its trace
  pub rest_is : (kernel : List KernelSlot) (cycle : ℕ) (states : List ℕ)
      → walk_rest m g interval least most kernel cycle states
      ≡ parts_walk m.parts states (spelled g cycle (model.slots_of_stages least most (map kernel_slot_of kernel)) ++ advance_to (present cycle (model.slots_of_stages least most (map kernel_slot_of kernel))) interval)
  rest_is [] cycle states = refl
  rest_is (x ∷ kernel) cycle states = go (nat_le least x.stage && nat_le x.stage most) (rest_is kernel)
    where
      go : (b : Bool)
          → ((c : ℕ) (s : List ℕ) → walk_rest m g interval least most kernel c s ≡ parts_walk m.parts s (spelled g c (model.slots_of_stages least most (map kernel_slot_of kernel)) ++ advance_to (present c (model.slots_of_stages least most (map kernel_slot_of kernel))) interval))
          → cond b (option_and_then (walk_rest m g interval least most kernel x.offset) (parts_walk m.parts states (advance_to cycle x.offset ++ issue (class_at g x.place) ∷ []))) (walk_rest m g interval least most kernel cycle states)
          ≡ parts_walk m.parts states (
          spelled g cycle (map (λ y. record { place = y.place; cycle = y.offset }) (cond b (kernel_slot_of x ∷ filter (λ y. nat_le least y.stage && nat_le y.stage most) (map kernel_slot_of kernel)) (filter (λ y. nat_le least y.stage && nat_le y.stage most) (map kernel_slot_of kernel))))
          ++ advance_to (present cycle (map (λ y. record { place = y.place; cycle = y.offset }) (cond b (kernel_slot_of x ∷ filter (λ y. nat_le least y.stage && nat_le y.stage most) (map kernel_slot_of kernel)) (filter (λ y. nat_le least y.stage && nat_le y.stage most) (map kernel_slot_of kernel))))) interval)
      go false rest = rest cycle states
      go true rest =
          same_on (parts_walk m.parts states (advance_to cycle x.offset ++ issue (class_at g x.place) ∷ []))
          ∙ (sym (parts_walk-append m.parts states (advance_to cycle x.offset ++ issue (class_at g x.place) ∷ []) _)
          ∙ ap (parts_walk m.parts states) (
          append_assoc (advance_to cycle x.offset) (issue (class_at g x.place) ∷ []) _
          ∙ sym (append_assoc (advance_to cycle x.offset) (issue (class_at g x.place) ∷ spelled g x.offset (model.slots_of_stages least most (map kernel_slot_of kernel))) (advance_to (present x.offset (model.slots_of_stages least most (map kernel_slot_of kernel))) interval))))
        where
          same_on : (o : Option (List ℕ)) → option_and_then (walk_rest m g interval least most kernel x.offset) o ≡ option_and_then (λ s. parts_walk m.parts s (spelled g x.offset (model.slots_of_stages least most (map kernel_slot_of kernel)) ++ advance_to (present x.offset (model.slots_of_stages least most (map kernel_slot_of kernel))) interval)) o
          same_on None = refl
          same_on (Some s) = rest x.offset s

  pub rest_skipped : (x : KernelSlot) (kernel : List KernelSlot) (cycle : ℕ) (states : List ℕ) → (nat_le least x.stage && nat_le x.stage most) ≡ false → walk_rest m g interval least most (x ∷ kernel) cycle states ≡ walk_rest m g interval least most kernel cycle states
  rest_skipped x kernel cycle states e = ap (λ (b : Bool). cond b (option_and_then (walk_rest m g interval least most kernel x.offset) (parts_walk m.parts states (advance_to cycle x.offset ++ issue (class_at g x.place) ∷ []))) (walk_rest m g interval least most kernel cycle states)) e

  pub rest_issued : (x : KernelSlot) (kernel : List KernelSlot) (cycle : ℕ) (states : List ℕ) (o : Option (List ℕ)) → (nat_le least x.stage && nat_le x.stage most) ≡ true
      → parts_walk m.parts states (advance_to cycle x.offset ++ issue (class_at g x.place) ∷ []) ≡ o
      → walk_rest m g interval least most (x ∷ kernel) cycle states ≡ option_and_then (walk_rest m g interval least most kernel x.offset) o
  rest_issued x kernel cycle states o e f =
      ap (λ (b : Bool). cond b (option_and_then (walk_rest m g interval least most kernel x.offset) (parts_walk m.parts states (advance_to cycle x.offset ++ issue (class_at g x.place) ∷ []))) (walk_rest m g interval least most kernel cycle states)) e
      ∙ ap (option_and_then (walk_rest m g interval least most kernel x.offset)) f

-- the class of a place
pub class_is : (classes : List ℕ) (place : ℕ) → class_at (graph_of classes) place ≡ get_or classes place 0
class_is classes place = ap (λ (cs : List ℕ). get_or cs place 0) (back classes)
  where
    back : (cs : List ℕ) → map (λ n. n.class) (graph_of cs).nodes ≡ cs
    back [] = refl
    back (c ∷ cs) = ap (λ (ds : List ℕ). c ∷ ds) (back cs)

-- the same with the class that was read
pub class_issued : (m : Machine) (classes : List ℕ) (states : List ℕ) (cycle offset place : ℕ) (o : Option (List ℕ)) → parts_walk m.parts states (advance_to cycle offset ++ issue (get_or classes place 0) ∷ []) ≡ o
    → parts_walk m.parts states (advance_to cycle offset ++ issue (class_at (graph_of classes) place) ∷ []) ≡ o
class_issued m classes states cycle offset place o e = ap (λ (class : ℕ). parts_walk m.parts states (advance_to cycle offset ++ issue class ∷ [])) (class_is classes place) ∙ e

-- ---- drains

module _ (m : Machine) (g : Graph) (interval : ℕ) (kernel : List model.KernelSlot) (turn : ℕ) (from : Option (List ℕ)) where
  -- one interval more
  pub drained_more : (n : ℕ) (states : List ℕ) (o : Option (List ℕ)) → drained_from m g interval kernel turn n from ≡ Some states → parts_walk m.parts states (model.interval_trace g interval (n + 1) (turn + n) kernel) ≡ o → drained_from m g interval kernel turn (n + 1) from ≡ o
  drained_more n states o e f =
      let next : n + 1 ≡ suc n = omega arith in
      ap (λ (k : ℕ). drained_from m g interval kernel turn k from) next
      ∙ (ap (option_and_then (λ s. parts_walk m.parts s (model.interval_trace g interval (n + 1) (turn + n) kernel))) e ∙ f)

  -- after none there is none
  none_after : (n more : ℕ) → drained_from m g interval kernel turn n from ≡ None → drained_from m g interval kernel turn (n + more) from ≡ None
  none_after n zero e = let same : n + 0 ≡ n = omega arith in ap (λ (k : ℕ). drained_from m g interval kernel turn k from) same ∙ e
  none_after n (suc more) e =
      let same : n + suc more ≡ suc (n + more) = omega arith in
      ap (λ (k : ℕ). drained_from m g interval kernel turn k from) same
      ∙ ap (option_and_then (λ s. parts_walk m.parts s (model.interval_trace g interval ((n + more) + 1) (turn + (n + more)) kernel))) (none_after n more e)

  pub none_at_end : (n all : ℕ) → n ≤ all → drained_from m g interval kernel turn n from ≡ None → drained_from m g interval kernel turn all from ≡ None
  none_at_end n all le e = let same : all ≡ n + (all - n) = omega (arith, le) in ap (λ (k : ℕ). drained_from m g interval kernel turn k from) same ∙ none_after n (all - n) e
