-- An issue always comes.
use Rattle.std.proofs.Common.{◌≡◌, ℕ, ◌+◌, ◌-◌, ◌<◌, ◌≤◌, true, List, [], ◌∷◌, ◌++◌, length, Option, Some, None, is_some, All, refl, sym, ap, ◌∙◌, subst, append_assoc, arith}
use Rattle.std.specs.Prelude.{IsSome}
use Rattle.hz_pipeline_model.specs.Accepting.Events.{issue, advance, IsOfClass}
use Rattle.std.proofs.lemmas.List.Elements.{All-append, All-cons, All-nil}
use Rattle.hz_pipeline_model.specs.Tables.Machines.{Machine, parts_walk, machine_walk, starts_of, IsWalked}
use Rattle.hz_base_model.specs.Limits.{cycle_limit}
use Rattle.hz_description_model.specs.Reading.Limits.{latency_limit}
use Rattle.hz_block_model.specs.Scheduling.Schedules.{Graph, Slot, class_at, present, spell, IsReady, IsCandidate}
use Rattle.hz_block_model.specs.Scheduling.Machines.{Settles, can_start}
use Rattle.hz_block_model.proofs.Scheduling.SameSchedules.{greedy_within, spelled_of_class}
use Rattle.hz_sched.specs.Waits.{issued_at}
use Rattle.hz_sched.specs.Standing.{IsAt, left_below}
use Rattle.hz_sched.proofs.UpwardEdges.{IsUpward}
use Rattle.hz_sched.proofs.SlotLemmas.{none_issued, slot_of_issue, Least, least_left}
use Rattle.hz_block_model.proofs.Scheduling.SlotLaws.{below_present}
use Rattle.hz_sched.proofs.WalkLemmas.{front_walked, walk_after, walk_to, walk_split}
use Rattle.hz_base_model.specs.Limits.{cycle_limit}

some_of : {A : Type 0} (o : Option A) → is_some o ≡ true → (x : A) × (o ≡ Some x)
some_of None h = absurd (cc)
some_of (Some x) h = (x, refl)

module _ (m : Machine) (g : Graph) (settles : Settles m) (upward : IsUpward g) (ranges : All (λ n. n.class < length m.classes) g.nodes) (alone : (j : ℕ) → j < length g.nodes → can_start m (class_at g j) ≡ true)
    (slots : List Slot) (cycle : ℕ) (states : List ℕ) (at : IsAt m g slots cycle states) where
  -- the machine settles after the trace and `latency_limit` cycles
  settled : (a b c d : ℕ) → b ≡ cycle_limit → d ≡ a + b → cycle - present 0 slots ≡ a + c → machine_walk m (spell g slots ++ advance d ∷ []) ≡ Some (starts_of m)
  settled a b c d quiet both late =
      let all : machine_walk m (spell g slots ++ advance (a + c) ∷ []) ≡ Some states = subst (λ (n : ℕ). machine_walk m (spell g slots ++ advance n ∷ []) ≡ Some states) late at.walked in
      let parted : machine_walk m ((spell g slots ++ advance a ∷ []) ++ advance c ∷ []) ≡ Some states = ap (machine_walk m) (append_assoc (spell g slots) (advance a ∷ []) (advance c ∷ [])) ∙ (walk_split m (spell g slots) [] a c ∙ all) in
      let walked : IsWalked m (spell g slots ++ advance a ∷ []) = front_walked m (spell g slots ++ advance a ∷ []) (advance c ∷ []) states parted in
      let of_class = All-append (IsOfClass (length m.classes)) (spell g slots) (advance a ∷ []) (spelled_of_class (length m.classes) g ranges 0 slots (greedy_within (IsWalked m) g slots at.greedy))
      (All-cons (IsOfClass (length m.classes)) (advance a) [] tt (All-nil (IsOfClass (length m.classes)))) in
      let quiet_then = settles.settles (spell g slots ++ advance a ∷ []) of_class walked in
      ap (λ (n : ℕ). machine_walk m (spell g slots ++ advance n ∷ [])) both
      ∙ (sym (walk_split m (spell g slots) [] a b)
      ∙ (sym (ap (machine_walk m) (append_assoc (spell g slots) (advance a ∷ []) (advance b ∷ [])))
      ∙ (ap (λ (n : ℕ). machine_walk m ((spell g slots ++ advance a ∷ []) ++ advance n ∷ [])) quiet ∙ quiet_then)))

  -- the first that is left waits for issues alone that have come
  waits_no_more : (l : Least (issued_at slots) (length g.nodes)) (then : ℕ) → present 0 slots + latency_limit ≤ then → IsReady g slots then l.place
  waits_no_more l then late e there to =
      let (up, inside, small) = upward.upward e there in
      let (c, some) = some_of (issued_at slots e.from) (l.below e.from (omega arith)) in
      let (x, held, place, when) = slot_of_issue slots e.from c some in
      let low = below_present slots 0 at.rising x held in
      (x, held, place, omega arith)

  -- where enough cycles have gone by, a candidate came in time
  pub some_comes : 0 < left_below (issued_at slots) (length g.nodes) → (a b c then : ℕ) → a ≡ latency_limit → b ≡ cycle_limit → cycle ≡ present 0 slots + (a + c) → then ≡ present 0 slots + (a + b) → (j : ℕ) × IsCandidate (IsWalked m) g slots then j
  some_comes some a b c then thousand quiet late soon =
      let l = least_left (issued_at slots) (length g.nodes) some in
      let low : present 0 slots ≤ then = omega arith in
      let d : then - present 0 slots ≡ a + b = omega arith in
      let here = settled a b c (a + b) quiet refl (omega arith) in
      let starts : IsSome (parts_walk m.parts (starts_of m) (issue (class_at g l.place) ∷ [])) = alone l.place l.within in
      let beyond = walk_after m (spell g slots) (a + b) (starts_of m) here (issue (class_at g l.place) ∷ []) in
      let path = walk_to m (spell g slots) (issue (class_at g l.place) ∷ []) (present 0 slots) then low ∙ (ap (λ (n : ℕ). machine_walk m (spell g slots ++ advance n ∷ issue (class_at g l.place) ∷ [])) d ∙ beyond) in (
        l.place,
        record {
          within = l.within;
          left = none_issued slots l.place l.left;
          ready = waits_no_more l then (omega arith);
          fits = subst (λ (o : Option (List ℕ)). IsSome o) (sym path) starts;
        },
      )
