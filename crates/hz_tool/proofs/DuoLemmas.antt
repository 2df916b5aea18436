-- The schedule that is made of two blocks is the one by the description, and its text is reported; or the first that can't be issued is.
use Rattle.std.proofs.Common.{◌≡◌, ◌⊎◌, ⊎_elim, inl, inr, ℕ, ◌<◌, List, length, map, All, Option, Some, None, MatchBool, refl, sym, ap, ◌∙◌, subst, arith}
use Rattle.std.specs.Prelude.{Err, ◌==◌, unwrap_or}
use Rattle.std.specs.Borrow.{Bor}
use Rattle.std.proofs.lemmas.List.Elements.{All-append}
use Rattle.hz_pipeline_model.specs.Accepting.Events.{Event, IsOfClass}
use Rattle.hz_pipeline_model.specs.Accepting.Replay.{Accepted}
use Rattle.hz_pipeline_model.specs.Pipelines.Pipelines.{pipeline_with}
use Rattle.hz_answer_model.proofs.WalkLaws.{map_twice}
use Rattle.hz_answer_model.specs.DuoAnswers.{StartsTwo, TellsTwo}
use Rattle.hz_answer_model.specs.ScheduleAnswers.{Starts}
use Rattle.hz_pipeline_model.specs.Tables.Machines.{Machine, IsWalked}
use Rattle.hz_block_model.proofs.Scheduling.SameSchedules.{legal_there, greedy_there}
use Rattle.hz_block_model.proofs.Scheduling.StuckLaws.{first_stuck as stuck_first}
use Rattle.hz_block_model.specs.Running.Blocks.{Instruction}
use Rattle.hz_block_model.specs.Scheduled.BlockGraphs.{IsGraphOf}
use Rattle.hz_block_model.specs.Scheduling.Machines.{cannot_start_alone}
use Rattle.hz_block_model.specs.Scheduling.Schedules.{Graph, Node, Slot, Legal, Greedy, present}
use Rattle.hz_depend.specs.declared.parts.Graph as depend
use Rattle.hz_description_model.specs.Check.Places.{Known, class_names}
use Rattle.hz_description_model.specs.Reading.Descriptions.{Description}
use Rattle.hz_duo.specs.Shape.{context_slot, stuck_in}
use Rattle.hz_duo.specs.declared.fault.DuoFault.{DuoFault}
use Rattle.hz_duo.specs.declared.fault.DuoFault.TheVariants as duo
use Rattle.hz_duo.specs.declared.parts.DuoSlot.{DuoSlot}
use Rattle.hz_measure_model.specs.TwoContexts.Joining.{ContextSlot, joined, in_contexts}
use Rattle.hz_measure_model.specs.TwoContexts.Stuck.{first_of_two, stuck_of_two}
use Rattle.hz_measure_model.specs.TwoContexts.Texts.{duo_text, text_of_two}
use Rattle.hz_measure_model.specs.TwoContexts.TwoContexts.{IsScheduleOfTwo}
use Rattle.hz_rtl.specs.Shape.{instruction, instructions}
use Rattle.hz_rtl.specs.declared.block.Block.{Block}
use Rattle.hz_rtl.specs.declared.block.Insn.{Insn}
use Rattle.hz_sched.specs.Shape.{graph_of}
use Rattle.hz_sched.specs.declared.fault.SchedFault.TheVariants as sched
use Rattle.hz_front.proofs.AnswerLemmas.{agrees_weaker}
use Rattle.hz_front.specs.Refusals.{Agrees}
use Rattle.hz_front.specs.declared.refusal.Refusal.{Refusal}
use Rattle.hz_tool.proofs.BlockRefusals.{stuck_reported}
use Rattle.hz_tool.proofs.JudgeLemmas.{starts_then}
use Rattle.hz_tool.proofs.StartLemmas.{each_starts, first_stuck}
use Rattle.hz_tool.specs.Machines.{IsMachineFor}
use Rattle.hz_tool.specs.Pairs.{IsStuckOfTwo, TellsStuckOfTwo}
use Rattle.hz_tool.specs.Refusing.{TellsStuck}

-- ---- which instruction is reported

-- the first of two that tells
pub first_reported : (a b : Option ℕ) (c place : ℕ) → Some (c, place) ≡ first_of_two a b → ((c ≡ 1) × (a ≡ Some place)) ⊎ ((c ≡ 2) × (a ≡ None) × (b ≡ Some place))
first_reported (Some p) b c place h =
    inl (ap (λ (o : Option (ℕ × ℕ)). (unwrap_or o (c, place)).0) h, ap (λ (o : Option (ℕ × ℕ)). Some (unwrap_or o (c, place)).1) (sym h))
first_reported None (Some p) c place h =
    inr (ap (λ (o : Option (ℕ × ℕ)). (unwrap_or o (c, place)).0) h, refl, ap (λ (o : Option (ℕ × ℕ)). Some (unwrap_or o (c, place)).1) (sym h))
first_reported None None c place h = absurd (cc)

-- where none tells
pub none_reported : (a b : Option ℕ) → None ≡ first_of_two a b → (a ≡ None) × (b ≡ None)
none_reported (Some p) b h = absurd (cc)
none_reported None (Some p) h = absurd (cc)
none_reported None None h = (refl, refl)

-- the instruction is one of the block of its context
pub pair_within : (n k : ℕ) (m : Machine) (g h : Graph) (fault : DuoFault) → length g.nodes ≡ n → length h.nodes ≡ k → stuck_in (Err fault) ≡ stuck_of_two m g h → IsStuckOfTwo n k fault
pair_within n k m g h (duo.CannotStartAlone c place) one other e =
    ⊎_elim
    (λ (a : (c ≡ 1) × (cannot_start_alone m g ≡ Some place)). inl (a.0, let low = (stuck_first m g place a.1).0 in omega (arith, low, one)))
    (λ (b : (c ≡ 2) × (cannot_start_alone m g ≡ None) × (cannot_start_alone m h ≡ Some place)). inr (b.0, let low = (stuck_first m h place b.2).0 in omega (arith, low, other)))
    (first_reported (cannot_start_alone m g) (cannot_start_alone m h) c place e)
pair_within n k m g h duo.NoMemory one other e = tt

module _ (d : Description) (known : Known) (m : Machine) (is : IsMachineFor d known m) where
  module _ (one other : List Insn) (g h : Graph) (first_graph : IsGraphOf d (map instruction one) g) (second_graph : IsGraphOf d (map instruction other) h)
      (mine : All (λ n. n.class < length d.classes) g.nodes) (yours : All (λ n. n.class < length d.classes) h.nodes) where
    -- what is reported is the answer, where what is reported first can't be issued
    pub pair_refused : (first second : Bor (List ℕ)) (fault : DuoFault) (reported : Refusal) → stuck_in (Err fault) ≡ stuck_of_two m g h → TellsStuckOfTwo first second one other fault reported
        → Agrees (StartsTwo first.now second.now d known (map instruction one) (map instruction other)) reported
    pair_refused first second (duo.CannotStartAlone c place) reported e tells =
        ⊎_elim
        (λ (a : (c ≡ 1) × (cannot_start_alone m g ≡ Some place)).
        stuck_reported first d known one (Starts second.now d known (map instruction other) both) (sched.CannotStartAlone place) reported
        (λ p i at there. first_stuck d known m is g (map instruction one) first_graph mine p i (a.1 ∙ at) there)
        (subst (λ (c : ℕ). MatchBool (c == 1) (Of first one) (Of second other)) a.0 tells))
        (λ (b : (c ≡ 2) × (cannot_start_alone m g ≡ None) × (cannot_start_alone m h ≡ Some place)).
        agrees_weaker (Starts second.now d known (map instruction other) both) (StartsTwo first.now second.now d known (map instruction one) (map instruction other))
        (starts_then first.now d (map instruction one) (Starts second.now d known (map instruction other) both) known (each_starts d known m is g (map instruction one) first_graph mine b.1)) reported
        (stuck_reported second d known other both (sched.CannotStartAlone place) reported
        (λ p i at there. first_stuck d known m is h (map instruction other) second_graph yours p i (b.2 ∙ at) there)
        (subst (λ (c : ℕ). MatchBool (c == 1) (Of first one) (Of second other)) b.0 tells)))
        (first_reported (cannot_start_alone m g) (cannot_start_alone m h) c place e)
      where
        both : ℕ → List ℕ → Type 0
        both = TellsTwo d known (map instruction one) (map instruction other)

        Of : Bor (List ℕ) → List Insn → Type 0
        Of file insns = TellsStuck file insns (sched.CannotStartAlone place) reported
    pair_refused first second duo.NoMemory reported e tells = subst (Agrees (StartsTwo first.now second.now d known (map instruction one) (map instruction other))) (sym tells) tt

  -- ---- the schedule

  -- what the machine walks of the classes of the description is accepted, and the other way round
  there : (t : List Event) → All (IsOfClass (length d.classes)) t → IsWalked m t → Accepted (pipeline_with d known) t
  there t all = (is.walks t all).0

  back : (t : List Event) → All (IsOfClass (length d.classes)) t → Accepted (pipeline_with d known) t → IsWalked m t
  back t all = (is.walks t all).1

  -- the schedule is legal and greedy by the description
  pub pair_is : (first second : List Instruction) (g h : Graph) (slots : List Slot) → IsGraphOf d first g → IsGraphOf d second h → All (λ n. n.class < length d.classes) g.nodes → All (λ n. n.class < length d.classes) h.nodes
      → Legal (IsWalked m) (joined g h) slots → Greedy (IsWalked m) (joined g h) slots → IsScheduleOfTwo d known first second g h slots
  pair_is first second g h slots one other mine yours legal greedy =
      let ranges = All-append (λ (n : Node). n.class < length d.classes) g.nodes h.nodes mine yours in
      record {
        first_graph = one;
        second_graph = other;
        legal = legal_there (length d.classes) (IsWalked m) (Accepted (pipeline_with d known)) there back (joined g h) ranges slots legal;
        greedy = greedy_there (length d.classes) (IsWalked m) (Accepted (pipeline_with d known)) there back (joined g h) ranges slots greedy;
      }

-- the text by the names and numbers that are held
pub pair_reported : (d : Description) (names : List (List ℕ)) (one other : Block) (first second : depend.Graph) (slots : List DuoSlot) (all alone others : List Slot) (mine yours : ℕ) → names ≡ class_names d
    → map (λ i. i.number) first.insns.items ≡ map (λ i. i.number) one.insns.items → map (λ i. i.number) second.insns.items ≡ map (λ i. i.number) other.insns.items
    → map context_slot slots ≡ in_contexts (length (graph_of first).nodes) all → length (graph_of first).nodes ≡ length (instructions one) → mine ≡ present 0 alone → yours ≡ present 0 others
    → duo_text names (map (λ i. i.number) first.insns.items) (map (λ i. i.number) second.insns.items) (graph_of first) (graph_of second) (map context_slot slots) mine yours ≡ text_of_two d (instructions one) (instructions other) (graph_of first) (graph_of second) all alone others
pair_reported d names one other first second slots all alone others mine yours same numbers more paired size last late =
    ap (λ (ns : List (List ℕ)). duo_text ns (map (λ i. i.number) first.insns.items) (map (λ i. i.number) second.insns.items) g h (map context_slot slots) mine yours) same
    ∙ (ap (λ (ns : List ℕ). duo_text (class_names d) ns (map (λ i. i.number) second.insns.items) g h (map context_slot slots) mine yours) (numbers ∙ sym (map_twice (λ (i : Instruction). i.number) instruction one.insns.items))
    ∙ (ap (λ (ns : List ℕ). duo_text (class_names d) of_one ns g h (map context_slot slots) mine yours) (more ∙ sym (map_twice (λ (i : Instruction). i.number) instruction other.insns.items))
    ∙ (ap (λ (xs : List ContextSlot). duo_text (class_names d) of_one of_other g h xs mine yours) (paired ∙ ap (λ (n : ℕ). in_contexts n all) size)
    ∙ (ap (λ (n : ℕ). duo_text (class_names d) of_one of_other g h (in_contexts (length (instructions one)) all) n yours) last
    ∙ ap (duo_text (class_names d) of_one of_other g h (in_contexts (length (instructions one)) all) (present 0 alone)) late))))
  where
    g : Graph
    g = graph_of first

    h : Graph
    h = graph_of second

    of_one : List ℕ
    of_one = map (λ i. i.number) (instructions one)

    of_other : List ℕ
    of_other = map (λ i. i.number) (instructions other)
