-- What is refused of a block without a schedule, or without a graph, is the answer.
use Rattle.std.proofs.Common.{◌≡◌, ℕ, ◌<◌, List, [], ◌∷◌, map, Some, None, Result, Ok, Err, slice_get, Option, refl, sym, ap, ap₂, ◌∙◌, subst}
use Rattle.std.specs.Prelude.{IfOk, slice_index_or, unwrap_or}
use Rattle.std.specs.Borrow.{Bor}
use Rattle.std.specs.Option.{option_map}
use Rattle.std.proofs.lemmas.Option.{slice_get-map}
use Rattle.hz_answer_model.specs.FaultTexts.{class_line}
use Rattle.hz_front_model.specs.Phases.{Says}
use Rattle.hz_answer_model.specs.ScheduleAnswers.{HasClasses, Starts}
use Rattle.hz_front_model.specs.Texts.{fault_text}
use Rattle.hz_base_model.specs.Reported.{reported_in}
use Rattle.hz_block_model.specs.Dependences.Classes.{ClassFault, class_word, classes_named}
use Rattle.hz_block_model.specs.Running.Blocks.{Instruction}
use Rattle.hz_block_model.specs.Scheduled.BlockGraphs.{IsFirstClassFault}
use Rattle.hz_block_model.specs.Scheduled.BlockSchedules.{IsFirstStuck}
use Rattle.hz_block_model.specs.Scheduling.Machines.{stuck_word}
use Rattle.hz_depend.specs.Faults as depend_faults
use Rattle.hz_depend.specs.GraphShape.{class_fault_in}
use Rattle.hz_depend.specs.declared.fault.DependFault.{DependFault}
use Rattle.hz_depend.specs.declared.fault.DependFault.TheVariants as depend
use Rattle.hz_description_model.specs.Check.Places.{Known, class_names}
use Rattle.hz_description_model.specs.Reading.Descriptions.{Description}
use Rattle.hz_rtl.specs.Shape.{instruction}
use Rattle.hz_rtl.specs.declared.block.Insn.{Insn}
use Rattle.hz_sched.specs.Shape.{alone_in, reported_of}
use Rattle.hz_sched.specs.declared.fault.SchedFault.{SchedFault}
use Rattle.hz_sched.specs.declared.fault.SchedFault.TheVariants as sched
use Rattle.hz_front.specs.Refusals.{Agrees, IsJudged}
use Rattle.hz_front.specs.declared.refusal.Refusal.{Refusal}
use Rattle.hz_front.specs.declared.refusal.Refusal.TheVariants as refusal
use Rattle.hz_tool.proofs.JudgeLemmas.{class_wrong, stuck_wrong}
use Rattle.hz_tool.specs.Blocks.{IsFaultIn, IsWrongIn, IsStuckIn}
use Rattle.hz_tool.specs.Refusing.{TellsDepend, TellsStuck, refuse_ambiguous, refuse_insn}

-- the instruction is one of the block, where each that is reported is
pub stuck_within : (n : ℕ) (fault : SchedFault) → ((place : ℕ) → alone_in (Err fault) ≡ Some place → place < n) → IsStuckIn n fault
stuck_within n (sched.CannotStartAlone place) low = low place refl
stuck_within n sched.NoMemory low = tt

-- so is the one whose place is reported with a word
pub place_within : (n : ℕ) (fault : SchedFault) (reported : Option (Bor (List ℕ) × ℕ)) (at : Bor (List ℕ) × ℕ) → reported ≡ Some at → reported_in reported ≡ reported_of fault → IsStuckIn n fault → at.1 < n
place_within n (sched.CannotStartAlone place) reported at is same low =
    let there : Some (at.0.now, at.1) ≡ Some (stuck_word, place) = ap reported_in (sym is) ∙ same in
    subst (λ (k : ℕ). k < n) (sym (ap (λ (o : Option (List ℕ × ℕ)). (unwrap_or o (stuck_word, place)).1) there)) low
place_within n sched.NoMemory reported at is same low =
    let there : Some (at.0.now, at.1) ≡ None = ap reported_in (sym is) ∙ same in
    absurd (cc)

-- the refusal of the instruction there, by the word
pub word_reported : (file : Bor (List ℕ)) (insns : List Insn) (fault : SchedFault) (reported : Option (Bor (List ℕ) × ℕ)) (at : Bor (List ℕ) × ℕ) (insn : Insn) → reported ≡ Some at → reported_in reported ≡ reported_of fault → slice_get insns at.1 ≡ Some insn
    → TellsStuck file insns fault (refuse_insn file insn at.0 None None)
word_reported file insns (sched.CannotStartAlone place) reported at insn is same found =
    let there : Some (at.0.now, at.1) ≡ Some (stuck_word, place) = ap reported_in (sym is) ∙ same in
    let word = ap (λ (o : Option (List ℕ × ℕ)). (unwrap_or o (stuck_word, place)).0) there in
    let here = ap (λ (o : Option (List ℕ × ℕ)). (unwrap_or o (stuck_word, place)).1) there in
    (insn, subst (λ (k : ℕ). slice_get insns k ≡ Some insn) here found, (refl, ap (λ (w : List ℕ). fault_text file.now insn.line w (Some insn.number) None None None) word))
word_reported file insns sched.NoMemory reported at insn is same found =
    let there : Some (at.0.now, at.1) ≡ None = ap reported_in (sym is) ∙ same in
    absurd (cc)

-- where nothing is reported memory ran out
pub memory_reported : (file : Bor (List ℕ)) (insns : List Insn) (fault : SchedFault) (reported : Option (Bor (List ℕ) × ℕ)) → reported ≡ None → reported_in reported ≡ reported_of fault → TellsStuck file insns fault refusal.Memory
memory_reported file insns (sched.CannotStartAlone place) reported none same =
    let there : None ≡ Some (stuck_word, place) = ap reported_in (sym none) ∙ same in
    absurd (cc)
memory_reported file insns sched.NoMemory reported none same = refl

-- what is reported is the answer, where what is reported first can't be issued
pub stuck_reported : (file : Bor (List ℕ)) (d : Description) (known : Known) (insns : List Insn) (next : ℕ → List ℕ → Type 0) (fault : SchedFault) (reported : Refusal) → ((place : ℕ) (i : Instruction) → alone_in (Err fault) ≡ Some place → slice_get (map instruction insns) place ≡ Some i → IsFirstStuck d known (map instruction insns) i)
    → TellsStuck file insns fault reported → Agrees (Starts file.now d known (map instruction insns) next) reported
stuck_reported file d known insns next (sched.CannotStartAlone place) reported first (insn, there, h) =
    stuck_wrong file.now d (map instruction insns) next known reported (instruction insn) (first place (instruction insn) refl (slice_get-map instruction insns place ∙ ap (option_map instruction) there)) h
stuck_reported file d known insns next sched.NoMemory reported first is = subst (Agrees (Starts file.now d known (map instruction insns) next)) (sym is) tt

-- the instruction is one of the block and the classes are of the description, where each that is reported is
pub wrong_in : (count insns : ℕ) (fault : DependFault) → ((place : ℕ) (e : ClassFault) → class_fault_in (Err fault) ≡ Some (place, e) → (place < insns) × IsFaultIn count e) → IsWrongIn count insns fault
wrong_in count insns (depend.Class place fault) low = low place (depend_faults.fault fault) refl
wrong_in count insns depend.NoMemory low = tt

-- what is reported is the answer, where the class of what is reported is the first that is wrong
pub wrong_reported : (file : Bor (List ℕ)) (d : Description) (names : List (List ℕ)) (insns : List Insn) (next : ℕ → List ℕ → Type 0) (fault : DependFault) (reported : Refusal) → names ≡ class_names d
    → ((place : ℕ) (e : ClassFault) (insn : Insn) → class_fault_in (Err fault) ≡ Some (place, e) → slice_get insns place ≡ Some insn → IsFirstClassFault d (map instruction insns) (instruction insn) e)
    → TellsDepend file names insns fault reported → Agrees (HasClasses file.now d (map instruction insns) next) reported
wrong_reported file d names insns next (depend.Class place fault) reported same first (insn, there, h) =
    class_wrong file.now d (map instruction insns) next names reported (instruction insn) (depend_faults.fault fault) same (first place (depend_faults.fault fault) insn refl there) h
wrong_reported file d names insns next depend.NoMemory reported same first is = subst (Agrees (HasClasses file.now d (map instruction insns) next)) (sym is) tt

-- Lines of instructions.

module _ (file : Bor (List ℕ)) (names : List (List ℕ)) (insn : Insn) (word : Bor (List ℕ)) (fault : ClassFault) (same : word.now ≡ class_word fault) where
  -- a fault that names no class
  pub class_reported : (classes : List ℕ) → classes ≡ [] → classes ≡ classes_named fault → Agrees (Says 2 (class_line file.now names (instruction insn) fault)) (refuse_insn file insn word None None)
  class_reported classes none is = (
    refl,
    ap (λ (w : List ℕ). fault_text file.now insn.line w (Some insn.number) None None None) same
        ∙ ap (λ (ks : List ℕ). fault_text file.now insn.line (class_word fault) (Some insn.number) (slice_get (map (λ k. slice_index_or names k []) ks) 0) (slice_get (map (λ k. slice_index_or names k []) ks) 1) None) (sym none ∙ is),
  )

  -- a fault that names two, by the copies of their names, or memory ran out
  pub classes_reported : {E : Type 0} (a b : ℕ) (copied : Result (List ℕ × List ℕ) E) → a ∷ b ∷ [] ≡ classes_named fault → IfOk copied (λ found. (found.0 ≡ slice_index_or names a []) × (found.1 ≡ slice_index_or names b []))
      → Agrees (Says 2 (class_line file.now names (instruction insn) fault)) (refuse_ambiguous file insn word copied)
  classes_reported a b (Ok found) is (first, second) = (
    refl,
    ap (λ (w : List ℕ). fault_text file.now insn.line w (Some insn.number) (Some found.0) (Some found.1) None) same
        ∙ (ap₂ (λ (x y : List ℕ). fault_text file.now insn.line (class_word fault) (Some insn.number) (Some x) (Some y) None) first second
        ∙ ap (λ (ks : List ℕ). fault_text file.now insn.line (class_word fault) (Some insn.number) (slice_get (map (λ k. slice_index_or names k []) ks) 0) (slice_get (map (λ k. slice_index_or names k []) ks) 1) None) is),
  )
  classes_reported a b (Err refused) is h = tt

-- the refusal by two names is of a text that was judged
pub ambiguous_judged : {E : Type 0} (file : Bor (List ℕ)) (insn : Insn) (word : Bor (List ℕ)) (copied : Result (List ℕ × List ℕ) E) → IsJudged (refuse_ambiguous file insn word copied)
ambiguous_judged file insn word (Ok found) = tt
ambiguous_judged file insn word (Err refused) = tt
