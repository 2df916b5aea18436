-- The refusals of automata and instructions, by what the crates below report.
use Rattle.std.specs.Prelude.{◌≡◌, ℕ, List, Option, Some, None, Result, Ok, Err, slice_get}
use Rattle.std.specs.Borrow.{Bor}
use Rattle.hz_answer_model.specs.FaultTexts.{class_line, stuck_line}
use Rattle.hz_front_model.specs.Phases.{Says}
use Rattle.hz_auto.specs.declared.fault.AutoFault.{AutoFault}
use Rattle.hz_auto.specs.declared.fault.AutoFault.TheVariants as auto_fault
use Rattle.hz_depend.specs.Faults.{fault as fault_of}
use Rattle.hz_depend.specs.declared.fault.DependFault.{DependFault}
use Rattle.hz_depend.specs.declared.fault.DependFault.TheVariants as depend
use Rattle.hz_rtl.specs.Shape.{instruction}
use Rattle.hz_rtl.specs.declared.block.Insn.{Insn}
use Rattle.hz_sched.specs.declared.fault.SchedFault.{SchedFault}
use Rattle.hz_sched.specs.declared.fault.SchedFault.TheVariants as sched
use Rattle.hz_front.specs.Refusals.{Agrees}
use Rattle.hz_front.specs.declared.refusal.Refusal.{Refusal}
use Rattle.hz_front.specs.declared.refusal.Refusal.TheVariants as refusal

-- the automaton that has a count above its limit, none where memory ran out
abbrev pub limited : AutoFault → Option ℕ
limited (auto_fault.Limit automaton what) = Some automaton
limited auto_fault.NoMemory = None

-- an automaton that has a count above its limit, by the copy of its name
abbrev pub refuse_states : {E : Type 0} → Bor (List ℕ) → Result (List ℕ) E → Refusal
refuse_states file (Ok name) = refusal.Automaton file name
refuse_states file (Err refused) = refusal.Memory

-- a fault of an instruction, by its word
abbrev pub refuse_insn : Bor (List ℕ) → Insn → (word : Bor (List ℕ)) → (first second : Option (List ℕ)) → Refusal
refuse_insn file insn word first second = refusal.Fault file insn.line word (Some insn.number) first second None

-- an instruction of two classes, by the copies of their names
abbrev pub refuse_ambiguous : {E : Type 0} → Bor (List ℕ) → Insn → (word : Bor (List ℕ)) → Result (List ℕ × List ℕ) E → Refusal
refuse_ambiguous file insn word (Ok names) = refuse_insn file insn word (Some names.0) (Some names.1)
refuse_ambiguous file insn word (Err refused) = refusal.Memory

-- What is refused of a block without a graph, by the instruction at the place.
abbrev pub TellsDepend : Bor (List ℕ) → List (List ℕ) → List Insn → DependFault → Refusal → Type 0
TellsDepend file names insns (depend.Class place fault) reported = (insn : Insn) × (slice_get insns place ≡ Some insn) × Agrees (Says 2 (class_line file.now names (instruction insn) (fault_of fault))) reported
TellsDepend file names insns depend.NoMemory reported = reported ≡ refusal.Memory

-- What is refused of a block without a schedule, by the instruction at the place.
abbrev pub TellsStuck : Bor (List ℕ) → List Insn → SchedFault → Refusal → Type 0
TellsStuck file insns (sched.CannotStartAlone place) reported = (insn : Insn) × (slice_get insns place ≡ Some insn) × Agrees (Says 2 (stuck_line file.now (instruction insn))) reported
TellsStuck file insns sched.NoMemory reported = reported ≡ refusal.Memory
