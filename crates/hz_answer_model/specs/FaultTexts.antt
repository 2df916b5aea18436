-- The texts of faults of an instruction. This profile, docs/FORMATS.md, 'Answers'.
use Rattle.std.specs.Prelude.{ℕ, List, [], map, Option, Some, None, slice_get, slice_index_or}
use Rattle.hz_block_model.specs.Running.Blocks.{Instruction}
use Rattle.hz_block_model.specs.Scheduling.Machines.{stuck_word}
use Rattle.hz_block_model.specs.Dependences.Classes.{ClassFault, class_word, classes_named}
use Rattle.hz_front_model.specs.Texts.{fault_text}

-- a fault of an instruction of a block: its word, the number, and names
abbrev pub insn_line : List ℕ → Instruction → List ℕ → (first second : Option (List ℕ)) → List ℕ
insn_line file i word first second = fault_text file i.line word (Some i.number) first second None

-- the line of an instruction whose class is wrong, of classes with these names
abbrev pub class_line : List ℕ → List (List ℕ) → Instruction → ClassFault → List ℕ
class_line file classes i fault = insn_line file i (class_word fault) (slice_get named 0) (slice_get named 1)
  where
    named : List (List ℕ)
    named = map (λ k. slice_index_or classes k []) (classes_named fault)

-- the line of an instruction that can't be issued from the start
abbrev pub stuck_line : List ℕ → Instruction → List ℕ
stuck_line file i = insn_line file i stuck_word None None
