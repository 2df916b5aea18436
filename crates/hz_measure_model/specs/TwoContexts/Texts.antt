-- The text of a schedule of two blocks: this profile, docs/FORMATS.md, 'Answers'.
use Rattle.std.specs.Prelude.{ℕ, ◌==◌, if◌then◌else◌, List, [], ◌∷◌, ◌++◌, codes, decimal, map, length, slice_index, slice_index_or}
use Rattle.std.specs.List.{concat, flat_map}
use Rattle.hz_description_model.specs.Check.Places.{class_names}
use Rattle.hz_description_model.specs.Reading.Descriptions.{Description}
use Rattle.hz_block_model.specs.Running.Blocks.{Instruction}
use Rattle.hz_block_model.specs.Scheduling.Schedules.{Graph, Slot, class_at, present}
use Rattle.hz_measure_model.specs.TwoContexts.Joining.{ContextSlot, in_contexts}

-- an issue: its cycle and its context, and the number and the class of the instruction
abbrev pub issue_line : ℕ → ℕ → ℕ → List ℕ → List ℕ
issue_line cycle context number class = concat (decimal cycle ∷ codes " " ∷ decimal context ∷ codes " " ∷ decimal number ∷ codes " " ∷ class ∷ codes "\n" ∷ [])

-- the end of the schedule: how many instructions each context has, and the cycle of the last
abbrev pub together_line : ℕ → ℕ → ℕ → List ℕ
together_line first second cycles = concat (codes "scheduled " ∷ decimal first ∷ codes " + " ∷ decimal second ∷ codes " insns " ∷ decimal cycles ∷ codes " cycles\n" ∷ [])

-- the last cycle of each block alone
abbrev pub alone_line : ℕ → ℕ → List ℕ
alone_line first second = concat (codes "alone " ∷ decimal first ∷ codes " " ∷ decimal second ∷ codes " cycles\n" ∷ [])

-- the line of a slot of a context, by the names of the classes, the numbers of its instructions and its graph
abbrev pub line_of_own : List (List ℕ) → List ℕ → Graph → ContextSlot → List ℕ
line_of_own classes numbers g x = issue_line x.cycle x.context (slice_index numbers x.place) (slice_index_or classes (class_at g x.place) [])

-- the cycle of the last slot, or the one before all slots
abbrev pub last_cycle : ℕ → List ContextSlot → ℕ
last_cycle cycle [] = cycle
last_cycle cycle (x ∷ slots) = last_cycle x.cycle slots

-- The text of a schedule of two graphs, by the names of the classes, the numbers of the instructions of each, and the last cycle of
-- each block's own schedule.
module _ (classes : List (List ℕ)) (first second : List ℕ) (g h : Graph) where
  -- the line of a slot of either context
  abbrev pub line_of_either : ContextSlot → List ℕ
  line_of_either x = if x.context == 1 then line_of_own classes first g x else line_of_own classes second h x

  abbrev pub duo_text : List ContextSlot → ℕ → ℕ → List ℕ
  duo_text slots alone other = flat_map line_of_either slots ++ (together_line (length first) (length second) (last_cycle 0 slots) ++ alone_line alone other)

-- the same of two blocks by their description, their schedule together, and the schedule of each alone
abbrev pub text_of_two : Description → (first second : List Instruction) → (g h : Graph) → (slots alone other : List Slot) → List ℕ
text_of_two d first second g h slots alone other =
    duo_text (class_names d) (map (λ i. i.number) first) (map (λ i. i.number) second) g h (in_contexts (length first) slots) (present 0 alone) (present 0 other)
