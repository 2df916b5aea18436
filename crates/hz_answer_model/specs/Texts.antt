-- The texts of schedules and drills: this profile, docs/FORMATS.md, 'Answers'.
use Rattle.std.specs.Prelude.{ℕ, List, [], ◌∷◌, ◌++◌, codes, decimal}
use Rattle.std.specs.List.{concat, flat_map}
use Rattle.hz_front_model.specs.Texts.{accepted_line}

-- a slot of a schedule: its cycle, and the number and class of the instruction
abbrev pub slot_line : ℕ → ℕ → List ℕ → List ℕ
slot_line cycle number class = concat (decimal cycle ∷ codes " " ∷ decimal number ∷ codes " " ∷ class ∷ codes "\n" ∷ [])

-- the end of a schedule: how many instructions, and the cycle of the last
abbrev pub scheduled_line : ℕ → ℕ → List ℕ
scheduled_line count cycles = concat (codes "scheduled " ∷ decimal count ∷ codes " insns " ∷ decimal cycles ∷ codes " cycles\n" ∷ [])

-- the beginning of a drill: how many turns
abbrev pub turns_line : ℕ → List ℕ
turns_line turns = concat (codes "drill " ∷ decimal turns ∷ codes " turns\n" ∷ [])

-- a state after the word that a line of states begins with
abbrev pub state_field : ℕ → List ℕ
state_field state = concat (codes " " ∷ decimal state ∷ [])

-- the end of a drill: the state of each automaton
abbrev pub left_line : List ℕ → List ℕ
left_line states = codes "states" ++ (flat_map state_field states ++ codes "\n")

-- a drill: its turns, the issues and the cycles of its trace, and the states that the trace leaves
abbrev pub drill_text : (turns issues cycles : ℕ) → (states : List ℕ) → List ℕ
drill_text turns issues cycles states = turns_line turns ++ (accepted_line issues cycles ++ left_line states)
