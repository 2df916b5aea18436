-- The texts of what every program may answer: how a trace ends, what is asked in it, and refusals. This profile, docs/FORMATS.md, 'Answers'.
use Rattle.std.specs.Prelude.{ℕ, Bool, List, [], ◌∷◌, ◌++◌, codes, decimal, Option, Some, None, if◌then◌else◌}
use Rattle.std.specs.List.{concat}

-- The texts that the program writes, each one line. A file goes by the word that names it.
abbrev pub accepted_line : ℕ → ℕ → List ℕ
accepted_line issues cycles = concat (codes "accepted " ∷ decimal issues ∷ codes " issues " ∷ decimal cycles ∷ codes " cycles\n" ∷ [])

abbrev pub refused_line : ℕ → List ℕ → List ℕ
refused_line line class = concat (codes "refused line " ∷ decimal line ∷ codes " " ∷ class ∷ codes "\n" ∷ [])

-- what an ask on this line is answered: that the query unit of this name is reserved, or free
abbrev pub ask_line : ℕ → List ℕ → (reserved : Bool) → List ℕ
ask_line line unit reserved = concat (codes "ask line " ∷ decimal line ∷ codes " " ∷ unit ∷ (if reserved then codes " reserved\n" else codes " free\n") ∷ [])

-- a fault of a text: its line, and what it is, in pieces
abbrev pub fault_line : List ℕ → ℕ → List (List ℕ) → List ℕ
fault_line file line what = concat (codes "fault " ∷ file ∷ codes " line " ∷ decimal line ∷ codes " " ∷ (what ++ codes "\n" ∷ []))

-- after the word of a fault: the instruction that is wrong
abbrev pub insn_words : Option ℕ → List (List ℕ)
insn_words None = []
insn_words (Some number) = codes " insn " ∷ decimal number ∷ []

-- a name that is wrong
abbrev pub name_words : Option (List ℕ) → List (List ℕ)
name_words None = []
name_words (Some name) = codes " " ∷ name ∷ []

-- the fault of an expression, by its word and its byte
abbrev pub at_words : Option (List ℕ × ℕ) → List (List ℕ)
at_words None = []
at_words (Some at) = codes " " ∷ at.0 ∷ codes " " ∷ decimal at.1 ∷ []

-- a fault of a text with what is reported after its word: an instruction, one name or two, the fault of an expression
abbrev pub fault_text : (file : List ℕ) → (line : ℕ) → (word : List ℕ) → (insn : Option ℕ) → (first second : Option (List ℕ)) → (at : Option (List ℕ × ℕ)) → List ℕ
fault_text file line word insn first second at = fault_line file line (word ∷ (insn_words insn ++ (name_words first ++ (name_words second ++ at_words at))))

-- a limit of a description: the line of what passes it, which limit, and its name
abbrev pub passed_line : List ℕ → ℕ → List ℕ → List ℕ → List ℕ
passed_line file line what name = concat (codes "limit " ∷ file ∷ codes " line " ∷ decimal line ∷ codes " " ∷ what ∷ codes " " ∷ name ∷ codes "\n" ∷ [])

-- a limit on the states of an automaton of a description, and the automaton's name
abbrev pub states_line : List ℕ → List ℕ → List ℕ
states_line file automaton = concat (codes "limit " ∷ file ∷ codes " automaton " ∷ automaton ∷ codes "\n" ∷ [])

-- a limit on the instructions of a block, or of two together, which is reported of the second
abbrev pub insns_line : List ℕ → List ℕ
insns_line file = concat (codes "limit " ∷ file ∷ codes " insns\n" ∷ [])

abbrev pub limit_line : List ℕ → List ℕ
limit_line file = concat (codes "limit " ∷ file ∷ codes " bytes\n" ∷ [])

abbrev pub file_line : List ℕ → List ℕ
file_line file = concat (codes "file " ∷ file ∷ codes " could not be read\n" ∷ [])

abbrev pub memory_line : List ℕ
memory_line = concat (codes "memory\n" ∷ [])
