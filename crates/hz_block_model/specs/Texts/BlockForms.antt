-- Blocks: what their forms say, and the first that is wrong. docs/FORMATS.md, 'Blocks and states'.
use Rattle.std.specs.Prelude.{◌≡◌, ℕ, Bool, nat_lt, ◌==◌, if◌then◌else◌, List, [], ◌∷◌, ◌++◌, length, codes, Ok, Err}
use Rattle.std.specs.List.{list_any}
use Rattle.std.specs.Str.{bytes_eq}
use Rattle.hz_base_model.specs.Forms.Trees.{Tree, Trees, vector, none, more, line_of, joined}
use Rattle.hz_block_model.specs.Running.Blocks.{Effect, Instruction}
use Rattle.hz_block_model.specs.Texts.Operands.{Judged, RtlFault, bad_shape, insn_limit, and_then, unless_twice, by_head, number_in, name_in}
use Rattle.hz_block_model.specs.Texts.Values.{effect_of, effect_headed}
use Rattle.hz_block_model.specs.Running.Limits.{instruction_limit}

-- effects from left to right
abbrev pub effects_of : Trees → Judged (List Effect)
effects_of none = Ok []
effects_of (more first others) = and_then (effect_of first) (λ effect. and_then (effects_of others) (λ effects. Ok (effect ∷ effects)))

-- the vector of one effect or more
abbrev pub effect_vector : Tree → Judged (List Effect)
effect_vector (vector line (more first others)) = effects_of (more first others)
effect_vector form = Err (bad_shape, line_of form)

-- `(parallel [effect ..])` by its operands
abbrev pub parallel_with : ℕ → Trees → Judged (List Effect)
parallel_with line (more effects none) = effect_vector effects
parallel_with line operands = Err (bad_shape, line)

-- the effects of a pattern by its first word: those of a `parallel`, else one effect
abbrev pub pattern_headed : ℕ → List ℕ → Trees → Judged (List Effect)
pattern_headed line word operands =
    if bytes_eq word (codes "parallel") then parallel_with line operands
    else and_then (effect_headed line word operands) (λ effect. Ok (effect ∷ []))

-- the effects of a pattern
abbrev pub pattern_of : Tree → Judged (List Effect)
pattern_of form = by_head pattern_headed form

-- an attribute of this name is given
abbrev pub gives : List (List ℕ × List ℕ) → List ℕ → Bool
gives given name = list_any (λ attribute. bytes_eq attribute.0 name) given

-- `(set_attr "name" "value")` by its operands, after those that are given
abbrev pub attribute_with : List (List ℕ × List ℕ) → ℕ → Trees → Judged (List ℕ × List ℕ)
attribute_with given line (more name (more value none)) =
    and_then (name_in name) (λ n.
    and_then (unless_twice (gives given n) (line_of name) n) (λ _.
    and_then (name_in value) (λ v. Ok (n, v))))
attribute_with given line operands = Err (bad_shape, line)

-- the attribute that a form gives
abbrev pub attribute_of : List (List ℕ × List ℕ) → Tree → Judged (List ℕ × List ℕ)
attribute_of given form =
    by_head (λ line word operands. if bytes_eq word (codes "set_attr") then attribute_with given line operands else Err (bad_shape, line)) form

-- all attributes with those that further forms give
abbrev pub attributes_after : List (List ℕ × List ℕ) → Trees → Judged (List (List ℕ × List ℕ))
attributes_after given none = Ok given
attributes_after given (more first others) = and_then (attribute_of given first) (λ attribute. attributes_after (given ++ attribute ∷ []) others)

-- an instruction has this number
abbrev pub has_number : List Instruction → ℕ → Bool
has_number before number = list_any (λ i. i.number == number) before

-- `(insn NUMBER pattern attr ..)` by its operands, after the instructions before it
abbrev pub instruction_with : List Instruction → ℕ → Trees → Judged Instruction
instruction_with before line (more operand (more pattern attributes)) =
    and_then (number_in operand) (λ n.
    and_then (unless_twice (has_number before n) line n) (λ _.
    and_then (pattern_of pattern) (λ effects.
    and_then (attributes_after [] attributes) (λ given.
    Ok (record { number = n; line = line; effects = effects; attributes = given })))))
instruction_with before line operands = Err (bad_shape, line)

-- the instruction that a form is
abbrev pub instruction_of : List Instruction → Tree → Judged Instruction
instruction_of before form =
    by_head (λ line word operands. if bytes_eq word (codes "insn") then instruction_with before line operands else Err (bad_shape, line)) form

-- the next instruction of a block; a form after the last that may stand is wrong, whatever it holds
abbrev pub next_instruction : List Instruction → Tree → Judged Instruction
next_instruction before form = if nat_lt (length before) instruction_limit then instruction_of before form else Err (insn_limit, line_of form)

-- all instructions with those that further forms are
abbrev pub instructions_after : List Instruction → Trees → Judged (List Instruction)
instructions_after before none = Ok before
instructions_after before (more first others) = and_then (next_instruction before first) (λ i. instructions_after (before ++ i ∷ []) others)

-- Forms are this block.
abbrev pub Reads : Trees → List Instruction → Type 0
Reads forms block = instructions_after [] forms ≡ Ok block

-- The first wrong form of a block has this fault, and it stands at this line.
abbrev pub FaultAt : Trees → RtlFault → ℕ → Type 0
FaultAt forms fault line = instructions_after [] forms ≡ Err (fault, line)

-- Forms are a front that is a block, a form that is wrong after it, and a rest. Law: `blocks_fail_at_their_first_wrong_form`.
pub record FirstWrong (forms : Trees) (fault : RtlFault) (line : ℕ) : Type 0 where
  pub front : Trees
  pub before : List Instruction
  pub wrong : Tree
  pub rest : Trees
  pub forms_are : forms ≡ joined front (more wrong rest)
  pub read : Reads front before
  pub is_wrong : next_instruction before wrong ≡ Err (fault, line)
