-- Which form of a block or a state is wrong by itself, with all to its left right. In each list the word that it begins with is judged
-- first, then the number of operands, then the operands from left to right. docs/FORMATS.md, 'Blocks and states'. Laws:
-- `wrong_blocks_have_a_wrong_form`, `wrong_states_have_a_wrong_form`.
use Rattle.std.specs.Prelude.{◌≡◌, ℕ, suc, ◌<◌, ◌≤◌, ℤ, pos, List, [], ◌∷◌, ◌++◌, length, codes, Option, Some, None}
use Rattle.std.specs.List.{Contains}
use Rattle.hz_base_model.specs.Forms.Trees.{Tree, Trees, vector, number, none, more, line_of, joined}
use Rattle.hz_block_model.specs.Running.Blocks.{Value, Target, Effect, Instruction}
use Rattle.hz_block_model.specs.Running.States.{Place, reg, cell, Store}
use Rattle.hz_block_model.specs.Texts.Operands.{RtlFault, bad_shape, unknown_code, register_range, twice, insn_limit}
use Rattle.hz_block_model.specs.Texts.Values.{ValueCode, register_code, constant_code, memory_code, choice_code, unary_code, binary_code, TargetCode, into_code, cell_code, EffectCode, set_code, clobber_code, use_code}
use Rattle.hz_block_model.specs.Texts.Grammar.{headed, insn, unary_name, binary_name, IsRegister, IsWord, IsNumber, IsName, IsValue, IsPlace, IsEffect, IsVector, IsPattern, IsAttribute, IsBlock, IsStore, AreGiven}

-- What a form is to be. A kind `new_` is a name, a register or a cell that isn't given yet.
pub data Kind : Type 0 where
  register_kind word_kind name_kind value_kind place_kind effect_kind vector_kind pattern_kind : Kind
  new_name attribute_kind : (given : List (List ℕ × List ℕ)) → Kind
  new_register new_cell store_kind : (given : List Store) → Kind

-- an attribute has this name
abbrev pub HasName : List (List ℕ × List ℕ) → List ℕ → Type 0
HasName given name = (attribute : List ℕ × List ℕ) × Contains given attribute × (attribute.0 ≡ name)

-- a word is given for this place
abbrev pub HasPlace : List Store → Place → Type 0
HasPlace given place = (store : Store) × Contains given store × (store.place ≡ place)

-- an instruction has this number
abbrev pub HasNumber : List Instruction → ℕ → Type 0
HasNumber before n = (i : Instruction) × Contains before i × (i.number ≡ n)

-- a form is right: it is what it is to be
abbrev pub Right : Kind → Tree → Type 0
Right register_kind form = (n : ℕ) × IsRegister form n
Right word_kind form = (word : ℕ) × IsWord form word
Right name_kind form = (name : List ℕ) × IsName form name
Right value_kind form = (value : Value) × IsValue form value
Right place_kind form = (place : Target) × IsPlace form place
Right effect_kind form = (effect : Effect) × IsEffect form effect
Right vector_kind form = (effects : List Effect) × IsVector form effects
Right pattern_kind form = (effects : List Effect) × IsPattern form effects
Right (new_name given) form = (name : List ℕ) × IsName form name × (HasName given name → ⊥)
Right (attribute_kind given) form = (attribute : List ℕ × List ℕ) × IsAttribute form attribute × (HasName given attribute.0 → ⊥)
Right (new_register given) form = (n : ℕ) × IsRegister form n × (HasPlace given (reg n) → ⊥)
Right (new_cell given) form = (address : ℕ) × IsWord form address × (HasPlace given (cell address) → ⊥)
Right (store_kind given) form = (store : Store) × IsStore form store × (HasPlace given store.place → ⊥)

-- the words with which a value begins, and what its operands are to be
abbrev pub value_name : ValueCode → List ℕ
value_name register_code = codes "reg"
value_name constant_code = codes "const_int"
value_name memory_code = codes "mem"
value_name choice_code = codes "if_then_else"
value_name (unary_code operator) = unary_name operator
value_name (binary_code operator) = binary_name operator

abbrev pub value_operands : ValueCode → List Kind
value_operands register_code = register_kind ∷ []
value_operands constant_code = word_kind ∷ []
value_operands memory_code = value_kind ∷ []
value_operands choice_code = value_kind ∷ value_kind ∷ value_kind ∷ []
value_operands (unary_code operator) = value_kind ∷ []
value_operands (binary_code operator) = value_kind ∷ value_kind ∷ []

-- the same of a place
abbrev pub place_name : TargetCode → List ℕ
place_name into_code = codes "reg"
place_name cell_code = codes "mem"

abbrev pub place_operands : TargetCode → List Kind
place_operands into_code = register_kind ∷ []
place_operands cell_code = value_kind ∷ []

-- of an effect
abbrev pub effect_name : EffectCode → List ℕ
effect_name set_code = codes "set"
effect_name clobber_code = codes "clobber"
effect_name use_code = codes "use"

abbrev pub effect_operands : EffectCode → List Kind
effect_operands set_code = place_kind ∷ value_kind ∷ []
effect_operands clobber_code = place_kind ∷ []
effect_operands use_code = value_kind ∷ []

-- of what gives a word for a place
abbrev pub store_operands : List Store → TargetCode → List Kind
store_operands given into_code = new_register given ∷ word_kind ∷ []
store_operands given cell_code = new_cell given ∷ word_kind ∷ []

-- A list of this kind may begin with this word, and then its operands are to be of these kinds.
pub data Heads : Kind → List ℕ → List Kind → Type 0 where
  value_head : (code : ValueCode) → Heads value_kind (value_name code) (value_operands code)
  place_head : (code : TargetCode) → Heads place_kind (place_name code) (place_operands code)
  effect_head : (code : EffectCode) → Heads effect_kind (effect_name code) (effect_operands code)
  single_head : (code : EffectCode) → Heads pattern_kind (effect_name code) (effect_operands code)
  parallel_head : Heads pattern_kind (codes "parallel") (vector_kind ∷ [])
  attribute_head : (given : List (List ℕ × List ℕ)) → Heads (attribute_kind given) (codes "set_attr") (new_name given ∷ name_kind ∷ [])
  store_head : (given : List Store) → (code : TargetCode) → Heads (store_kind given) (place_name code) (store_operands given code)

-- what is wrong with a list that begins with another word; other kinds are no lists
abbrev pub other_word : Kind → Option RtlFault
other_word value_kind = Some unknown_code
other_word place_kind = Some unknown_code
other_word effect_kind = Some unknown_code
other_word pattern_kind = Some unknown_code
other_word (attribute_kind given) = Some bad_shape
other_word (store_kind given) = Some bad_shape
other_word _ = None

-- how many forms there are
abbrev pub count : Trees → ℕ
count none = 0
count (more first others) = suc (count others)

-- this kind for each form
abbrev pub each_of : Kind → Trees → List Kind
each_of kind none = []
each_of kind (more first others) = kind ∷ each_of kind others

-- A form that is to be of a kind has a fault, which stands at a line.
mutual
  pub data Wrong : Kind → Tree → RtlFault → ℕ → Type 0 where
    -- no list that begins with a word
    headless : {kind : Kind} {other : RtlFault} {form : Tree} → other_word kind ≡ Some other → ((line at : ℕ) (word : List ℕ) (operands : Trees) → form ≡ headed line at word operands → ⊥) → Wrong kind form bad_shape (line_of form)
    -- a word that is unknown there
    unknown : {kind : Kind} {other : RtlFault} {line at : ℕ} {word : List ℕ} {operands : Trees} → other_word kind ≡ Some other → ((kinds : List Kind) → Heads kind word kinds → ⊥) → Wrong kind (headed line at word operands) other line
    -- another number of operands
    miscounted : {kind : Kind} {kinds : List Kind} {line at : ℕ} {word : List ℕ} {operands : Trees} → Heads kind word kinds → (count operands ≡ length kinds → ⊥) → Wrong kind (headed line at word operands) bad_shape line
    -- an operand
    inside : {kind : Kind} {kinds : List Kind} {line at : ℕ} {word : List ℕ} {operands : Trees} {fault : RtlFault} {place : ℕ} → Heads kind word kinds → count operands ≡ length kinds → WrongAmong kinds operands fault place → Wrong kind (headed line at word operands) fault place
    -- no vector of one form or more, or an effect of it
    no_vector : {form : Tree} → ((line : ℕ) (first : Tree) (others : Trees) → form ≡ vector line (more first others) → ⊥) → Wrong vector_kind form bad_shape (line_of form)
    in_vector : {line : ℕ} {first : Tree} {others : Trees} {fault : RtlFault} {place : ℕ} → WrongAmong (each_of effect_kind (more first others)) (more first others) fault place → Wrong vector_kind (vector line (more first others)) fault place
    -- a register: no number, or out of range
    no_register : {form : Tree} → ((line : ℕ) (value : ℤ) → form ≡ number line value → ⊥) → Wrong register_kind form bad_shape (line_of form)
    past_registers : {line : ℕ} {value : ℤ} → ((n : ℕ) → n < 256 → value ≡ pos n → ⊥) → Wrong register_kind (number line value) register_range line
    no_word : {form : Tree} → ((word : ℕ) → IsWord form word → ⊥) → Wrong word_kind form bad_shape (line_of form)
    no_name : {form : Tree} → ((name : List ℕ) → IsName form name → ⊥) → Wrong name_kind form bad_shape (line_of form)
    -- what is to be new is wrong, or given already
    no_new_name : {given : List (List ℕ × List ℕ)} {form : Tree} {fault : RtlFault} {line : ℕ} → Wrong name_kind form fault line → Wrong (new_name given) form fault line
    name_twice : {given : List (List ℕ × List ℕ)} {form : Tree} {name : List ℕ} → IsName form name → HasName given name → Wrong (new_name given) form twice (line_of form)
    no_new_register : {given : List Store} {form : Tree} {fault : RtlFault} {line : ℕ} → Wrong register_kind form fault line → Wrong (new_register given) form fault line
    register_twice : {given : List Store} {form : Tree} {n : ℕ} → IsRegister form n → HasPlace given (reg n) → Wrong (new_register given) form twice (line_of form)
    no_new_cell : {given : List Store} {form : Tree} {fault : RtlFault} {line : ℕ} → Wrong word_kind form fault line → Wrong (new_cell given) form fault line
    cell_twice : {given : List Store} {form : Tree} {address : ℕ} → IsWord form address → HasPlace given (cell address) → Wrong (new_cell given) form twice (line_of form)

  -- one of several forms: those to its left are right
  pub data WrongAmong : List Kind → Trees → RtlFault → ℕ → Type 0 where
    this : {kind : Kind} {kinds : List Kind} {form : Tree} {others : Trees} {fault : RtlFault} {place : ℕ} → Wrong kind form fault place → WrongAmong (kind ∷ kinds) (more form others) fault place
    later : {kind : Kind} {kinds : List Kind} {form : Tree} {others : Trees} {fault : RtlFault} {place : ℕ} → Right kind form → WrongAmong kinds others fault place → WrongAmong (kind ∷ kinds) (more form others) fault place

-- An attribute after those that are given has a fault.
pub data WrongAttributes : List (List ℕ × List ℕ) → Trees → RtlFault → ℕ → Type 0 where
  this_attribute : {given : List (List ℕ × List ℕ)} {form : Tree} {others : Trees} {fault : RtlFault} {place : ℕ} → Wrong (attribute_kind given) form fault place → WrongAttributes given (more form others) fault place
  later_attribute : {given : List (List ℕ × List ℕ)} {form : Tree} {others : Trees} {attribute : List ℕ × List ℕ} {fault : RtlFault} {place : ℕ} → IsAttribute form attribute → (HasName given attribute.0 → ⊥) → WrongAttributes (given ++ attribute ∷ []) others fault place → WrongAttributes given (more form others) fault place

-- A form after instructions, which is to be one more, has a fault.
pub data WrongInsn (before : List Instruction) : Tree → RtlFault → ℕ → Type 0 where
  no_insn : {form : Tree} → ((line at : ℕ) (operands : Trees) → form ≡ headed line at (codes "insn") operands → ⊥) → WrongInsn before form bad_shape (line_of form)
  too_short : {line at : ℕ} {operands : Trees} → count operands < 2 → WrongInsn before (headed line at (codes "insn") operands) bad_shape line
  no_number : {line at : ℕ} {first second : Tree} {others : Trees} → ((n : ℕ) → IsNumber first n → ⊥) → WrongInsn before (insn line at first second others) bad_shape (line_of first)
  number_twice : {line at n : ℕ} {first second : Tree} {others : Trees} → IsNumber first n → HasNumber before n → WrongInsn before (insn line at first second others) twice line
  in_pattern : {line at n : ℕ} {first second : Tree} {others : Trees} {fault : RtlFault} {place : ℕ} → IsNumber first n → (HasNumber before n → ⊥) → Wrong pattern_kind second fault place → WrongInsn before (insn line at first second others) fault place
  in_attributes : {line at n : ℕ} {first second : Tree} {others : Trees} {effects : List Effect} {fault : RtlFault} {place : ℕ} → IsNumber first n → (HasNumber before n → ⊥) → IsPattern second effects → WrongAttributes [] others fault place → WrongInsn before (insn line at first second others) fault place

-- The same of any number of instructions: after 4,096 of them any form is one too many, whatever it holds.
pub data WrongInstruction (before : List Instruction) : Tree → RtlFault → ℕ → Type 0 where
  too_many : {form : Tree} → 4096 ≤ length before → WrongInstruction before form insn_limit (line_of form)
  one_wrong : {form : Tree} {fault : RtlFault} {place : ℕ} → length before < 4096 → WrongInsn before form fault place → WrongInstruction before form fault place

-- Forms are a block, a form with a fault after it, and a rest.
pub record IsWrongBlock (forms : Trees) (fault : RtlFault) (line : ℕ) : Type 0 where
  pub front : Trees
  pub before : List Instruction
  pub wrong : Tree
  pub rest : Trees
  pub forms_are : forms ≡ joined front (more wrong rest)
  pub front_is : IsBlock front before
  pub is_wrong : WrongInstruction before wrong fault line

-- Forms give words for places, then comes a form with a fault, and a rest.
pub record IsWrongState (forms : Trees) (fault : RtlFault) (line : ℕ) : Type 0 where
  pub front : Trees
  pub before : List Store
  pub wrong : Tree
  pub rest : Trees
  pub forms_are : forms ≡ joined front (more wrong rest)
  pub front_is : AreGiven front before
  pub is_wrong : Wrong (store_kind before) wrong fault line
