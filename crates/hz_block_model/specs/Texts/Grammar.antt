-- What forms of blocks and states say, by cases on how they are spelled. docs/FORMATS.md, 'Blocks and states'. Laws:
-- `blocks_are_what_their_grammar_says`, `states_are_what_their_grammar_says`.
use Rattle.std.specs.Prelude.{◌≡◌, ◌≢◌, ℕ, ◌<◌, ◌≤◌, ◌^◌, ℤ, pos, List, [], ◌∷◌, length, codes, IsTrue}
use Rattle.std.specs.List.{AllPairs, Contains}
use Rattle.hz_base_model.specs.Names.{is_name}
use Rattle.hz_base_model.specs.Forms.Trees.{Tree, Trees, list, vector, atom, quoted, number, none, more}
use Rattle.hz_block_model.specs.Running.Operators.{UnaryOperator, neg, complement, BinaryOperator, plus, minus, mult, udiv, umod, conjunction, disjunction, exclusive, ashift, lshiftrt, ashiftrt, eq, ne, ltu, lt}
use Rattle.hz_block_model.specs.Running.Blocks.{Value, register, constant, memory, unary, binary, choice, Target, into, cell_at, Effect, assign, clobber, mention, Instruction}
use Rattle.hz_block_model.specs.Running.States.{Place, reg, cell, State, Store}
use Rattle.hz_block_model.specs.Texts.Operands.{word_of}

-- a list at a line, which begins with a word
abbrev pub headed : (line at : ℕ) → (word : List ℕ) → (operands : Trees) → Tree
headed line at word operands = list line (more (atom at word) operands)

-- one operand, two, three
abbrev pub one : Tree → Trees
one first = more first none

abbrev pub two : Tree → Tree → Trees
two first second = more first (more second none)

abbrev pub three : Tree → Tree → Tree → Trees
three first second third = more first (more second (more third none))

-- `(insn NUMBER pattern attr ..)`, by its operands
abbrev pub insn : (line at : ℕ) → (first second : Tree) → (others : Trees) → Tree
insn line at first second others = headed line at (codes "insn") (more first (more second others))

-- the words of operators
abbrev pub unary_name : UnaryOperator → List ℕ
unary_name neg = codes "neg"
unary_name complement = codes "not"

abbrev pub binary_name : BinaryOperator → List ℕ
binary_name plus = codes "plus"
binary_name minus = codes "minus"
binary_name mult = codes "mult"
binary_name udiv = codes "udiv"
binary_name umod = codes "umod"
binary_name conjunction = codes "and"
binary_name disjunction = codes "ior"
binary_name exclusive = codes "xor"
binary_name ashift = codes "ashift"
binary_name lshiftrt = codes "lshiftrt"
binary_name ashiftrt = codes "ashiftrt"
binary_name eq = codes "eq"
binary_name ne = codes "ne"
binary_name ltu = codes "ltu"
binary_name lt = codes "lt"

-- Forms are items, each one of them.
pub data EachIs {A : Type 0} (Is : Tree → A → Type 0) : Trees → List A → Type 0 where
  nothing_is : EachIs Is none []
  each_is : {first : Tree} {others : Trees} {item : A} {items : List A} → Is first item → EachIs Is others items → EachIs Is (more first others) (item ∷ items)

-- N: the number of a register
pub data IsRegister : Tree → ℕ → Type 0 where
  a_register : {line n : ℕ} → n < 256 → IsRegister (number line (pos n)) n

-- I, A and V: the word of a number. Law: `numbers_are_taken_modulo`.
pub data IsWord : Tree → ℕ → Type 0 where
  a_word : {line : ℕ} {value : ℤ} → IsWord (number line value) (word_of value)

-- NUMBER
pub data IsNumber : Tree → ℕ → Type 0 where
  a_number : {line n : ℕ} → n < 2 ^ 32 → IsNumber (number line (pos n)) n

-- "name"
pub data IsName : Tree → List ℕ → Type 0 where
  a_name : {line : ℕ} {bytes : List ℕ} → IsTrue (is_name bytes) → IsName (quoted line bytes) bytes

pub data IsValue : Tree → Value → Type 0 where
  reg_value : {line at n : ℕ} {operand : Tree} → IsRegister operand n → IsValue (headed line at (codes "reg") (one operand)) (register n)
  const_value : {line at word : ℕ} {operand : Tree} → IsWord operand word → IsValue (headed line at (codes "const_int") (one operand)) (constant word)
  mem_value : {line at : ℕ} {operand : Tree} {address : Value} → IsValue operand address → IsValue (headed line at (codes "mem") (one operand)) (memory address)
  unary_value : {line at : ℕ} {operand : Tree} {value : Value} → (operator : UnaryOperator) → IsValue operand value → IsValue (headed line at (unary_name operator) (one operand)) (unary operator value)
  binary_value : {line at : ℕ} {first second : Tree} {left right : Value} → (operator : BinaryOperator) → IsValue first left → IsValue second right → IsValue (headed line at (binary_name operator) (two first second)) (binary operator left right)
  choice_value : {line at : ℕ} {first second third : Tree} {test one_ other : Value} → IsValue first test → IsValue second one_ → IsValue third other → IsValue (headed line at (codes "if_then_else") (three first second third)) (choice test one_ other)

pub data IsPlace : Tree → Target → Type 0 where
  reg_place : {line at n : ℕ} {operand : Tree} → IsRegister operand n → IsPlace (headed line at (codes "reg") (one operand)) (into n)
  mem_place : {line at : ℕ} {operand : Tree} {address : Value} → IsValue operand address → IsPlace (headed line at (codes "mem") (one operand)) (cell_at address)

pub data IsEffect : Tree → Effect → Type 0 where
  set_effect : {line at : ℕ} {first second : Tree} {place : Target} {value : Value} → IsPlace first place → IsValue second value → IsEffect (headed line at (codes "set") (two first second)) (assign place value)
  clobber_effect : {line at : ℕ} {operand : Tree} {place : Target} → IsPlace operand place → IsEffect (headed line at (codes "clobber") (one operand)) (clobber place)
  use_effect : {line at : ℕ} {operand : Tree} {value : Value} → IsValue operand value → IsEffect (headed line at (codes "use") (one operand)) (mention value)

-- `[ effect .. ]`: a vector of one effect or more
pub data IsVector : Tree → List Effect → Type 0 where
  a_vector : {line : ℕ} {first : Tree} {others : Trees} {effects : List Effect} → EachIs IsEffect (more first others) effects → IsVector (vector line (more first others)) effects

pub data IsPattern : Tree → List Effect → Type 0 where
  one_effect : {form : Tree} {effect : Effect} → IsEffect form effect → IsPattern form (effect ∷ [])
  parallel_effects : {line at : ℕ} {operand : Tree} {effects : List Effect} → IsVector operand effects → IsPattern (headed line at (codes "parallel") (one operand)) effects

-- `(set_attr "name" "value")`
pub data IsAttribute : Tree → List ℕ × List ℕ → Type 0 where
  set_attribute : {line at : ℕ} {first second : Tree} {name value : List ℕ} → IsName first name → IsName second value → IsAttribute (headed line at (codes "set_attr") (two first second)) (name, value)

-- An instruction: no two of its attributes have one name.
pub record IsInstruction (form : Tree) (i : Instruction) : Type 0 where
  pub at : ℕ
  pub first : Tree
  pub second : Tree
  pub others : Trees
  pub form_is : form ≡ insn i.line at first second others
  pub number_is : IsNumber first i.number
  pub pattern_is : IsPattern second i.effects
  pub attributes_are : EachIs IsAttribute others i.attributes
  pub once : AllPairs (λ a b. a.0 ≢ b.0) i.attributes

-- Forms are a block: at most 4,096 instructions, no two of which have one number.
pub record IsBlock (forms : Trees) (block : List Instruction) : Type 0 where
  pub each : EachIs IsInstruction forms block
  pub once : AllPairs (λ i j. i.number ≢ j.number) block
  pub few : length block ≤ 4096

-- `(reg N V)` or `(mem A V)`
pub data IsStore : Tree → Store → Type 0 where
  reg_store : {line at n word : ℕ} {first second : Tree} → IsRegister first n → IsWord second word → IsStore (headed line at (codes "reg") (two first second)) (record { place = reg n; word = word })
  mem_store : {line at address word : ℕ} {first second : Tree} → IsWord first address → IsWord second word → IsStore (headed line at (codes "mem") (two first second)) (record { place = cell address; word = word })

-- Forms give words for places, no place twice.
pub record AreGiven (forms : Trees) (given : List Store) : Type 0 where
  pub each : EachIs IsStore forms given
  pub once : AllPairs (λ a b. a.place ≢ b.place) given

-- Forms are a state: each place has the word that is given for it, and 0 where none is given.
pub record IsState (forms : Trees) (state : State) : Type 0 where
  pub given : List Store
  pub are_given : AreGiven forms given
  pub held : (store : Store) → Contains given store → state store.place ≡ store.word
  pub other : (place : Place) → ((store : Store) → Contains given store → store.place ≢ place) → state place ≡ 0
