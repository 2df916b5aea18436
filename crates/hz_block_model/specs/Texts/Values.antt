-- Values, places and effects: in each list the word that it begins with decides first, then the number of operands, then the
-- operands from left to right. docs/FORMATS.md, 'Blocks and states'.
use Rattle.std.specs.Prelude.{ℕ, [], ◌∷◌, if◌then◌else◌, List, codes, Option, Some, None, Ok, Err}
use Rattle.std.specs.Option.{option_map, option_or}
use Rattle.std.specs.Str.{bytes_eq}
use Rattle.hz_base_model.specs.Forms.Trees.{Tree, Trees, list, atom, none, more, line_of}
use Rattle.hz_block_model.specs.Running.Operators.{UnaryOperator, neg, complement, BinaryOperator, plus, minus, mult, udiv, umod, conjunction, disjunction, exclusive, ashift, lshiftrt, ashiftrt, eq, ne, ltu, lt}
use Rattle.hz_block_model.specs.Running.Blocks.{Value, register, constant, memory, unary, binary, choice, Target, into, cell_at, Effect, assign, clobber, mention}
use Rattle.hz_block_model.specs.Texts.Operands.{Judged, bad_shape, unknown_code, and_then, or_fault, by_head, register_in, word_in}

-- What a list is in the place of a value.
pub data ValueCode : Type 0 where
  register_code constant_code memory_code choice_code : ValueCode
  unary_code : (operator : UnaryOperator) → ValueCode
  binary_code : (operator : BinaryOperator) → ValueCode

abbrev pub unary_operator : List ℕ → Option UnaryOperator
unary_operator word =
    if bytes_eq word (codes "neg") then Some neg
    else if bytes_eq word (codes "not") then Some complement
    else None

abbrev pub arithmetic_operator : List ℕ → Option BinaryOperator
arithmetic_operator word =
    if bytes_eq word (codes "plus") then Some plus
    else if bytes_eq word (codes "minus") then Some minus
    else if bytes_eq word (codes "mult") then Some mult
    else if bytes_eq word (codes "udiv") then Some udiv
    else if bytes_eq word (codes "umod") then Some umod
    else None

-- the operators by bits, and shifts
abbrev pub bit_operator : List ℕ → Option BinaryOperator
bit_operator word =
    if bytes_eq word (codes "and") then Some conjunction
    else if bytes_eq word (codes "ior") then Some disjunction
    else if bytes_eq word (codes "xor") then Some exclusive
    else if bytes_eq word (codes "ashift") then Some ashift
    else if bytes_eq word (codes "lshiftrt") then Some lshiftrt
    else if bytes_eq word (codes "ashiftrt") then Some ashiftrt
    else None

abbrev pub comparison : List ℕ → Option BinaryOperator
comparison word =
    if bytes_eq word (codes "eq") then Some eq
    else if bytes_eq word (codes "ne") then Some ne
    else if bytes_eq word (codes "ltu") then Some ltu
    else if bytes_eq word (codes "lt") then Some lt
    else None

abbrev pub binary_operator : List ℕ → Option BinaryOperator
binary_operator word = option_or (arithmetic_operator word) (option_or (bit_operator word) (comparison word))

-- the operators, each of its own number of operands
abbrev pub operator_code : List ℕ → Option ValueCode
operator_code word = option_or (option_map binary_code (binary_operator word)) (option_map unary_code (unary_operator word))

-- what a list that begins with this word is in the place of a value
abbrev pub value_code : List ℕ → Option ValueCode
value_code word =
    if bytes_eq word (codes "reg") then Some register_code
    else if bytes_eq word (codes "const_int") then Some constant_code
    else if bytes_eq word (codes "mem") then Some memory_code
    else if bytes_eq word (codes "if_then_else") then Some choice_code
    else operator_code word

-- the value of a list at a line, by what it begins with, its operands, and what each of them is in the place of a value
abbrev pub value_with : ℕ → ValueCode → Trees → List (Judged Value) → Judged Value
value_with line register_code (more operand none) values = and_then (register_in operand) (λ n. Ok (register n))
value_with line constant_code (more operand none) values = and_then (word_in operand) (λ w. Ok (constant w))
value_with line memory_code operands (address ∷ []) = and_then address (λ a. Ok (memory a))
value_with line (unary_code operator) operands (operand ∷ []) = and_then operand (λ a. Ok (unary operator a))
value_with line (binary_code operator) operands (left ∷ right ∷ []) = and_then left (λ a. and_then right (λ b. Ok (binary operator a b)))
value_with line choice_code operands (test ∷ first ∷ second ∷ []) = and_then test (λ a. and_then first (λ b. and_then second (λ c. Ok (choice a b c))))
value_with line code operands values = Err (bad_shape, line)

-- the value that a form is
unfoldable mutual
  pub value_of : Tree → Judged Value
  value_of (list line (more (atom at word) operands)) =
      and_then (or_fault unknown_code line (value_code word)) (λ code. value_with line code operands (values_of operands))
  value_of form = Err (bad_shape, line_of form)

  -- what each form is in the place of a value
  pub values_of : Trees → List (Judged Value)
  values_of none = []
  values_of (more first others) = value_of first ∷ values_of others

-- What a list is in the place of a place.
pub data TargetCode : Type 0 where
  into_code cell_code : TargetCode

abbrev pub target_code : List ℕ → Option TargetCode
target_code word =
    if bytes_eq word (codes "reg") then Some into_code
    else if bytes_eq word (codes "mem") then Some cell_code
    else None

abbrev pub target_with : ℕ → TargetCode → Trees → Judged Target
target_with line into_code (more operand none) = and_then (register_in operand) (λ n. Ok (into n))
target_with line cell_code (more address none) = and_then (value_of address) (λ a. Ok (cell_at a))
target_with line code operands = Err (bad_shape, line)

-- the place that a form is
abbrev pub target_of : Tree → Judged Target
target_of form = by_head (λ line word operands. and_then (or_fault unknown_code line (target_code word)) (λ code. target_with line code operands)) form

-- What a list is in the place of an effect.
pub data EffectCode : Type 0 where
  set_code clobber_code use_code : EffectCode

abbrev pub effect_code : List ℕ → Option EffectCode
effect_code word =
    if bytes_eq word (codes "set") then Some set_code
    else if bytes_eq word (codes "clobber") then Some clobber_code
    else if bytes_eq word (codes "use") then Some use_code
    else None

abbrev pub effect_with : ℕ → EffectCode → Trees → Judged Effect
effect_with line set_code (more place (more value none)) =
    and_then (target_of place) (λ t. and_then (value_of value) (λ v. Ok (assign t v)))
effect_with line clobber_code (more place none) = and_then (target_of place) (λ t. Ok (clobber t))
effect_with line use_code (more value none) = and_then (value_of value) (λ v. Ok (mention v))
effect_with line code operands = Err (bad_shape, line)

-- the effect of a list that begins with a word
abbrev pub effect_headed : ℕ → List ℕ → Trees → Judged Effect
effect_headed line word operands = and_then (or_fault unknown_code line (effect_code word)) (λ code. effect_with line code operands)

-- the effect that a form is
abbrev pub effect_of : Tree → Judged Effect
effect_of form = by_head effect_headed form
