-- The operands of forms: what they are, or what is wrong and at which line. docs/FORMATS.md, 'Blocks and states'.
use Rattle.std.specs.Prelude.{ℕ, ◌-◌, ◌%◌, ◌^◌, ℤ, pos, negsuc, Bool, nat_lt, if◌then◌else◌, List, codes, Option, Some, None, Result, Ok, Err}
use Rattle.hz_base_model.specs.Names.{is_name}
use Rattle.hz_base_model.specs.Forms.Trees.{Tree, Trees, list, quoted, number, atom, more, line_of}

-- What can be wrong with a block or a state.
pub data RtlFault : Type 0 where
  bad_shape unknown_code register_range twice insn_limit : RtlFault

-- the word by which a fault is reported: docs/FORMATS.md, 'Answers'
abbrev pub rtl_word : RtlFault → List ℕ
rtl_word bad_shape = codes "BadShape"
rtl_word unknown_code = codes "UnknownCode"
rtl_word register_range = codes "RegisterRange"
rtl_word twice = codes "Twice"
rtl_word insn_limit = codes "InsnLimit"

-- what a form says, or its first fault with the line
abbrev pub Judged : Type 0 → Type 0
Judged A = Result A (RtlFault × ℕ)

-- a good value leads on, and what is wrong stays: of several the first
abbrev pub and_then : {A B : Type 0} → Judged A → (A → Judged B) → Judged B
and_then (Ok value) next = next value
and_then (Err fault) next = Err fault

-- the value, if there is one, and else a fault at a line
abbrev pub or_fault : {A : Type 0} → RtlFault → ℕ → Option A → Judged A
or_fault fault line (Some value) = Ok value
or_fault fault line None = Err (fault, line)

-- the value, unless it stands there already
abbrev pub unless_twice : {A : Type 0} → Bool → ℕ → A → Judged A
unless_twice stands line value = if stands then Err (twice, line) else Ok value

-- What a list that begins with a word says, by its line, the word and its operands. Any other form has another shape.
abbrev pub by_head : {A : Type 0} → (ℕ → List ℕ → Trees → Judged A) → Tree → Judged A
by_head says (list line (more (atom at word) operands)) = says line word operands
by_head says form = Err (bad_shape, line_of form)

-- how many registers there are
abbrev pub register_count : ℕ
register_count = 256

-- N: the number of a register
abbrev pub register_in : Tree → Judged ℕ
register_in (number line (pos n)) = if nat_lt n register_count then Ok n else Err (register_range, line)
register_in (number line (negsuc n)) = Err (register_range, line)
register_in operand = Err (bad_shape, line_of operand)

-- the word of a number, which is taken modulo 2 ^ 64; `negsuc n` is -(n + 1)
abbrev pub word_of : ℤ → ℕ
word_of (pos n) = n % 2 ^ 64
word_of (negsuc n) = 2 ^ 64 - 1 - n % 2 ^ 64

-- I, A and V: a word
abbrev pub word_in : Tree → Judged ℕ
word_in (number line value) = Ok (word_of value)
word_in operand = Err (bad_shape, line_of operand)

-- NUMBER: from 0 to 2 ^ 32 - 1
abbrev pub number_in : Tree → Judged ℕ
number_in (number line (pos n)) = if nat_lt n (2 ^ 32) then Ok n else Err (bad_shape, line)
number_in operand = Err (bad_shape, line_of operand)

-- "name": a string that is one name
abbrev pub name_in : Tree → Judged (List ℕ)
name_in (quoted line bytes) = if is_name bytes then Ok bytes else Err (bad_shape, line)
name_in operand = Err (bad_shape, line_of operand)
