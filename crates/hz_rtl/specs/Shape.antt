-- What the code holds, as what the definitions speak of.
use Rattle.std.specs.Prelude.{List, map}
use Rattle.hz_rtl.specs.declared.block.Op1.{Op1}
use Rattle.hz_rtl.specs.declared.block.Op1.TheVariants as one
use Rattle.hz_rtl.specs.declared.block.Op2.{Op2}
use Rattle.hz_rtl.specs.declared.block.Op2.TheVariants as two
use Rattle.hz_rtl.specs.declared.block.Value.{Value}
use Rattle.hz_rtl.specs.declared.block.Value.TheOpen.{Value-F}
use Rattle.hz_rtl.specs.declared.block.Value.TheFolds.{fold-Value}
use Rattle.hz_rtl.specs.declared.block.Place.{Place}
use Rattle.hz_rtl.specs.declared.block.Place.TheVariants as place
use Rattle.hz_rtl.specs.declared.block.Effect.{Effect}
use Rattle.hz_rtl.specs.declared.block.Effect.TheVariants as effects
use Rattle.hz_rtl.specs.declared.block.Insn.{Insn}
use Rattle.hz_rtl.specs.declared.block.Block.{Block}
use Rattle.hz_block_model.specs.Running.Operators as operators
use Rattle.hz_block_model.specs.Running.Blocks as model

abbrev pub unary_operator : Op1 → operators.UnaryOperator
unary_operator one.Neg = operators.neg
unary_operator one.Not = operators.complement

abbrev pub binary_operator : Op2 → operators.BinaryOperator
binary_operator two.Plus = operators.plus
binary_operator two.Minus = operators.minus
binary_operator two.Mult = operators.mult
binary_operator two.Udiv = operators.udiv
binary_operator two.Umod = operators.umod
binary_operator two.And = operators.conjunction
binary_operator two.Ior = operators.disjunction
binary_operator two.Xor = operators.exclusive
binary_operator two.Ashift = operators.ashift
binary_operator two.Lshiftrt = operators.lshiftrt
binary_operator two.Ashiftrt = operators.ashiftrt
binary_operator two.Eq = operators.eq
binary_operator two.Ne = operators.ne
binary_operator two.Ltu = operators.ltu
binary_operator two.Lt = operators.lt

-- a value whose parts are known
abbrev pub value_step : Value-F model.Value → model.Value
value_step (Value-F.Reg number) = model.register number
value_step (Value-F.Const word) = model.constant word
value_step (Value-F.Mem address) = model.memory address.value
value_step (Value-F.Unary operator operand) = model.unary (unary_operator operator) operand.value
value_step (Value-F.Binary operator left right) = model.binary (binary_operator operator) left.value right.value
value_step (Value-F.Choice test first second) = model.choice test.value first.value second.value

-- the value that is held
abbrev pub value : Value → model.Value
value = fold-Value model.Value value_step

abbrev pub target : Place → model.Target
target (place.Reg number) = model.into number
target (place.Mem address) = model.cell_at (value address)

abbrev pub effect : Effect → model.Effect
effect (effects.Set to word) = model.assign (target to) (value word)
effect (effects.Clobber to) = model.clobber (target to)
effect (effects.Use word) = model.mention (value word)

abbrev pub instruction : Insn → model.Instruction
instruction i = record { number = i.number; line = i.line; effects = map effect i.effects.items; attributes = i.attrs.items }

-- the instructions of a block
abbrev pub instructions : Block → List model.Instruction
instructions block = map instruction block.insns.items
