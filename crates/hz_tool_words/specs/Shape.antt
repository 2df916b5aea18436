-- Words, operands, arguments and orders of the program, and the table of commands, as the definitions have them.
use Rattle.std.specs.Prelude.{◌≤◌, ℕ, List, Option, length, map, String}
use Rattle.std.specs.Borrow.{Bor}
use Rattle.std.specs.String.{string_bytes}
use Rattle.std.specs.declared.alloc.Global.{Global}
use Rattle.hz_words_model.specs.Words as model
use Rattle.hz_tool_words.specs.declared.arguments.Argument.{Argument}
use Rattle.hz_tool_words.specs.declared.arguments.Argument.TheVariants.{File, Value}
use Rattle.hz_tool_words.specs.declared.order.Order.{Order}
use Rattle.hz_tool_words.specs.declared.order.Order.TheVariants as order
use Rattle.hz_tool_words.specs.declared.table.Operand.{Operand}
use Rattle.hz_tool_words.specs.declared.table.Operand.TheVariants.{Description, Trace, Tables, Block, State, Number, Turns}
use Rattle.hz_tool_words.specs.declared.table.Row.{Row}
use Rattle.hz_tool_words.specs.declared.table.Verb.{Verb}
use Rattle.hz_tool_words.specs.declared.table.Verb.TheVariants.{Compile, Replay, Walk, Schedule, Eval, Drill, Timed, Bound, Duo, Modulo}

-- the bytes of words
abbrev pub words_in : List (String Global) → List (List ℕ)
words_in words = map string_bytes words

-- the bytes of two words
abbrev pub pair_in : Bor (List ℕ) × Bor (List ℕ) → List ℕ × List ℕ
pair_in pair = (pair.0.now, pair.1.now)

-- the bytes of three words
abbrev pub three_in : Bor (List ℕ) × Bor (List ℕ) × Bor (List ℕ) → List ℕ × List ℕ × List ℕ
three_in words = (words.0.now, words.1.now, words.2.now)

-- the bytes of a word, and two numbers
abbrev pub triple_in : Bor (List ℕ) × ℕ × ℕ → List ℕ × ℕ × ℕ
triple_in triple = (triple.0.now, triple.1, triple.2)

-- what is given for an operand as it is in the definitions
abbrev pub argument_in : Argument → model.Argument
argument_in (File name) = model.file name.now
argument_in (Value n) = model.value n

-- an order of the program as one of the definitions
abbrev pub order_in : Order → model.Order
order_in (order.Compile o) = model.compile o.description.now
order_in (order.Replay o) = model.replay o.description.now o.trace.now
order_in (order.Walk o) = model.walk o.tables.now o.trace.now
order_in (order.Schedule o) = model.schedule o.description.now o.block.now
order_in (order.Eval o) = model.eval o.block.now o.state.now
order_in (order.Drill o) = model.drill o.description.now o.number o.turns
order_in (order.Timed o) = model.timed o.description.now o.block.now o.state.now
order_in (order.Bound o) = model.bound o.description.now o.block.now
order_in (order.Duo o) = model.duo o.description.now o.first.now o.second.now
order_in (order.Modulo o) = model.modulo o.description.now o.block.now

-- ---- the table of commands

-- an operand as one of the definitions
abbrev pub operand_in : Operand → model.Operand
operand_in Description = model.description
operand_in Trace = model.trace
operand_in Tables = model.tables
operand_in Block = model.block
operand_in State = model.state
operand_in Number = model.number
operand_in Turns = model.turns

-- what a command makes of its arguments
abbrev pub make_of : Verb → List model.Argument → Option model.Order
make_of Compile = model.on_one model.compile
make_of Replay = model.on_two model.replay
make_of Walk = model.on_two model.walk
make_of Schedule = model.on_two model.schedule
make_of Eval = model.on_two model.eval
make_of Drill = model.with_numbers model.drill
make_of Timed = model.on_three model.timed
make_of Bound = model.on_two model.bound
make_of Duo = model.on_three model.duo
make_of Modulo = model.on_two model.modulo

-- a row as a command of the definitions
abbrev pub command_in : Row → model.Command
command_in row = record { name = row.name.now; operands = map operand_in row.operands.now; make = make_of row.verb }

-- there are one to three operands
pub record IsFew (operands : List Operand) : Type 0 where
  pub some : 1 ≤ length operands
  pub few : length operands ≤ 3
