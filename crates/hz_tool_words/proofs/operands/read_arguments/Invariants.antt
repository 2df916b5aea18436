use Rattle.std.proofs.Common.{◌≡◌, ◌++◌, drop, map}
use Rattle.std.specs.Option.{option_map}
use Rattle.hz_tool_words.specs.Operands.{arguments_at, value_of}
use Rattle.hz_tool_words.specs.Shape.{argument_in}
use Rattle.hz_tool_words.proofs.operands.read_arguments.Given as goal

-- the arguments so far, with those of the operands that are left, are the arguments
abbrev pub invariant-loop-place : goal.invariant-loop-place
invariant-loop-place l =
    arguments_at (value_of l.matches) 0 l.operands ≡ option_map (λ rest. map argument_in l.arguments.items ++ rest) (arguments_at (value_of l.matches) l.place (drop l.place l.operands))
