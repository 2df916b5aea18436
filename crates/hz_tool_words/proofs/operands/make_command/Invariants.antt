use Rattle.std.proofs.Common.{◌≡◌}
use Rattle.clap.specs.Words.{app_of}
use Rattle.hz_tool_words.specs.Operands.{app_with}
use Rattle.hz_tool_words.proofs.operands.make_command.Given as goal

-- the command has the operands so far
abbrev pub invariant-loop-place : goal.invariant-loop-place
invariant-loop-place l = app_of l.command ≡ app_with l.fn.name l.place
