use Rattle.std.proofs.Common.{◌≤◌, length}
use Rattle.hz_unitsets.specs.RowRules.{asked_statement, AllowsRows}
use Rattle.hz_unitsets.proofs.Cycles.{FirstHold}
use Rattle.hz_unitsets.proofs.rules.all_allow_rows_in_blocks.Given as goal

-- the rules so far allow the cycle
abbrev pub invariant-loop-block : goal.invariant-loop-block
invariant-loop-block l = record {
  before : FirstHold (λ asked. AllowsRows (asked_statement asked) l.there l.added) l.rules l.next;
  within : l.next ≤ length l.rules;
}
