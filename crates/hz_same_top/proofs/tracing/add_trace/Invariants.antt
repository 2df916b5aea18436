use Rattle.std.proofs.Common.{◌≡◌, ◌≤◌, ◌++◌, drop}
use Rattle.hz_same_model.specs.Texts.{trace_lines}
use Rattle.hz_same_top.specs.Names.{common_in}
use Rattle.hz_same_top.proofs.tracing.add_trace.Given as goal

abbrev pub invariant-loop-symbol : goal.invariant-loop-symbol
invariant-loop-symbol l = (l.waiting ≤ l.symbol-index) × (l.text.items ++ trace_lines (common_in l.names) l.waiting (drop l.symbol-index l.trace) ≡ l.fn.text.items ++ trace_lines (common_in l.names) 0 l.trace)
