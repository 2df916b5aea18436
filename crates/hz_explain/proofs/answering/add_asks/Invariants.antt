use Rattle.std.proofs.Common.{◌≡◌, ◌++◌, take}
use Rattle.std.specs.List.{flat_map}
use Rattle.hz_explain.specs.Answering.{names_at, asked_line}
use Rattle.hz_explain.proofs.answering.add_asks.Given as goal

abbrev pub invariant-loop-ask : goal.invariant-loop-ask
invariant-loop-ask l = l.text.items ≡ l.fn.text.items ++ flat_map (asked_line (names_at l.units)) (take l.ask-index l.asked)
