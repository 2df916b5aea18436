use Rattle.std.proofs.Common.{◌≡◌, ◌++◌}
use Rattle.hz_determ.specs.Spaces.{lists_of}
use Rattle.hz_auto.proofs.columns.lists_in.Given as goal

abbrev pub invariant-loop-list : goal.invariant-loop-list
invariant-loop-list l = lists_of l.all.items ++ l.list-iterator ≡ l.fn.lists.keys
