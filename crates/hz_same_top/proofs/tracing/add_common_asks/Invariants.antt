use Rattle.std.proofs.Common.{◌≡◌, ◌++◌, take}
use Rattle.std.specs.Prelude.{filter}
use Rattle.hz_tables.specs.Machines.{machine_of}
use Rattle.hz_same_model.specs.Common.{has_ask}
use Rattle.hz_same_top.specs.Names.{names_in}
use Rattle.hz_same_top.proofs.tracing.add_common_asks.Given as goal

abbrev pub invariant-loop-name : goal.invariant-loop-name
invariant-loop-name l = names_in l.names.items ≡ names_in l.fn.names.items ++ filter (has_ask (machine_of l.second)) (take l.name-index l.asks)
