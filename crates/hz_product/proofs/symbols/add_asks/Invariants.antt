use Rattle.std.proofs.Common.{◌≡◌, ◌++◌, map, filter, take}
use Rattle.hz_tables.specs.Machines.{machine_of}
use Rattle.hz_same_model.specs.Common.{has_ask, ask_of}
use Rattle.hz_product.specs.Symbols.{event_of}
use Rattle.hz_product.proofs.symbols.add_asks.Given as goal

abbrev pub invariant-loop-name : goal.invariant-loop-name
invariant-loop-name l =
    map event_of l.events.items ≡ map event_of l.fn.events.items ++ map (ask_of (machine_of l.machine)) (filter (has_ask (machine_of l.second)) (take l.name-index l.asks))
