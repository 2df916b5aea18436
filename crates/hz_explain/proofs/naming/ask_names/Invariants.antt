use Rattle.std.proofs.Common.{◌≡◌, [], map, take}
use Rattle.std.specs.Prelude.{slice_index_or}
use Rattle.hz_explain.proofs.naming.ask_names.Given as goal

abbrev pub invariant-loop-unit : goal.invariant-loop-unit
invariant-loop-unit l = l.names.items ≡ map (λ n. slice_index_or l.automaton.units.items n []) (take l.unit-index l.unit-items)
