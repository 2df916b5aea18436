use Rattle.std.proofs.Common.{◌≡◌, ◌++◌, drop}
use Rattle.hz_check_reservations.specs.Numbers.{number_in}
use Rattle.hz_check_reservations.proofs.Naming.{named_of}
use Rattle.hz_check_reservations.proofs.ordering.numbers.Numbers.+naming.Given as goal

abbrev pub invariant-add_named_in-loop-part : goal.invariant-add_named_in-loop-part
invariant-add_named_in-loop-part l =
    l.named.items ++ named_of (number_in l.self) (drop l.part-index l.parts) ≡ l.initial.named.items ++ named_of (number_in l.self) l.parts
