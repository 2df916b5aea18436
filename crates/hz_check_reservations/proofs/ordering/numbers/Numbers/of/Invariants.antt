use Rattle.std.proofs.Common.{◌≡◌, ℕ, List, drop}
use Rattle.std.specs.BTreeMap.{get}
use Rattle.std.specs.Cmp.Lexicographic.{slice_cmp}
use Rattle.std.specs.List.{position_from}
use Rattle.std.specs.Ordering.{nat_cmp}
use Rattle.std.specs.Str.{bytes_eq}
use Rattle.hz_check_reservations.proofs.FirstNames.{names_of}
use Rattle.hz_check_reservations.proofs.ordering.numbers.Numbers.of.Given as goal

abbrev pub invariant-loop-i : goal.invariant-loop-i
invariant-loop-i l = (name : List ℕ) → get (slice_cmp nat_cmp) l.names name ≡ position_from (bytes_eq name) l.i (drop l.i (names_of l.reservations))
