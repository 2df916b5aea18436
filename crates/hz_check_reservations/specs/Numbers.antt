-- The numbers that the code holds for names.
use Rattle.std.specs.Prelude.{ℕ, List, Option}
use Rattle.std.specs.Ordering.{nat_cmp}
use Rattle.std.specs.Cmp.Lexicographic.{slice_cmp}
use Rattle.std.specs.BTreeMap.{get}
use Rattle.hz_check_reservations.specs.declared.ordering.numbers.Numbers.{Numbers}

-- the number of a name
abbrev pub number_in : Numbers → List ℕ → Option ℕ
number_in numbers name = get (slice_cmp nat_cmp) numbers.names name
