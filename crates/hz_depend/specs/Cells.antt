-- The addresses that the code keeps, as what the definitions speak of.
use Rattle.std.specs.Prelude.{List, map, Option}
use Rattle.std.specs.Option.{option_map}
use Rattle.hz_depend.specs.declared.finding.access.Based.{Based}
use Rattle.hz_block_model.specs.Dependences.Accesses as model

abbrev pub based : Based → model.Based
based b = record { base = b.base; offset = b.offset }

abbrev pub cells : List (Option Based) → List (Option model.Based)
cells kept = map (option_map based) kept
