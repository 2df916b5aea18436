use Rattle.std.proofs.Common.{take}
use Rattle.std.specs.Prelude.{All, IsTrue}
use Rattle.hz_base_model.specs.Names.{is_name}
use Rattle.hz_tabfile.proofs.writing.ranges.are_names.Given as goal

abbrev pub invariant-loop-name : goal.invariant-loop-name
invariant-loop-name l = All (λ name. IsTrue (is_name name)) (take l.name-index l.names)
