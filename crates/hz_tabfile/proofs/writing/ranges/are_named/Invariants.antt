use Rattle.std.proofs.Common.{take}
use Rattle.std.specs.Prelude.{All, IsTrue}
use Rattle.hz_base_model.specs.Names.{is_name}
use Rattle.hz_tabfile.proofs.writing.ranges.are_named.Given as goal

abbrev pub invariant-loop-part : goal.invariant-loop-part
invariant-loop-part l = All (λ part. IsTrue (is_name part.name)) (take l.part-index l.parts)
