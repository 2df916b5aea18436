use Rattle.std.proofs.Common.{◌≡◌, drop, map}
use Rattle.hz_checked.specs.Shape.{attribute_of}
use Rattle.hz_block_model.specs.Dependences.Classes as model
use Rattle.hz_depend.proofs.class.first_fault.Given as goal

-- what is left decides
abbrev pub invariant-loop-one : goal.invariant-loop-one
invariant-loop-one l = model.first_fault (map attribute_of l.defined) (drop l.one-index l.given) ≡ model.first_fault (map attribute_of l.defined) l.given
