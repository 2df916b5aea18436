use Rattle.std.proofs.Common.{◌≡◌, map, take}
use Rattle.hz_explain.proofs.naming.class_names.Given as goal

abbrev pub invariant-loop-class : goal.invariant-loop-class
invariant-loop-class l = l.names.items ≡ map (λ c. c.name) (take l.class-index l.class-items)
