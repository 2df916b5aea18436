use Rattle.std.proofs.Common.{◌≡◌, take, map}
use Rattle.hz_auto.proofs.compiled.names_of.Given as goal

abbrev pub invariant-loop-class : goal.invariant-loop-class
invariant-loop-class l = l.names.items ≡ map (λ c. c.name) (take l.class-index l.classes)
