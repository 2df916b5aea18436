use Rattle.std.proofs.Common.{◌≡◌, map, take}
use Rattle.hz_explain.specs.Detailing.{texts_of, wanted_reported}
use Rattle.hz_explain.specs.Telling.{wording_in}
use Rattle.hz_explain.proofs.details.wanted_texts.Given as goal

abbrev pub invariant-loop-pattern : goal.invariant-loop-pattern
invariant-loop-pattern l = texts_of l.texts.items ≡ map (λ pattern. wanted_reported (wording_in l.desc l.parts) pattern.items) (take l.pattern-index l.patterns)
