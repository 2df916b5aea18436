use Rattle.std.proofs.Common.{[], map}
use Rattle.hz_rtl.specs.Shape.{effect}
use Rattle.hz_timed.specs.Leaving.{effect_of}
use Rattle.hz_timed.proofs.EffectLemmas.{MappedSoFar}
use Rattle.hz_timed.proofs.leaving.effects_of.Given as goal

-- the effects so far
abbrev pub invariant-loop-write : goal.invariant-loop-write
invariant-loop-write l = MappedSoFar effect_of l.fn.writes [] (map effect l.effects.items) l.write-index
