use Rattle.std.proofs.Common.{◌≡◌, drop, map}
use Rattle.hz_sexp.specs.Shape.{trees}
use Rattle.hz_block_model.specs.Texts.BlockForms as blocks
use Rattle.hz_rtl.specs.Shape.{effect}
use Rattle.hz_rtl.proofs.EffectLemmas.{beyond}
use Rattle.hz_rtl.proofs.reading.effects.effects_of.Given as goal

-- the effects so far, with those of what is left, are all of them
abbrev pub invariant-loop-form : goal.invariant-loop-form
invariant-loop-form l = beyond (map effect l.effects.items) (blocks.effects_of (trees (drop l.form-index l.forms))) ≡ blocks.effects_of (trees l.forms)
