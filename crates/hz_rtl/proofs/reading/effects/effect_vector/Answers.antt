use Rattle.std.proofs.Common.{sym, ◌∙◌}
use Rattle.hz_sexp.specs.Shape.{tree}
use Rattle.hz_rtl.proofs.EffectLemmas.{vector_effects}
use Rattle.hz_rtl.proofs.reading.effects.effect_vector.Goals as goal

pub returns-clause-ok : goal.returns-clause-ok
returns-clause-ok c = rw (vector_effects (tree c.args.form.now) c.in-Some.forms.now c.in-Some.ensures (sym c.is_empty.ensures ∙ c.if-is_empty.false)) c.effects_of.ensures.ok
