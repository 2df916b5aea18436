use Rattle.std.proofs.Common.{map, ap, ◌∙◌}
use Rattle.hz_auto.proofs.CheckedFacts.{machine_kept}
use Rattle.hz_auto.proofs.compiled.machine_on.Goals as goal

pub invariant_of-result : goal.invariant_of-result
invariant_of-result c = record { kept = machine_kept c.args.checked.now c.in_ok-classes.classes.items c.args.parts.items (c.in_ok-classes.ensures ∙ ap (map (λ x. x.name)) c.deref.ensures.value) c.requires.each c.requires.kept c.requires.asks }
