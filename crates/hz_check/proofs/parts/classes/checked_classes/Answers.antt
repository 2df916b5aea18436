use Rattle.std.proofs.Common.{map, ap, ◌∙◌}
use Rattle.hz_mdread.specs.Shape.{class_item}
use Rattle.hz_check.specs.Parts.Classes.{classes_with}
use Rattle.hz_check.proofs.Built.ClassLists.{classes_parts}
use Rattle.hz_check.proofs.parts.classes.checked_classes.Goals as goal

pub returns : goal.returns
returns c = λ d known count expanded.
    let classes = map class_item c.args.classes.items in
    c.in_ok-made.ensures ∙ (ap (λ alts. classes_with c.args.automata alts classes) expanded ∙ classes_parts d known c.args.automata classes count)
