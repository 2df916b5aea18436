use Rattle.std.proofs.Common.{List, IfOk, map, ◌∙◌, subst}
use Rattle.hz_checked.specs.declared.checked.CheckedBypass.{CheckedBypass}
use Rattle.hz_checked.specs.Shape.{bypass_of}
use Rattle.hz_depend.specs.Numbers.{HoldsNumbers}
use Rattle.hz_depend.proofs.NumberLemmas.{held_classes}
use Rattle.hz_depend.proofs.finding.numbers.Numbers.of.Goals as goal

pub new-requires : goal.new-requires
new-requires c = held_classes c.args.checked.now c.deref.result.now c.len.result c.deref.ensures.value (c.len.ensures ∙ c.args.checked.now.classes.ok.0)

pub returns : goal.returns
returns c = subst (λ (bs : List CheckedBypass). IfOk c.new.result (HoldsNumbers (map bypass_of bs))) c.deref.ensures.value c.new.ensures
