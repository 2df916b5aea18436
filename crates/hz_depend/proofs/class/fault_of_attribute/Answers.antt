use Rattle.std.proofs.Common.{true, false, sym, ◌∙◌}
use Rattle.hz_depend.proofs.ClassLemmas.{attribute_unknown, attribute_known}
use Rattle.hz_depend.proofs.class.fault_of_attribute.Goals as goal

pub returns-in-None : goal.returns-in-None
returns-in-None c = sym (attribute_unknown c.args.defined.now c.args.given.now c.in-None.ensures)

pub returns-then-has_value : goal.returns-then-has_value
returns-then-has_value c = sym (attribute_known c.args.defined.now c.args.given.now c.in-Some.attribute.now true c.in-Some.ensures (sym c.if-has_value.true ∙ c.has_value.ensures))

pub returns-else-has_value : goal.returns-else-has_value
returns-else-has_value c = sym (attribute_known c.args.defined.now c.args.given.now c.in-Some.attribute.now false c.in-Some.ensures (sym c.if-has_value.false ∙ c.has_value.ensures))
