use Rattle.std.proofs.Common.{◌≡◌, map}
use Rattle.hz_description_model.specs.Reading.DescriptionForms as model
use Rattle.hz_mdread.specs.Shape.{automaton_item}
use Rattle.hz_mdread.proofs.forms.automaton_items.Given as goal

abbrev pub invariant-loop-name : goal.invariant-loop-name
invariant-loop-name l = map automaton_item l.items.items ≡ model.automaton_items l.place.line l.place.form l.yielded
