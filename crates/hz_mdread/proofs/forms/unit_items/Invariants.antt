use Rattle.std.proofs.Common.{◌≡◌, map}
use Rattle.std.specs.Option.{option_copied}
use Rattle.hz_description_model.specs.Reading.DescriptionForms as model
use Rattle.hz_mdread.specs.Shape.{unit_item}
use Rattle.hz_mdread.proofs.forms.unit_items.Given as goal

abbrev pub invariant-loop-name : goal.invariant-loop-name
invariant-loop-name l = map unit_item l.items.items ≡ model.unit_items l.place.line l.place.form l.query (option_copied l.automaton) l.yielded
