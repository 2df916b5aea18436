use Rattle.std.proofs.Common.{◌≡◌, drop}
use Rattle.hz_sexp.specs.Shape.{trees}
use Rattle.hz_description_model.specs.Reading.Descriptions.{no_items}
use Rattle.hz_description_model.specs.Reading.DescriptionForms.{forms_say}
use Rattle.hz_mdread.specs.Reading.{reading}
use Rattle.hz_mdread.specs.Shape.{description}
use Rattle.hz_mdread.proofs.reader.read_description.Given as goal

-- what is left says with the description so far what all forms say
abbrev pub invariant-loop-number : goal.invariant-loop-number
invariant-loop-number l = forms_say reading l.number (description l.description) (trees (drop l.number l.forms)) ≡ forms_say reading 0 no_items (trees l.forms)
