use Rattle.hz_sexp.specs.Shape.{trees}
use Rattle.hz_mdread.specs.Shape.{description}
use Rattle.hz_description_model.proofs.Reading.FormSizes.{forms_few, strings_short}
use Rattle.hz_description_model.proofs.Reading.CheckableLaws.{can_be_checked}
use Rattle.hz_layer_rows.proofs.texts.checks.checked_of.Goals as goal

pub read_description-requires-clause-count : goal.read_description-requires-clause-count
read_description-requires-clause-count c = rw c.deref.ensures.value (forms_few c.args.text.now (trees c.in-Ok.forms.items) _ c.in-Ok.ensures.forms c.requires)

pub read_description-requires-clause-strings : goal.read_description-requires-clause-strings
read_description-requires-clause-strings c = rw c.deref.ensures.value (strings_short _ c.args.text.now (trees c.in-Ok.forms.items) c.in-Ok.ensures.forms c.requires)

pub check-requires-clause-formed : goal.check-requires-clause-formed
check-requires-clause-formed c = can_be_checked (description c.in-Ok-read_description.description) c.in-Ok-read_description.ensures.formed

pub check-requires-clause-shared : goal.check-requires-clause-shared
check-requires-clause-shared c = c.in-Ok-read_description.ensures.formed.units_share
