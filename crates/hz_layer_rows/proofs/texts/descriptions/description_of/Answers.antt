use Rattle.hz_sexp.specs.Shape.{trees}
use Rattle.hz_description_model.proofs.Reading.FormSizes.{forms_few, strings_short}
use Rattle.hz_layer_rows.proofs.texts.descriptions.description_of.Goals as goal

pub read_description-requires-clause-count : goal.read_description-requires-clause-count
read_description-requires-clause-count c = rw c.deref.ensures.value (forms_few c.args.bytes.now (trees c.in-Ok.forms.items) _ c.in-Ok.ensures.forms c.requires)

pub read_description-requires-clause-strings : goal.read_description-requires-clause-strings
read_description-requires-clause-strings c = rw c.deref.ensures.value (strings_short _ c.args.bytes.now (trees c.in-Ok.forms.items) c.in-Ok.ensures.forms c.requires)
