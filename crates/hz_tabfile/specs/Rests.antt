-- What is left of a text, as the reader holds it.
use Rattle.hz_tabtext_model.specs.Reading as model
use Rattle.hz_tabfile.specs.declared.reading.rest.Rest.{Rest}
use Rattle.hz_tabfile.specs.Given.{rest_at}

abbrev pub left_of : Rest → model.Rest
left_of rest = rest_at rest.number rest.bytes.now
