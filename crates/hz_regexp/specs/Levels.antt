-- A level of the code, by the words of the definition.
use Rattle.hz_regexp.specs.declared.level.Level.{Level}
use Rattle.hz_regexp.specs.Shape.{expressions}
use Rattle.hz_description_model.specs.Grammar.ExpressionSteps.{Open}

-- the parts of a level
abbrev pub open_of : Level → Open
open_of level = record { sequence = expressions level.sequence.items; choices = expressions level.choices.items; together = expressions level.together.items }
