use Rattle.hz_laws.proofs.Names.ClassNumbers.{of_classes, each_class}
use Rattle.hz_laws.proofs.bypass_laws.classes_have_the_numbers_of_their_names.Goals as goal

pub returns-clause-of : goal.returns-clause-of
returns-clause-of c = of_classes

pub returns-clause-each : goal.returns-clause-each
returns-clause-each c = each_class
