use Rattle.hz_mdread.specs.Shape.{description}
use Rattle.hz_check.proofs.Telling.CheckSteps.{few_automata, few_classes}
use Rattle.hz_check.proofs.Built.QuerySteps.{few_in}
use Rattle.hz_check.proofs.parts.assemble.Goals as goal

pub automata-requires-clause-few : goal.automata-requires-clause-few
automata-requires-clause-few c = few_automata (description c.args.names.now.desc.now) c.requires.within.automata

pub automata-requires-clause-small : goal.automata-requires-clause-small
automata-requires-clause-small c = λ n. few_in (description c.args.names.now.desc.now) c.requires.places.within n

pub bypasses-requires : goal.bypasses-requires
bypasses-requires c = few_classes (description c.args.names.now.desc.now) c.requires.within.classes
