use Rattle.hz_laws.proofs.Grouping.Renaming.{accepted_renamed, refused_renamed, choices_renamed, held_renamed}
use Rattle.hz_laws.proofs.split_laws.renamed_pipelines_accept_the_same.Goals as goal

pub returns-clause-acceptance : goal.returns-clause-acceptance
returns-clause-acceptance g c = λ rename m one. accepted_renamed rename one m

pub returns-clause-refused : goal.returns-clause-refused
returns-clause-refused g c = λ rename m one. refused_renamed rename one m

pub returns-clause-choices : goal.returns-clause-choices
returns-clause-choices g c = λ rename m one. choices_renamed rename one m

pub returns-clause-held : goal.returns-clause-held
returns-clause-held g c = λ rename m one. held_renamed rename one m
