use Rattle.hz_why_laws.proofs.WayLaws.{numbers_chosen}
use Rattle.hz_why_laws.proofs.holding.issues_took_the_chosen_alternatives.Goals as goal

pub returns : goal.returns
returns c = numbers_chosen
