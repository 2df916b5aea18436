use Rattle.hz_altern.proofs.listing.expanding.expand.Goals as goal

pub returns-clause-answer : goal.returns-clause-answer
returns-clause-answer c = c.expand_within.ensures.answer
