use Rattle.hz_claims_laws.proofs.LoadCounts.{fewest, some_fewest, counted, unasked, within, apart, room, no_less}
use Rattle.hz_claims_laws.proofs.load_laws.a_load_is_as_great_as_counting_gives.Goals as goal

pub returns-clause-fewest : goal.returns-clause-fewest
returns-clause-fewest c = fewest

pub returns-clause-some_fewest : goal.returns-clause-some_fewest
returns-clause-some_fewest c = some_fewest

pub returns-clause-counted : goal.returns-clause-counted
returns-clause-counted c = counted

pub returns-clause-unasked : goal.returns-clause-unasked
returns-clause-unasked c = unasked

pub returns-clause-within : goal.returns-clause-within
returns-clause-within c = within

pub returns-clause-apart : goal.returns-clause-apart
returns-clause-apart c = apart

pub returns-clause-room : goal.returns-clause-room
returns-clause-room c = room

pub returns-clause-no_less : goal.returns-clause-no_less
returns-clause-no_less c = no_less
