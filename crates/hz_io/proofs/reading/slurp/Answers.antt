use Rattle.hz_io.proofs.ReadLemmas.{tells_opened, lacks_unreported}
use Rattle.hz_io.proofs.reading.slurp.Goals as goal

pub returns-clause-tells : goal.returns-clause-tells
returns-clause-tells g c =
    λ held is. tells_opened (c.in_ok-open.ensures.opened held is) _ _ _ c.read_to_end.ensures.tells

pub returns-clause-lacks : goal.returns-clause-lacks
returns-clause-lacks g c =
    λ steady. lacks_unreported _ _ _ (rw (← c.in_ok-open.ensures.held) (c.read_to_end.ensures.fails (c.in_ok-open.ensures.steady steady)))
