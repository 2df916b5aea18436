use Rattle.hz_front.proofs.ReadLemmas.{slurp_counted, slurp_reported}
use Rattle.hz_front.proofs.reading.read_file.Goals as goal

pub returns-in-Err-clause-counts : goal.returns-in-Err-clause-counts
returns-in-Err-clause-counts g c = slurp_counted c.args.name c.refuse_slurp.result _ _ c.in-Err.fault c.refuse_slurp.ensures c.in-Err.ensures.counts

pub returns-in-Err-clause-tells : goal.returns-in-Err-clause-tells
returns-in-Err-clause-tells g c = slurp_reported c.args.name _ _ _ _ _ _ c.in-Err.fault c.refuse_slurp.result c.refuse_slurp.ensures c.in-Err.ensures.counts c.in-Err.ensures.tells c.in-Err.ensures.lacks
