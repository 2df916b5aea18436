use Rattle.hz_mdread.proofs.ListLemmas.{list_reported}
use Rattle.hz_mdread.proofs.operands.names_of.Goals as goal

pub returns : goal.returns
returns c = list_reported c.args.bytes.now c.parse_names.result c.list_if_read.result c.parse_names.ensures.names c.parse_names.ensures.good c.parse_names.ensures.bad c.list_if_read.ensures
