use Rattle.std.proofs.Common.{refl}
use Rattle.hz_sexp.proofs.ReaderLemmas.{takes_form}
use Rattle.hz_sexp.proofs.reader.Reader.leaf.Goals as goal

pub returns-clause-ok : goal.returns-clause-ok
returns-clause-ok c = takes_form c.args.self.now _ c.args.form refl c.in_ok-push.ensures.items c.requires
