use Rattle.std.proofs.Common.{◌≡◌, refl, rules}
use Rattle.hz_sexp.proofs.ReaderLemmas.{takes_close}
use Rattle.hz_sexp.proofs.reader.Reader.close_bracket.Goals as goal

pub returns-clause-ok : goal.returns-clause-ok
returns-clause-ok c =
    let same : c.in-Some.frame.bracket ≡ c.args.bracket = search rules in
    let r = c.replace-forms.ensures in
    let pushed = rw r.after at c.in_ok-push.ensures.items in
    let made = rw (r.value, ← same) at c.enclosed.ensures in
    rw (← same) (takes_close c.args.self.now _ c.pop.new.self.items c.in-Some.frame c.enclosed.result c.in-Some.ensures.items refl pushed made)
