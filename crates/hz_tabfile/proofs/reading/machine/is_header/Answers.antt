use Rattle.std.proofs.Common.{◌<◌, ℕ, List, length, sym, ◌∙◌, subst}
use Rattle.std.proofs.lemmas.Bool.{OnTrue_from}
use Rattle.std.proofs.lemmas.Slice.Eq.{bytes_eq-Decides}
use Rattle.hz_tabfile.proofs.reading.machine.is_header.Goals as goal

pub returns-clause-some : goal.returns-clause-some
returns-clause-some c =
    OnTrue_from c.is_word.result (0 < length c.args.line.now) (λ t.
    let same = (bytes_eq-Decides c.args.line.now c.args.header.now).0 (sym c.is_word.ensures ∙ t) in
    subst (λ (bs : List ℕ). 0 < length bs) (sym same) c.requires)
