use Rattle.std.proofs.Common.{rules}
use Rattle.hz_grid.proofs.SetLemmas.{empty_words}
use Rattle.hz_grid.proofs.cycles.Cycles.is_empty.Goals as goal

pub returns : goal.returns
returns c =
    let none = empty_words c.args.self.words (search rules) in
    (λ t. none.0 (c.is_empty.ensures.0 t), λ h. c.is_empty.ensures.1 (none.1 h))
