use Rattle.hz_grid.proofs.WordLemmas.{none_from_words}
use Rattle.hz_grid.proofs.words.is_empty.Goals as goal

pub returns : goal.returns
returns c =
    let none = none_from_words c.args.words.now c.requires in
    (λ t. none.0 (c.same.ensures.0 t), λ h. c.same.ensures.1 (none.1 h))
