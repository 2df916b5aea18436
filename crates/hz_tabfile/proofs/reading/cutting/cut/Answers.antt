use Rattle.std.proofs.Common.{◌==◌, sym, ◌∙◌}
use Rattle.std.proofs.lemmas.List.{take_rest}
use Rattle.hz_tabfile.proofs.Pieces.{split_at_place, split_nowhere}
use Rattle.hz_tabfile.proofs.reading.cutting.cut.Goals as goal

pub returns-in-Some-clause-pieces : goal.returns-in-Some-clause-pieces
returns-in-Some-clause-pieces c = rw take_rest (split_at_place (λ b. b == c.args.byte) c.args.text.now c.in-Some.end (sym c.place.ensures ∙ c.in-Some.is))

pub returns-in-None-clause-pieces : goal.returns-in-None-clause-pieces
returns-in-None-clause-pieces c = split_nowhere (λ b. b == c.args.byte) c.args.text.now (sym c.place.ensures ∙ c.in-None.is)
