use Rattle.std.proofs.Common.{◌/◌, arith}
use Rattle.std.proofs.lemmas.Nat.{or_lt}
use Rattle.hz_grid.proofs.WordLemmas.{AreWords-set, word_small, HasUnit-added}
use Rattle.hz_grid.proofs.words.add.Goals as goal

pub returns-clause-words : goal.returns-clause-words
returns-clause-words c =
    AreWords-set c.args.words.now (c.args.unit / 64) _ c.requires.words (or_lt 64 _ _ (word_small c.args.words.now (c.args.unit / 64) c.requires.words) (omega arith))

pub returns-clause-units : goal.returns-clause-units
returns-clause-units c =
    HasUnit-added c.args.words.now c.args.unit c.requires.words c.requires.unit (AreWords-set c.args.words.now (c.args.unit / 64) _ c.requires.words (or_lt 64 _ _ (word_small c.args.words.now (c.args.unit / 64) c.requires.words) (omega arith)))
