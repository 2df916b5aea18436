use Rattle.std.proofs.Common.{◌≡◌, ◌++◌, true, drop, map}
use Rattle.std.specs.List.{list_all}
use Rattle.hz_description_model.specs.Reading.DescriptionShape.{are_names}
use Rattle.hz_mdread.proofs.PatternLemmas.{words_all}
use Rattle.hz_mdread.proofs.patterns.patterns_of.Given as goal

-- the patterns so far, with those that are left, are all of them
abbrev pub invariant-loop-piece : goal.invariant-loop-piece
invariant-loop-piece l = record {
  all : map (λ pattern. pattern.items) l.patterns.items ++ words_all (drop l.piece-index l.piece-items) ≡ words_all l.piece-items;
  good : list_all are_names (map (λ pattern. pattern.items) l.patterns.items) ≡ true;
}
