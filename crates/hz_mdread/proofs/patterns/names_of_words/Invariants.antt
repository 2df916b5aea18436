use Rattle.std.proofs.Common.{◌≡◌, ◌++◌, true, drop}
use Rattle.std.specs.List.{list_all}
use Rattle.hz_base_model.specs.Names.{is_name}
use Rattle.hz_mdread.proofs.PatternLemmas.{now_all}
use Rattle.hz_mdread.proofs.patterns.names_of_words.Given as goal

-- the names so far, with the words that are left, are all words
abbrev pub invariant-loop-word : goal.invariant-loop-word
invariant-loop-word l = record {
  all : l.names.items ++ now_all (drop l.word-index l.words) ≡ now_all l.words;
  good : list_all is_name l.names.items ≡ true;
}
