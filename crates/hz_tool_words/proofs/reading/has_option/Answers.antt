use Rattle.std.proofs.Common.{◌∙◌, rules, tests}
use Rattle.std.proofs.lemmas.Iterator.{YieldsList-from_slice}
use Rattle.std.proofs.lemmas.Iterator.Search.{any_from_yields_List}
use Rattle.std.specs.String.{string_bytes}
use Rattle.clap.proofs.WalkLemmas.{list_any-map}
use Rattle.hz_words_model.specs.Words.{begins_with_dash}
use Rattle.hz_tool_words.proofs.reading.has_option.Goals as goal

pub returns : goal.returns
returns c =
    any_from_yields_List (λ w. begins_with_dash (string_bytes w)) _ _ _ c.any.ensures.ran (YieldsList-from_slice c.args.words.now cc) (λ x b q k. search (rules, tests))
    ∙ list_any-map begins_with_dash string_bytes c.args.words.now
