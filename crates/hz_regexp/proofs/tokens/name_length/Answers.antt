use Rattle.std.proofs.Common.{◌∙◌, not, rules, tests}
use Rattle.std.proofs.lemmas.Iterator.{YieldsList-from_slice}
use Rattle.std.proofs.lemmas.Iterator.Search.{position_from_yields_List}
use Rattle.hz_base_model.specs.Names as names
use Rattle.hz_regexp.proofs.Words.{first_failing}
use Rattle.hz_regexp.proofs.tokens.name_length.Goals as goal

pub returns : goal.returns
returns c =
    c.unwrap_or.ensures
    ∙ first_failing names.is_name_byte c.args.text.now c.position.result
    (position_from_yields_List (λ b. not (names.is_name_byte b)) _ _ _ c.position.ensures.ran (YieldsList-from_slice c.args.text.now cc) (λ x b q k. search (rules, tests)))
