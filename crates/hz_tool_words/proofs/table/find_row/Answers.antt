use Rattle.std.proofs.Common.{ap, map, refl, rules, tests}
use Rattle.std.proofs.lemmas.Iterator.{YieldsList-from_slice}
use Rattle.std.proofs.lemmas.Iterator.Search.{find_from_yields_List}
use Rattle.std.specs.Str.{bytes_eq}
use Rattle.hz_tool_words.specs.Shape.{command_in}
use Rattle.hz_tool_words.proofs.TableLemmas.{row_is_command}
use Rattle.hz_tool_words.proofs.table.find_row.Goals as goal

pub returns-clause-named : goal.returns-clause-named
returns-clause-named c =
    row_is_command c.args.name.now c.find.result c.iter.result.rest.now
    (find_from_yields_List (λ row. bytes_eq row.name.now c.args.name.now) _ _ c.find.result c.find.ensures.ran (YieldsList-from_slice c.iter.result.rest.now refl) (λ x b q k. search (rules, tests)))
    (ap (map command_in) c.iter.ensures.rest)
