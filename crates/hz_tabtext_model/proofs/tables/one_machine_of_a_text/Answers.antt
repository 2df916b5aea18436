use Rattle.std.proofs.Common.{sym, ◌∙◌}
use Rattle.hz_tabtext_model.specs.Judging.{Fault}
use Rattle.hz_tabtext_model.proofs.Steps.{ok_is}
use Rattle.hz_tabtext_model.proofs.TextAgain.{tables_again}
use Rattle.hz_tabtext_model.proofs.tables.one_machine_of_a_text.Goals as goal

pub returns : goal.returns
returns c = λ text a b h k. ok_is {E = Fault} a b (sym (tables_again text a h) ∙ tables_again text b k)
