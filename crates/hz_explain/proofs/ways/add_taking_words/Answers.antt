use Rattle.std.specs.Prelude.{suc, codes, decimal}
use Rattle.hz_why_model.specs.Ways.{ago_text}
use Rattle.hz_reasons.specs.Holding.{age_of}
use Rattle.hz_explain.proofs.Joining.{joined}
use Rattle.hz_explain.proofs.ways.add_taking_words.Goals as goal

pub returns : goal.returns
returns c = joined c.args.text.now.items _ _ _ _ (codes " in cycle ") (ago_text (age_of c.args.holder)) (codes " took alternative ") (decimal (suc c.args.holder.number)) c.in_ok-add.ensures c.in_ok-add_cycle.ensures c.in_ok-add-2.ensures c.in_ok-add_alternative_number.ensures
