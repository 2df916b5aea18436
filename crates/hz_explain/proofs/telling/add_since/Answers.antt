use Rattle.std.specs.Prelude.{◌==◌, codes, decimal}
use Rattle.hz_why_model.specs.Explanations.{held_word}
use Rattle.hz_explain.specs.Telling.{class_name}
use Rattle.hz_explain.proofs.Joining.{joined}
use Rattle.hz_explain.proofs.telling.add_since.Goals as goal

pub returns : goal.returns
returns c = joined c.args.text.now.items _ _ _ _ (held_word (c.args.cycle == 0)) (decimal c.args.holder.line) (codes ", ") (class_name c.args.desc.now c.args.holder.class) c.in_ok-add_held.ensures c.in_ok-add_number.ensures c.in_ok-add.ensures c.in_ok-add_class.ensures
