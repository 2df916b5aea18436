use Rattle.std.specs.Prelude.{codes, decimal}
use Rattle.hz_explain.proofs.AnswerLaws.{added_five}
use Rattle.hz_reasons.proofs.FrontierSteps.{on_ok_then}
use Rattle.hz_explain.proofs.answering.add_refused.Goals as goal

pub returns : goal.returns
returns c = on_ok_then c.add-4.result c.add-4.ensures (λ last.
    added_five c.args.text.now.items (codes "refused line ") (decimal c.args.line) (codes " ") c.args.class.now (codes "\n") c.add.new.text.items c.add_number.new.text.items c.add-2.new.text.items c.add-3.new.text.items c.add-4.new.text.items
    c.in_ok-add.ensures c.in_ok-add_number.ensures c.in_ok-add-2.ensures c.in_ok-add-3.ensures last)
