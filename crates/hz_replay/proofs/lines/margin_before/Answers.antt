use Rattle.std.proofs.Common.{sym, ◌∙◌, arith}
use Rattle.std.proofs.lemmas.List.Sums.{prefix_len_is}
use Rattle.hz_pipeline_model.specs.Traces.Traces.{is_margin}
use Rattle.hz_replay.proofs.lines.margin_before.Goals as goal

pub returns-then-not-is_margin-clause-count : goal.returns-then-not-is_margin-clause-count
returns-then-not-is_margin-clause-count c = sym (prefix_len_is is_margin c.args.line.now c.loop-count.count 0 (omega arith) c.loop-count.invariant (λ _. sym c.is_margin.ensures ∙ c.if-not-is_margin.true))

pub returns-clause-count : goal.returns-clause-count
returns-clause-count c = sym (prefix_len_is is_margin c.args.line.now _ 0 (omega arith) (λ k low. c.loop-count.invariant k (omega arith)) (λ far. absurd (omega (arith, far))))
