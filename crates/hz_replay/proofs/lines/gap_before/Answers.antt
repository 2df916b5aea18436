use Rattle.std.proofs.Common.{sym, ◌∙◌, arith}
use Rattle.std.proofs.lemmas.List.Sums.{prefix_len_is}
use Rattle.hz_pipeline_model.specs.Traces.Traces.{is_gap}
use Rattle.hz_replay.proofs.lines.gap_before.Goals as goal

pub returns-then-not-is_gap-clause-count : goal.returns-then-not-is_gap-clause-count
returns-then-not-is_gap-clause-count c = sym (prefix_len_is is_gap c.args.text.now c.loop-count.count 0 (omega arith) c.loop-count.invariant (λ _. sym c.is_gap.ensures ∙ c.if-not-is_gap.true))

pub returns-clause-count : goal.returns-clause-count
returns-clause-count c = sym (prefix_len_is is_gap c.args.text.now _ 0 (omega arith) (λ k low. c.loop-count.invariant k (omega arith)) (λ far. absurd (omega (arith, far))))
