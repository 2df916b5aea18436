use Rattle.std.proofs.Common.{sym, ◌∙◌, arith}
use Rattle.std.proofs.lemmas.List.Sums.{position_or_len_is}
use Rattle.hz_pipeline_model.specs.Traces.Traces.{is_gap}
use Rattle.hz_replay.proofs.lines.word_length.Goals as goal

pub returns-then-is_gap-clause-count : goal.returns-then-is_gap-clause-count
returns-then-is_gap-clause-count c = sym (position_or_len_is is_gap c.args.line.now c.loop-count.count 0 (omega arith) c.loop-count.invariant (λ _. sym c.is_gap.ensures ∙ c.if-is_gap.true))

pub returns-clause-count : goal.returns-clause-count
returns-clause-count c = sym (position_or_len_is is_gap c.args.line.now _ 0 (omega arith) (λ k low. c.loop-count.invariant k (omega arith)) (λ far. absurd (omega (arith, far))))
