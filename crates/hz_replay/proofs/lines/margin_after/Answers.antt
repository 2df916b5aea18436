use Rattle.std.proofs.Common.{sym, ◌∙◌, arith}
use Rattle.std.proofs.lemmas.List.Sums.{suffix_len_is}
use Rattle.hz_pipeline_model.specs.Traces.Traces.{is_margin}
use Rattle.hz_replay.proofs.lines.margin_after.Goals as goal

pub returns-then-not-is_margin-clause-count : goal.returns-then-not-is_margin-clause-count
returns-then-not-is_margin-clause-count c =
    let within = c.loop-end.invariant.within in
    let count = suffix_len_is is_margin c.args.line.now c.loop-end.«end» 0 within c.loop-end.invariant.margin (λ _. sym c.is_margin.ensures ∙ c.if-not-is_margin.true) in
    omega (arith, count, within)

pub returns-clause-count : goal.returns-clause-count
returns-clause-count c =
    let within = c.loop-end.invariant.within in
    let count = suffix_len_is is_margin c.args.line.now c.loop-end.«end» 0 within c.loop-end.invariant.margin (λ some. absurd (omega (arith, some))) in
    omega (arith, count, within)
