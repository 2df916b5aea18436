use Rattle.std.proofs.Common.{◌<◌, List, take, length, get_or, sym, ap, ◌∙◌, arith}
use Rattle.std.proofs.lemmas.List.{take_more}
use Rattle.hz_why_model.specs.Lists.{Run, runs}
use Rattle.hz_explain.specs.Listing.{and_number}
use Rattle.hz_explain.proofs.ListLaws.{runs_more}
use Rattle.hz_explain.proofs.lists.runs.Goals as goal

pub loop-number-preserved : goal.loop-number-preserved
loop-number-preserved c =
    let i = c.loop-number.number-index in
    let ns = c.args.numbers.now in
    let lt : i < length ns = omega arith in
    c.in_ok-add_to_runs.ensures
    ∙ (ap (λ (rs : List Run). and_number rs (get_or ns i 0)) c.loop-number.invariant
    ∙ (sym (runs_more (take i ns) (get_or ns i 0)) ∙ ap runs (sym (take_more ns i 0 lt))))
