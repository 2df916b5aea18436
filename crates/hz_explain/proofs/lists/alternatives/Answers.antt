use Rattle.std.proofs.Common.{ℕ, List, ◌++◌, map, length, ap, ◌∙◌}
use Rattle.std.specs.Prelude.{◌==◌, codes, if◌then◌else◌}
use Rattle.hz_why_model.specs.Lists.{Run, listed, numbers_limit, range_text}
use Rattle.hz_explain.specs.Listing.{run_of}
use Rattle.hz_explain.proofs.lists.alternatives.Goals as goal

pub returns : goal.returns
returns c =
    let text : List (List ℕ) → List ℕ = λ ranges. (if length c.args.numbers.now == 1 then codes "alternative" else codes "alternatives") ++ listed numbers_limit (codes " ") (codes ", ") ranges in
    let runs = ap (map run_of) c.deref.ensures.value ∙ c.in_ok-runs.ensures in
    let ranges = ap (map (λ range. range.items)) c.deref-2.ensures.value ∙ (c.in_ok-ranges.ensures ∙ ap (map (λ (run : Run). range_text run.first run.last)) runs) in
    c.in_ok-add_numbers.ensures ∙ (ap (λ (t : List ℕ). t ++ text (map (λ range. range.items) c.deref-2.result.now)) c.new-text.ensures.items ∙ ap text ranges)
