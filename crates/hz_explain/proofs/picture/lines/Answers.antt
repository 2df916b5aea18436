use Rattle.std.proofs.Common.{◌++◌, ◌∷◌, [], List, Option, ℕ, ap, sym, ◌∙◌, zero-add}
use Rattle.std.specs.Option.{option_map}
use Rattle.std.proofs.lemmas.List.FromFn.{map-range_with_len_more}
use Rattle.hz_reasons.specs.Plans.{unit_of}
use Rattle.hz_explain.specs.Showing.{lines_shown}
use Rattle.hz_explain.specs.Telling.{holder_in}
use Rattle.hz_explain.proofs.picture.lines.Goals as goal

pub loop-cycle-preserved : goal.loop-cycle-preserved
loop-cycle-preserved c =
    let n = c.loop-cycle.cycle in
    c.in_ok-push.ensures.items ∙ (ap (λ (l : List (Option ℕ)). l ++ c.line_of.result ∷ []) c.loop-cycle.invariant ∙ (ap (λ (o : Option ℕ). lines_shown c.args.plan.now c.args.issues.now n (unit_of c.args.unit) ++ o ∷ []) c.line_of.ensures
    ∙ sym (map-range_with_len_more (λ cycle. option_map (λ h. h.line) (holder_in c.args.plan.now c.args.issues.now (unit_of c.args.unit) cycle)) 0 n n (zero-add n))))
