use Rattle.std.proofs.Common.{List, ◌++◌, ap, ◌∙◌}
use Rattle.std.specs.List.{find}
use Rattle.hz_explain.specs.Showing.{holders_of}
use Rattle.hz_reasons.specs.declared.holders.Holder.{Holder}
use Rattle.hz_explain.proofs.GatherLaws.{none_listed}
use Rattle.hz_explain.proofs.picture.holders_by_unit.Goals as goal

pub returns : goal.returns
returns c = λ u test. c.in_ok-add_holders.ensures u test ∙ ap (λ (hs : List Holder). find test (hs ++ holders_of c.args.plan.now c.args.issues.now u)) (none_listed c.in_ok-held.held.items c.in_ok-held.ensures.empty u)
