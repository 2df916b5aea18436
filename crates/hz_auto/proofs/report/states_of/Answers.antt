use Rattle.std.proofs.Common.{◌++◌, ◌∷◌, [], take, map, sym, ap, ◌∙◌, subst}
use Rattle.std.proofs.lemmas.List.{take_more, map_push}
use Rattle.hz_auto.specs.Reports.{AreArranged, IsArranged}
use Rattle.hz_auto.proofs.ReportLemmas.{arranged_more}
use Rattle.hz_auto.proofs.report.states_of.Goals as goal

pub loop-set-preserved : goal.loop-set-preserved
loop-set-preserved c =
    let i = c.loop-set.set-index in
    let item = c.set-item.result in
    let sets = map (λ set. set.items) (take i c.args.sets.now) in
    let states = map (λ state. state.items) c.loop-set.states.items in
    let taken = ap (map (λ set. set.items)) (take_more c.args.sets.now i item c.loop-set-test.true ∙ ap (λ x. take i c.args.sets.now ++ x ∷ []) (sym c.set-item.is)) ∙ map_push (λ set. set.items) (take i c.args.sets.now) item in
    let made = ap (map (λ state. state.items)) c.in_ok-push.ensures.items ∙ map_push (λ state. state.items) c.loop-set.states.items c.in_ok-arranged.field-0 in
    subst (λ xs. AreArranged c.args.grids.now xs (map (λ state. state.items) c.push.new.self.items)) (sym taken)
    (subst (AreArranged c.args.grids.now (sets ++ item.items ∷ [])) (sym made)
    (arranged_more c.args.grids.now sets states item.items c.in_ok-arranged.field-0.items c.loop-set.invariant (subst (λ xs. IsArranged c.args.grids.now xs c.in_ok-arranged.field-0.items) c.deref.ensures.value c.in_ok-arranged.ensures)))
