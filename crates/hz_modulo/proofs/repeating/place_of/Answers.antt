use Rattle.hz_modulo.specs.Repeating.{lists_in}
use Rattle.std.proofs.Common.{◌≡◌, sym, ◌∙◌, rules}
use Rattle.hz_modulo.proofs.HeldLemmas.{held_at, not_same, none_yet}
use Rattle.hz_modulo.proofs.repeating.place_of.Goals as goal

pub loop-place-preserved : goal.loop-place-preserved
loop-place-preserved c = none_yet (lists_in c.args.held.now) c.args.states.now c.loop-place.place c.loop-place.invariant
    (λ e. not_same c.are_same.result (c.as_slice.result.now ≡ c.args.states.now) c.are_same.ensures c.if-are_same.false
    (c.as_slice.ensures.value ∙ (sym (held_at c.args.held.now c.loop-place.place c.index-held-place.result (search rules) c.index-held-place.is) ∙ e)))
