use Rattle.std.proofs.Common.{◌≡◌, ◌+◌, slice_index_or, ◌<◌, ◌++◌, ◌∷◌, [], ℕ, length, subst, sym, rules}
use Rattle.hz_minim.specs.Leading.{HasFirst}
use Rattle.hz_minim.proofs.LedStates.{LedSoFar}
use Rattle.hz_minim.proofs.LeadLemmas.{led_more, led_all}
use Rattle.hz_minim.proofs.leading.leaders_of.Goals as goal

pub loop-state-preserved : goal.loop-state-preserved
loop-state-preserved c =
    let low : c.loop-state.state < length c.args.blocks.now = search rules in
    let has : HasFirst c.loop-state.firsts.items (slice_index_or c.args.blocks.now c.loop-state.state 0) c.loop-state.state c.first_of-leader.new.firsts.items c.first_of-leader.result = search rules in
    let pushed : c.push.new.self.items ≡ c.loop-state.leaders.items ++ c.first_of-leader.result ∷ [] = search rules in
    subst (LedSoFar c.args.blocks.now (c.loop-state.state + 1) c.first_of-leader.new.firsts.items) (sym pushed)
    (led_more c.args.blocks.now c.loop-state.state c.loop-state.firsts.items c.loop-state.leaders.items c.loop-state.invariant low c.first_of-leader.new.firsts.items c.first_of-leader.result has)

pub returns : goal.returns
returns c =
    let all : c.loop-state.state ≡ length c.args.blocks.now = search rules in
    led_all c.args.blocks.now c.loop-state.firsts.items c.loop-state.leaders.items (subst (λ (k : ℕ). LedSoFar c.args.blocks.now k c.loop-state.firsts.items c.loop-state.leaders.items) all c.loop-state.invariant)
