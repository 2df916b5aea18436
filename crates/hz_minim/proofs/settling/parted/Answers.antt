use Rattle.std.proofs.Common.{◌≡◌, ◌+◌, ◌++◌, ◌∷◌, [], subst, sym, rules}
use Rattle.hz_minim.specs.Leading.{IsParted}
use Rattle.hz_minim.proofs.SettleLemmas.{parted_more}
use Rattle.hz_minim.proofs.settling.parted.Goals as goal

pub loop-state-preserved : goal.loop-state-preserved
loop-state-preserved c =
    let pushed : c.push.new.self.items ≡ c.loop-state.all.items ++ c.parted_to.result ∷ [] = search rules in
    subst (IsParted c.args.plain.now.rows c.args.leaders.now c.args.other c.args.column (c.loop-state.state + 1)) (sym pushed)
    (parted_more c.args.plain.now.rows c.args.leaders.now c.args.other c.args.column c.loop-state.state c.loop-state.all.items c.parted_to.result c.loop-state.invariant c.parted_to.ensures)
