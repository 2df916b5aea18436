use Rattle.std.proofs.Common.{ℕ, List, length, subst}
use Rattle.hz_minim.specs.Leading.{Strays, IsParted}
use Rattle.hz_minim.proofs.SettleLemmas.{parted_coarse, parting_falls}
use Rattle.hz_minim.proofs.settling.settle.Goals as goal

pub loop-state-smaller : goal.loop-state-smaller
loop-state-smaller c =
    parting_falls c.args.plain.now.rows c.args.plain.now.columns c.loop-state.settled.items c.in-Some.state c.in-Some.column c.in_ok-settled-in-Some.settled.items c.requires.table c.loop-state.invariant
    (subst (λ (leaders : List ℕ). Strays c.args.plain.now.rows c.args.plain.now.columns leaders c.in-Some.state c.in-Some.column) c.deref.ensures.value c.in-Some.ensures)
    (subst (λ (leaders : List ℕ). IsParted c.args.plain.now.rows leaders c.in-Some.state c.in-Some.column (length c.args.plain.now.rows) c.in_ok-settled-in-Some.settled.items) c.deref-in-Some.ensures.value c.in_ok-settled-in-Some.ensures)

pub loop-state-preserved : goal.loop-state-preserved
loop-state-preserved c =
    parted_coarse c.args.plain.now.rows c.args.plain.now.columns c.loop-state.settled.items c.in-Some.state c.in-Some.column c.in_ok-settled-in-Some.settled.items c.requires.table c.loop-state.invariant
    (subst (λ (leaders : List ℕ). Strays c.args.plain.now.rows c.args.plain.now.columns leaders c.in-Some.state c.in-Some.column) c.deref.ensures.value c.in-Some.ensures)
    (subst (λ (leaders : List ℕ). IsParted c.args.plain.now.rows leaders c.in-Some.state c.in-Some.column (length c.args.plain.now.rows) c.in_ok-settled-in-Some.settled.items) c.deref-in-Some.ensures.value c.in_ok-settled-in-Some.ensures)
