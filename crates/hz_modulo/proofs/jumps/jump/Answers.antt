use Rattle.std.proofs.Common.{◌≡◌, ℕ, suc, ◌+◌, ◌-◌, length, sym, ap, ◌∙◌, arith}
use Rattle.hz_modulo.specs.Lanes.{jumped}
use Rattle.hz_modulo.proofs.JumpLemmas.{jump_within}
use Rattle.hz_modulo.proofs.jumps.jump.Goals as goal

pub loop-jump-preserved : goal.loop-jump-preserved
loop-jump-preserved c =
    let top = c.args.top.now in
    let left : c.args.jumps - c.loop-jump._jump ≡ suc (c.args.jumps - (c.loop-jump._jump + 1)) = omega (arith, c.loop-jump-test.true) in
    record {
      within = jump_within (length top) top c.requires.top c.loop-jump.now c.loop-jump.invariant.within;
      rest = sym (ap (λ (n : ℕ). jumped top n c.loop-jump.now) left) ∙ c.loop-jump.invariant.rest;
    }
