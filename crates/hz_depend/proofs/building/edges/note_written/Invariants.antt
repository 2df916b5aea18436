use Rattle.std.proofs.Common.{◌≡◌, ℕ, cond, drop, get_or}
use Rattle.hz_block_model.specs.Dependences.Accesses.{is_among}
use Rattle.hz_depend.proofs.building.edges.note_written.Given as goal

-- with the registers that are left, the table is what it is to be
abbrev pub invariant-loop-register : goal.invariant-loop-register
invariant-loop-register l = (r : ℕ) → cond (is_among (drop l.register-index l.written.registers.items) r) l.after (get_or l.last r 0) ≡ cond (is_among l.written.registers.items r) l.after (get_or l.initial.last r 0)
