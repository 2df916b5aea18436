use Rattle.std.proofs.Common.{◌≡◌, ℕ, ◌==◌, drop}
use Rattle.hz_depend.specs.Lists.{list_at}
use Rattle.hz_depend.specs.Noted.{hits, put_all}
use Rattle.hz_depend.specs.Tables.{lists_in}
use Rattle.hz_depend.proofs.finding.by_register.ByRegister.add_all.Given as goal

-- with the registers that are left, each has its places
abbrev pub invariant-loop-register : goal.invariant-loop-register
invariant-loop-register l = (r : ℕ) → put_all (list_at (lists_in l.self) r) (hits (λ n. n == r) (drop l.register-index l.registers) l.place) ≡ put_all (list_at (lists_in l.initial.self) r) (hits (λ n. n == r) l.registers l.place)
