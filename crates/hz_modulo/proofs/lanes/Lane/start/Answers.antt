use Rattle.std.proofs.Common.{◌≡◌, ◌<◌, ℕ, Some, [], ◌∷◌, refl, sym, subst}
use Rattle.hz_pipeline_model.specs.Tables.Machines.{Machine, parts_walk, starts_of}
use Rattle.hz_modulo.specs.Lanes.{states_in}
use Rattle.hz_modulo.proofs.LaneLemmas.{part_is}
use Rattle.hz_modulo.proofs.lanes.Lane.start.Goals as goal

pub returns-clause-start : goal.returns-clause-start
returns-clause-start c = subst (λ (n : ℕ). starts_of c.args.self.now ≡ n ∷ []) (sym c.self.invariant.1) (subst (λ (m : Machine). starts_of m ≡ 0 ∷ []) c.self.view_is refl)

pub returns-clause-within : goal.returns-clause-within
returns-clause-within c =
    let some = (part_is c.self.inside.machine.now c.self.inside.part c.self.invariant.0).table.start in
    subst (λ (n : ℕ). n < states_in c.args.self.now) (sym c.self.invariant.1) (subst (λ (m : Machine). 0 < states_in m) c.self.view_is some)

pub returns-clause-stands : goal.returns-clause-stands
returns-clause-stands c =
    subst (λ (n : ℕ). parts_walk c.args.self.now.parts (n ∷ []) [] ≡ Some (n ∷ [])) (sym c.self.invariant.1)
    (subst (λ (m : Machine). parts_walk m.parts (0 ∷ []) [] ≡ Some (0 ∷ [])) c.self.view_is refl)
