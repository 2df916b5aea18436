use Rattle.std.proofs.Common.{◌≡◌, ◌<◌, ◌*◌, ℕ, List, Some, [], ◌∷◌, length, get_or, sym, ap, ◌∙◌, subst, arith}
use Rattle.std.specs.Global.{Vec}
use Rattle.hz_pipeline_model.specs.Accepting.Events.{advance}
use Rattle.hz_pipeline_model.specs.Tables.Machines.{Machine, part_at, parts_walk}
use Rattle.hz_tables.specs.Machines.{machine_of}
use Rattle.hz_modulo.specs.Lanes.{states_in, IsWithin, landed}
use Rattle.hz_modulo.proofs.JumpLemmas.{tops_within, levels_within, landed_walk, long_again}
use Rattle.hz_modulo.proofs.lanes.Lane.after.Goals as goal

pub land-requires-clause-top : goal.land-requires-clause-top
land-requires-clause-top c =
    let part = part_at (machine_of c.self.inside.machine.now) c.self.inside.part in
    let within = tops_within part 1 c.self.inside.levels.items c.self.inside.top.items c.self.invariant.2 in
    subst (λ (xs : List ℕ). IsWithin (length xs) xs) (sym c.deref-2.ensures.value) (long_again (length part.rows) c.self.inside.top.items within)

pub land-requires-clause-levels : goal.land-requires-clause-levels
land-requires-clause-levels c = λ i d lt.
    let part = part_at (machine_of c.self.inside.machine.now) c.self.inside.part in
    let levels = c.self.inside.levels.items in
    let top = c.self.inside.top.items in
    let long = (tops_within part 1 levels top c.self.invariant.2).long in
    let many = ap (λ (xs : List (Vec ℕ)). length xs) c.deref.ensures.value in
    let within = levels_within part 1 levels top c.self.invariant.2 i d (omega (arith, lt, many)) in
    subst (λ (xs : List (Vec ℕ)). IsWithin (length c.deref-2.result.now) (get_or xs i d).items) (sym c.deref.ensures.value)
    (subst (λ (n : ℕ). IsWithin n (get_or levels i d).items) (sym (ap (λ (xs : List ℕ). length xs) c.deref-2.ensures.value ∙ long)) within)

pub land-requires-clause-state : goal.land-requires-clause-state
land-requires-clause-state c =
    let part = part_at (machine_of c.self.inside.machine.now) c.self.inside.part in
    let long = (tops_within part 1 c.self.inside.levels.items c.self.inside.top.items c.self.invariant.2).long in
    let same = ap (λ (xs : List ℕ). length xs) c.deref-2.ensures.value in
    let lt = subst (λ (m : Machine). c.args.state < states_in m) (sym c.self.view_is) c.requires.state in
    omega (arith, long, same, lt)

pub returns-clause-within : goal.returns-clause-within
returns-clause-within c =
    let part = part_at (machine_of c.self.inside.machine.now) c.self.inside.part in
    let levels = c.self.inside.levels.items in
    let top = c.self.inside.top.items in
    let lt = subst (λ (m : Machine). c.args.state < states_in m) (sym c.self.view_is) c.requires.state in
    let is : c.land.result ≡ landed levels top c.args.cycles c.args.state = c.land.ensures ∙ (λ i. landed (c.deref.ensures.value i) (c.deref-2.ensures.value i) c.args.cycles c.args.state) in
    subst (λ (m : Machine). c.land.result < states_in m) c.self.view_is
    (subst (λ (n : ℕ). n < length part.rows) (sym is) (landed_walk part 1 levels top c.self.invariant.2 c.args.cycles c.args.state lt).0)

pub returns-clause-taken : goal.returns-clause-taken
returns-clause-taken c =
    let part = part_at (machine_of c.self.inside.machine.now) c.self.inside.part in
    let levels = c.self.inside.levels.items in
    let top = c.self.inside.top.items in
    let lt = subst (λ (m : Machine). c.args.state < states_in m) (sym c.self.view_is) c.requires.state in
    let is : c.land.result ≡ landed levels top c.args.cycles c.args.state = c.land.ensures ∙ (λ i. landed (c.deref.ensures.value i) (c.deref-2.ensures.value i) c.args.cycles c.args.state) in
    let once : 1 * c.args.cycles ≡ c.args.cycles = omega arith in
    subst (λ (m : Machine). parts_walk m.parts (c.args.state ∷ []) (advance c.args.cycles ∷ []) ≡ Some (c.land.result ∷ [])) c.self.view_is
    (subst (λ (n : ℕ). parts_walk (part ∷ []) (c.args.state ∷ []) (advance c.args.cycles ∷ []) ≡ Some (n ∷ [])) (sym is)
    (subst (λ (k : ℕ). parts_walk (part ∷ []) (c.args.state ∷ []) (advance k ∷ []) ≡ Some (landed levels top c.args.cycles c.args.state ∷ [])) once (landed_walk part 1 levels top c.self.invariant.2 c.args.cycles c.args.state lt).1))
