use Rattle.std.proofs.Common.{◌≡◌, ℕ, List, Some, None, [], ◌∷◌, sym, subst}
use Rattle.std.proofs.lemmas.Bool.{OnTrue_at, OnFalse_at}
use Rattle.hz_pipeline_model.specs.Accepting.Events.{advance}
use Rattle.hz_pipeline_model.specs.Tables.Machines.{parts_walk}
use Rattle.hz_tables.specs.Machines.{machine_of}
use Rattle.hz_replay.specs.Replaying.{AreStates}
use Rattle.hz_replay.proofs.ReplayerLemmas.{states_stay, always_advances, refilled, as_many}
use Rattle.hz_replay.proofs.replayer.Replayer.advance.Goals as goal

pub invariant_of-self : goal.invariant_of-self
invariant_of-self g c =
    let m = machine_of c.self.inside.machine.now in
    let is = c.self.inside.machine.now.kept in
    let states = c.self.inside.states.items in
    let next = c.walk.new.states in
    let reported = subst (λ (xs : List ℕ). parts_walk m.parts xs (advance 1 ∷ []) ≡ Some next) c.as_mut_slice-states.ensures.value (OnTrue_at c.if-not-walk.false c.walk.ensures.next) in
    let stay = states_stay m is states next (advance 1 ∷ []) c.self.invariant.0 reported in
    (subst (AreStates m) (sym (refilled states next (as_many m is states next (advance 1 ∷ []) c.self.invariant.0 reported))) stay, c.self.invariant.1)

pub unreachable-requires : goal.unreachable-requires
unreachable-requires g c =
    let m = machine_of c.self.inside.machine.now in
    let reported = subst (λ (states : List ℕ). parts_walk m.parts states (advance 1 ∷ []) ≡ None) c.as_mut_slice-states.ensures.value (OnFalse_at c.if-not-walk.true c.walk.ensures.none) in
    always_advances m c.self.inside.machine.now.kept c.self.inside.states.items c.self.invariant.0 reported
