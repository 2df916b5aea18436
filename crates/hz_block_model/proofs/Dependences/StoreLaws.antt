-- What stores leave at a place, and the places that an instruction stores to.
use Rattle.std.proofs.Common.{◌≡◌, ℕ, ◌==◌, Bool, true, false, cond, ◌||◌, List, [], ◌∷◌, Contains, refl, sym, ap, ◌∙◌}
use Rattle.std.specs.List.{list_any, flat_map}
use Rattle.std.proofs.lemmas.Bool.{eqb-true}
use Rattle.hz_base_model.proofs.Elements.{Contains-head, Contains-tail}
use Rattle.hz_block_model.specs.Running.Blocks.{Value, Target, into, cell_at, Effect, assign, clobber, mention, Instruction}
use Rattle.hz_block_model.specs.Running.States.{Place, reg, cell, same_place, State, Store, stored, all_stored, place_in, value_in, stores_of_effect, stores_of}
use Rattle.hz_block_model.specs.Dependences.Accesses.{targets_of_effect, register_of_target, values_of_target, is_among}

pub first_false : (a b : Bool) → (a || b) ≡ false → (a ≡ false) × (b ≡ false)
first_false true b e = absurd (cc)
first_false false b e = (refl, e)

pub or_right : (a b : Bool) → b ≡ true → (a || b) ≡ true
or_right true b e = refl
or_right false b e = e

-- one of the stores is at the place
abbrev pub touches : List Store → Place → Bool
touches stores p = list_any (λ s. same_place s.place p) stores

-- the word at a place comes from the stores and the word before
pub congruent : (stores : List Store) (u v : State) (p : Place) → u p ≡ v p → all_stored u stores p ≡ all_stored v stores p
congruent [] u v p e = e
congruent (st ∷ stores) u v p e = congruent stores (stored u st) (stored v st) p (ap (λ (w : ℕ). cond (same_place st.place p) st.word w) e)

pub untouched : (stores : List Store) (u : State) (p : Place) → touches stores p ≡ false → all_stored u stores p ≡ u p
untouched [] u p e = refl
untouched (st ∷ stores) u p e =
    let (here, further) = first_false (same_place st.place p) (touches stores p) e in
    untouched stores (stored u st) p further ∙ ap (λ (b : Bool). cond b st.word (u p)) here

pub touched : (stores : List Store) (u v : State) (p : Place) → touches stores p ≡ true → all_stored u stores p ≡ all_stored v stores p
touched [] u v p e = absurd (cc)
touched (st ∷ stores) u v p e = go (same_place st.place p) refl e (touched stores (stored u st) (stored v st) p)
  where
    go : (b : Bool) → same_place st.place p ≡ b → (b || touches stores p) ≡ true → (touches stores p ≡ true → all_stored (stored u st) stores p ≡ all_stored (stored v st) stores p)
        → all_stored (stored u st) stores p ≡ all_stored (stored v st) stores p
    go true is h further = congruent stores (stored u st) (stored v st) p (ap (λ (b : Bool). cond b st.word (u p)) is ∙ sym (ap (λ (b : Bool). cond b st.word (v p)) is))
    go false is h further = further h

-- a target at the place
abbrev pub aims : State → List Target → Place → Bool
aims t targets p = list_any (λ g. same_place (place_in t g) p) targets

touches_aims : (t : State) (number : ℕ) (effects : List Effect) (p : Place) → touches (flat_map (stores_of_effect t number) effects) p ≡ aims t (flat_map targets_of_effect effects) p
touches_aims t number [] p = refl
touches_aims t number (assign target value ∷ effects) p = ap (λ (b : Bool). same_place (place_in t target) p || b) (touches_aims t number effects p)
touches_aims t number (clobber target ∷ effects) p = ap (λ (b : Bool). same_place (place_in t target) p || b) (touches_aims t number effects p)
touches_aims t number (mention value ∷ effects) p = touches_aims t number effects p

-- Why a place is stored to: it is a register that is written, or the cell at an address that is written.
pub data Hit (registers : List ℕ) (addresses : List Value) (t : State) (p : Place) : Type 0 where
  register_hit : (r : ℕ) → p ≡ reg r → is_among registers r ≡ true → Hit registers addresses t p
  cell_hit : (a : Value) → p ≡ cell (value_in t a) → Contains addresses a → Hit registers addresses t p

wider : (registers : List ℕ) (n : ℕ) (addresses : List Value) (t : State) (p : Place) → Hit registers addresses t p → Hit (n ∷ registers) addresses t p
wider registers n addresses t p (register_hit r is among) = register_hit r is (or_right (n == r) (is_among registers r) among)
wider registers n addresses t p (cell_hit a is c) = cell_hit a is c

longer : (registers : List ℕ) (addresses : List Value) (b : Value) (t : State) (p : Place) → Hit registers addresses t p → Hit registers (b ∷ addresses) t p
longer registers addresses b t p (register_hit r is among) = register_hit r is among
longer registers addresses b t p (cell_hit a is c) = cell_hit a is (Contains-tail b a addresses c)

register_aim : (n : ℕ) (registers : List ℕ) (addresses : List Value) (t : State) (p : Place) → same_place (reg n) p ≡ true → Hit (n ∷ registers) addresses t p
register_aim n registers addresses t (reg m) e = register_hit m refl (ap (λ (b : Bool). b || is_among registers m) e)
register_aim n registers addresses t (cell a) e = absurd (cc)

cell_aim : (a : Value) (registers : List ℕ) (addresses : List Value) (t : State) (p : Place) → same_place (cell (value_in t a)) p ≡ true → Hit registers (a ∷ addresses) t p
cell_aim a registers addresses t (reg m) e = absurd (cc)
cell_aim a registers addresses t (cell x) e = cell_hit a (ap cell (sym (eqb-true (value_in t a) x e))) (Contains-head a addresses)

aim_hits : (t : State) (targets : List Target) (p : Place) → aims t targets p ≡ true → Hit (flat_map register_of_target targets) (flat_map values_of_target targets) t p
aim_hits t [] p e = absurd (cc)
aim_hits t (into n ∷ targets) p e = go (same_place (reg n) p) refl e (aim_hits t targets p)
  where
    go : (b : Bool) → same_place (reg n) p ≡ b → (b || aims t targets p) ≡ true → (aims t targets p ≡ true → Hit (flat_map register_of_target targets) (flat_map values_of_target targets) t p)
        → Hit (n ∷ flat_map register_of_target targets) (flat_map values_of_target targets) t p
    go true is h further = register_aim n (flat_map register_of_target targets) (flat_map values_of_target targets) t p is
    go false is h further = wider (flat_map register_of_target targets) n (flat_map values_of_target targets) t p (further h)
aim_hits t (cell_at a ∷ targets) p e = go (same_place (cell (value_in t a)) p) refl e (aim_hits t targets p)
  where
    go : (b : Bool) → same_place (cell (value_in t a)) p ≡ b → (b || aims t targets p) ≡ true → (aims t targets p ≡ true → Hit (flat_map register_of_target targets) (flat_map values_of_target targets) t p)
        → Hit (flat_map register_of_target targets) (a ∷ flat_map values_of_target targets) t p
    go true is h further = cell_aim a (flat_map register_of_target targets) (flat_map values_of_target targets) t p is
    go false is h further = longer (flat_map register_of_target targets) (flat_map values_of_target targets) a t p (further h)

-- what an instruction stores to, it writes
pub store_hits : (i : Instruction) (t : State) (p : Place) → touches (stores_of i t) p ≡ true
    → Hit (flat_map register_of_target (flat_map targets_of_effect i.effects)) (flat_map values_of_target (flat_map targets_of_effect i.effects)) t p
store_hits i t p e = aim_hits t (flat_map targets_of_effect i.effects) p (sym (touches_aims t i.number i.effects p) ∙ e)
