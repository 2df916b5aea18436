-- Jumps over cycles.
use Rattle.std.proofs.Common.{◌≡◌, ℕ, zero, suc, ◌+◌, ◌*◌, ◌/◌, ◌%◌, ◌==◌, ◌<◌, ◌≤◌, Bool, true, false, cond, List, [], ◌∷◌, ◌++◌, map, length, get_or, Some, ⊎_elim, refl, sym, ap, ◌∙◌, subst, arith}
use Rattle.std.specs.Prelude.{slice_index}
use Rattle.std.specs.Global.{Vec}
use Rattle.std.proofs.lemmas.Bool.{cases_lt}
use Rattle.std.proofs.lemmas.Nat.{mod_below, div-add-mod'}
use Rattle.std.proofs.lemmas.List.{length-map, get_or-map}
use Rattle.hz_pipeline_model.specs.Accepting.Events.{advance}
use Rattle.hz_pipeline_model.specs.Tables.Machines.{Part, parts_walk}
use Rattle.hz_modulo.specs.Lanes.{IsWithin, AreJumps, AreJumpsFrom, jumped, landed}
use Rattle.hz_modulo.proofs.AdvanceLemmas.{advance_more, advance_none}

-- a jump from a state
pub jump_within : (states : ℕ) (level : List ℕ) → IsWithin states level → (state : ℕ) → state < states → slice_index level state < states
jump_within states level x state lt = x.within state 0 (let long = x.long in omega (arith, long, lt))

no_odd : (n : ℕ) → n < 2 → (n == 1) ≡ false → n ≡ 0
no_odd n small e = ⊎_elim
    (λ (less : n < 1). let none : n ≡ 0 = omega arith in none)
    (λ (le : 1 ≤ n). let one : n ≡ 1 = omega arith in absurd (let bad : true ≡ false = sym (ap (λ (k : ℕ). k == 1) one) ∙ e in cc))
    (cases_lt n 1)

is_odd : (n : ℕ) → n < 2 → (n == 1) ≡ true → n ≡ 1
is_odd n small e = ⊎_elim
    (λ (less : n < 1). let none : n ≡ 0 = omega arith in absurd (let bad : false ≡ true = sym (ap (λ (k : ℕ). k == 1) none) ∙ e in cc))
    (λ (le : 1 ≤ n). let one : n ≡ 1 = omega arith in one)
    (cases_lt n 1)

pub long_again : (states : ℕ) (level : List ℕ) → IsWithin states level → IsWithin (length level) level
long_again states level x = subst (λ (n : ℕ). IsWithin n level) (sym x.long) x

-- ---- twice as many cycles

twice_at : (level : List ℕ) (state : ℕ) → state < length level → slice_index (map (slice_index level) level) state ≡ slice_index level (slice_index level state)
twice_at level state lt = get_or-map (slice_index level) level state 0 0 lt

pub twice_within : (states : ℕ) (level : List ℕ) → IsWithin states level → IsWithin states (map (slice_index level) level)
twice_within states level x = record {
  long = length-map level (slice_index level) ∙ x.long;
  within = λ i d lt.
      let long = length-map level (slice_index level) in
      let low : i < length level = omega (arith, lt, long) in
      subst (λ (n : ℕ). n < states) (sym (get_or-map (slice_index level) level i d d low))
      (jump_within states level x (get_or level i d) (x.within i d low));
}

doubled : (cycles count half odd : ℕ) → count ≡ half * 2 + odd → odd * cycles + (cycles + cycles) * half ≡ cycles * count
doubled cycles count half odd e = let same : cycles * count ≡ cycles * (half * 2 + odd) = ap (λ (n : ℕ). cycles * n) e in omega (arith, same)

module _ (part : Part) where
  pub twice_jumps : (cycles : ℕ) (level : List ℕ) → AreJumps part cycles level → AreJumps part (cycles + cycles) (map (slice_index level) level)
  twice_jumps cycles level x = record {
    is = twice_within (length part.rows) level x.is;
    each = λ state lt.
        let long = x.is.long in
        let once = slice_index level state in
        let inside = jump_within (length part.rows) level x.is state lt in
        subst (λ (n : ℕ). parts_walk (part ∷ []) (state ∷ []) (advance (cycles + cycles) ∷ []) ≡ Some (n ∷ [])) (sym (twice_at level state (omega (arith, lt, long))))
        (advance_more (part ∷ []) (state ∷ []) (once ∷ []) (slice_index level once ∷ []) cycles cycles (cycles + cycles) refl (x.each state lt) (x.each once inside));
  }

  -- one table more
  pub jumps_more : (cycles : ℕ) (levels : List (Vec ℕ)) (top : Vec ℕ) → AreJumpsFrom part cycles levels top.items → AreJumpsFrom part cycles (levels ++ top ∷ []) (map (slice_index top.items) top.items)
  jumps_more cycles [] top x = (x, twice_jumps cycles top.items x)
  jumps_more cycles (level ∷ levels) top x = (x.0, jumps_more (cycles + cycles) levels top x.1)

  -- ---- where jumps lead

  pub jumped_walk : (cycles : ℕ) (top : List ℕ) → AreJumps part cycles top → (jumps state : ℕ) → state < length part.rows
      → (jumped top jumps state < length part.rows) × (parts_walk (part ∷ []) (state ∷ []) (advance (cycles * jumps) ∷ []) ≡ Some (jumped top jumps state ∷ []))
  jumped_walk cycles top x zero state lt =
      let none : cycles * 0 ≡ 0 = omega arith in
      (lt, subst (λ (n : ℕ). parts_walk (part ∷ []) (state ∷ []) (advance n ∷ []) ≡ Some (state ∷ [])) (sym none) (advance_none (part ∷ []) (state ∷ []) (state ∷ []) refl))
  jumped_walk cycles top x (suc jumps) state lt =
      let once = slice_index top state in
      let rest = jumped_walk cycles top x jumps once (jump_within (length part.rows) top x.is state lt) in
      let more : cycles + cycles * jumps ≡ cycles * suc jumps = omega arith in
      (rest.0, advance_more (part ∷ []) (state ∷ []) (once ∷ []) (jumped top jumps once ∷ []) cycles (cycles * jumps) (cycles * suc jumps) more (x.each state lt) rest.1)

  -- where half of the cycles lead by the tables after one
  abbrev Lands : (cycles : ℕ) → List (Vec ℕ) → List ℕ → (count state : ℕ) → Type 0
  Lands cycles levels top count state = (landed levels top count state < length part.rows) × (parts_walk (part ∷ []) (state ∷ []) (advance (cycles * count) ∷ []) ≡ Some (landed levels top count state ∷ []))

  halved : (cycles : ℕ) (level : Vec ℕ) (levels : List (Vec ℕ)) (top : List ℕ) → AreJumps part cycles level.items
      → ((n s : ℕ) → s < length part.rows → Lands (cycles + cycles) levels top n s)
      → (count state : ℕ) → state < length part.rows → (odd : Bool) → (count % 2 == 1) ≡ odd
      → (landed levels top (count / 2) (cond odd (slice_index level.items state) state) < length part.rows)
      × (parts_walk (part ∷ []) (state ∷ []) (advance (cycles * count) ∷ []) ≡ Some (landed levels top (count / 2) (cond odd (slice_index level.items state) state) ∷ []))
  halved cycles level levels top jumps more count state lt true e =
      let half : count / 2 * 2 + count % 2 ≡ count = div-add-mod' count 2 in
      let once = slice_index level.items state in
      let rest = more (count / 2) once (jump_within (length part.rows) level.items jumps.is state lt) in
      let one = is_odd (count % 2) (mod_below count 2 (omega arith)) e in
      let both : cycles + (cycles + cycles) * (count / 2) ≡ cycles * count = (let all = doubled cycles count (count / 2) 1 (omega (arith, half, one)) in omega (arith, all)) in
      (rest.0, advance_more (part ∷ []) (state ∷ []) (once ∷ []) (landed levels top (count / 2) once ∷ []) cycles ((cycles + cycles) * (count / 2)) (cycles * count) both (jumps.each state lt) rest.1)
  halved cycles level levels top jumps more count state lt false e =
      let half : count / 2 * 2 + count % 2 ≡ count = div-add-mod' count 2 in
      let rest = more (count / 2) state lt in
      let small = mod_below count 2 (omega arith) in
      let none = no_odd (count % 2) small e in
      let both : (cycles + cycles) * (count / 2) ≡ cycles * count = (let all = doubled cycles count (count / 2) 0 (omega (arith, half, none)) in omega (arith, all)) in
      (rest.0, subst (λ (n : ℕ). parts_walk (part ∷ []) (state ∷ []) (advance n ∷ []) ≡ Some (landed levels top (count / 2) state ∷ [])) both rest.1)

  pub landed_walk : (cycles : ℕ) (levels : List (Vec ℕ)) (top : List ℕ) → AreJumpsFrom part cycles levels top → (count state : ℕ) → state < length part.rows
      → (landed levels top count state < length part.rows) × (parts_walk (part ∷ []) (state ∷ []) (advance (cycles * count) ∷ []) ≡ Some (landed levels top count state ∷ []))
  landed_walk cycles [] top x count state lt = jumped_walk cycles top x count state lt
  landed_walk cycles (level ∷ levels) top x count state lt = halved cycles level levels top x.0 (λ n s. landed_walk (cycles + cycles) levels top x.1 n s) count state lt (count % 2 == 1) refl

-- ---- tables of one length

pub tops_within : (part : Part) (cycles : ℕ) (levels : List (Vec ℕ)) (top : List ℕ) → AreJumpsFrom part cycles levels top → IsWithin (length part.rows) top
tops_within part cycles [] top x = x.is
tops_within part cycles (level ∷ levels) top x = tops_within part (cycles + cycles) levels top x.1

pub levels_within : (part : Part) (cycles : ℕ) (levels : List (Vec ℕ)) (top : List ℕ) → AreJumpsFrom part cycles levels top → (i : ℕ) (d : Vec ℕ) → i < length levels → IsWithin (length part.rows) (get_or levels i d).items
levels_within part cycles [] top x i d lt = absurd (omega arith)
levels_within part cycles (level ∷ levels) top x zero d lt = x.0.is
levels_within part cycles (level ∷ levels) top x (suc i) d lt = levels_within part (cycles + cycles) levels top x.1 i d (omega arith)
