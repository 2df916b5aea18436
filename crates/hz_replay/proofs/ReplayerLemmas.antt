-- The states of a machine's parts, part by part.
use Rattle.std.proofs.Common.{◌≡◌, ◌==◌, ℕ, zero, suc, ◌<◌, Bool, true, false, List, [], ◌∷◌, ◌++◌, length, take, drop, get_or, Option, Some, None, replicate, refl, sym, ap, ◌∙◌, subst, arith}
use Rattle.std.specs.Prelude.{All}
use Rattle.std.specs.List.{list_all, refill}
use Rattle.std.specs.Bool.{OnTrue, OnFalse}
use Rattle.std.proofs.Math.Seq.{take-append_seam}
use Rattle.std.proofs.lemmas.List.{length-replicate}
use Rattle.std.proofs.lemmas.Bool.{OnTrue_at, OnFalse_at, and_parts, eqb-true}
use Rattle.std.proofs.lemmas.List.Elements.{All-get_or, All-head, All-tail}
use Rattle.hz_pipeline_model.specs.Accepting.Events.{Event, advance}
use Rattle.hz_pipeline_model.specs.Tables.Machines.{Part, Machine, advance_of, no_part, part_at, part_walk, parts_walk, onto_states, word_of, starts_of, IsPart, IsMachine}
use Rattle.hz_pipeline_model.proofs.Tables.TableLaws.{walk_stays}
use Rattle.hz_pipeline_model.proofs.Tables.MachineLaws.{advance_alone}
use Rattle.hz_replay.specs.Replaying.{AreStates}

pub zeros : (n : ℕ) → length {A = ℕ} (replicate n 0) ≡ n
zeros n = length-replicate {A = ℕ} n 0

zero_at : (n i : ℕ) → get_or {A = ℕ} (replicate n 0) i 0 ≡ 0
zero_at zero i = refl
zero_at (suc n) zero = refl
zero_at (suc n) (suc i) = zero_at n i

-- the start of every part is a state
pub starts_stand : (m : Machine) → IsMachine m → AreStates m (starts_of m)
starts_stand m is = record {
  each = zeros (length m.parts);
  within = λ i low. let part = All-get_or (IsPart (length m.classes)) m.parts i no_part low is.parts in subst (λ (n : ℕ). n < length (part_at m i).rows) (sym (zero_at (length m.parts) i)) ((part.table).start);
}

-- what is walked from states ends in states
abbrev Within : List Part → List ℕ → Type 0
Within parts states = (i : ℕ) → i < length parts → get_or states i 0 < length (get_or parts i no_part).rows

module _ (classes : ℕ) where
  walk_end : (part : Part) → IsPart classes part → (state next : ℕ) (t : List Event) → state < length part.rows → part_walk part state t ≡ Some next → next < length part.rows
  walk_end part is state next t low h = walk_stays part.rows (advance_of part) is.table (Some state) (λ s e. let same : state ≡ s = cc in subst (λ n. n < length part.rows) same low) next (word_of part t) h

  pub ends : (parts : List Part) (states next : List ℕ) (t : List Event) → All (IsPart classes) parts → length states ≡ length parts → Within parts states → parts_walk parts states t ≡ Some next → (length next ≡ length parts) × Within parts next
  ends [] states next t all each within h = let same : [] ≡ next = cc in (ap length (sym same), λ i low. absurd (omega (arith, low)))
  ends (part ∷ parts) [] next t all each within h = absurd (omega (arith, each))
  ends (part ∷ parts) (state ∷ states) next t all each within h = by_first (part_walk part state t) refl (parts_walk parts states t) refl h (λ rest k. ends parts states rest t (All-tail (IsPart classes) part parts all) (omega (arith, each)) (λ i low. within (suc i) (omega (arith, low))) k)
    where
      by_first : (o : Option ℕ) → part_walk part state t ≡ o → (r : Option (List ℕ)) → parts_walk parts states t ≡ r → onto_states o r ≡ Some next
          → ((rest : List ℕ) → parts_walk parts states t ≡ Some rest → (length rest ≡ length parts) × Within parts rest) → (length next ≡ length (part ∷ parts)) × Within (part ∷ parts) next
      by_first None e r k h later = absurd (cc)
      by_first (Some n) e None k h later = absurd (cc)
      by_first (Some n) e (Some rest) k h later =
          let same : n ∷ rest ≡ next = cc in
          let end = walk_end part (All-head (IsPart classes) part parts all) state n t (within 0 (omega arith)) e in
          let tail = later rest k in
          subst (λ ns. (length ns ≡ length (part ∷ parts)) × Within (part ∷ parts) ns) same (ap suc tail.0, here n rest end tail.1)
        where
          here : (n : ℕ) (rest : List ℕ) → n < length part.rows → Within parts rest → Within (part ∷ parts) (n ∷ rest)
          here n rest end tail zero low = end
          here n rest end tail (suc i) low = tail i (omega (arith, low))

  pub advances_some : (parts : List Part) (states : List ℕ) → All (IsPart classes) parts → length states ≡ length parts → Within parts states → parts_walk parts states (advance 1 ∷ []) ≡ None → ⊥
  advances_some [] states all each within h = absurd (cc)
  advances_some (part ∷ parts) [] all each within h = absurd (omega (arith, each))
  advances_some (part ∷ parts) (state ∷ states) all each within h = by_first (part_walk part state (advance 1 ∷ [])) refl (parts_walk parts states (advance 1 ∷ [])) refl h
      (advances_some parts states (All-tail (IsPart classes) part parts all) (omega (arith, each)) (λ i low. within (suc i) (omega (arith, low))))
    where
      by_first : (o : Option ℕ) → part_walk part state (advance 1 ∷ []) ≡ o → (r : Option (List ℕ)) → parts_walk parts states (advance 1 ∷ []) ≡ r → onto_states o r ≡ None → (parts_walk parts states (advance 1 ∷ []) ≡ None → ⊥) → ⊥
      by_first None e r k h later = ((All-head (IsPart classes) part parts all).table).advances state (within 0 (omega arith)) (sym (advance_alone part state) ∙ e)
      by_first (Some n) e None k h later = later k
      by_first (Some n) e (Some rest) k h later = absurd (cc)

pub states_stay : (m : Machine) → IsMachine m → (states next : List ℕ) (t : List Event) → AreStates m states → parts_walk m.parts states t ≡ Some next → AreStates m next
states_stay m is states next t stand h =
    let end = ends (length m.classes) m.parts states next t is.parts stand.each stand.within h in
    record { each = end.0; within = end.1 }

pub always_advances : (m : Machine) → IsMachine m → (states : List ℕ) → AreStates m states → parts_walk m.parts states (advance 1 ∷ []) ≡ None → ⊥
always_advances m is states stand h = advances_some (length m.classes) m.parts states is.parts stand.each stand.within h

-- what is written over a list of the same length is all that stands there
pub refilled : (states next : List ℕ) → length next ≡ length states → refill (length states) states next ≡ next
refilled states next same = subst (λ (n : ℕ). take n (next ++ drop (length next) states) ≡ next) same (take-append_seam next (drop (length next) states))

-- what is walked has a state for each part, as what it is walked from
pub as_many : (m : Machine) → IsMachine m → (states next : List ℕ) (t : List Event) → AreStates m states → parts_walk m.parts states t ≡ Some next → length next ≡ length states
as_many m is states next t stand h = (ends (length m.classes) m.parts states next t is.parts stand.each stand.within h).0 ∙ sym stand.each

-- each part has its state after an issue, whether it is taken or not
pub stand_after : (m : Machine) → IsMachine m → (states next : List ℕ) (t : List Event) (taken : Bool) → AreStates m states
    → OnTrue taken (parts_walk m.parts states t ≡ Some next) → OnFalse taken (next ≡ states) → AreStates m (refill (length states) states next)
stand_after m is states next t true stand reported same =
    let walked = OnTrue_at refl reported in
    subst (AreStates m) (sym (refilled states next (as_many m is states next t stand walked))) (states_stay m is states next t stand walked)
stand_after m is states next t false stand reported same =
    let stays = OnFalse_at refl same in
    subst (AreStates m) (sym (refilled states next (ap length stays) ∙ stays)) stand

-- states that are all 0 are those of the start
pub all_zero : (states : List ℕ) → list_all (λ state. state == 0) states ≡ true → states ≡ replicate (length states) 0
all_zero [] e = refl
all_zero (state ∷ states) e =
    let (here, rest) = and_parts (state == 0) (list_all (λ s. s == 0) states) e in
    λ i. eqb-true state 0 here i ∷ all_zero states rest i

pub zeros_all : (n : ℕ) → list_all (λ state. state == 0) (replicate n 0) ≡ true
zeros_all zero = refl
zeros_all (suc n) = zeros_all n
