-- Numbers, places and cycles that are read by place.
use Rattle.std.proofs.Common.{◌≡◌, ℕ, zero, suc, ◌<◌, List, [], ◌∷◌, map, length, get_or, All, refl, sym, ap, ◌∙◌, arith}
use Rattle.std.specs.Prelude.{slice_index}
use Rattle.hz_rtl.specs.declared.block.Insn.{Insn}
use Rattle.hz_rtl.specs.Shape.{instruction}
use Rattle.hz_sched.specs.declared.parts.Slot.{Slot}
use Rattle.hz_sched.specs.Shape.{slots_of}

pub number_is : (insns : List Insn) (k : ℕ) (insn : Insn) → k < length insns → insn ≡ get_or insns k insn → insn.number ≡ slice_index (map (λ i. i.number) (map instruction insns)) k
number_is [] k insn inside is = absurd (omega arith)
number_is (first ∷ insns) zero insn inside is = ap (λ (i : Insn). i.number) is
number_is (first ∷ insns) (suc k) insn inside is = number_is insns k insn (omega arith) is

pub place_is : (slots : List Slot) (k : ℕ) (d : Slot) → k < length slots → (get_or slots k d).place ≡ slice_index (map (λ x. x.place) (slots_of slots)) k
place_is [] k d inside = absurd (omega arith)
place_is (x ∷ slots) zero d inside = refl
place_is (x ∷ slots) (suc k) d inside = place_is slots k d (omega arith)

pub cycle_is : (slots : List Slot) (k : ℕ) (d : Slot) → k < length slots → (get_or slots k d).cycle ≡ slice_index (map (λ x. x.cycle) (slots_of slots)) k
cycle_is [] k d inside = absurd (omega arith)
cycle_is (x ∷ slots) zero d inside = refl
cycle_is (x ∷ slots) (suc k) d inside = cycle_is slots k d (omega arith)

-- the place of a slot is that of an instruction
pub place_inside : (slots : List Slot) (k place count : ℕ) → k < length slots → All (λ x. x.place < count) slots → place ≡ slice_index (map (λ x. x.place) (slots_of slots)) k → place < count
place_inside slots k place count inside all is =
    let d : Slot = record { place = 0; cycle = 0 } in
    let low : (get_or slots k d).place < count = all k d inside in
    let same : place ≡ (get_or slots k d).place = is ∙ sym (place_is slots k d inside) in
    omega (arith, low, same)
