-- The cycles of slots by their places.
use Rattle.std.proofs.Common.{◌≡◌, ℕ, ◌+◌, ◌<◌, List, [], ◌∷◌, ◌++◌, length, get_or, take, drop, set, Contains, ⊎_elim, sym, ap, ◌∙◌, subst}
use Rattle.std.specs.Prelude.{slice_index}
use Rattle.std.proofs.lemmas.Bool.{cases_eq}
use Rattle.std.proofs.lemmas.List.{take_more, take-append-drop, map-append, get_or-set_same, get_or-set_other}
use Rattle.std.proofs.lemmas.List.Elements.{Contains-append_left, Contains-append_right, Contains-append_cases}
use Rattle.hz_base_model.proofs.Elements.{Contains-head, Contains-nil, Contains-cons_cases}
use Rattle.hz_block_model.specs.Scheduling.Schedules as model
use Rattle.hz_sched.specs.declared.parts.Slot.{Slot}
use Rattle.hz_sched.specs.Shape.{slot_of, slots_of}

abbrev pub no_slot : Slot
no_slot = record { place = 0; cycle = 0 }

module _ (slots : List Slot) (once : (a b : model.Slot) → Contains (slots_of slots) a → Contains (slots_of slots) b → a.place ≡ b.place → a.cycle ≡ b.cycle) where
  front_within : (i : ℕ) (x : model.Slot) → Contains (slots_of (take i slots)) x → Contains (slots_of slots) x
  front_within i x there = subst (λ (xs : List model.Slot). Contains xs x) (sym (map-append slot_of (take i slots) (drop i slots)) ∙ ap slots_of (take-append-drop i slots)) (Contains-append_left (slots_of (take i slots)) (slots_of (drop i slots)) x there)

  -- with the cycle of one slot more
  pub reported_more : (i : ℕ) → i < length slots → (cycles : List ℕ) → (get_or slots i no_slot).place < length cycles
      → ((x : model.Slot) → Contains (slots_of (take i slots)) x → slice_index cycles x.place ≡ x.cycle)
      → (x : model.Slot) → Contains (slots_of (take (i + 1) slots)) x → slice_index (set cycles (get_or slots i no_slot).place (get_or slots i no_slot).cycle) x.place ≡ x.cycle
  reported_more i lt cycles low reported x there =
      let more : slots_of (take (i + 1) slots) ≡ slots_of (take i slots) ++ slot_of (get_or slots i no_slot) ∷ [] = ap slots_of (take_more slots i no_slot lt) ∙ map-append slot_of (take i slots) (get_or slots i no_slot ∷ []) in
      let last : Contains (slots_of slots) (slot_of (get_or slots i no_slot)) = front_within (i + 1) (slot_of (get_or slots i no_slot)) (subst (λ (xs : List model.Slot). Contains xs (slot_of (get_or slots i no_slot))) (sym more) (Contains-append_right (slots_of (take i slots)) (slot_of (get_or slots i no_slot) ∷ []) (slot_of (get_or slots i no_slot)) (Contains-head (slot_of (get_or slots i no_slot)) []))) in
      ⊎_elim
      (λ (before : Contains (slots_of (take i slots)) x). ⊎_elim
      (λ (same : x.place ≡ (get_or slots i no_slot).place).
      ap (λ (p : ℕ). slice_index (set cycles (get_or slots i no_slot).place (get_or slots i no_slot).cycle) p) same
      ∙ (get_or-set_same cycles (get_or slots i no_slot).place (get_or slots i no_slot).cycle 0 low
      ∙ once (slot_of (get_or slots i no_slot)) x last (front_within i x before) (sym same)))
      (λ (other : x.place ≡ (get_or slots i no_slot).place → ⊥).
      get_or-set_other cycles (get_or slots i no_slot).place x.place (get_or slots i no_slot).cycle 0 other ∙ reported x before)
      (cases_eq x.place (get_or slots i no_slot).place))
      (λ (end : Contains (slot_of (get_or slots i no_slot) ∷ []) x). ⊎_elim
      (λ (is : slot_of (get_or slots i no_slot) ≡ x).
      ap (λ (y : model.Slot). slice_index (set cycles (get_or slots i no_slot).place (get_or slots i no_slot).cycle) y.place) (sym is)
      ∙ (get_or-set_same cycles (get_or slots i no_slot).place (get_or slots i no_slot).cycle 0 low
      ∙ ap (λ (y : model.Slot). y.cycle) is))
      (λ (none : Contains [] x). absurd (Contains-nil x none))
      (Contains-cons_cases (slot_of (get_or slots i no_slot)) x [] end))
      (Contains-append_cases (slots_of (take i slots)) (slot_of (get_or slots i no_slot) ∷ []) x (subst (λ (xs : List model.Slot). Contains xs x) more there))
