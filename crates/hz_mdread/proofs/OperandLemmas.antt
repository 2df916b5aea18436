-- Operands of another number than a form has.
use Rattle.std.proofs.Common.{Bool, ◌≡◌, ℕ, ◌≤◌, false, List, [], ◌∷◌, length, None, Err, refl, arith}
use Rattle.hz_sexp.specs.declared.form.Form.{Form}
use Rattle.hz_sexp.specs.Shape.{trees}
use Rattle.hz_description_model.specs.Reading.DescriptionForms as model
use Rattle.hz_description_model.specs.Reservations.Sets.{SetKind}

pub no_constant : (operands : List Form) → (length operands ≡ 1 → ⊥) → model.constant_in (trees operands) ≡ None
no_constant [] h = refl
no_constant (a ∷ []) h = absurd (h refl)
no_constant (a ∷ b ∷ operands) h = refl

pub no_string : (operands : List Form) → (length operands ≡ 1 → ⊥) → model.string_in (trees operands) ≡ None
no_string [] h = refl
no_string (a ∷ []) h = absurd (h refl)
no_string (a ∷ b ∷ operands) h = refl

pub no_test : (operands : List Form) → (length operands ≡ 2 → ⊥) → model.test_in (trees operands) ≡ None
no_test [] h = refl
no_test (a ∷ []) h = refl
no_test (a ∷ b ∷ []) h = absurd (h refl)
no_test (a ∷ b ∷ c ∷ operands) h = refl

pub no_guard : (operands : List Form) → length operands ≤ 3 → model.has_other_guard (trees operands) ≡ false
no_guard [] h = refl
no_guard (a ∷ []) h = refl
no_guard (a ∷ b ∷ []) h = refl
no_guard (a ∷ b ∷ c ∷ []) h = refl
no_guard (a ∷ b ∷ c ∷ d ∷ operands) h = absurd (omega arith)

module _ (line form : ℕ) where
  pub no_automata : (operands : List Form) → (length operands ≡ 1 → ⊥) → model.automata_form line form (trees operands) ≡ Err model.bad_shape
  no_automata [] h = refl
  no_automata (a ∷ []) h = absurd (h refl)
  no_automata (a ∷ b ∷ operands) h = refl

  pub no_units : (query : Bool) (operands : List Form) → (length operands ≡ 1 → ⊥) → (length operands ≡ 2 → ⊥) → model.units_form line form query (trees operands) ≡ Err model.bad_shape
  no_units query [] h k = refl
  no_units query (a ∷ []) h k = absurd (h refl)
  no_units query (a ∷ b ∷ []) h k = absurd (k refl)
  no_units query (a ∷ b ∷ c ∷ operands) h k = refl

  pub no_reservation : (read : List ℕ → model.Said) (operands : List Form) → (length operands ≡ 2 → ⊥) → model.reservation_form line form read (trees operands) ≡ Err model.bad_shape
  no_reservation read [] h = refl
  no_reservation read (a ∷ []) h = refl
  no_reservation read (a ∷ b ∷ []) h = absurd (h refl)
  no_reservation read (a ∷ b ∷ c ∷ operands) h = refl

  pub no_class : (read : List ℕ → model.Said) (operands : List Form) → (length operands ≡ 4 → ⊥) → model.class_form line form read (trees operands) ≡ Err model.bad_shape
  no_class read [] h = refl
  no_class read (a ∷ []) h = refl
  no_class read (a ∷ b ∷ []) h = refl
  no_class read (a ∷ b ∷ c ∷ []) h = refl
  no_class read (a ∷ b ∷ c ∷ d ∷ []) h = absurd (h refl)
  no_class read (a ∷ b ∷ c ∷ d ∷ e ∷ operands) h = refl

  pub no_bypass : (operands : List Form) → (length operands ≡ 3 → ⊥) → (length operands ≡ 4 → ⊥) → model.bypass_of line form (trees operands) ≡ Err model.bad_shape
  no_bypass [] h k = refl
  no_bypass (a ∷ []) h k = refl
  no_bypass (a ∷ b ∷ []) h k = refl
  no_bypass (a ∷ b ∷ c ∷ []) h k = absurd (h refl)
  no_bypass (a ∷ b ∷ c ∷ d ∷ []) h k = absurd (k refl)
  no_bypass (a ∷ b ∷ c ∷ d ∷ e ∷ operands) h k = refl

  pub no_set : (kind : SetKind) (operands : List Form) → (length operands ≡ 2 → ⊥) → model.set_form_of line form kind (trees operands) ≡ Err model.bad_shape
  no_set kind [] h = refl
  no_set kind (a ∷ []) h = refl
  no_set kind (a ∷ b ∷ []) h = absurd (h refl)
  no_set kind (a ∷ b ∷ c ∷ operands) h = refl

  pub no_attribute : (operands : List Form) → (length operands ≡ 3 → ⊥) → model.attribute_form line form (trees operands) ≡ Err model.bad_shape
  no_attribute [] h = refl
  no_attribute (a ∷ []) h = refl
  no_attribute (a ∷ b ∷ []) h = refl
  no_attribute (a ∷ b ∷ c ∷ []) h = absurd (h refl)
  no_attribute (a ∷ b ∷ c ∷ d ∷ operands) h = refl

pub no_options : (operands : List Form) → (length operands ≡ 1 → ⊥) → model.options_form (trees operands) ≡ Err model.bad_shape
no_options [] h = refl
no_options (a ∷ []) h = absurd (h refl)
no_options (a ∷ b ∷ operands) h = refl
