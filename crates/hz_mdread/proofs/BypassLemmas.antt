-- The form of a bypass by its operands.
use Rattle.std.proofs.Common.{◌≡◌, ℕ, false, List, [], ◌∷◌, length, get_or, Ok, refl, arith}
use Rattle.hz_sexp.specs.declared.form.Form.{Form}
use Rattle.hz_sexp.specs.Shape.{tree, trees}
use Rattle.hz_description_model.specs.Reading.DescriptionForms.{shaped, guard_in, bypass_of, bypass_with}

module _ (line form : ℕ) where
  -- without a guard
  pub three_is : (operands : List Form) (number outs ins : Form) → length operands ≡ 3 → number ≡ get_or operands 0 number → outs ≡ get_or operands 1 outs → ins ≡ get_or operands 2 ins
      → bypass_of line form (trees operands) ≡ bypass_with line form (tree number) (tree outs) (tree ins) (Ok false)
  three_is (a ∷ b ∷ c ∷ []) number outs ins few n o i = rw (n, o, i) refl
  three_is [] number outs ins few n o i = absurd (omega arith)
  three_is (a ∷ []) number outs ins few n o i = absurd (omega arith)
  three_is (a ∷ b ∷ []) number outs ins few n o i = absurd (omega arith)
  three_is (a ∷ b ∷ c ∷ d ∷ operands) number outs ins few n o i = absurd (omega arith)

  -- with a guard
  pub four_is : (operands : List Form) (number outs ins guard : Form) → length operands ≡ 4 → number ≡ get_or operands 0 number → outs ≡ get_or operands 1 outs → ins ≡ get_or operands 2 ins → guard ≡ get_or operands 3 guard
      → bypass_of line form (trees operands) ≡ bypass_with line form (tree number) (tree outs) (tree ins) (shaped (guard_in (tree guard)))
  four_is (a ∷ b ∷ c ∷ d ∷ []) number outs ins guard few n o i g = rw (n, o, i, g) refl
  four_is [] number outs ins guard few n o i g = absurd (omega arith)
  four_is (a ∷ []) number outs ins guard few n o i g = absurd (omega arith)
  four_is (a ∷ b ∷ []) number outs ins guard few n o i g = absurd (omega arith)
  four_is (a ∷ b ∷ c ∷ []) number outs ins guard few n o i g = absurd (omega arith)
  four_is (a ∷ b ∷ c ∷ d ∷ e ∷ operands) number outs ins guard few n o i g = absurd (omega arith)
