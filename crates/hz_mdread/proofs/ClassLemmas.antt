-- The form of a class by its two parts.
use Rattle.std.proofs.Common.{◌≡◌, ℕ, List, [], ◌∷◌, length, get_or, Result, Ok, Err, refl, sym, subst, arith}
use Rattle.hz_sexp.specs.declared.form.Form.{Form}
use Rattle.hz_sexp.specs.Shape.{tree, trees}
use Rattle.hz_description_model.specs.Reading.DescriptionForms.{DescriptionFault, Addition, and_then, shaped, name_in, limited_number, class_form}
use Rattle.hz_mdread.specs.declared.fault.Wrong.{Wrong}
use Rattle.hz_mdread.specs.Classes.{class_head, class_with}
use Rattle.hz_mdread.specs.Faults.{TellsOf}
use Rattle.hz_mdread.specs.Reading.{reading}
use Rattle.hz_mdread.proofs.FaultLemmas.{tells_at}

joined_head : {A B C E : Type 0} (a : Result A E) (b : Result B E) (next : A × B → Result C E) → and_then a (λ x. and_then b (λ y. next (x, y))) ≡ and_then (and_then a (λ x. and_then b (λ y. Ok (x, y)))) next
joined_head (Ok x) (Ok y) next = refl
joined_head (Ok x) (Err e) next = refl
joined_head (Err e) b next = refl

-- what a class says, by the name and the latency
pub class_is : (line form : ℕ) (operands : List Form) (name latency condition regexp : Form) → length operands ≡ 4 → name ≡ get_or operands 0 name → latency ≡ get_or operands 1 latency → condition ≡ get_or operands 2 condition → regexp ≡ get_or operands 3 regexp
    → class_form line form reading (trees operands) ≡ and_then (class_head (tree name) (tree latency)) (λ head. class_with line form head (tree condition) (tree regexp))
unfolding class_head class_with
class_is line form (a ∷ b ∷ c ∷ d ∷ []) name latency condition regexp few n l k r = rw (n, l, k, r) (joined_head (shaped (name_in (tree a))) (limited_number (tree b)) (λ head. class_with line form head (tree c) (tree d)))
class_is line form [] name latency condition regexp few n l k r = absurd (omega arith)
class_is line form (a ∷ []) name latency condition regexp few n l k r = absurd (omega arith)
class_is line form (a ∷ b ∷ []) name latency condition regexp few n l k r = absurd (omega arith)
class_is line form (a ∷ b ∷ c ∷ []) name latency condition regexp few n l k r = absurd (omega arith)
class_is line form (a ∷ b ∷ c ∷ d ∷ e ∷ operands) name latency condition regexp few n l k r = absurd (omega arith)

-- what is wrong first stays
tells_first : {A B : Type 0} (first : Result A DescriptionFault) (next : A → Result B DescriptionFault) (wrong : Wrong) → TellsOf (λ fault. first ≡ Err fault) wrong → TellsOf (λ fault. and_then first next ≡ Err fault) wrong
tells_first first next wrong h = tells_at (λ fault line. and_then first next ≡ Err fault) (λ fault. first ≡ Err fault) 0 (λ fault e. rw e refl) wrong h

-- what is wrong with the name or the latency is wrong with the class
pub class_fails : (line form : ℕ) (operands : List Form) (name latency condition regexp : Form) (wrong : Wrong) → length operands ≡ 4 → name ≡ get_or operands 0 name → latency ≡ get_or operands 1 latency → condition ≡ get_or operands 2 condition → regexp ≡ get_or operands 3 regexp
    → TellsOf (λ fault. class_head (tree name) (tree latency) ≡ Err fault) wrong → TellsOf (λ fault. class_form line form reading (trees operands) ≡ Err fault) wrong
class_fails line form operands name latency condition regexp wrong few n l k r h =
    subst (λ (said : Result Addition DescriptionFault). TellsOf (λ fault. said ≡ Err fault) wrong)
    (sym (class_is line form operands name latency condition regexp few n l k r))
    (tells_first (class_head (tree name) (tree latency)) (λ head. class_with line form head (tree condition) (tree regexp)) wrong h)
