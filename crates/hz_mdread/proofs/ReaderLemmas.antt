-- Forms one after another.
use Rattle.std.proofs.Common.{◌≡◌, ℕ, ◌+◌, ◌<◌, ◌≤◌, List, [], ◌∷◌, length, get_or, drop, Err, refl, sym, ap, ◌∙◌, arith}
use Rattle.std.proofs.lemmas.List.{drop_more, drop_all}
use Rattle.hz_sexp.specs.declared.form.Form.{Form, out-Form}
use Rattle.hz_sexp.specs.Shape.{tree, trees}
use Rattle.hz_base_model.specs.Forms.Trees.{more}
use Rattle.hz_description_model.specs.Reading.Descriptions.{Description, no_items}
use Rattle.hz_description_model.specs.Reading.DescriptionShape.{IsWellFormed}
use Rattle.hz_description_model.specs.Reading.DescriptionForms.{DescriptionFault, form_says, forms_say, form_count, Reads, FaultAt}
use Rattle.hz_description_model.proofs.Reading.DescriptionFormedAll.{well_formed}
use Rattle.hz_mdread.specs.declared.fault.Wrong.{Wrong}
use Rattle.hz_mdread.specs.Faults.{Tells, TellsOf, fault_at}
use Rattle.hz_mdread.specs.Reading.{reading}
use Rattle.hz_mdread.proofs.FaultLemmas.{tells_at}
use Rattle.hz_mdread.proofs.FormLemmas.{line_is}
use Rattle.hz_mdread.proofs.ReadingLemmas.{reading_is}

-- there are as many trees as forms
pub count_is : (forms : List Form) → form_count (trees forms) ≡ length forms
count_is [] = refl
count_is (form ∷ forms) = let h = count_is forms in omega (arith, h)

forms_from : (forms : List Form) (i : ℕ) (form : Form) → i < length forms → form ≡ get_or forms i form → trees (drop i forms) ≡ more (tree form) (trees (drop (i + 1) forms))
forms_from forms i form inside is = ap trees (drop_more forms i form inside ∙ ap (λ f. f ∷ drop (i + 1) forms) (sym is))

module _ (forms : List Form) (i : ℕ) (form : Form) (d : Description) (inside : i < length forms) (is : form ≡ get_or forms i form) where
  -- one that is wrong
  pub form_wrong : (fault : DescriptionFault) → form_says reading i (tree form) ≡ Err fault → forms_say reading i d (trees (drop i forms)) ≡ Err (fault, (out-Form form).line)
  form_wrong fault e = rw (forms_from forms i form inside is, e, line_is form) refl

-- the description that all forms say
pub all_read : (forms : List Form) (i : ℕ) (d : Description) → length forms ≤ i → forms_say reading i d (trees (drop i forms)) ≡ forms_say reading 0 no_items (trees forms) → Reads (trees forms) d
all_read forms i d past h = record { read = reading; reading = reading_is; says = sym h ∙ rw (drop_all i forms past) refl }

pub read_formed : (forms : List Form) (d : Description) → Reads (trees forms) d → IsWellFormed d
read_formed forms d r = (well_formed (trees forms) d r).0

-- the first fault of the forms
pub fault_read : (forms : List Form) (i : ℕ) (form : Form) (d : Description) (line : ℕ) (w : Wrong) → i < length forms → form ≡ get_or forms i form → (out-Form form).line ≡ line
    → forms_say reading i d (trees (drop i forms)) ≡ forms_say reading 0 no_items (trees forms) → TellsOf (λ fault. form_says reading i (tree form) ≡ Err fault) w → Tells (FaultAt (trees forms)) (fault_at line w)
fault_read forms i form d line w inside is at h =
    tells_at (FaultAt (trees forms)) (λ fault. form_says reading i (tree form) ≡ Err fault) line
    (λ fault e. record { read = reading; reading = reading_is; says = sym h ∙ (form_wrong forms i form d inside is fault e ∙ ap (λ (n : ℕ). Err (fault, n)) at) }) w
