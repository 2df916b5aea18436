-- What is decided of a fault is what a phase may tell.
use Rattle.std.proofs.Common.{◌≡◌, ℕ, List, Option, Some, None, MatchOption, refl, sym, ap, ap₂, ◌∙◌, subst}
use Rattle.std.proofs.lemmas.Option.{same_Some}
use Rattle.std.specs.Prelude.{⊤, option_and_then}
use Rattle.std.specs.Borrow.{Bor}
use Rattle.std.specs.Option.{option_map}
use Rattle.hz_front_model.specs.Descriptions.{TellsDescription, TellsCheck}
use Rattle.hz_front_model.specs.FaultTexts.{reported_line, status_by}
use Rattle.hz_front_model.specs.Phases.{TellsFault}
use Rattle.hz_front_model.specs.Texts.{fault_text, passed_line}
use Rattle.hz_base_model.specs.Forms.Trees.{Trees}
use Rattle.hz_base_model.specs.Reported.{reported_by, reported_in}
use Rattle.hz_check.specs.Faults.{IsReportedAt, limit_of}
use Rattle.hz_check.specs.declared.fault.LimitName.{LimitName}
use Rattle.hz_description_model.specs.Check.CheckFaults.{CheckFault, check_word, limit_passed, limit_word}
use Rattle.hz_description_model.specs.Check.Sites.{Site}
use Rattle.hz_description_model.specs.Reading.DescriptionForms.{DescriptionFault, description_word, description_at}
use Rattle.hz_description_model.specs.Reading.DescriptionForms as description_forms
use Rattle.hz_description_model.specs.Reading.Descriptions.{Description}
use Rattle.hz_front.specs.Refusals.{Agrees}
use Rattle.hz_front.specs.Refusing.{refuse_fault, refuse_check}
use Rattle.hz_front.specs.declared.refusal.Refusal.{Refusal}

-- a fault that is reported by its word and its line, or memory ran out
pub tells_fault : {F : Type 0} (word : F → List ℕ) (wrong : F → ℕ → Type 0) (file : Bor (List ℕ)) (reported : Option (Bor (List ℕ) × ℕ)) (found : Option (F × ℕ)) (refusal : Refusal)
    → reported_in reported ≡ reported_by word found → MatchOption found ⊤ (λ p. wrong p.0 p.1) → refusal ≡ refuse_fault file reported None → Agrees (TellsFault word wrong file.now) refusal
tells_fault word wrong file None found refusal same h is = subst (Agrees (TellsFault word wrong file.now)) (sym is) tt
tells_fault word wrong file (Some reported) None refusal same h is = absurd (cc)
tells_fault word wrong file (Some reported) (Some found) refusal same h is =
    let pair = same_Some (reported.0.now, reported.1) (word found.0, found.1) same in
    subst (Agrees (TellsFault word wrong file.now)) (sym is) (found.0, found.1, h, (refl, ap (λ (p : List ℕ × ℕ). fault_text file.now p.1 p.0 None None None None) pair))

-- the fault of a form of a description
pub tells_description : (file : Bor (List ℕ)) (read : Trees) (reported at : Option (Bor (List ℕ) × ℕ)) (found : Option (DescriptionFault × ℕ)) (none : Type 0) (refusal : Refusal)
    → reported_in reported ≡ reported_by description_word found → reported_in at ≡ option_and_then (λ f. description_at f.0) found → MatchOption found none (λ p. description_forms.FaultAt read p.0 p.1) → refusal ≡ refuse_fault file reported at
    → Agrees (TellsDescription file.now read) refusal
tells_description file read None at found none refusal same there h is = subst (Agrees (TellsDescription file.now read)) (sym is) tt
tells_description file read (Some reported) at None none refusal same there h is = absurd (cc)
tells_description file read (Some reported) at (Some found) none refusal same there h is =
    let pair = same_Some (reported.0.now, reported.1) (description_word found.0, found.1) same in
    subst (Agrees (TellsDescription file.now read)) (sym is)
    (found.0, found.1, h, (refl, ap₂ (λ (p : List ℕ × ℕ) (x : Option (List ℕ × ℕ)). fault_text file.now p.1 p.0 None None None x) pair there))

-- the fault or the limit of a description
pub tells_check : (file : Bor (List ℕ)) (d : Description) (reported : Option (Bor (List ℕ) × ℕ)) (limit : Option LimitName) (name : Option (List ℕ)) (found : Option ((CheckFault × ℕ) × List ℕ)) (refusal : Refusal)
    → reported_in reported ≡ reported_by check_word (option_map (λ t. t.0) found) → option_map limit_of limit ≡ option_and_then (λ t. limit_passed t.0.0) found → name ≡ option_map (λ t. t.1) found
    → MatchOption found ⊤ (λ t. IsReportedAt d t.0.0 t.0.1 t.1) → refusal ≡ refuse_check file reported limit name → Agrees (TellsCheck file.now d) refusal
tells_check file d None limit name found refusal same passed named h is = subst (Agrees (TellsCheck file.now d)) (sym is) tt
tells_check file d (Some reported) limit name None refusal same passed named h is = absurd (cc)
tells_check file d (Some reported) limit name (Some found) refusal same passed named h is = by_limit limit passed (is ∙ ap (refuse_check file (Some reported) limit) named)
  where
    fault : CheckFault
    fault = found.0.0

    site : Site
    site = record { line = found.0.1; form = h.0; name = found.1 }

    pair : ◌≡◌ {A = List ℕ × ℕ} (reported.0.now, reported.1) (check_word fault, found.0.1)
    pair = same_Some (reported.0.now, reported.1) (check_word fault, found.0.1) same

    by_limit : (o : Option LimitName) → option_map limit_of o ≡ limit_passed fault → refusal ≡ refuse_check file (Some reported) o (Some found.1) → Agrees (TellsCheck file.now d) refusal
    by_limit (Some what) passed is =
        subst (Agrees (TellsCheck file.now d)) (sym is)
        (fault, site, h.1, (ap status_by passed, ap (λ (p : List ℕ × ℕ). passed_line file.now p.1 (limit_word (limit_of what)) found.1) pair ∙ ap (reported_line file.now (check_word fault) site) passed))
    by_limit None passed is =
        subst (Agrees (TellsCheck file.now d)) (sym is)
        (fault, site, h.1, (ap status_by passed, ap (λ (p : List ℕ × ℕ). fault_text file.now p.1 p.0 None (Some found.1) None None) pair ∙ ap (reported_line file.now (check_word fault) site) passed))
