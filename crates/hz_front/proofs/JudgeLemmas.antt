-- What is refused in the phases of judging a description is what is to be answered.
use Rattle.std.proofs.Common.{ℕ, List, inl, inr, ⊎_elim}
use Rattle.hz_base_model.specs.Forms.Forms.{form_word}
use Rattle.hz_base_model.specs.Forms.Forms as forms
use Rattle.hz_base_model.specs.Forms.Trees.{Trees}
use Rattle.hz_checked.specs.declared.checked.Checked.{Checked}
use Rattle.hz_description_model.specs.Check.CheckFaults.{IsSound}
use Rattle.hz_description_model.specs.Check.Places.{Known}
use Rattle.hz_description_model.specs.Reading.DescriptionForms as description_forms
use Rattle.hz_description_model.specs.Reading.Descriptions.{Description}
use Rattle.hz_front_model.specs.Descriptions.{TellsDescription, Describes, TellsCheck, Checks, HasDescription}
use Rattle.hz_front_model.specs.Phases.{Next, TellsFault, HasForms}
use Rattle.hz_front.specs.Fronts.{IsCheckedIn, TellsDescribed}
use Rattle.hz_front.specs.Refusals.{Agrees, Answers, Decided, refused}
use Rattle.hz_front.specs.declared.refusal.Refusal.{Refusal}
use Rattle.hz_front.proofs.AnswerLemmas.{agrees_weaker, answers_weaker}

-- what is refused in a phase is what the phase answers
pub forms_refused : (name text : List ℕ) (next : Next Trees) (refusal : Refusal) → Agrees (TellsFault form_word (forms.FaultAt text) name) refusal → Agrees (HasForms name text next) refusal
forms_refused name text next = agrees_weaker (TellsFault form_word (forms.FaultAt text) name) (HasForms name text next) (λ s t h. inr h)

pub description_refused : (name : List ℕ) (read : Trees) (next : Next Description) (refusal : Refusal) → Agrees (TellsDescription name read) refusal → Agrees (Describes name read next) refusal
description_refused name read next = agrees_weaker (TellsDescription name read) (Describes name read next) (λ s t h. inr h)

pub check_refused : (name : List ℕ) (d : Description) (next : Next Known) (refusal : Refusal) → Agrees (TellsCheck name d) refusal → Agrees (Checks name d next) refusal
check_refused name d next = agrees_weaker (TellsCheck name d) (Checks name d next) (λ s t h. inr h)

-- a phase that does not refuse leads on
pub forms_on : (name text : List ℕ) (read : Trees) (next : Next Trees) (decided : Decided) → forms.Reads text read → Answers (next read) decided → Answers (HasForms name text next) decided
forms_on name text read next decided is = answers_weaker (next read) (HasForms name text next) (λ s t a. inl (read, is, a)) decided

pub description_on : (name : List ℕ) (read : Trees) (d : Description) (next : Next Description) (decided : Decided) → description_forms.Reads read d → Answers (next d) decided → Answers (Describes name read next) decided
description_on name read d next decided is = answers_weaker (next d) (Describes name read next) (λ s t a. inl (d, is, a)) decided

pub check_on : (name : List ℕ) (d : Description) (known : Known) (next : Next Known) (decided : Decided) → IsSound d known → Answers (next known) decided → Answers (Checks name d next) decided
check_on name d known next decided is = answers_weaker (next known) (Checks name d next) (λ s t a. inl (known, is, a)) decided

-- what is wrong with the text of a description is refused
pub described_refused : (name bytes : List ℕ) (next : (d : Description) → Next Known) (refusal : Refusal) → TellsDescribed name bytes refusal → Agrees (HasDescription name bytes next) refusal
described_refused name bytes next refusal =
    ⊎_elim (forms_refused name bytes says refusal)
    (λ h. forms_on name bytes h.0 says (refused refusal) h.1
    (⊎_elim (description_refused name h.0 (λ d. Checks name d (next d)) refusal)
    (λ k. description_on name h.0 k.0 (λ d. Checks name d (next d)) (refused refusal) k.1 (check_refused name k.0 (next k.0) refusal k.2)) h.2))
  where
    says : Next Trees
    says read = Describes name read (λ d. Checks name d (next d))

-- a description without a fault leads on
pub described_on : (name bytes : List ℕ) (checked : Checked) (next : (d : Description) → Next Known) (decided : Decided) (is : IsCheckedIn bytes checked) → Answers (next is.d is.is.known) decided → Answers (HasDescription name bytes next) decided
described_on name bytes checked next decided is h =
    forms_on name bytes is.read (λ read. Describes name read (λ d. Checks name d (next d))) decided is.forms
    (description_on name is.read is.d (λ d. Checks name d (next d)) decided is.says (check_on name is.d is.is.known (next is.d) decided is.is.sound h))
