-- The phases before a command leave no choice.
use Rattle.std.proofs.Common.{◌≡◌, ℕ, inl, inr, true, false, List, [], ◌∷◌, take, length, Option, Some, None, MatchOption, MatchBool, nat_lt, slice_get, sym, ap, ◌∙◌, subst}
use Rattle.std.proofs.lemmas.Option.{same_Some}
use Rattle.hz_base_model.proofs.Forms.FormsLaws.{one_reading, one_fault, forms_or_fault}
use Rattle.hz_description_model.proofs.Reading.DescriptionLaws.{one_description, one_fault_of_descriptions, description_or_fault}
use Rattle.hz_description_model.proofs.Check.CheckLaws.{fault_one, fault_or_sound, sound_one}
use Rattle.hz_pipeline_model.proofs.Accepting.AcceptanceLaws.{one_refused, accepted_or_refused}
use Rattle.hz_front_model.specs.Descriptions.{Describes, Checks, HasDescription}
use Rattle.hz_front_model.specs.Replays.{Replays, IsIssueOf}
use Rattle.hz_description_model.specs.Check.CheckFaults.{CheckFault}
use Rattle.hz_description_model.specs.Check.Places.{Known}
use Rattle.hz_description_model.specs.Reading.DescriptionForms.{DescriptionFault}
use Rattle.hz_description_model.specs.Reading.Descriptions.{Description}
use Rattle.hz_base_model.specs.Forms.Forms.{form_word, FormFault}
use Rattle.hz_pipeline_model.specs.Traces.Traces.{trace_word, TraceFault}
use Rattle.hz_front_model.specs.FaultTexts.{description_line, check_line, check_status}
use Rattle.hz_pipeline_model.proofs.Traces.TraceLaws.{one_trace, one_trace_fault, trace_or_fault}
use Rattle.hz_pipeline_model.specs.Accepting.Replay.{Pipeline, Class}
use Rattle.hz_pipeline_model.specs.Accepting.Events.{Event, issue}
use Rattle.hz_front_model.specs.Texts.{file_line, limit_line, fault_line, refused_line}
use Rattle.hz_base_model.specs.Forms.Trees.{Trees}
use Rattle.hz_base_model.specs.Names.{Held}
use Rattle.hz_front_model.specs.Phases.{Says, Next, FileWord, OpensAll, HasForms, Traces}
use Rattle.hz_pipeline_model.specs.Traces.TraceNames.{TraceNames}
use Rattle.hz_front_model.specs.Asks.{Reserved, Tells}
use Rattle.hz_front_model.proofs.AskLaws.{one_reported}

-- answers that leave no choice
abbrev pub IsSingle : (ℕ → List ℕ → Type 0) → Type 0
IsSingle answer = (s s' : ℕ) (t t' : List ℕ) → answer s t → answer s' t' → (s ≡ s') × (t ≡ t')

pub says_single : (status : ℕ) (text : List ℕ) → IsSingle (Says status text)
says_single status text s s' t t' a b = (a.0 ∙ sym b.0, a.1 ∙ sym b.1)

-- the same answer, said in two ways
pub says_same : (m n : ℕ) (x y : List ℕ) → m ≡ n → x ≡ y → (s s' : ℕ) (t t' : List ℕ) → Says m x s t → Says n y s' t' → (s ≡ s') × (t ≡ t')
says_same m n x y e f s s' t t' a b = (a.0 ∙ (e ∙ sym b.0), a.1 ∙ (f ∙ sym b.1))

module _ {U : Type 0} (m : Pipeline U) where
  one_class : (e : Option Event) (a b : List ℕ) → IsIssueOf m e a → IsIssueOf m e b → a ≡ b
  one_class e a b (k, c, is, there, name) (l, d, is', there', name') =
      let same : k ≡ l = same_issue_number k l (same_Some _ _ (sym is ∙ is')) in
      let class = same_Some c d (sym there ∙ (ap (λ (n : ℕ). slice_get m.classes n) same ∙ there')) in
      sym name ∙ (ap (λ (x : Class U). x.name) class ∙ name')
    where
      same_issue_number : (k l : ℕ) → issue k ≡ issue l → k ≡ l
      same_issue_number k l h = cc

  pub replays_single : (reserved : Reserved) (names : TraceNames) (lines : List ℕ) (events : List Event) → IsSingle (Replays m reserved names lines events)
  replays_single reserved names lines events s s' t t' (inl a) (inl b) = one_reported reserved names lines events _ (says_single _ _) s s' t t' a.1 b.1
  replays_single reserved names lines events s s' t t' (inl a) (inr b) = absurd (accepted_or_refused m events b.0 a.0 b.3)
  replays_single reserved names lines events s s' t t' (inr a) (inl b) = absurd (accepted_or_refused m events a.0 b.0 a.3)
  replays_single reserved names lines events s s' t t' (inr (i, line, class, first, there, named, tells)) (inr (j, line', class', first', there', named', tells')) =
      let place = one_refused m events i j first first' in
      let number = same_Some line line' (sym there ∙ (ap (slice_get lines) place ∙ there')) in
      let name = one_class (slice_get events i) class class' named (subst (λ (n : ℕ). IsIssueOf m (slice_get events n) class') (sym place) named') in
      let same : refused_line line class ≡ refused_line line' class' = ap (λ (n : ℕ). refused_line n class) number ∙ ap (refused_line line') name in
      let again : Tells reserved names lines (take i events) (Says 1 (refused_line line class)) s' t' =
      subst (λ (text : List ℕ). Tells reserved names lines (take i events) (Says 1 text) s' t') (sym same)
      (subst (λ (n : ℕ). Tells reserved names lines (take n events) (Says 1 (refused_line line' class')) s' t') (sym place) tells') in
      one_reported reserved names lines (take i events) _ (says_single _ _) s s' t t' tells again

-- a phase leaves no choice where the next leaves none
pub traces_single : (names : TraceNames) (name text : List ℕ) (next : Next (List Event)) → ((events : List Event) → IsSingle (next events)) → IsSingle (Traces names name text next)
traces_single names name text next single s s' t t' (inl (events, is, a)) (inl (events', is', b)) =
    let same = one_trace names text events events' is is' in
    single events s s' t t' a (subst (λ (es : List Event). next es s' t') (sym same) b)
traces_single names name text next single s s' t t' (inl (events, is, a)) (inr (fault, line, wrong, b)) = absurd (trace_or_fault names text events fault line is wrong)
traces_single names name text next single s s' t t' (inr (fault, line, wrong, a)) (inl (events, is, b)) = absurd (trace_or_fault names text events fault line is wrong)
traces_single names name text next single s s' t t' (inr (fault, line, wrong, a)) (inr (other, place, also, b)) =
    let same = one_trace_fault names text fault other line place wrong also in
    says_same _ _ _ _ (ap (λ (n : ℕ). 2) same.1) (ap (λ (f : TraceFault). fault_line name line (trace_word f ∷ [])) same.0 ∙ ap (λ (n : ℕ). fault_line name n (trace_word other ∷ [])) same.1) s s' t t' a b

pub checks_single : (name : List ℕ) (d : Description) (next : Next Known) → ((known : Known) → IsSingle (next known)) → IsSingle (Checks name d next)
checks_single name d next single s s' t t' (inl (known, sound, a)) (inl (other, also, b)) =
    let same = sound_one d known other sound also in
    single known s s' t t' a (subst (λ (k : Known). next k s' t') (sym same) b)
checks_single name d next single s s' t t' (inl (known, sound, a)) (inr (fault, site, is, b)) = absurd (fault_or_sound d fault site known is sound)
checks_single name d next single s s' t t' (inr (fault, site, is, a)) (inl (known, sound, b)) = absurd (fault_or_sound d fault site known is sound)
checks_single name d next single s s' t t' (inr (fault, site, is, a)) (inr (other, place, also, b)) =
    let same = fault_one d fault other site place is also in
    says_same _ _ _ _ (ap check_status same.0) (ap (λ (f : CheckFault). check_line name f site) same.0 ∙ ap (check_line name other) same.1) s s' t t' a b

pub describes_single : (name : List ℕ) (read : Trees) (next : Next Description) → ((d : Description) → IsSingle (next d)) → IsSingle (Describes name read next)
describes_single name read next single s s' t t' (inl (d, is, a)) (inl (e, also, b)) =
    let same = one_description read d e is also in
    single d s s' t t' a (subst (λ (x : Description). next x s' t') (sym same) b)
describes_single name read next single s s' t t' (inl (d, is, a)) (inr (fault, line, wrong, b)) = absurd (description_or_fault read d fault line is wrong)
describes_single name read next single s s' t t' (inr (fault, line, wrong, a)) (inl (d, is, b)) = absurd (description_or_fault read d fault line is wrong)
describes_single name read next single s s' t t' (inr (fault, line, wrong, a)) (inr (other, place, also, b)) =
    let same = one_fault_of_descriptions read fault other line place wrong also in
    says_same _ _ _ _ (ap (λ (n : ℕ). 2) same.1) (ap (λ (f : DescriptionFault). description_line name f line) same.0 ∙ ap (λ (n : ℕ). description_line name other n) same.1) s s' t t' a b

pub forms_single : (name bytes : List ℕ) (next : Next Trees) → ((read : Trees) → IsSingle (next read)) → IsSingle (HasForms name bytes next)
forms_single name bytes next single s s' t t' (inl (read, is, a)) (inl (other, also, b)) =
    let same = one_reading bytes read other is also in
    single read s s' t t' a (subst (λ (x : Trees). next x s' t') (sym same) b)
forms_single name bytes next single s s' t t' (inl (read, is, a)) (inr (fault, line, wrong, b)) = absurd (forms_or_fault bytes read fault line is wrong)
forms_single name bytes next single s s' t t' (inr (fault, line, wrong, a)) (inl (read, is, b)) = absurd (forms_or_fault bytes read fault line is wrong)
forms_single name bytes next single s s' t t' (inr (fault, line, wrong, a)) (inr (other, place, also, b)) =
    let same = one_fault bytes fault other line place wrong also in
    says_same _ _ _ _ (ap (λ (n : ℕ). 2) same.1) (ap (λ (f : FormFault). fault_line name line (form_word f ∷ [])) same.0 ∙ ap (λ (n : ℕ). fault_line name n (form_word other ∷ [])) same.1) s s' t t' a b

pub description_single : (name bytes : List ℕ) (next : (d : Description) → Next Known) → ((d : Description) (known : Known) → IsSingle (next d known)) → IsSingle (HasDescription name bytes next)
description_single name bytes next single =
    forms_single name bytes _ (λ read.
    describes_single name read _ (λ d.
    checks_single name d (next d) (single d)))

-- reading a file leaves no choice where what follows leaves none
pub opens_single : (o : Option (List ℕ)) (name : List ℕ) (most : ℕ) (next : List ℕ → ℕ → List ℕ → Type 0) → ((bytes : List ℕ) → IsSingle (next bytes)) → IsSingle (λ s t. MatchOption o (Says 6 (file_line name) s t) (λ bytes. MatchBool (nat_lt most (length bytes)) (Says 3 (limit_line name) s t) (next bytes s t)))
opens_single None name most next single = says_single 6 (file_line name)
opens_single (Some bytes) name most next single =
    elim (nat_lt most (length bytes)) as (λ b. IsSingle (λ s t. MatchBool b (Says 3 (limit_line name) s t) (next bytes s t))) [
      | true ↦ says_single 3 (limit_line name)
      | false ↦ single bytes
    ]

-- what holds of all lists of bytes of files
abbrev pub ForTexts : List FileWord → (List (List ℕ) → Type 0) → Type 0
ForTexts [] P = P []
ForTexts (file ∷ files) P = (bytes : List ℕ) → ForTexts files (λ others. P (bytes ∷ others))

pub files_single : (held : Held) (files : List FileWord) (next : Next (List (List ℕ))) → ForTexts files (λ texts. IsSingle (next texts)) → IsSingle (OpensAll held files next)
files_single held [] next single = single
files_single held (file ∷ files) next single =
    opens_single (held file.name) file.name file.most (λ bytes. OpensAll held files (λ others. next (bytes ∷ others)))
    (λ bytes. files_single held files (λ others. next (bytes ∷ others)) (single bytes))
