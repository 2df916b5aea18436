-- What status 0 tells of each phase of an answer.
use Rattle.std.proofs.Common.{◌≡◌, ℕ, inl, inr, Bool, true, false, List, length, Option, Some, None, MatchOption, MatchBool, nat_lt, refl, arith}
use Rattle.hz_pipeline_model.specs.Compiling.DescriptionLimits.{AllKeepLimits}
use Rattle.hz_base_model.specs.Forms.Trees.{Trees}
use Rattle.hz_base_model.specs.Forms.Forms as forms
use Rattle.hz_description_model.specs.Reading.Descriptions.{Description}
use Rattle.hz_description_model.specs.Reading.DescriptionForms as description_forms
use Rattle.hz_description_model.specs.Check.CheckFaults.{CheckFault, LimitName, limit_passed, IsSound}
use Rattle.hz_description_model.specs.Check.Places.{Known}
use Rattle.hz_block_model.specs.Running.Blocks.{Instruction}
use Rattle.hz_block_model.specs.Running.States.{State}
use Rattle.hz_block_model.specs.Texts.BlockForms as blocks
use Rattle.hz_block_model.specs.Texts.StateForms as states
use Rattle.hz_front_model.specs.Texts.{file_line, limit_line, insns_line}
use Rattle.hz_front_model.specs.FaultTexts.{status_by, check_status}
use Rattle.hz_front_model.specs.Phases.{Says, Next, HasForms}
use Rattle.hz_answer_model.specs.BlockAnswers.{IsBlock, HasAtMost, IsState}
use Rattle.hz_front_model.specs.Descriptions.{Describes, Checks, HasDescription}
use Rattle.hz_answer_model.specs.Answers.{Compiles}
use Rattle.hz_answer_model.specs.ScheduleAnswers.{HasClasses, Starts}
use Rattle.hz_answer_model.specs.Headline.{IsDescribed}

-- A file that was read.
pub record IsOpened (o : Option (List ℕ)) (most : ℕ) (next : List ℕ → ℕ → List ℕ → Type 0) (text : List ℕ) : Type 0 where
  pub bytes : List ℕ
  pub is : o ≡ Some bytes
  pub low : nat_lt most (length bytes) ≡ false
  pub answers : next bytes 0 text

pub opened : (o : Option (List ℕ)) (name : List ℕ) (most : ℕ) (next : List ℕ → ℕ → List ℕ → Type 0) (text : List ℕ) → MatchOption o (Says 6 (file_line name) 0 text) (λ bytes. MatchBool (nat_lt most (length bytes)) (Says 3 (limit_line name) 0 text) (next bytes 0 text)) → IsOpened o most next text
opened None name most next text h = absurd (omega (arith, h.0))
opened (Some bytes) name most next text h = go (nat_lt most (length bytes)) refl h
  where
    go : (b : Bool) → nat_lt most (length bytes) ≡ b → MatchBool b (Says 3 (limit_line name) 0 text) (next bytes 0 text) → IsOpened (Some bytes) most next text
    go true is h = absurd (omega (arith, h.0))
    go false is h = record { bytes = bytes; is = refl; low = is; answers = h }

pub formed_of : (name bytes : List ℕ) (next : Next Trees) (text : List ℕ) → HasForms name bytes next 0 text → (read : Trees) × forms.Reads bytes read × next read 0 text
formed_of name bytes next text (inl good) = good
formed_of name bytes next text (inr (fault, line, wrong, h)) = absurd (omega (arith, h.0))

pub described_of : (name : List ℕ) (read : Trees) (next : Next Description) (text : List ℕ) → Describes name read next 0 text → (d : Description) × description_forms.Reads read d × next d 0 text
described_of name read next text (inl good) = good
described_of name read next text (inr (fault, line, wrong, h)) = absurd (omega (arith, h.0))

-- no fault of a check has status 0
pub some_status : (fault : CheckFault) → 0 ≡ check_status fault → ⊥
some_status fault = by_limit (limit_passed fault)
  where
    by_limit : (limit : Option LimitName) → 0 ≡ status_by limit → ⊥
    by_limit (Some limit) e = omega (arith, e)
    by_limit None e = omega (arith, e)

pub checked_of : (name : List ℕ) (d : Description) (next : Next Known) (text : List ℕ) → Checks name d next 0 text → (known : Known) × IsSound d known × next known 0 text
checked_of name d next text (inl good) = good
checked_of name d next text (inr (fault, site, wrong, h)) = absurd (some_status fault h.0)

-- A description that was read and checked.
pub record IsGiven (bytes : List ℕ) (next : (d : Description) → Next Known) (text : List ℕ) : Type 0 where
  pub d : Description
  pub known : Known
  pub is : IsDescribed bytes d known
  pub answers : next d known 0 text

pub given_of : (name bytes : List ℕ) (next : (d : Description) → Next Known) (text : List ℕ) → HasDescription name bytes next 0 text → IsGiven bytes next text
given_of name bytes next text h =
    let (read, forms, more) = formed_of name bytes (λ read. Describes name read (λ d. Checks name d (next d))) text h in
    let (d, says, others) = described_of name read (λ d. Checks name d (next d)) text more in
    let (known, sound, last) = checked_of name d (next d) text others in
    record { d = d; known = known; is = record { read = read; forms = forms; says = says; sound = sound }; answers = last }

pub compiled_of : (name : List ℕ) (d : Description) (known : Known) (next : ℕ → List ℕ → Type 0) (text : List ℕ) → Compiles name d known next 0 text → AllKeepLimits d known × next 0 text
compiled_of name d known next text (inl good) = good
compiled_of name d known next text (inr (a, first, h)) = absurd (omega (arith, h.0))

pub block_of : (name : List ℕ) (read : Trees) (next : Next (List Instruction)) (text : List ℕ) → IsBlock name read next 0 text → (block : List Instruction) × blocks.Reads read block × next block 0 text
block_of name read next text (inl good) = good
block_of name read next text (inr (fault, line, wrong, h)) = absurd (omega (arith, h.0))

pub state_of : (name : List ℕ) (read : Trees) (next : Next State) (text : List ℕ) → IsState name read next 0 text → (state : State) × states.Reads read state × next state 0 text
state_of name read next text (inl good) = good
state_of name read next text (inr (fault, line, wrong, h)) = absurd (omega (arith, h.0))

pub classes_of_block : (name : List ℕ) (d : Description) (block : List Instruction) (next : ℕ → List ℕ → Type 0) (text : List ℕ) → HasClasses name d block next 0 text → next 0 text
classes_of_block name d block next text (inl good) = good.1
classes_of_block name d block next text (inr (i, fault, first, h)) = absurd (omega (arith, h.0))

pub started_of : (name : List ℕ) (d : Description) (known : Known) (block : List Instruction) (next : ℕ → List ℕ → Type 0) (text : List ℕ) → Starts name d known block next 0 text → next 0 text
started_of name d known block next text (inl good) = good.1
started_of name d known block next text (inr (i, first, h)) = absurd (omega (arith, h.0))

pub few_of : (most count : ℕ) (name : List ℕ) (next : ℕ → List ℕ → Type 0) (text : List ℕ) → HasAtMost most count name next 0 text → (nat_lt most count ≡ false) × next 0 text
few_of most count name next text h = go (nat_lt most count) refl h
  where
    go : (b : Bool) → nat_lt most count ≡ b → MatchBool b (Says 3 (insns_line name) 0 text) (next 0 text) → (nat_lt most count ≡ false) × next 0 text
    go true is h = absurd (omega (arith, h.0))
    go false is h = (is, h)
