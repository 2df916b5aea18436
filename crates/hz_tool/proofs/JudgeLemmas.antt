-- A phase that does not refuse leads on to what follows it, and one that refuses answers whatever would follow.
use Rattle.std.specs.Prelude.{Ok}
use Rattle.std.proofs.Common.{◌≡◌, ℕ, All, List, Bool, true, false, MatchBool, nat_lt, inl, inr, ap, ◌∙◌, sym, refl, subst}
use Rattle.hz_answer_model.specs.Answers.{Compiles}
use Rattle.hz_answer_model.specs.BlockAnswers.{HasAtMost, HasBlock, IsBlock, HasState, IsState}
use Rattle.hz_answer_model.specs.FaultTexts.{class_line, stuck_line}
use Rattle.hz_answer_model.specs.Headline.{IsBlockIn, IsStateIn}
use Rattle.hz_answer_model.specs.ScheduleAnswers.{HasClasses, Starts}
use Rattle.hz_base_model.specs.Forms.Trees.{Trees}
use Rattle.hz_block_model.specs.Dependences.Classes.{ClassFault}
use Rattle.hz_block_model.specs.Running.Blocks.{Instruction}
use Rattle.hz_block_model.specs.Running.States.{State}
use Rattle.hz_block_model.specs.Scheduled.BlockGraphs.{class_in, IsFirstClassFault}
use Rattle.hz_block_model.specs.Scheduled.BlockSchedules.{IsFirstStuck, StartsAlone}
use Rattle.hz_block_model.specs.Texts.BlockForms as blocks
use Rattle.hz_block_model.specs.Texts.Operands.{rtl_word}
use Rattle.hz_block_model.specs.Texts.StateForms as states
use Rattle.hz_description_model.specs.Check.Places.{Known, class_names}
use Rattle.hz_description_model.specs.Reading.Descriptions.{Description}
use Rattle.hz_front.proofs.AnswerLemmas.{agrees_weaker}
use Rattle.hz_front.specs.Refusals.{Agrees}
use Rattle.hz_front.specs.declared.refusal.Refusal.{Refusal}
use Rattle.hz_front_model.specs.Descriptions.{Checks, Describes, HasDescription}
use Rattle.hz_front_model.specs.Phases.{Says, Next, TellsFault}
use Rattle.hz_front_model.specs.Texts.{insns_line}
use Rattle.hz_tool.specs.Deciding.{Nothing}
use Rattle.hz_tool.specs.Fronts.{Compiling}

-- ---- a description

-- one that is not compiled
module _ (name bytes : List ℕ) (next : (d : Description) → Next Known) where
  by_limit : (d : Description) (known : Known) (s : ℕ) (t : List ℕ) → Compiles name d known Nothing s t → Compiles name d known (next d known) s t
  by_limit d known s t (inl (keeps, none)) = absurd none
  by_limit d known s t (inr limit) = inr limit

  by_check : (d : Description) (s : ℕ) (t : List ℕ) → Checks name d (λ known. Compiles name d known Nothing) s t → Checks name d (λ known. Compiles name d known (next d known)) s t
  by_check d s t (inl (known, sound, more)) = inl (known, sound, by_limit d known s t more)
  by_check d s t (inr wrong) = inr wrong

  by_said : (read : Trees) (s : ℕ) (t : List ℕ) → Describes name read (λ d. Checks name d (λ known. Compiles name d known Nothing)) s t → Describes name read (λ d. Checks name d (λ known. Compiles name d known (next d known))) s t
  by_said read s t (inl (d, says, more)) = inl (d, says, by_check d s t more)
  by_said read s t (inr wrong) = inr wrong

  pub compiled_else : (s : ℕ) (t : List ℕ) → Compiling name bytes s t → HasDescription name bytes (λ d known. Compiles name d known (next d known)) s t
  compiled_else s t (inl (read, is, more)) = inl (read, is, by_said read s t more)
  compiled_else s t (inr wrong) = inr wrong

-- ---- the text of a block

module _ (name bytes : List ℕ) (next : Next (List Instruction)) where
  by_block : (read : Trees) (s : ℕ) (t : List ℕ) → IsBlock name read (λ insns. Nothing) s t → IsBlock name read next s t
  by_block read s t (inl (block, says, none)) = absurd none
  by_block read s t (inr wrong) = inr wrong

  pub block_else : (s : ℕ) (t : List ℕ) → HasBlock name bytes (λ insns. Nothing) s t → HasBlock name bytes next s t
  block_else s t (inl (read, is, more)) = inl (read, is, by_block read s t more)
  block_else s t (inr wrong) = inr wrong

  pub block_then : (insns : List Instruction) → IsBlockIn bytes insns → (s : ℕ) (t : List ℕ) → next insns s t → HasBlock name bytes next s t
  block_then insns is s t h = inl (is.read, is.forms, inl (insns, is.says, h))

-- ---- the text of a state

module _ (name bytes : List ℕ) (next : Next State) where
  by_state : (read : Trees) (s : ℕ) (t : List ℕ) → IsState name read (λ state. Nothing) s t → IsState name read next s t
  by_state read s t (inl (state, says, none)) = absurd none
  by_state read s t (inr wrong) = inr wrong

  pub state_else : (s : ℕ) (t : List ℕ) → HasState name bytes (λ state. Nothing) s t → HasState name bytes next s t
  state_else s t (inl (read, is, more)) = inl (read, is, by_state read s t more)
  state_else s t (inr wrong) = inr wrong

  pub state_then : (state : State) → IsStateIn bytes state → (s : ℕ) (t : List ℕ) → next state s t → HasState name bytes next s t
  state_then state is s t h = inl (is.read, is.forms, inl (state, is.says, h))

-- what forms are that are no block, or no state
pub block_wrong : (name : List ℕ) (read : Trees) (next : Next (List Instruction)) (refusal : Refusal) → Agrees (TellsFault rtl_word (blocks.FaultAt read) name) refusal → Agrees (IsBlock name read next) refusal
block_wrong name read next = agrees_weaker (TellsFault rtl_word (blocks.FaultAt read) name) (IsBlock name read next) (λ s t h. inr h)

pub state_wrong : (name : List ℕ) (read : Trees) (next : Next State) (refusal : Refusal) → Agrees (TellsFault rtl_word (states.FaultAt read) name) refusal → Agrees (IsState name read next) refusal
state_wrong name read next = agrees_weaker (TellsFault rtl_word (states.FaultAt read) name) (IsState name read next) (λ s t h. inr h)

-- ---- the instructions of a block

module _ (name : List ℕ) (d : Description) (block : List Instruction) (next : ℕ → List ℕ → Type 0) where
  -- they have classes
  pub classes_then : All (λ i. (class : ℕ) × (class_in d i ≡ Ok class)) block → (s : ℕ) (t : List ℕ) → next s t → HasClasses name d block next s t
  classes_then all s t h = inl (all, h)

  pub classes_else : (s : ℕ) (t : List ℕ) → HasClasses name d block Nothing s t → HasClasses name d block next s t
  classes_else s t (inl (all, none)) = absurd none
  classes_else s t (inr wrong) = inr wrong

  -- the first whose class is wrong
  pub class_wrong : (names : List (List ℕ)) (refusal : Refusal) (i : Instruction) (fault : ClassFault) → names ≡ class_names d → IsFirstClassFault d block i fault → Agrees (Says 2 (class_line name names i fault)) refusal → Agrees (HasClasses name d block next) refusal
  class_wrong names refusal i fault same first =
      agrees_weaker (Says 2 (class_line name names i fault)) (HasClasses name d block next)
      (λ s t a. inr (i, fault, first, (a.0, a.1 ∙ ap (λ (ns : List (List ℕ)). class_line name ns i fault) same))) refusal

  -- they can be issued from the start
  module _ (known : Known) where
    pub starts_then : All (StartsAlone d known) block → (s : ℕ) (t : List ℕ) → next s t → Starts name d known block next s t
    starts_then all s t h = inl (all, h)

    by_starts : (s : ℕ) (t : List ℕ) → Starts name d known block Nothing s t → Starts name d known block next s t
    by_starts s t (inl (all, none)) = absurd none
    by_starts s t (inr wrong) = inr wrong

    pub scheduled_else : (s : ℕ) (t : List ℕ) → HasClasses name d block (Starts name d known block Nothing) s t → HasClasses name d block (Starts name d known block next) s t
    scheduled_else s t (inl (all, more)) = inl (all, by_starts s t more)
    scheduled_else s t (inr wrong) = inr wrong

    -- the first that can't
    pub stuck_wrong : (refusal : Refusal) (i : Instruction) → IsFirstStuck d known block i → Agrees (Says 2 (stuck_line name i)) refusal → Agrees (Starts name d known block next) refusal
    stuck_wrong refusal i first = agrees_weaker (Says 2 (stuck_line name i)) (Starts name d known block next) (λ s t a. inr (i, first, a)) refusal

-- ---- how many instructions there are

-- instructions that are few enough lead on
pub few_then : (most count : ℕ) (name : List ℕ) (next : ℕ → List ℕ → Type 0) → nat_lt most count ≡ false → (s : ℕ) (t : List ℕ) → next s t → HasAtMost most count name next s t
few_then most count name next low s t h = subst (λ (b : Bool). MatchBool b (Says 3 (insns_line name) s t) (next s t)) (sym low) h

-- of too many the block is reported
pub many_reported : (most count : ℕ) (name : List ℕ) (next : ℕ → List ℕ → Type 0) → nat_lt most count ≡ true → HasAtMost most count name next 3 (insns_line name)
many_reported most count name next high =
    subst (λ (b : Bool). MatchBool b (Says 3 (insns_line name) 3 (insns_line name)) (next 3 (insns_line name))) (sym high) (refl, refl)
