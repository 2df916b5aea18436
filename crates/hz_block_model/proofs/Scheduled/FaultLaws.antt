-- The first instruction of a block whose class is wrong, and the first that can't be issued from the start.
use Rattle.std.proofs.Common.{◌≡◌, ℕ, zero, suc, ◌<◌, ◌⊎◌, inl, inr, ⊎_elim, List, [], ◌∷◌, length, map, All, Some, refl, sym, ap, ◌∙◌, subst, arith}
use Rattle.std.specs.Prelude.{Result, Ok, Err, slice_get, slice_index}
use Rattle.std.proofs.lemmas.List.Elements.{All-nil, All-cons}
use Rattle.hz_pipeline_model.specs.Accepting.Events.{issue}
use Rattle.hz_pipeline_model.specs.Accepting.Replay.{Accepted, FirstRefused}
use Rattle.hz_pipeline_model.proofs.Accepting.AcceptanceLaws.{accepted_or_refused}
use Rattle.hz_pipeline_model.proofs.Accepting.PlayLaws.{accepted_or_first_refused}
use Rattle.hz_pipeline_model.proofs.Accepting.Rows.{same_unit, places_tell}
use Rattle.hz_description_model.specs.Check.Places.{Known}
use Rattle.hz_description_model.specs.Reading.Descriptions.{Description}
use Rattle.hz_pipeline_model.specs.Pipelines.Pipelines.{pipeline_with}
use Rattle.hz_block_model.specs.Running.Blocks.{Instruction}
use Rattle.hz_block_model.specs.Dependences.Classes.{ClassFault}
use Rattle.hz_block_model.specs.Scheduling.Schedules.{Graph, class_at}
use Rattle.hz_block_model.specs.Scheduled.BlockGraphs.{class_in, classes_of, IsFirstClassFault, IsGraphOf}
use Rattle.hz_block_model.specs.Scheduled.BlockSchedules.{StartsAlone, IsFirstStuck}
use Rattle.hz_block_model.proofs.Scheduled.FirstLaws.{first_is_one, first_or_all, all_or_first, IsFirst}
use Rattle.hz_block_model.proofs.Scheduled.GraphLaws.{HasClass, all_have_classes, as_many}

class_or_fault : (r : Result ℕ ClassFault) (class : ℕ) (fault : ClassFault) → r ≡ Ok class → r ≡ Err fault → ⊥
class_or_fault r class fault is wrong = absurd (cc)

same_fault : (r : Result ℕ ClassFault) (e f : ClassFault) → r ≡ Err e → r ≡ Err f → e ≡ f
same_fault r e f h k = cc

same_class : (r : Result ℕ ClassFault) (k l : ℕ) → r ≡ Ok k → r ≡ Ok l → k ≡ l
same_class r k l h e = cc

module _ (d : Description) where
  no_class : (i : Instruction) (fault : ClassFault) → class_in d i ≡ Err fault → HasClass d i → ⊥
  no_class i fault wrong has = class_or_fault (class_in d i) has.0 fault has.1 wrong

  pub one_wrong_class : (block : List Instruction) (i j : Instruction) (e f : ClassFault) → IsFirstClassFault d block i e → IsFirstClassFault d block j f → (i ≡ j) × (e ≡ f)
  one_wrong_class block i j e f first second =
      let same = first_is_one (HasClass d) first.before first.after second.before second.after i j (sym first.parts ∙ second.parts)
      first.good (no_class i e first.wrong) second.good (no_class j f second.wrong) in
      (same, same_fault (class_in d i) e f first.wrong (ap (class_in d) same ∙ second.wrong))

  pub wrong_class_or_all : (block : List Instruction) (i : Instruction) (e : ClassFault) → IsFirstClassFault d block i e → All (HasClass d) block → ⊥
  wrong_class_or_all block i e first all = first_or_all (HasClass d) block first.before first.after i first.parts (no_class i e first.wrong) all

  pub wrong_class_or_graph : (block : List Instruction) (i : Instruction) (e : ClassFault) (g : Graph) → IsFirstClassFault d block i e → IsGraphOf d block g → ⊥
  wrong_class_or_graph block i e g first graph = wrong_class_or_all block i e first (all_have_classes d (classes_of g) block graph.classes)

  class_or_none : (i : Instruction) → HasClass d i ⊎ ((fault : ClassFault) × (class_in d i ≡ Err fault))
  class_or_none i = go (class_in d i) refl
    where
      go : (r : Result ℕ ClassFault) → class_in d i ≡ r → HasClass d i ⊎ ((fault : ClassFault) × (class_in d i ≡ Err fault))
      go (Ok class) is = inl (class, is)
      go (Err fault) is = inr (fault, is)

  -- all instructions have classes, or there is a first whose class is wrong
  pub classes_or_fault : (block : List Instruction) → All (HasClass d) block ⊎ ((i : Instruction) × (fault : ClassFault) × IsFirstClassFault d block i fault)
  classes_or_fault block = ⊎_elim
      (λ (all : All (HasClass d) block). inl all)
      (λ (first : (i : Instruction) × IsFirst (HasClass d) (λ i. (fault : ClassFault) × (class_in d i ≡ Err fault)) block i). let f = first.1 in
      inr (first.0, f.is.0, record { before = f.before; after = f.after; parts = f.parts; good = f.good; wrong = f.is.1 }))
      (all_or_first (HasClass d) (λ i. (fault : ClassFault) × (class_in d i ≡ Err fault)) class_or_none block)

module _ (d : Description) (known : Known) where
  pub one_stuck : (block : List Instruction) (i j : Instruction) → IsFirstStuck d known block i → IsFirstStuck d known block j → i ≡ j
  one_stuck block i j first second =
      first_is_one (StartsAlone d known) first.before first.after second.before second.after i j (sym first.parts ∙ second.parts) first.start first.stuck second.start second.stuck

  pub stuck_or_all : (block : List Instruction) (i : Instruction) → IsFirstStuck d known block i → All (StartsAlone d known) block → ⊥
  stuck_or_all block i first all = first_or_all (StartsAlone d known) block first.before first.after i first.parts first.stuck all

  -- an instruction can be issued from the start or it can't
  starts_or_not : (i : Instruction) → StartsAlone d known i ⊎ (StartsAlone d known i → ⊥)
  starts_or_not i = go (class_in d i) refl
    where
      go : (r : Result ℕ ClassFault) → class_in d i ≡ r → StartsAlone d known i ⊎ (StartsAlone d known i → ⊥)
      go (Err fault) is = inr (λ starts. class_or_fault (class_in d i) starts.0 fault starts.1 is)
      go (Ok class) is = ⊎_elim
          (λ (accepted : Accepted (pipeline_with d known) (issue class ∷ [])). inl (class, is, accepted))
          (λ (refused : (n : ℕ) × FirstRefused (pipeline_with d known) (issue class ∷ []) n).
          inr (λ starts. let same = same_class (class_in d i) starts.0 class starts.1 is in
          accepted_or_refused (pipeline_with d known) (issue class ∷ []) refused.0 (subst (λ (k : ℕ). Accepted (pipeline_with d known) (issue k ∷ [])) same starts.2) refused.1))
          (accepted_or_first_refused same_unit places_tell (pipeline_with d known) (issue class ∷ []))

  -- all instructions can be issued from the start, or there is a first that can't
  pub starts_or_stuck : (block : List Instruction) → All (StartsAlone d known) block ⊎ ((i : Instruction) × IsFirstStuck d known block i)
  starts_or_stuck block = ⊎_elim
      (λ (all : All (StartsAlone d known) block). inl all)
      (λ (first : (i : Instruction) × IsFirst (StartsAlone d known) (λ i. StartsAlone d known i → ⊥) block i). let f = first.1 in
      inr (first.0, record { before = f.before; after = f.after; parts = f.parts; start = f.good; stuck = f.is }))
      (all_or_first (StartsAlone d known) (λ i. StartsAlone d known i → ⊥) starts_or_not block)

  -- ---- what is reported by the places of a graph

  -- instructions whose classes are accepted from the start, by their places
  starts_from : (classes : List ℕ) (block : List Instruction) → map Ok classes ≡ map (class_in d) block → ((j : ℕ) → j < length block → Accepted (pipeline_with d known) (issue (slice_index classes j) ∷ [])) → All (StartsAlone d known) block
  starts_from classes [] are each = All-nil (StartsAlone d known)
  starts_from [] (i ∷ block) are each = absurd (cc)
  starts_from (class ∷ classes) (i ∷ block) are each =
      All-cons (StartsAlone d known) i block (class, cc, each 0 (omega arith)) (starts_from classes block (cc) (λ j low. each (suc j) (omega arith)))

  -- A place of a block whose instruction is the first that is stuck.
  pub record IsStuckAt (block : List Instruction) (place : ℕ) : Type 0 where
    pub insn : Instruction
    pub there : slice_get block place ≡ Some insn
    pub first : IsFirstStuck d known block insn

  stuck_from : (classes : List ℕ) (block : List Instruction) → map Ok classes ≡ map (class_in d) block → (place : ℕ) → place < length block
      → ((j : ℕ) → j < place → Accepted (pipeline_with d known) (issue (slice_index classes j) ∷ [])) → (Accepted (pipeline_with d known) (issue (slice_index classes place) ∷ []) → ⊥) → IsStuckAt block place
  stuck_from classes [] are place low each stuck = absurd (omega arith)
  stuck_from [] (i ∷ block) are place low each stuck = absurd (cc)
  stuck_from (class ∷ classes) (i ∷ block) are zero low each stuck = record {
    insn = i;
    there = refl;
    first = record {
      before = [];
      after = block;
      parts = refl;
      start = All-nil (StartsAlone d known);
      stuck = λ starts. stuck (subst (λ (k : ℕ). Accepted (pipeline_with d known) (issue k ∷ [])) (same_class (class_in d i) starts.0 class starts.1 (cc)) starts.2);
    };
  }
  stuck_from (class ∷ classes) (i ∷ block) are (suc place) low each stuck =
      beyond (stuck_from classes block (cc) place (omega arith) (λ j less. each (suc j) (omega arith)) stuck)
    where
      beyond : IsStuckAt block place → IsStuckAt (i ∷ block) (suc place)
      beyond s = let f = s.first in record {
        insn = s.insn;
        there = s.there;
        first = record {
          before = i ∷ f.before;
          after = f.after;
          parts = ap (λ (is : List Instruction). i ∷ is) f.parts;
          start = All-cons (StartsAlone d known) i f.before (class, cc, each 0 (omega arith)) f.start;
          stuck = f.stuck;
        };
      }

  module _ (block : List Instruction) (g : Graph) (graph : IsGraphOf d block g) where
    pub starts_of_places : ((j : ℕ) → j < length g.nodes → Accepted (pipeline_with d known) (issue (class_at g j) ∷ [])) → All (StartsAlone d known) block
    starts_of_places each = starts_from (classes_of g) block graph.classes (λ j low. each j (omega (arith, low, as_many d block g graph)))

    pub stuck_of_place : (place : ℕ) → place < length g.nodes → ((j : ℕ) → j < place → Accepted (pipeline_with d known) (issue (class_at g j) ∷ [])) → (Accepted (pipeline_with d known) (issue (class_at g place) ∷ []) → ⊥) → IsStuckAt block place
    stuck_of_place place low each stuck = stuck_from (classes_of g) block graph.classes place (omega (arith, low, as_many d block g graph)) each stuck
