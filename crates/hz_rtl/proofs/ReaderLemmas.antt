-- Attributes and instructions one after another.
use Rattle.std.proofs.Common.{◌≡◌, ℕ, ◌+◌, ◌<◌, ◌≤◌, ◌==◌, ◌||◌, List, [], ◌∷◌, ◌++◌, length, get_or, drop, map, Ok, Err, refl, sym, ap, ◌∙◌, arith}
use Rattle.std.specs.List.{list_any}
use Rattle.std.proofs.lemmas.List.{drop_all, length-map}
use Rattle.hz_sexp.specs.declared.form.Form.{Form}
use Rattle.hz_sexp.specs.Shape.{tree, trees}
use Rattle.hz_base_model.specs.Forms.Trees.{Trees}
use Rattle.hz_block_model.specs.Running.Blocks.{Instruction}
use Rattle.hz_block_model.specs.Texts.Operands.{Judged, RtlFault, and_then}
use Rattle.hz_block_model.specs.Texts.BlockForms as model
use Rattle.hz_block_model.proofs.Texts.Numbers.{all_few}
use Rattle.hz_rtl.specs.declared.block.Insn.{Insn}
use Rattle.hz_rtl.specs.Shape.{instruction}
use Rattle.hz_rtl.proofs.EffectLemmas.{forms_from}
use Rattle.hz_block_model.specs.Running.Limits.{instruction_limit}

pub has_number_is : (insns : List Insn) (number : ℕ) → model.has_number (map instruction insns) number ≡ list_any (λ i. i.number == number) insns
has_number_is [] number = refl
has_number_is (insn ∷ insns) number = ap (λ t. (insn.number == number) || t) (has_number_is insns number)

module _ (forms : List Form) (i : ℕ) (form : Form) (inside : i < length forms) (is : form ≡ get_or forms i form) where
  attributes_step : (given : List (List ℕ × List ℕ)) → model.attributes_after given (trees (drop i forms)) ≡ and_then (model.attribute_of given (tree form)) (λ a. model.attributes_after (given ++ a ∷ []) (trees (drop (i + 1) forms)))
  attributes_step given = ap (λ (ts : Trees). model.attributes_after given ts) (forms_from forms i form inside is)

  pub attribute_more : (given : List (List ℕ × List ℕ)) (a : List ℕ × List ℕ) → model.attributes_after given (trees (drop i forms)) ≡ model.attributes_after [] (trees forms) → model.attribute_of given (tree form) ≡ Ok a
      → model.attributes_after (given ++ a ∷ []) (trees (drop (i + 1) forms)) ≡ model.attributes_after [] (trees forms)
  attribute_more given a so e = sym (attributes_step given ∙ ap (λ (judged : Judged (List ℕ × List ℕ)). and_then judged (λ a. model.attributes_after (given ++ a ∷ []) (trees (drop (i + 1) forms)))) e) ∙ so

  pub attribute_wrong : (given : List (List ℕ × List ℕ)) (fault : RtlFault × ℕ) → model.attributes_after given (trees (drop i forms)) ≡ model.attributes_after [] (trees forms) → model.attribute_of given (tree form) ≡ Err fault
      → model.attributes_after [] (trees forms) ≡ Err fault
  attribute_wrong given fault so e = sym so ∙ (attributes_step given ∙ ap (λ (judged : Judged (List ℕ × List ℕ)). and_then judged (λ a. model.attributes_after (given ++ a ∷ []) (trees (drop (i + 1) forms)))) e)

  instructions_step : (before : List Instruction) → model.instructions_after before (trees (drop i forms)) ≡ and_then (model.next_instruction before (tree form)) (λ a. model.instructions_after (before ++ a ∷ []) (trees (drop (i + 1) forms)))
  instructions_step before = ap (λ (ts : Trees). model.instructions_after before ts) (forms_from forms i form inside is)

  pub instruction_more : (before : List Instruction) (a : Instruction) → model.instructions_after before (trees (drop i forms)) ≡ model.instructions_after [] (trees forms) → model.next_instruction before (tree form) ≡ Ok a
      → model.instructions_after (before ++ a ∷ []) (trees (drop (i + 1) forms)) ≡ model.instructions_after [] (trees forms)
  instruction_more before a so e = sym (instructions_step before ∙ ap (λ (judged : Judged Instruction). and_then judged (λ a. model.instructions_after (before ++ a ∷ []) (trees (drop (i + 1) forms)))) e) ∙ so

  pub instruction_wrong : (before : List Instruction) (fault : RtlFault × ℕ) → model.instructions_after before (trees (drop i forms)) ≡ model.instructions_after [] (trees forms) → model.next_instruction before (tree form) ≡ Err fault
      → model.instructions_after [] (trees forms) ≡ Err fault
  instruction_wrong before fault so e = sym so ∙ (instructions_step before ∙ ap (λ (judged : Judged Instruction). and_then judged (λ a. model.instructions_after (before ++ a ∷ []) (trees (drop (i + 1) forms)))) e)

pub instructions_end : (forms : List Form) (i : ℕ) (before : List Instruction) → length forms ≤ i → model.instructions_after before (trees (drop i forms)) ≡ model.instructions_after [] (trees forms) → model.instructions_after [] (trees forms) ≡ Ok before
instructions_end forms i before past so = sym so ∙ ap (λ (fs : List Form). model.instructions_after before (trees fs)) (drop_all i forms past)

pub few_read : (forms : Trees) (insns : List Insn) → model.Reads forms (map instruction insns) → length insns ≤ instruction_limit
few_read forms insns is =
    let few = all_few [] forms (map instruction insns) (omega arith) is in
    let long = length-map insns instruction in
    omega arith
