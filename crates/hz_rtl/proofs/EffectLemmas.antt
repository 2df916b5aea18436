-- Operands of another number than a place, effect, pattern, attribute, instruction or word of a state has, and effects one
-- after another.
use Rattle.std.proofs.Common.{◌≡◌, ℕ, ◌+◌, ◌<◌, ◌≤◌, ◌==◌, false, List, [], ◌∷◌, ◌++◌, length, get_or, drop, Some, Ok, Err, refl, sym, ap, ◌∙◌, append_assoc}
use Rattle.std.proofs.lemmas.List.{append-nil, drop_more, drop_all}
use Rattle.hz_sexp.specs.declared.form.Form.{Form}
use Rattle.hz_sexp.specs.Shape.{tree, trees}
use Rattle.hz_base_model.specs.Forms.Trees.{Tree, Trees, vector, more}
use Rattle.hz_block_model.specs.Running.Blocks.{Effect}
use Rattle.hz_block_model.specs.Running.States.{Store}
use Rattle.hz_block_model.specs.Texts.Operands.{Judged, RtlFault, bad_shape, and_then}
use Rattle.hz_rtl.specs.Heads.{vector_in}
use Rattle.hz_block_model.specs.Texts.Values as model
use Rattle.hz_block_model.specs.Texts.BlockForms as blocks
use Rattle.hz_block_model.specs.Texts.StateForms as states

module _ (line : ℕ) where
  pub no_place : (code : model.TargetCode) (operands : List Form) → (length operands ≡ 1 → ⊥) → model.target_with line code (trees operands) ≡ Err (bad_shape, line)
  no_place model.into_code [] h = refl
  no_place model.into_code (a ∷ []) h = absurd (h refl)
  no_place model.into_code (a ∷ b ∷ operands) h = refl
  no_place model.cell_code [] h = refl
  no_place model.cell_code (a ∷ []) h = absurd (h refl)
  no_place model.cell_code (a ∷ b ∷ operands) h = refl

  pub no_set : (operands : List Form) → (length operands ≡ 2 → ⊥) → model.effect_with line model.set_code (trees operands) ≡ Err (bad_shape, line)
  no_set [] h = refl
  no_set (a ∷ []) h = refl
  no_set (a ∷ b ∷ []) h = absurd (h refl)
  no_set (a ∷ b ∷ c ∷ operands) h = refl

  pub no_clobber : (operands : List Form) → (length operands ≡ 1 → ⊥) → model.effect_with line model.clobber_code (trees operands) ≡ Err (bad_shape, line)
  no_clobber [] h = refl
  no_clobber (a ∷ []) h = absurd (h refl)
  no_clobber (a ∷ b ∷ operands) h = refl

  pub no_use : (operands : List Form) → (length operands ≡ 1 → ⊥) → model.effect_with line model.use_code (trees operands) ≡ Err (bad_shape, line)
  no_use [] h = refl
  no_use (a ∷ []) h = absurd (h refl)
  no_use (a ∷ b ∷ operands) h = refl

  pub no_parallel : (operands : List Form) → (length operands ≡ 1 → ⊥) → blocks.parallel_with line (trees operands) ≡ Err (bad_shape, line)
  no_parallel [] h = refl
  no_parallel (a ∷ []) h = absurd (h refl)
  no_parallel (a ∷ b ∷ operands) h = refl

  pub no_attribute : (given : List (List ℕ × List ℕ)) (operands : List Form) → (length operands ≡ 2 → ⊥) → blocks.attribute_with given line (trees operands) ≡ Err (bad_shape, line)
  no_attribute given [] h = refl
  no_attribute given (a ∷ []) h = refl
  no_attribute given (a ∷ b ∷ []) h = absurd (h refl)
  no_attribute given (a ∷ b ∷ c ∷ operands) h = refl

  pub no_store : (given : List Store) (code : model.TargetCode) (operands : List Form) → (length operands ≡ 2 → ⊥) → states.store_with given line code (trees operands) ≡ Err (bad_shape, line)
  no_store given code [] h = refl
  no_store given code (a ∷ []) h = refl
  no_store given code (a ∷ b ∷ []) h = absurd (h refl)
  no_store given code (a ∷ b ∷ c ∷ operands) h = refl

-- the effects of a vector
pub vector_effects : (t : Tree) (forms : List Form) → Some (trees forms) ≡ vector_in t → (length forms == 0) ≡ false → blocks.effect_vector t ≡ blocks.effects_of (trees forms)
vector_effects (vector line ts) [] h e = absurd (cc)
vector_effects (vector line ts) (a ∷ forms) h e =
    let same : ts ≡ trees (a ∷ forms) = cc in
    ap (λ (us : Trees). blocks.effect_vector (vector line us)) same
vector_effects _ forms h e = absurd (cc)

-- forms from a place on
pub forms_from : (forms : List Form) (i : ℕ) (form : Form) → i < length forms → form ≡ get_or forms i form → trees (drop i forms) ≡ more (tree form) (trees (drop (i + 1) forms))
forms_from forms i form inside is = ap trees (drop_more forms i form inside ∙ ap (λ f. f ∷ drop (i + 1) forms) (sym is))

-- effects with further ones after them
abbrev pub beyond : List Effect → Judged (List Effect) → Judged (List Effect)
beyond before further = and_then further (λ effects. Ok (before ++ effects))

-- one more effect
pub effect_taken : (before : List Effect) (effect : Effect) (others : Trees) → beyond (before ++ effect ∷ []) (blocks.effects_of others) ≡ beyond before (and_then (blocks.effects_of others) (λ effects. Ok (effect ∷ effects)))
effect_taken before effect others = go (blocks.effects_of others)
  where
    go : (judged : Judged (List Effect)) → beyond (before ++ effect ∷ []) judged ≡ beyond before (and_then judged (λ effects. Ok (effect ∷ effects)))
    go (Ok effects) = ap (λ (es : List Effect). Ok es) (append_assoc before (effect ∷ []) effects)
    go (Err f) = refl

module _ (forms : List Form) (i : ℕ) (form : Form) (before : List Effect) (inside : i < length forms) (is : form ≡ get_or forms i form) (so : beyond before (blocks.effects_of (trees (drop i forms))) ≡ blocks.effects_of (trees forms)) where
  pub effect_more : (effect : Effect) → model.effect_of (tree form) ≡ Ok effect → beyond (before ++ effect ∷ []) (blocks.effects_of (trees (drop (i + 1) forms))) ≡ blocks.effects_of (trees forms)
  effect_more effect e = effect_taken before effect (trees (drop (i + 1) forms)) ∙ (ap (λ (judged : Judged Effect). beyond before (and_then judged (λ first. and_then (blocks.effects_of (trees (drop (i + 1) forms))) (λ effects. Ok (first ∷ effects))))) (sym e) ∙ (ap (λ (ts : Trees). beyond before (blocks.effects_of ts)) (sym (forms_from forms i form inside is)) ∙ so))

  pub effect_wrong : (fault : RtlFault × ℕ) → model.effect_of (tree form) ≡ Err fault → blocks.effects_of (trees forms) ≡ Err fault
  effect_wrong fault e = sym so ∙ (ap (λ (ts : Trees). beyond before (blocks.effects_of ts)) (forms_from forms i form inside is) ∙ ap (λ (judged : Judged Effect). beyond before (and_then judged (λ first. and_then (blocks.effects_of (trees (drop (i + 1) forms))) (λ effects. Ok (first ∷ effects))))) e)

pub effects_end : (forms : List Form) (i : ℕ) (before : List Effect) → length forms ≤ i → beyond before (blocks.effects_of (trees (drop i forms))) ≡ blocks.effects_of (trees forms) → blocks.effects_of (trees forms) ≡ Ok before
effects_end forms i before past so = sym so ∙ (ap (λ (fs : List Form). beyond before (blocks.effects_of (trees fs))) (drop_all i forms past) ∙ ap (λ (es : List Effect). Ok es) (append-nil before))
