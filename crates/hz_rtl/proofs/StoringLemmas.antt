-- Tests of effects as tests of what they set.
use Rattle.std.proofs.Common.{◌≡◌, ℕ, suc, ◌==◌, Bool, true, false, nat_lt, List, [], ◌∷◌, ◌++◌, length, map, refl, sym, ap, ◌∙◌, arith}
use Rattle.std.specs.Prelude.{◌||◌, not}
use Rattle.std.specs.List.{flat_map, list_any}
use Rattle.std.proofs.lemmas.Bool.{eqb-true, lt-ltb}
use Rattle.std.proofs.lemmas.List.Folds.{list_any-append}
use Rattle.hz_rtl.specs.declared.block.Effect.{Effect}
use Rattle.hz_rtl.specs.Shape.{effect}
use Rattle.hz_block_model.specs.Running.Blocks as model
use Rattle.hz_block_model.specs.Dependences.Accesses.{registers_in, is_among}
use Rattle.hz_block_model.specs.Dependences.Stores.{registers_set_by, addresses_set_by}

-- a register stands in one of two lists
pub among_both : (xs ys : List ℕ) (r : ℕ) → is_among (xs ++ ys) r ≡ (is_among xs r || is_among ys r)
among_both xs ys r = list_any-append (λ n. n == r) xs ys

positive : (n : ℕ) → nat_lt 0 (suc n) ≡ true
positive n = lt-ltb 0 (suc n) (omega arith)

-- some effect gives something
some_given : {A : Type 0} (gives : model.Effect → List A) (effects : List Effect) → list_any (λ e. nat_lt 0 (length (gives (effect e)))) effects ≡ nat_lt 0 (length (flat_map gives (map effect effects)))
some_given gives [] = refl
some_given {A = A} gives (e ∷ effects) = go (gives (effect e)) (some_given gives effects)
  where
    go : (xs : List A) → list_any (λ e. nat_lt 0 (length (gives (effect e)))) effects ≡ nat_lt 0 (length (flat_map gives (map effect effects)))
        → (nat_lt 0 (length xs) || list_any (λ e. nat_lt 0 (length (gives (effect e)))) effects) ≡ nat_lt 0 (length (xs ++ flat_map gives (map effect effects)))
    go [] h = h
    go (x ∷ xs) h =
        ap (λ (b : Bool). b || list_any (λ e. nat_lt 0 (length (gives (effect e)))) effects) (positive (length xs))
        ∙ sym (positive (length (xs ++ flat_map gives (map effect effects))))

pub any_address : (effects : List Effect) → list_any (λ e. nat_lt 0 (length (addresses_set_by (effect e)))) effects ≡ nat_lt 0 (length (flat_map addresses_set_by (map effect effects)))
any_address effects = some_given addresses_set_by effects

pub any_register : (effects : List Effect) → list_any (λ e. nat_lt 0 (length (registers_set_by (effect e)))) effects ≡ nat_lt 0 (length (flat_map registers_set_by (map effect effects)))
any_register effects = some_given registers_set_by effects

-- something that some effect gives passes
some_passes : {A : Type 0} (p : A → Bool) (gives : model.Effect → List A) (effects : List Effect) → list_any (λ e. list_any p (gives (effect e))) effects ≡ list_any p (flat_map gives (map effect effects))
some_passes p gives [] = refl
some_passes p gives (e ∷ effects) =
    ap (λ (b : Bool). list_any p (gives (effect e)) || b) (some_passes p gives effects) ∙ sym (list_any-append p (gives (effect e)) (flat_map gives (map effect effects)))

pub any_in : (address : model.Value) (effects : List Effect) → list_any (λ e. list_any (is_among (registers_in address)) (registers_set_by (effect e))) effects ≡ list_any (is_among (registers_in address)) (flat_map registers_set_by (map effect effects))
any_in address effects = some_passes (is_among (registers_in address)) registers_set_by effects

pub any_addressed : (registers : List ℕ) (effects : List Effect)
    → list_any (λ e. list_any (λ address. list_any (is_among (registers_in address)) registers) (addresses_set_by (effect e))) effects ≡ list_any (λ address. list_any (is_among (registers_in address)) registers) (flat_map addresses_set_by (map effect effects))
any_addressed registers effects = some_passes (λ address. list_any (is_among (registers_in address)) registers) addresses_set_by effects

-- a list has an element, or none
pub none_there : (xs : List ℕ) → (length xs == 0) ≡ not (nat_lt 0 (length xs))
none_there [] = refl
none_there (x ∷ xs) = not_zero (length xs) ∙ ap not (sym (positive (length xs)))
  where
    not_zero : (n : ℕ) → (suc n == 0) ≡ false
    not_zero n = by_test (suc n == 0) refl
      where
        by_test : (b : Bool) → (suc n == 0) ≡ b → b ≡ false
        by_test false e = refl
        by_test true e = let same = eqb-true (suc n) 0 e in absurd (omega arith)
