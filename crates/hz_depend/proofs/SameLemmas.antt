-- Small facts about what the code holds.
use Rattle.std.proofs.Common.{◌≡◌, ℕ, ◌<◌, ◌==◌, Bool, true, false, cond, ◌||◌, not, List, [], ◌∷◌, length, Option, refl, sym, ap, ◌∙◌, get_or, set, get_or-set_other, get_or-set_same}
use Rattle.std.specs.List.{list_any}
use Rattle.std.specs.Option.{option_map}
use Rattle.std.proofs.lemmas.Bool.{eqb-true, eq-eqb}
use Rattle.hz_depend.specs.declared.finding.access.Based.{Based}
use Rattle.hz_depend.specs.Cells.{based, cells}
use Rattle.hz_depend.specs.Held.{meet}
use Rattle.hz_block_model.specs.Dependences.Accesses.{is_among}
use Rattle.hz_block_model.specs.Dependences.Dependences.{apart_by}

-- the second of two tests decides where the first fails
pub or_else : (a b p m : Bool) → p ≡ a → a ≡ false → b ≡ m → b ≡ (p || m)
or_else a b true m e f g = absurd (cc)
or_else a b false m e f g = g

meets_cells : (since : ℕ → Bool) (v : Option Based) (ws : List (Option Based)) → list_any (λ w. not (apart_by since (option_map based v) (option_map based w))) ws ≡ list_any (λ w. not (apart_by since (option_map based v) w)) (cells ws)
meets_cells since v [] = refl
meets_cells since v (w ∷ ws) = ap (λ (b : Bool). not (apart_by since (option_map based v) (option_map based w)) || b) (meets_cells since v ws)

pub meet_cells : (since : ℕ → Bool) (vs ws : List (Option Based)) → list_any (λ v. list_any (λ w. not (apart_by since (option_map based v) (option_map based w))) ws) vs ≡ meet since (cells vs) (cells ws)
meet_cells since [] ws = refl
meet_cells since (v ∷ vs) ws =
    ap (λ (b : Bool). b || list_any (λ v. list_any (λ w. not (apart_by since (option_map based v) (option_map based w))) ws) vs) (meets_cells since v ws)
    ∙ ap (λ (b : Bool). list_any (λ w. not (apart_by since (option_map based v) w)) (cells ws) || b) (meet_cells since vs ws)

-- one more register that is written
pub noted : (last : List ℕ) (x : ℕ) (rest : List ℕ) (v r : ℕ) → x < length last → cond (is_among rest r) v (get_or (set last x v) r 0) ≡ cond (is_among (x ∷ rest) r) v (get_or last r 0)
noted last x rest v r lt = go (x == r) refl
  where
    both : (b : Bool) (w : ℕ) → w ≡ v → cond b v w ≡ v
    both true w e = refl
    both false w e = e

    go : (b : Bool) → (x == r) ≡ b → cond (is_among rest r) v (get_or (set last x v) r 0) ≡ cond (b || is_among rest r) v (get_or last r 0)
    go true is =
        let same = eqb-true x r is in
        both (is_among rest r) (get_or (set last x v) r 0) (ap (λ (q : ℕ). get_or (set last x v) q 0) (sym same) ∙ get_or-set_same last x v 0 lt)
    go false is =
        let ne : r ≡ x → ⊥ = λ (e : r ≡ x). let f = eq-eqb x r (sym e) in absurd (cc) in
        ap (λ (w : ℕ). cond (is_among rest r) v w) (get_or-set_other last x r v 0 ne)
