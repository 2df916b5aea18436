-- The pieces of a list of names.
use Rattle.std.proofs.Common.{◌≡◌, ℕ, zero, suc, ◌<◌, ◌≤◌, ◌==◌, ◌&&◌, Bool, true, false, List, [], ◌∷◌, length, get_or, take, map, None, cond, refl, ap, ◌∙◌, arith, Some}
use Rattle.std.specs.Borrow.{Bor}
use Rattle.std.specs.List.{list_all, slice_split}
use Rattle.std.proofs.lemmas.List.{take_all}
use Rattle.hz_base_model.specs.Lines.{separated, trimmed}
use Rattle.hz_base_model.specs.Names.{is_name}
use Rattle.hz_base_model.specs.Names.{name_of}

trimmed_now : (pieces : List (Bor (List ℕ))) → map (λ p. trimmed p.now) pieces ≡ map trimmed (map (λ p. p.now) pieces)
trimmed_now [] = refl
trimmed_now (p ∷ pieces) = ap (λ ps. trimmed p.now ∷ ps) (trimmed_now pieces)

-- the pieces of a text, trimmed
pub separated_are : (pieces items : List (Bor (List ℕ))) (text : List ℕ) → map (λ p. p.now) items ≡ slice_split (λ b. b == 44) text → pieces ≡ items → map (λ p. trimmed p.now) pieces ≡ separated text
separated_are pieces items text e same = rw same (trimmed_now items ∙ ap (map trimmed) e)

-- all of them, where none is left
pub all_separated : (pieces items : List (Bor (List ℕ))) (text : List ℕ) (k : ℕ) → length pieces ≤ k → map (λ p. p.now) items ≡ slice_split (λ b. b == 44) text → pieces ≡ items
    → map (λ p. trimmed p.now) (take k pieces) ≡ separated text
all_separated pieces items text k h e same = rw (take_all k pieces h) (separated_are pieces items text e same)

no_name : (bytes : List ℕ) → name_of bytes ≡ None → is_name bytes ≡ false
no_name bytes e = go (is_name bytes) e
  where
    go : (b : Bool) → cond b (Some bytes) None ≡ None → b ≡ false
    go true h = absurd (cc)
    go false h = refl

-- one piece that is no name
pub no_names : (pieces : List (Bor (List ℕ))) (k : ℕ) (d : Bor (List ℕ)) → k < length pieces → name_of (trimmed (get_or pieces k d).now) ≡ None
    → list_all is_name (map (λ p. trimmed p.now) pieces) ≡ false
no_names [] k d h e = absurd (omega arith)
no_names (p ∷ pieces) zero d h e = rw (no_name (trimmed p.now) e) refl
no_names (p ∷ pieces) (suc k) d h e = rw (no_names pieces k d (omega arith) e) (go (is_name (trimmed p.now)))
  where
    go : (b : Bool) → (b && false) ≡ false
    go true = refl
    go false = refl
