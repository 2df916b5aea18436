-- What is written of a listing, line by line.
use Rattle.std.proofs.Common.{◌≡◌, ℕ, zero, suc, ◌+◌, ◌<◌, ◌≤◌, List, [], ◌∷◌, ◌++◌, length, get_or, drop, refl, sym, ap, ◌∙◌, append_assoc, arith}
use Rattle.std.proofs.lemmas.List.{append-nil}
use Rattle.std.specs.List.{flat_map, enumerate_from}
use Rattle.hz_block_model.specs.Texts.StateTexts.{register_line, cell_line}

-- the lines of registers, of which the first has this number
abbrev pub register_lines : ℕ → List ℕ → List ℕ
register_lines n words = flat_map register_line (enumerate_from n words)

-- the lines of cells
abbrev pub cell_lines : List (ℕ × ℕ) → List ℕ
cell_lines cells = flat_map cell_line cells

drop_next : (xs : List ℕ) (i d : ℕ) → i < length xs → drop i xs ≡ get_or xs i d ∷ drop (suc i) xs
drop_next [] i d low = absurd (omega (arith, low))
drop_next (x ∷ xs) zero d low = refl
drop_next (x ∷ xs) (suc i) d low = drop_next xs i d (omega (arith, low))

drop_past : (xs : List ℕ) (i : ℕ) → length xs ≤ i → drop i xs ≡ []
drop_past [] zero most = refl
drop_past [] (suc i) most = refl
drop_past (x ∷ xs) zero most = absurd (omega (arith, most))
drop_past (x ∷ xs) (suc i) most = drop_past xs i (omega (arith, most))

-- what is left of registers begins with the line of the next
pub register_parts : (words : List ℕ) (i d : ℕ) (written all : List ℕ) → i < length words → written ++ register_lines i (drop i words) ≡ all → (written ++ register_line (i, get_or words i d)) ++ register_lines (i + 1) (drop (i + 1) words) ≡ all
register_parts words i d written all low parts =
    let after : suc i ≡ i + 1 = omega arith in
    let next : drop i words ≡ get_or words i d ∷ drop (i + 1) words = drop_next words i d low ∙ ap (λ (n : ℕ). get_or words i d ∷ drop n words) after in
    append_assoc written (register_line (i, get_or words i d)) (register_lines (i + 1) (drop (i + 1) words))
    ∙ (ap (λ (ws : List ℕ). written ++ register_lines i ws) (sym next) ∙ parts)

-- after the last register nothing is left
pub registers_done : (words : List ℕ) (i : ℕ) (written all : List ℕ) → length words ≤ i → written ++ register_lines i (drop i words) ≡ all → written ≡ all
registers_done words i written all most parts =
    sym (append-nil written) ∙ (ap (λ (ws : List ℕ). written ++ register_lines i ws) (sym (drop_past words i most)) ∙ parts)

-- what is left of cells begins with the line of the next
pub cell_parts : (written all : List ℕ) (rest more : List (ℕ × ℕ)) (cell : ℕ × ℕ) → written ++ cell_lines rest ≡ all → rest ≡ cell ∷ more → (written ++ cell_line cell) ++ cell_lines more ≡ all
cell_parts written all rest more cell parts is =
    append_assoc written (cell_line cell) (cell_lines more) ∙ (ap (λ (cs : List (ℕ × ℕ)). written ++ cell_lines cs) (sym is) ∙ parts)

-- where no cell is left all is written
pub cells_done : (written all : List ℕ) (rest : List (ℕ × ℕ)) → written ++ cell_lines rest ≡ all → rest ≡ [] → written ≡ all
cells_done written all rest parts is = sym (append-nil written) ∙ (ap (λ (cs : List (ℕ × ℕ)). written ++ cell_lines cs) (sym is) ∙ parts)
