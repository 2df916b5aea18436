-- What is written of a list of pieces, one after the other.
use Rattle.std.proofs.Common.{◌≡◌, ℕ, ◌+◌, ◌<◌, List, [], ◌∷◌, ◌++◌, length, get_or, take, drop, map, sym, ap, ◌∙◌}
use Rattle.std.proofs.lemmas.List.{append-nil, map_more, take_more, take-append-drop, map-append}
use Rattle.std.proofs.lemmas.Grind.{flat_map-append}
use Rattle.std.proofs.lemmas.List.Folds.{concat-append}
use Rattle.std.specs.Borrow.{Bor}
use Rattle.std.specs.List.{concat, flat_map}

-- the text of pieces
abbrev pub text : List (Bor (List ℕ)) → List ℕ
text pieces = concat (map (λ piece. piece.now) pieces)

-- one more piece
pub text_more : (pieces : List (Bor (List ℕ))) (i : ℕ) (d : Bor (List ℕ)) → i < length pieces → text (take (i + 1) pieces) ≡ text (take i pieces) ++ (get_or pieces i d).now
text_more pieces i d inside =
    let now : Bor (List ℕ) → List ℕ = λ piece. piece.now in
    ap concat (map_more now pieces i d inside) ∙ (concat-append (map now (take i pieces)) ((get_or pieces i d).now ∷ []) ∙ ap (λ bytes. text (take i pieces) ++ bytes) (append-nil (get_or pieces i d).now))

-- what is written up to a piece, and what stands after it
pub text_parts : (pieces : List (Bor (List ℕ))) (i : ℕ) (d : Bor (List ℕ)) → i < length pieces → text pieces ≡ text (take i pieces) ++ (get_or pieces i d).now ++ text (drop (i + 1) pieces)
text_parts pieces i d inside =
    let now : Bor (List ℕ) → List ℕ = λ piece. piece.now in
    ap text (sym (take-append-drop (i + 1) pieces)) ∙ (ap concat (map-append now (take (i + 1) pieces) (drop (i + 1) pieces)) ∙ (concat-append (map now (take (i + 1) pieces)) (map now (drop (i + 1) pieces)) ∙ ap (λ bytes. bytes ++ text (drop (i + 1) pieces)) (text_more pieces i d inside)))

-- the lines of one more item
pub lines_more : {X : Type 0} (f : X → List ℕ) (xs : List X) (i : ℕ) (d : X) → i < length xs → flat_map f (take (i + 1) xs) ≡ flat_map f (take i xs) ++ f (get_or xs i d)
lines_more f xs i d inside =
    ap (flat_map f) (take_more xs i d inside) ∙ (flat_map-append f (take i xs) (get_or xs i d ∷ []) ∙ ap (λ bytes. flat_map f (take i xs) ++ bytes) (append-nil (f (get_or xs i d))))

-- the lines up to an item, and what stands after it
pub lines_parts : {X : Type 0} (f : X → List ℕ) (xs : List X) (i : ℕ) (d : X) → i < length xs → flat_map f xs ≡ flat_map f (take i xs) ++ f (get_or xs i d) ++ flat_map f (drop (i + 1) xs)
lines_parts f xs i d inside =
    ap (flat_map f) (sym (take-append-drop (i + 1) xs)) ∙ (flat_map-append f (take (i + 1) xs) (drop (i + 1) xs) ∙ ap (λ bytes. bytes ++ flat_map f (drop (i + 1) xs)) (lines_more f xs i d inside))
