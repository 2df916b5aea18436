-- The texts of automata, piece by piece.
use Rattle.std.proofs.Common.{◌≡◌, ℕ, ◌+◌, ◌<◌, Bool, List, [], ◌∷◌, ◌++◌, map, length, get_or, codes, decimal, refl, ap, sym, ◌∙◌, arith}
use Rattle.std.specs.List.{flat_map, enumerate_from}
use Rattle.std.proofs.lemmas.List.{append-nil, append_assoc, length-map, get_or-map}
use Rattle.std.proofs.lemmas.List.FromFn.{length-enumerate_from, get_or-enumerate_from}
use Rattle.std.proofs.lemmas.List.Folds.{flat_map-map}
use Rattle.std.proofs.lemmas.Grind.{flat_map-append}
use Rattle.hz_tabtext_model.specs.Texts.{PartText, TablesText, line_text, row_lines, counts_lines, head_line, map_line, asks_lines, part_lines, header_line, treatment_line, class_line, spelled}
use Rattle.hz_tabfile.specs.Saying.{front_lines}

-- an item that is made with its number
pub made_there : {X Y : Type 0} (make : ℕ × X → Y) (xs : List X) (i : ℕ) (d : X) → i < length xs → get_or (map make (enumerate_from 0 xs)) i (make (0, d)) ≡ make (i, get_or xs i d)
made_there make xs i d inside =
    let at : 0 + i ≡ i = omega arith in
    get_or-map make (enumerate_from 0 xs) i (0, d) (make (0, d)) (omega (arith, inside, length-enumerate_from 0 xs))
    ∙ (ap make (get_or-enumerate_from 0 xs i (0, d) inside) ∙ ap (λ (k : ℕ). make (k, get_or xs i d)) at)

pub made_length : {X Y : Type 0} (make : ℕ × X → Y) (xs : List X) → length (map make (enumerate_from 0 xs)) ≡ length xs
made_length make xs = length-map (enumerate_from 0 xs) make ∙ length-enumerate_from 0 xs

-- the lines of items, item by item
pub lines_of_each : {X : Type 0} (lines : X → List (List (List ℕ))) (xs : List X) → flat_map line_text (flat_map lines xs) ≡ flat_map (λ x. flat_map line_text (lines x)) xs
lines_of_each lines [] = refl
lines_of_each lines (x ∷ xs) = flat_map-append line_text (lines x) (flat_map lines xs) ∙ ap (λ (bytes : List ℕ). flat_map line_text (lines x) ++ bytes) (lines_of_each lines xs)

-- an automaton is its first line, its map, its asks, its counts and its states
pub part_text : (asked : Bool) (part : PartText) → line_text (head_line part) ++ (line_text (map_line part.map) ++ (flat_map line_text (asks_lines asked part.asks) ++ (flat_map line_text (counts_lines part.counts) ++ flat_map (λ row. flat_map line_text (row_lines row)) part.rows))) ≡ flat_map line_text (part_lines asked part)
part_text asked part =
    let asks : List (List (List ℕ)) = asks_lines asked part.asks in
    ap (λ (bytes : List ℕ). line_text (head_line part) ++ (line_text (map_line part.map) ++ bytes))
    (ap (λ (bytes : List ℕ). flat_map line_text asks ++ bytes)
    (ap (λ (bytes : List ℕ). flat_map line_text (counts_lines part.counts) ++ bytes) (sym (lines_of_each row_lines part.rows)) ∙ sym (flat_map-append line_text (counts_lines part.counts) (flat_map row_lines part.rows)))
    ∙ sym (flat_map-append line_text asks (counts_lines part.counts ++ flat_map row_lines part.rows)))

-- the lines before the automata
pub front_text : (asked ndfa : Bool) (classes : List (List ℕ)) (automata : ℕ) → line_text (header_line asked) ++ (line_text (treatment_line ndfa) ++ (line_text (codes "classes" ∷ decimal (length classes) ∷ []) ++ (flat_map (λ class. line_text (class_line class)) classes ++ line_text (codes "automata" ∷ decimal automata ∷ [])))) ≡ flat_map line_text (front_lines asked ndfa classes automata)
front_text asked ndfa classes automata =
    let last : List ℕ = line_text (codes "automata" ∷ decimal automata ∷ []) in
    ap (λ (bytes : List ℕ). line_text (header_line asked) ++ (line_text (treatment_line ndfa) ++ (line_text (codes "classes" ∷ decimal (length classes) ∷ []) ++ bytes)))
    (ap (λ (bytes : List ℕ). bytes ++ last) (sym (flat_map-map line_text class_line classes))
    ∙ (ap (λ (bytes : List ℕ). flat_map line_text (map class_line classes) ++ bytes) (sym (append-nil last))
    ∙ sym (flat_map-append line_text (map class_line classes) ((codes "automata" ∷ decimal automata ∷ []) ∷ []))))

-- a whole text is the lines before the automata, these, and its end
pub whole_text : (says : TablesText) → flat_map line_text (front_lines says.asked says.ndfa says.classes (length says.parts)) ++ (flat_map (λ part. flat_map line_text (part_lines says.asked part)) says.parts ++ line_text (codes "end" ∷ [])) ≡ spelled says
whole_text says =
    let front : List (List (List ℕ)) = front_lines says.asked says.ndfa says.classes (length says.parts) in
    let parts : List (List (List ℕ)) = flat_map (part_lines says.asked) says.parts in
    let end : List (List (List ℕ)) = (codes "end" ∷ []) ∷ [] in
    ap (λ (bytes : List ℕ). flat_map line_text front ++ bytes)
    (ap (λ (bytes : List ℕ). bytes ++ line_text (codes "end" ∷ [])) (sym (lines_of_each (part_lines says.asked) says.parts))
    ∙ (ap (λ (bytes : List ℕ). flat_map line_text parts ++ bytes) (sym (append-nil (line_text (codes "end" ∷ [])))) ∙ sym (flat_map-append line_text parts end)))
    ∙ (sym (flat_map-append line_text front (parts ++ end))
    ∙ ap (λ (lines : List (List (List ℕ))). flat_map line_text (header_line says.asked ∷ treatment_line says.ndfa ∷ (codes "classes" ∷ decimal (length says.classes) ∷ []) ∷ lines)) (append_assoc (map class_line says.classes) ((codes "automata" ∷ decimal (length says.parts) ∷ []) ∷ []) (parts ++ end)))
