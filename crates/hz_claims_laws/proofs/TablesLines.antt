-- The lines of an automaton in a tables text.
use Rattle.std.proofs.Common.{◌≡◌, ℕ, Bool, true, false, List, [], ◌∷◌, ◌++◌, map, length, codes, decimal, Contains, Option, Some, None, refl, sym, ap, ◌∙◌, append_assoc, ⊎_elim}
use Rattle.std.specs.List.{flat_map}
use Rattle.hz_base_model.proofs.Elements.{Contains-nil, Contains-cons_cases}
use Rattle.hz_tabtext_model.specs.Texts.{TablesText, PartText, RowText, Counts, tables_lines, part_lines, counts_lines, row_lines, header_line, treatment_line, class_line}
use Rattle.hz_claims_laws.specs.TablesLines.{BeginsWithCountsOrRow, the_counts, the_row, no_row}

-- among the lines of all are those of one
record Among {A : Type 0} (f : A → List (List (List ℕ))) (xs : List A) (x : A) : Type 0 where
  front : List (List (List ℕ))
  back : List (List (List ℕ))
  parts : flat_map f xs ≡ front ++ (f x ++ back)

among : {A : Type 0} (f : A → List (List (List ℕ))) (xs : List A) (x : A) → Contains xs x → Among f xs x
among f [] x h = absurd (Contains-nil x h)
among f (y ∷ xs) x h = ⊎_elim
    (λ (same : y ≡ x). record { front = []; back = flat_map f xs; parts = ap (λ z. f z ++ flat_map f xs) same })
    (λ (k : Contains xs x).
    let is = among f xs x k in
    record { front = f y ++ is.front; back = is.back; parts = ap (λ (ls : List (List (List ℕ))). f y ++ ls) is.parts ∙ sym (append_assoc (f y) is.front (f x ++ is.back)) })
    (Contains-cons_cases y x xs h)

-- what follows the asks
follows : (part : PartText) (others : List (List (List ℕ))) → BeginsWithCountsOrRow part ((counts_lines part.counts ++ flat_map row_lines part.rows) ++ others)
follows part others = by_counts part.counts refl
  where
    by_rows : part.counts ≡ None → (rows : List RowText) → part.rows ≡ rows → BeginsWithCountsOrRow part (flat_map row_lines rows ++ others)
    by_rows none [] e = no_row none e
    by_rows none (row ∷ rows) e = the_row none e

    by_counts : (counts : Option Counts) → part.counts ≡ counts → BeginsWithCountsOrRow part ((counts_lines counts ++ flat_map row_lines part.rows) ++ others)
    by_counts None e = by_rows e part.rows refl
    by_counts (Some counts) e = the_counts e

-- where the lines of all automata are
module _ (says : TablesText) where
  head : List (List (List ℕ))
  head = header_line says.asked ∷ treatment_line says.ndfa ∷ (codes "classes" ∷ decimal (length says.classes) ∷ []) ∷ (map class_line says.classes ++ (codes "automata" ∷ decimal (length says.parts) ∷ []) ∷ [])

  whole : tables_lines says ≡ head ++ (flat_map (part_lines says.asked) says.parts ++ (codes "end" ∷ []) ∷ [])
  unfolding head
  whole = ap (λ (ls : List (List (List ℕ))). header_line says.asked ∷ treatment_line says.ndfa ∷ (codes "classes" ∷ decimal (length says.classes) ∷ []) ∷ ls)
      (sym (append_assoc (map class_line says.classes) ((codes "automata" ∷ decimal (length says.parts) ∷ []) ∷ []) (flat_map (part_lines says.asked) says.parts ++ (codes "end" ∷ []) ∷ [])))

  -- the lines of a part, with those before and after them
  pub of_part : (part : PartText) → Contains says.parts part → (front : List (List (List ℕ))) × (back : List (List (List ℕ))) × (tables_lines says ≡ front ++ (part_lines says.asked part ++ back))
  of_part part h =
      let is = among (part_lines says.asked) says.parts part h in
      let last : List (List (List ℕ)) = (codes "end" ∷ []) ∷ [] in (
        head ++ is.front,
        is.back ++ last,
        whole ∙ ap (λ (ls : List (List (List ℕ))). head ++ (ls ++ last)) is.parts
            ∙ ap (λ (ls : List (List (List ℕ))). head ++ ls) (append_assoc is.front (part_lines says.asked part ++ is.back) last ∙ ap (λ (ls : List (List (List ℕ))). is.front ++ ls) (append_assoc (part_lines says.asked part) is.back last))
            ∙ sym (append_assoc head is.front (part_lines says.asked part ++ (is.back ++ last))),
      )

pub asks_follow : (says : TablesText) (part : PartText) → says.asked ≡ true → Contains says.parts part →
    (front : List (List (List ℕ))) × (rest : List (List (List ℕ)))
    × (tables_lines says ≡ front ++ (codes "automaton" ∷ part.name ∷ decimal part.columns ∷ decimal (length part.rows) ∷ []) ∷ (codes "map" ∷ map decimal part.map) ∷ (codes "asks" ∷ part.asks) ∷ rest)
    × BeginsWithCountsOrRow part rest
asks_follow says part asked h =
    let is = of_part says part h in
    (is.0, (counts_lines part.counts ++ flat_map row_lines part.rows) ++ is.1, is.2 ∙ ap (λ (t : Bool). is.0 ++ (part_lines t part ++ is.1)) asked, follows part is.1)

pub none_follow : (says : TablesText) (part : PartText) → says.asked ≡ false → Contains says.parts part →
    (front : List (List (List ℕ))) × (rest : List (List (List ℕ)))
    × (tables_lines says ≡ front ++ (codes "automaton" ∷ part.name ∷ decimal part.columns ∷ decimal (length part.rows) ∷ []) ∷ (codes "map" ∷ map decimal part.map) ∷ rest)
    × BeginsWithCountsOrRow part rest
none_follow says part asked h =
    let is = of_part says part h in
    (is.0, (counts_lines part.counts ++ flat_map row_lines part.rows) ++ is.1, is.2 ∙ ap (λ (t : Bool). is.0 ++ (part_lines t part ++ is.1)) asked, follows part is.1)
