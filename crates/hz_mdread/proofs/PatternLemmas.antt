-- The words of a pattern, and patterns one after another.
use Rattle.std.proofs.Common.{◌≡◌, ℕ, ◌+◌, ◌<◌, ◌≤◌, ◌==◌, Bool, true, false, ◌&&◌, cond, List, [], ◌∷◌, ◌++◌, length, get_or, drop, map, Some, None, refl, sym, ap, ◌∙◌, append_assoc, arith}
use Rattle.std.specs.Borrow.{Bor}
use Rattle.std.specs.List.{list_all}
use Rattle.std.proofs.lemmas.Bool.{eqb-true}
use Rattle.std.proofs.lemmas.List.Folds.{list_all-append}
use Rattle.std.proofs.lemmas.List.{drop_more, drop_all, append-nil}
use Rattle.hz_description_model.specs.Reading.DescriptionForms.{is_empty, words, kept, patterns_of}
use Rattle.hz_description_model.specs.Reading.DescriptionShape.{are_names, are_patterns}
use Rattle.hz_base_model.specs.Names.{is_name}
use Rattle.hz_base_model.specs.Names.{name_of}
use Rattle.hz_mdread.proofs.ListLemmas.{some_part}

-- the parts that are borrowed
abbrev pub now_all : List (Bor (List ℕ)) → List (List ℕ)
now_all parts = map (λ p. p.now) parts

no_name : (word : List ℕ) → name_of word ≡ None → is_name word ≡ false
no_name word e = go (is_name word) e
  where
    go : (b : Bool) → cond b (Some word) None ≡ None → b ≡ false
    go true h = absurd (cc)
    go false h = refl

and_false : (b : Bool) → (b && false) ≡ false
and_false true = refl
and_false false = refl

all_fail : (p : List ℕ → Bool) (before : List (List ℕ)) (word : List ℕ) (rest : List (List ℕ)) → p word ≡ false → list_all p (before ++ word ∷ rest) ≡ false
all_fail p [] word rest e = rw e refl
all_fail p (first ∷ before) word rest e = rw (all_fail p before word rest e) (and_false (p first))

-- a word that is no name spoils all
pub names_fail : (before : List (List ℕ)) (borrowed : List (Bor (List ℕ))) (i : ℕ) (d : Bor (List ℕ)) (all : List (List ℕ)) → i < length borrowed → before ++ now_all (drop i borrowed) ≡ all → name_of (get_or borrowed i d).now ≡ None
    → kept (list_all is_name all) all ≡ None
names_fail before borrowed i d all inside is e =
    let word = (get_or borrowed i d).now in
    rw (← is, drop_more borrowed i d inside, all_fail is_name before word (now_all (drop (i + 1) borrowed)) (no_name word e)) refl

some_name : (name word : List ℕ) → name_of word ≡ Some name → (name ≡ word) × (is_name word ≡ true)
some_name name word e = go (is_name word) e
  where
    go : (b : Bool) → cond b (Some word) None ≡ Some name → (name ≡ word) × (b ≡ true)
    go true h = (cc, refl)
    go false h = absurd (cc)

-- one more name
pub name_more : (before : List (List ℕ)) (borrowed : List (Bor (List ℕ))) (i : ℕ) (d : Bor (List ℕ)) (name : List ℕ) (all : List (List ℕ)) → i < length borrowed → name_of (get_or borrowed i d).now ≡ Some name
    → before ++ now_all (drop i borrowed) ≡ all → list_all is_name before ≡ true → ((before ++ name ∷ []) ++ now_all (drop (i + 1) borrowed) ≡ all) × (list_all is_name (before ++ name ∷ []) ≡ true)
name_more before borrowed i d name all inside e is good =
    let word = (get_or borrowed i d).now in
    let (same, named) = some_name name word e in
    let here = rw (drop_more borrowed i d inside) at is in
    (rw (same, append_assoc before (word ∷ []) (now_all (drop (i + 1) borrowed))) here, rw (same, list_all-append is_name before (word ∷ []), good, named) refl)

-- all of them are names
pub names_kept : (found : List (List ℕ)) (borrowed : List (Bor (List ℕ))) (i : ℕ) → length borrowed ≤ i → found ++ now_all (drop i borrowed) ≡ now_all borrowed → list_all is_name found ≡ true
    → Some found ≡ kept (list_all is_name (now_all borrowed)) (now_all borrowed)
names_kept found borrowed i past is good =
    let e : found ≡ now_all borrowed = sym (append-nil found) ∙ rw (drop_all i borrowed past) at is in
    let here : Some found ≡ kept (list_all is_name found) found = rw good refl in
    here ∙ ap (λ (names : List (List ℕ)). kept (list_all is_name names) names) e

-- without a word there is no pattern
pub none_kept : (borrowed : List (Bor (List ℕ))) (all : List (List ℕ)) → now_all borrowed ≡ all → (length borrowed == 0) ≡ true → kept (are_names all) all ≡ None
none_kept [] all is h = rw (← is) refl
none_kept (b ∷ borrowed) all is h = absurd (let e : length (b ∷ borrowed) ≡ 0 = eqb-true (length (b ∷ borrowed)) 0 h in omega arith)

-- of one word or more it is enough that each is a name
pub all_kept : (borrowed : List (Bor (List ℕ))) (all : List (List ℕ)) → now_all borrowed ≡ all → (length borrowed == 0) ≡ false → kept (list_all is_name (now_all borrowed)) (now_all borrowed) ≡ kept (are_names all) all
all_kept [] all is h = absurd (cc)
all_kept (b ∷ borrowed) all is h = rw (← is) refl

-- a part without bytes is empty
pub empty_is : (part : List ℕ) → (length part == 0) ≡ is_empty part
empty_is [] = refl
empty_is (b ∷ part) = go (length (b ∷ part) == 0) refl
  where
    go : (t : Bool) → (length (b ∷ part) == 0) ≡ t → t ≡ false
    go true e = absurd (let none : length (b ∷ part) ≡ 0 = eqb-true (length (b ∷ part)) 0 e in omega arith)
    go false e = refl

no_pattern : (names : List (List ℕ)) → kept (are_names names) names ≡ None → are_names names ≡ false
no_pattern names e = go (are_names names) e
  where
    go : (b : Bool) → kept b names ≡ None → b ≡ false
    go true h = absurd (cc)
    go false h = refl

patterns_all_fail : (before : List (List (List ℕ))) (pattern : List (List ℕ)) (rest : List (List (List ℕ))) → are_names pattern ≡ false → list_all are_names (before ++ pattern ∷ rest) ≡ false
patterns_all_fail [] pattern rest e = rw e refl
patterns_all_fail (first ∷ before) pattern rest e = rw (patterns_all_fail before pattern rest e) (and_false (are_names first))

-- the patterns of pieces that are borrowed
abbrev pub words_all : List (Bor (List ℕ)) → List (List (List ℕ))
words_all pieces = map words (now_all pieces)

patterns_spoilt : (before : List (List (List ℕ))) (pattern : List (List ℕ)) (rest : List (List (List ℕ))) → are_names pattern ≡ false → are_patterns (before ++ pattern ∷ rest) ≡ false
patterns_spoilt [] pattern rest e = patterns_all_fail [] pattern rest e
patterns_spoilt (first ∷ before) pattern rest e = patterns_all_fail (first ∷ before) pattern rest e

-- a piece that is no pattern spoils all
pub patterns_fail : (before : List (List (List ℕ))) (pieces : List (Bor (List ℕ))) (i : ℕ) (d : Bor (List ℕ)) (all : List (List (List ℕ))) → i < length pieces → before ++ words_all (drop i pieces) ≡ all
    → kept (are_names (words (get_or pieces i d).now)) (words (get_or pieces i d).now) ≡ None → kept (are_patterns all) all ≡ None
patterns_fail before pieces i d all inside is e =
    let word = words (get_or pieces i d).now in
    rw (← is, drop_more pieces i d inside, patterns_spoilt before word (words_all (drop (i + 1) pieces)) (no_pattern word e)) refl

some_pattern : (pattern word : List (List ℕ)) → Some pattern ≡ kept (are_names word) word → (pattern ≡ word) × (are_names word ≡ true)
some_pattern pattern word e = go (are_names word) e
  where
    go : (b : Bool) → Some pattern ≡ kept b word → (pattern ≡ word) × (b ≡ true)
    go true h = (cc, refl)
    go false h = absurd (cc)

-- one more pattern
pub pattern_more : (before : List (List (List ℕ))) (pieces : List (Bor (List ℕ))) (i : ℕ) (d : Bor (List ℕ)) (pattern : List (List ℕ)) (all : List (List (List ℕ))) → i < length pieces
    → Some pattern ≡ kept (are_names (words (get_or pieces i d).now)) (words (get_or pieces i d).now) → before ++ words_all (drop i pieces) ≡ all → list_all are_names before ≡ true
    → ((before ++ pattern ∷ []) ++ words_all (drop (i + 1) pieces) ≡ all) × (list_all are_names (before ++ pattern ∷ []) ≡ true)
pattern_more before pieces i d pattern all inside e is good =
    let word = words (get_or pieces i d).now in
    let (same, named) = some_pattern pattern word e in
    let here = rw (drop_more pieces i d inside) at is in
    (rw (same, append_assoc before (word ∷ []) (words_all (drop (i + 1) pieces))) here, rw (same, list_all-append are_names before (word ∷ []), good, named) refl)

-- all of them are patterns
pub patterns_kept : (text : List ℕ) (found : List (List (List ℕ))) (pieces : List (Bor (List ℕ))) (i : ℕ) → length pieces ≤ i → found ++ words_all (drop i pieces) ≡ patterns_of text → list_all are_names found ≡ true
    → Some found ≡ kept (are_patterns (patterns_of text)) (patterns_of text)
patterns_kept text found pieces i past is all =
    let e : found ≡ patterns_of text = sym (append-nil found) ∙ rw (drop_all i pieces past) at is in
    let (first, others, some) = some_part (λ b. b == 44) text in
    go (words first) (map words others) (e ∙ ap (map words) some) ∙ ap (λ ps. kept (are_patterns ps) ps) e
  where
    whole : (ps : List (List (List ℕ))) (first : List (List ℕ)) (others : List (List (List ℕ))) → ps ≡ first ∷ others → list_all are_names ps ≡ true → are_patterns ps ≡ true
    whole [] first others h k = absurd (cc)
    whole (p ∷ ps) first others h k = k

    go : (first : List (List ℕ)) (others : List (List (List ℕ))) → found ≡ first ∷ others → Some found ≡ kept (are_patterns found) found
    go first others h = rw (whole found first others h all) refl
