-- A text is longer than its forms are many, and than each of its strings.
use Rattle.std.proofs.Common.{◌≡◌, ℕ, ◌<◌, ◌≤◌, ◌==◌, Bool, true, false, ◌&&◌, cond, nat_lt, List, [], ◌∷◌, ◌++◌, length, Some, None, refl, arith, length-append}
use Rattle.std.proofs.lemmas.Bool.{lt-ltb}
use Rattle.std.proofs.lemmas.List.Folds.{list_all-append}
use Rattle.std.specs.Cmp.Derive.{both_true}
use Rattle.std.specs.List.{list_all}
use Rattle.hz_base_model.specs.Forms.Trees.{Tree, Trees, list, vector, atom, quoted, number, none, more}
use Rattle.hz_base_model.specs.Forms.Forms.{round, square, Token, closes, leaf, spelled_tree, spelled, escaped, Inside, Step, Reading, Reads}
use Rattle.hz_description_model.specs.Reading.DescriptionForms.{form_count, string_below, strings_below}
use Rattle.hz_base_model.proofs.Forms.FormsFront.{step_shorter}

pub first_true : (a b : Bool) → (a && b) ≡ true → a ≡ true
first_true true b e = refl
first_true false b e = absurd (cc)

pub second_true : (a b : Bool) → (a && b) ≡ true → b ≡ true
second_true true b e = e
second_true false b e = absurd (cc)

-- an escape stands for a byte at most
escaped_short : (b : ℕ) (given : List ℕ) → escaped b ≡ Some given → length given ≤ 1
escaped_short b given e = go (b == 10) (b == 34) (b == 92) e
  where
    go : (x y z : Bool) → cond x (Some []) (cond y (Some (34 ∷ [])) (cond z (Some (92 ∷ [])) None)) ≡ Some given → length given ≤ 1
    go true y z h = let same : [] ≡ given = cc in rw (← same) (omega arith)
    go false true z h = let same : 34 ∷ [] ≡ given = cc in rw (← same) (omega arith)
    go false false true h = let same : 92 ∷ [] ≡ given = cc in rw (← same) (omega arith)
    go false false false h = absurd (cc)

-- a part of a string has no more bytes than its text
inside_longer : {line last : ℕ} {text bytes rest : List ℕ} → Inside line text bytes last rest → length bytes ≤ length text
inside_longer Inside.stays = omega arith
inside_longer (Inside.plain p i) = let h = inside_longer i in omega arith
inside_longer (Inside.escape {b = b} {given = given} {bytes = bytes} e i) =
    let h = inside_longer i in
    let k = escaped_short b given e in
    omega (arith, length-append given bytes)

module _ (size : ℕ) where
  -- a token that is a string is short
  abbrev is_short : Token → Bool
  is_short (leaf (quoted line bytes)) = nat_lt (length bytes) size
  is_short _ = true

  step_short : {line last : ℕ} {text rest : List ℕ} {tokens : List Token} → Step line text tokens last rest → length text < size → list_all is_short tokens ≡ true
  step_short (Step.white e) h = refl
  step_short (Step.line_comment e) h = refl
  step_short (Step.comment part) h = refl
  step_short (Step.opening e) h = refl
  step_short (Step.closing e) h = refl
  step_short (Step.word w e) h = refl
  step_short (Step.numeral w e k) h = refl
  step_short (Step.string {bytes = bytes} e part) h = let k = inside_longer part in let low : nat_lt (length bytes) size ≡ true = lt-ltb (length bytes) size (omega arith) in rw low refl

  reading_short : {line last : ℕ} {text rest : List ℕ} {tokens : List Token} → Reading line text tokens last rest → length text < size → list_all is_short tokens ≡ true
  reading_short Reading.stops h = refl
  reading_short (Reading.steps {tokens = tokens} {others} first reading) h =
      let k = step_shorter first in
      rw (list_all-append is_short tokens others) (both_true (step_short first h) (reading_short reading (omega arith)))

  first_part : (xs ys : List Token) → list_all is_short (xs ++ ys) ≡ true → list_all is_short xs ≡ true
  first_part xs ys h = first_true (list_all is_short xs) (list_all is_short ys) (rw (list_all-append is_short xs ys) at h)

  second_part : (xs ys : List Token) → list_all is_short (xs ++ ys) ≡ true → list_all is_short ys ≡ true
  second_part xs ys h = second_true (list_all is_short xs) (list_all is_short ys) (rw (list_all-append is_short xs ys) at h)

  -- the strings of forms whose tokens are short
  mutual
    tree_short : (form : Tree) → list_all is_short (spelled_tree form) ≡ true → string_below size form ≡ true
    tree_short (list line forms) h = trees_short forms (first_part (spelled forms) (closes round ∷ []) h)
    tree_short (vector line forms) h = trees_short forms (first_part (spelled forms) (closes square ∷ []) h)
    tree_short (atom line bytes) h = refl
    tree_short (quoted line bytes) h = first_true (nat_lt (length bytes) size) true h
    tree_short (number line value) h = refl

    trees_short : (forms : Trees) → list_all is_short (spelled forms) ≡ true → strings_below size forms ≡ true
    trees_short none h = refl
    trees_short (more first others) h =
        both_true (tree_short first (first_part (spelled_tree first) (spelled others) h)) (trees_short others (second_part (spelled_tree first) (spelled others) h))

  pub strings_short : (text : List ℕ) (forms : Trees) → Reads text forms → length text < size → strings_below size forms ≡ true
  strings_short text forms r h = trees_short forms (reading_short r.reading h)

-- there are no more tokens than bytes
step_many : {line last : ℕ} {text rest : List ℕ} {tokens : List Token} → Step line text tokens last rest → length tokens ≤ 1
step_many (Step.white e) = omega arith
step_many (Step.line_comment e) = omega arith
step_many (Step.comment part) = omega arith
step_many (Step.opening e) = omega arith
step_many (Step.closing e) = omega arith
step_many (Step.word w e) = omega arith
step_many (Step.numeral w e k) = omega arith
step_many (Step.string e part) = omega arith

reading_many : {line last : ℕ} {text rest : List ℕ} {tokens : List Token} → Reading line text tokens last rest → length tokens ≤ length text
reading_many Reading.stops = omega arith
reading_many (Reading.steps {tokens = tokens} {others} first reading) =
    let h = step_shorter first in
    let k = step_many first in
    let m = reading_many reading in
    omega (arith, length-append tokens others)

-- and no more forms than tokens
some_token : (form : Tree) → 0 < length (spelled_tree form)
some_token (list line forms) = omega arith
some_token (vector line forms) = omega arith
some_token (atom line bytes) = omega arith
some_token (quoted line bytes) = omega arith
some_token (number line value) = omega arith

forms_many : (forms : Trees) → form_count forms ≤ length (spelled forms)
forms_many none = omega arith
forms_many (more first others) =
    let h = some_token first in
    let k = forms_many others in
    omega (arith, length-append (spelled_tree first) (spelled others))

pub forms_few : (text : List ℕ) (forms : Trees) (size : ℕ) → Reads text forms → length text < size → form_count forms < size
forms_few text forms size r h = let k = forms_many forms in let m = reading_many r.reading in omega arith
