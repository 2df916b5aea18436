-- The strings of a text together have no more bytes than it.
use Rattle.std.proofs.Common.{◌≡◌, ℕ, ◌+◌, ◌<◌, ◌≤◌, ◌==◌, Bool, true, false, cond, List, [], ◌∷◌, ◌++◌, length, Some, None, refl, arith, length-append}
use Rattle.hz_base_model.specs.Forms.Trees.{Tree, Trees, list, vector, atom, quoted, number, none, more}
use Rattle.hz_base_model.specs.Forms.Forms.{round, square, Token, closes, leaf, spelled_tree, spelled, escaped, Inside, Step, Reading, Reads}
use Rattle.hz_base_model.proofs.Forms.FormsFront.{step_shorter}
use Rattle.hz_laws.specs.Sizes.Extents.{bytes_of_strings, bytes_of_string}

-- the bytes of a token that is a string
abbrev token_bytes : Token → ℕ
token_bytes (leaf (quoted line bytes)) = length bytes
token_bytes _ = 0

abbrev tokens_bytes : List Token → ℕ
tokens_bytes [] = 0
tokens_bytes (token ∷ tokens) = token_bytes token + tokens_bytes tokens

tokens_append : (xs ys : List Token) → tokens_bytes (xs ++ ys) ≡ tokens_bytes xs + tokens_bytes ys
tokens_append [] ys = omega arith
tokens_append (x ∷ xs) ys = omega (arith, tokens_append xs ys)

-- an escape stands for a byte at most
escaped_short : (b : ℕ) (given : List ℕ) → escaped b ≡ Some given → length given ≤ 1
escaped_short b given e = by_byte (b == 10) (b == 34) (b == 92) e
  where
    by_byte : (feed quote slash : Bool) → cond feed (Some []) (cond quote (Some (34 ∷ [])) (cond slash (Some (92 ∷ [])) None)) ≡ Some given → length given ≤ 1
    by_byte true quote slash h = let same : [] ≡ given = cc in rw (← same) (omega arith)
    by_byte false true slash h = let same : 34 ∷ [] ≡ given = cc in rw (← same) (omega arith)
    by_byte false false true h = let same : 92 ∷ [] ≡ given = cc in rw (← same) (omega arith)
    by_byte false false false h = absurd (cc)

-- a part of a string and what is left
inside_fits : {line last : ℕ} {text bytes rest : List ℕ} → Inside line text bytes last rest → length bytes + length rest ≤ length text
inside_fits Inside.stays = omega arith
inside_fits (Inside.plain p i) = let h = inside_fits i in omega (arith, h)
inside_fits (Inside.escape {b = b} {given = given} {bytes = bytes} e i) =
    let h = inside_fits i in
    let k = escaped_short b given e in
    omega (arith, h, k, length-append given bytes)

-- what a step reads of a string, of a text of which it takes something
step_fits : {line last : ℕ} {text rest : List ℕ} {tokens : List Token} → length rest < length text → Step line text tokens last rest → tokens_bytes tokens + length rest ≤ length text
step_fits less (Step.white e) = omega (arith, less)
step_fits less (Step.line_comment e) = omega (arith, less)
step_fits less (Step.comment part) = omega (arith, less)
step_fits less (Step.opening e) = omega (arith, less)
step_fits less (Step.closing e) = omega (arith, less)
step_fits less (Step.word w e) = omega (arith, less)
step_fits less (Step.numeral w e k) = omega (arith, less)
step_fits less (Step.string e part) = let h = inside_fits part in omega (arith, h)

reading_fits : {line last : ℕ} {text rest : List ℕ} {tokens : List Token} → Reading line text tokens last rest → tokens_bytes tokens + length rest ≤ length text
reading_fits Reading.stops = omega arith
reading_fits (Reading.steps {tokens = tokens} {others} first reading) =
    let h = step_fits (step_shorter first) first in
    let k = reading_fits reading in
    omega (arith, h, k, tokens_append tokens others)

-- the strings of forms are those of their tokens
mutual
  tree_bytes : (form : Tree) → tokens_bytes (spelled_tree form) ≡ bytes_of_string form
  tree_bytes (list line forms) = omega (arith, tokens_append (spelled forms) (closes round ∷ []), trees_bytes forms)
  tree_bytes (vector line forms) = omega (arith, tokens_append (spelled forms) (closes square ∷ []), trees_bytes forms)
  tree_bytes (atom line bytes) = refl
  tree_bytes (quoted line bytes) = omega arith
  tree_bytes (number line value) = refl

  trees_bytes : (forms : Trees) → tokens_bytes (spelled forms) ≡ bytes_of_strings forms
  trees_bytes none = refl
  trees_bytes (more first others) = omega (arith, tokens_append (spelled_tree first) (spelled others), tree_bytes first, trees_bytes others)

pub strings_fit : (text : List ℕ) (forms : Trees) → Reads text forms → bytes_of_strings forms ≤ length text
strings_fit text forms reads = let h = reading_fits reads.reading in omega (arith, h, trees_bytes forms)
