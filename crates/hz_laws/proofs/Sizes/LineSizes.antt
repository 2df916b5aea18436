-- How long lines are, and texts of lines.
use Rattle.std.proofs.Common.{◌≡◌, ℕ, ◌+◌, ◌*◌, ◌≤◌, List, [], ◌∷◌, ◌++◌, length, All, ap, ◌∙◌, arith, length-append}
use Rattle.std.specs.List.{sum_by, flat_map}
use Rattle.std.proofs.lemmas.Grind.{flat_map-append}
use Rattle.std.proofs.lemmas.List.Elements.{All-weaker}
use Rattle.std.proofs.lemmas.List.Sums.{sum_by-cons, sum_by-le}
use Rattle.hz_tabtext_model.specs.Texts.{joined, line_text}

-- the bytes of a line, and of a text of lines
abbrev pub line_bytes : List (List ℕ) → ℕ
line_bytes line = length (line_text line)

abbrev pub text_bytes : List (List (List ℕ)) → ℕ
text_bytes lines = length (flat_map line_text lines)

-- each field of a line is followed by a byte
pub line_is : (word : List ℕ) (fields : List (List ℕ)) → line_bytes (word ∷ fields) ≡ length word + 1 + sum_by (λ f. length f + 1) fields
unfolding joined
line_is word [] = omega (arith, length-append word (10 ∷ []))
line_is word (field ∷ fields) =
    let rest = line_is field fields in
    let cut = length-append (joined (field ∷ fields)) (10 ∷ []) in
    let first = length-append word (32 ∷ joined (field ∷ fields)) in
    omega (arith, first, cut, rest, length-append (word ++ 32 ∷ joined (field ∷ fields)) (10 ∷ []), sum_by-cons (λ f. length f + 1) field fields)

-- where no field but the first has more bytes than this
pub line_most : (most : ℕ) (word : List ℕ) (fields : List (List ℕ)) → All (λ f. length f ≤ most) fields → line_bytes (word ∷ fields) ≤ length word + 1 + length fields * (most + 1)
line_most most word fields short =
    let each : sum_by (λ f. length f + 1) fields ≤ length fields * (most + 1) = sum_by-le (λ f. length f + 1) (most + 1) fields (All-weaker (λ f. length f ≤ most) (λ f. length f + 1 ≤ most + 1) (λ f h. omega (arith, h)) fields short) in
    omega (arith, line_is word fields, each)

-- lines and more lines
pub text_more : (line : List (List ℕ)) (lines : List (List (List ℕ))) → text_bytes (line ∷ lines) ≡ line_bytes line + text_bytes lines
text_more line lines = length-append (line_text line) (flat_map line_text lines)

pub text_append : (lines others : List (List (List ℕ))) → text_bytes (lines ++ others) ≡ text_bytes lines + text_bytes others
text_append lines others = ap length (flat_map-append line_text lines others) ∙ length-append (flat_map line_text lines) (flat_map line_text others)
