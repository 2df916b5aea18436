-- Names and patterns that are written are read back.
use Rattle.std.proofs.Common.{◌≡◌, ℕ, ◌-◌, ◌<◌, ◌≤◌, true, false, not, List, [], ◌∷◌, ◌++◌, length, All, Some, refl, sym, ap, ◌∙◌, subst, arith, ⊎_elim}
use Rattle.std.specs.Prelude.{◌==◌, ◌&&◌, ◌||◌, nat_le}
use Rattle.std.specs.Char.{is_ascii_whitespace}
use Rattle.std.specs.Int.{is_in_range}
use Rattle.std.specs.List.{join_with_byte, prefix_len, suffix_len, list_all}
use Rattle.std.proofs.lemmas.Bool.{and_parts, or_cases, not-true, false_from_ne_true, leb-true, ne_eqb}
use Rattle.std.proofs.lemmas.List.Elements.{All-nil, All-cons, All-head, All-tail}
use Rattle.std.proofs.lemmas.List.Splits.{slice_split_none, slice_split_at}
use Rattle.std.proofs.lemmas.List.Sums.{suffix_len_is}
use Rattle.std.proofs.Math.Seq.{take-length}
use Rattle.hz_base_model.specs.Lines.{trimmed, separated}
use Rattle.hz_base_model.specs.Names.{is_name, is_name_byte, is_separator}
use Rattle.hz_description_model.specs.Reading.DescriptionForms.{is_empty, words, names_of, patterns_of}
use Rattle.hz_description_model.specs.Reading.DescriptionShape.{are_names, are_patterns}
use Rattle.hz_laws.specs.Written.{listed, patterned}

-- ---- bytes of names

pub byte_low : (b : ℕ) → is_name_byte b ≡ true → 33 ≤ b
byte_low b h = leb-true 33 b (and_parts (nat_le 33 b) (nat_le b 126) (and_parts (nat_le 33 b && nat_le b 126) (not (is_separator b)) h).0).0

no_comma : (b : ℕ) → is_name_byte b ≡ true → (b == 44) ≡ false
no_comma b h =
    let free = not-true (is_separator b) (and_parts (nat_le 33 b && nat_le b 126) (not (is_separator b)) h).1 in
    ne_eqb b 44 (λ e. let is : is_separator b ≡ true = subst (λ (n : ℕ). is_separator n ≡ true) (sym e) refl in absurd (let both : true ≡ false = sym is ∙ free in cc))

in_range_low : (low high b : ℕ) → is_in_range low high b ≡ true → b ≤ high
in_range_low low high b h = leb-true b high (and_parts (nat_le low b) (nat_le b high) h).1

pub no_space : (b : ℕ) → 33 ≤ b → is_ascii_whitespace b ≡ false
no_space b h = false_from_ne_true (is_ascii_whitespace b) (λ e.
    ⊎_elim
    (λ x. ⊎_elim
    (λ y. let low = in_range_low 9 10 b y in absurd (omega (arith, low, h)))
    (λ y. let low = in_range_low 12 13 b y in absurd (omega (arith, low, h)))
    (or_cases (is_in_range 9 10 b) (is_in_range 12 13 b) x))
    (λ x. let low = in_range_low 32 32 b x in absurd (omega (arith, low, h)))
    (or_cases (is_in_range 9 10 b || is_in_range 12 13 b) (is_in_range 32 32 b) e))

-- what the bytes of a name are not
pub record IsPlain (name : List ℕ) : Type 0 where
  pub some : 0 < length name
  pub commas : All (λ b. (b == 44) ≡ false) name
  pub spaces : All (λ b. is_ascii_whitespace b ≡ false) name

all_bytes : (P : ℕ → Type 0) → ((b : ℕ) → is_name_byte b ≡ true → P b) → (bytes : List ℕ) → list_all is_name_byte bytes ≡ true → All P bytes
all_bytes P each [] h = All-nil P
all_bytes P each (b ∷ bytes) h =
    let parts = and_parts (is_name_byte b) (list_all is_name_byte bytes) h in
    All-cons P b bytes (each b parts.0) (all_bytes P each bytes parts.1)

pub plain : (name : List ℕ) → is_name name ≡ true → IsPlain name
plain [] h = absurd (cc)
plain (b ∷ bytes) h = record {
  some = omega arith;
  commas = all_bytes (λ b. (b == 44) ≡ false) no_comma (b ∷ bytes) h;
  spaces = all_bytes (λ b. is_ascii_whitespace b ≡ false) (λ b is. no_space b (byte_low b is)) (b ∷ bytes) h;
}

-- ---- one name

no_front : (bytes : List ℕ) → All (λ b. is_ascii_whitespace b ≡ false) bytes → prefix_len is_ascii_whitespace bytes ≡ 0
no_front [] h = refl
no_front (b ∷ bytes) h = rw (All-head (λ b. is_ascii_whitespace b ≡ false) b bytes h) refl

no_end : (bytes : List ℕ) → All (λ b. is_ascii_whitespace b ≡ false) bytes → suffix_len is_ascii_whitespace bytes ≡ 0
no_end bytes h =
    let is = suffix_len_is is_ascii_whitespace bytes (length bytes) 0 (omega arith) (λ k low high. absurd (omega (arith, low, high))) (λ some. h (length bytes - 1) 0 (omega (arith, some))) in
    omega (arith, is)

trimmed_plain : (name : List ℕ) → IsPlain name → trimmed name ≡ name
trimmed_plain name h =
    let all : length name - 0 ≡ length name = omega arith in
    rw (no_front name h.spaces, no_end name h.spaces, all) (take-length name)

-- ---- names between commas

pub list_back : (names : List (List ℕ)) → are_names names ≡ true → separated (listed names) ≡ names
list_back [] h = absurd (cc)
list_back (name ∷ []) h =
    let is = plain name (and_parts (is_name name) true h).0 in
    rw (slice_split_none (λ b. b == 44) name is.commas, trimmed_plain name is) refl
list_back (name ∷ next ∷ names) h =
    let parts = and_parts (is_name name) (list_all is_name (next ∷ names)) h in
    let is = plain name parts.0 in
    let more = list_back (next ∷ names) parts.1 in
    rw (slice_split_at (λ b. b == 44) name 44 (listed (next ∷ names)) is.commas refl, trimmed_plain name is) (ap (λ (others : List (List ℕ)). name ∷ others) more)

pub names_back : (names : List (List ℕ)) → are_names names ≡ true → names_of (listed names) ≡ Some names
names_back names h = rw (list_back names h, h) refl

-- ---- patterns between commas, their names between spaces

filled : (name : List ℕ) → 0 < length name → is_empty name ≡ false
filled [] h = absurd (omega (arith, h))
filled (b ∷ bytes) h = refl

pub words_back : (names : List (List ℕ)) → are_names names ≡ true → words (join_with_byte 32 names) ≡ names
words_back [] h = absurd (cc)
words_back (name ∷ []) h =
    let is = plain name (and_parts (is_name name) true h).0 in
    rw (slice_split_none is_ascii_whitespace name is.spaces, filled name is.some) refl
words_back (name ∷ next ∷ names) h =
    let parts = and_parts (is_name name) (list_all is_name (next ∷ names)) h in
    let is = plain name parts.0 in
    let more = words_back (next ∷ names) parts.1 in
    rw (slice_split_at is_ascii_whitespace name 32 (join_with_byte 32 (next ∷ names)) is.spaces refl, filled name is.some) (ap (λ (others : List (List ℕ)). name ∷ others) more)

-- no comma is in a pattern
All-append : (P : ℕ → Type 0) (xs ys : List ℕ) → All P xs → All P ys → All P (xs ++ ys)
All-append P [] ys h k = k
All-append P (x ∷ xs) ys h k = All-cons P x (xs ++ ys) (All-head P x xs h) (All-append P xs ys (All-tail P x xs h) k)

pattern_commas : (names : List (List ℕ)) → are_names names ≡ true → All (λ b. (b == 44) ≡ false) (join_with_byte 32 names)
pattern_commas [] h = absurd (cc)
pattern_commas (name ∷ []) h = (plain name (and_parts (is_name name) true h).0).commas
pattern_commas (name ∷ next ∷ names) h =
    let parts = and_parts (is_name name) (list_all is_name (next ∷ names)) h in
    All-append (λ b. (b == 44) ≡ false) name (32 ∷ join_with_byte 32 (next ∷ names)) (plain name parts.0).commas
    (All-cons (λ b. (b == 44) ≡ false) 32 (join_with_byte 32 (next ∷ names)) refl (pattern_commas (next ∷ names) parts.1))

pub patterns_back : (patterns : List (List (List ℕ))) → are_patterns patterns ≡ true → patterns_of (patterned patterns) ≡ patterns
patterns_back [] h = absurd (cc)
patterns_back (pattern ∷ []) h =
    let is = (and_parts (are_names pattern) true h).0 in
    rw (slice_split_none (λ b. b == 44) (join_with_byte 32 pattern) (pattern_commas pattern is), words_back pattern is) refl
patterns_back (pattern ∷ next ∷ patterns) h =
    let parts = and_parts (are_names pattern) (list_all are_names (next ∷ patterns)) h in
    let more = patterns_back (next ∷ patterns) parts.1 in
    rw (slice_split_at (λ b. b == 44) (join_with_byte 32 pattern) 44 (patterned (next ∷ patterns)) (pattern_commas pattern parts.0) refl, words_back pattern parts.0)
    (ap (λ (others : List (List (List ℕ))). pattern ∷ others) more)
