-- Words that are written are read back.
use Rattle.std.proofs.Common.{◌≡◌, ℕ, ◌^◌, ◌<◌, ◌≤◌, ◌==◌, true, false, not, List, [], ◌∷◌, ◌++◌, map, decimal, All, Option, Some, refl, sym, ap, ◌∙◌, arith, rules, append_assoc}
use Rattle.std.specs.Char.{is_ascii_digit}
use Rattle.std.specs.List.{slice_split, list_all, onto_first, concat, flat_map}
use Rattle.std.proofs.lemmas.Bool.{and_parts, leb-true, ne_eqb, not-true}
use Rattle.std.proofs.lemmas.Fmt.{digits_decimal, digits_value-decimal}
use Rattle.std.proofs.lemmas.List.Elements.{All-nil, All-cons, All-head, All-tail}
use Rattle.std.proofs.lemmas.List.Splits.{slice_split_none, slice_split_at}
use Rattle.std.proofs.lemmas.Str.Parse.{IsNumeralModel, numerals_by_fold}
use Rattle.std.specs.Prelude.{⊤, nat_le, ◌&&◌}
use Rattle.hz_base_model.specs.Lines.{lines_of, number_from}
use Rattle.hz_claims_laws.specs.Reading.{words_of, IsWord, n, LineMeaning, line_meaning, meaning_of_number, read_answer}

own : IsNumeralModel (λ ds. list_all is_ascii_digit ds ≡ true) (number_from 0)
own = numerals_by_fold _ (search rules) number_from (search rules)

-- ---- numbers

pub are_digits : (m : ℕ) → m < 2 ^ 64 → list_all is_ascii_digit (decimal m) ≡ true
are_digits m low = digits_decimal own m low

pub number_back : (m : ℕ) → m < 2 ^ 64 → n (decimal m) ≡ m
number_back m low = digits_value-decimal own m low

digit_low : (b : ℕ) → is_ascii_digit b ≡ true → 48 ≤ b
digit_low b h = leb-true 48 b (and_parts (nat_le 48 b) (nat_le b 57) h).0

digits_all : (P : ℕ → Type 0) → ((b : ℕ) → 48 ≤ b → P b) → (bytes : List ℕ) → list_all is_ascii_digit bytes ≡ true → All P bytes
digits_all P each [] h = All-nil P
digits_all P each (b ∷ bytes) h =
    let parts = and_parts (is_ascii_digit b) (list_all is_ascii_digit bytes) h in
    All-cons P b bytes (each b (digit_low b parts.0)) (digits_all P each bytes parts.1)

pub number_word : (m : ℕ) → m < 2 ^ 64 → IsWord (decimal m)
number_word m low = record {
  no_space = digits_all (λ b. (b == 32) ≡ false) (λ b h. ne_eqb b 32 (λ e. absurd (omega (arith, e, h)))) (decimal m) (are_digits m low);
  no_feed = digits_all (λ b. (b == 10) ≡ false) (λ b h. ne_eqb b 10 (λ e. absurd (omega (arith, e, h)))) (decimal m) (are_digits m low);
}

-- ---- lines of words

-- words with a space between each two and a line feed at the end, before a rest
abbrev pub spaced : List ℕ → List (List ℕ) → List ℕ → List ℕ
spaced word [] rest = word ++ 10 ∷ rest
spaced word (next ∷ words) rest = word ++ 32 ∷ spaced next words rest

-- a line is up to its line feed
line_first : (xs rest : List ℕ) → All (λ b. (b == 10) ≡ false) xs → lines_of (xs ++ 10 ∷ rest) ≡ xs ∷ lines_of rest
line_first [] rest h = refl
line_first (b ∷ xs) rest h =
    rw (All-head (λ b. (b == 10) ≡ false) b xs h) (ap (onto_first b) (line_first xs rest (All-tail (λ b. (b == 10) ≡ false) b xs h)))

-- the words of a line, without its line feed
abbrev joined : List ℕ → List (List ℕ) → List ℕ
joined word [] = word
joined word (next ∷ words) = word ++ 32 ∷ joined next words

ends : (word : List ℕ) (words : List (List ℕ)) (rest : List ℕ) → spaced word words rest ≡ joined word words ++ 10 ∷ rest
ends word [] rest = refl
ends word (next ∷ words) rest = ap (λ (xs : List ℕ). word ++ 32 ∷ xs) (ends next words rest) ∙ sym (append_assoc word (32 ∷ joined next words) (10 ∷ rest))

All-append : (P : ℕ → Type 0) (xs ys : List ℕ) → All P xs → All P ys → All P (xs ++ ys)
All-append P [] ys h k = k
All-append P (x ∷ xs) ys h k = All-cons P x (xs ++ ys) (All-head P x xs h) (All-append P xs ys (All-tail P x xs h) k)

no_feeds : (word : List ℕ) (words : List (List ℕ)) → IsWord word → All IsWord words → All (λ b. (b == 10) ≡ false) (joined word words)
no_feeds word [] h k = h.no_feed
no_feeds word (next ∷ words) h k =
    All-append (λ b. (b == 10) ≡ false) word (32 ∷ joined next words) h.no_feed
    (All-cons (λ b. (b == 10) ≡ false) 32 (joined next words) refl (no_feeds next words (All-head IsWord next words k) (All-tail IsWord next words k)))

words_apart : (word : List ℕ) (words : List (List ℕ)) → IsWord word → All IsWord words → slice_split (λ b. b == 32) (joined word words) ≡ word ∷ words
words_apart word [] h k = slice_split_none (λ b. b == 32) word h.no_space
words_apart word (next ∷ words) h k =
    slice_split_at (λ b. b == 32) word 32 (joined next words) h.no_space refl
    ∙ ap (λ (ws : List (List ℕ)). word ∷ ws) (words_apart next words (All-head IsWord next words k) (All-tail IsWord next words k))

-- a line is its words
pub line_back : (word : List ℕ) (words : List (List ℕ)) (rest : List ℕ) → IsWord word → All IsWord words → words_of (spaced word words rest) ≡ (word ∷ words) ∷ words_of rest
line_back word words rest h k =
    ap words_of (ends word words rest)
    ∙ ap (map (slice_split (λ b. b == 32))) (line_first (joined word words) rest (no_feeds word words h k))
    ∙ ap (λ (ws : List (List ℕ)). ws ∷ words_of rest) (words_apart word words h k)

-- pieces and a rest, one after another
abbrev pub onto : List (List ℕ) → List ℕ → List ℕ
onto [] rest = rest
onto (piece ∷ pieces) rest = piece ++ onto pieces rest

pub concat_onto : (pieces : List (List ℕ)) (rest : List ℕ) → concat pieces ++ rest ≡ onto pieces rest
concat_onto [] rest = refl
concat_onto (piece ∷ pieces) rest = append_assoc piece (concat pieces) rest ∙ ap (λ (xs : List ℕ). piece ++ xs) (concat_onto pieces rest)

-- words, one by one
abbrev pub AreWords : List (List ℕ) → Type 0
AreWords [] = ⊤
AreWords (word ∷ words) = IsWord word × AreWords words

all_words : (words : List (List ℕ)) → AreWords words → All IsWord words
all_words [] h = All-nil IsWord
all_words (word ∷ words) h = All-cons IsWord word words h.0 (all_words words h.1)

-- a word that is spelled out
pub literal : (word : List ℕ) → list_all (λ b. not (b == 32) && not (b == 10)) word ≡ true → IsWord word
literal word h = record {
  no_space = each (λ b. (b == 32) ≡ false) (λ b k. not-true (b == 32) (and_parts (not (b == 32)) (not (b == 10)) k).0) word h;
  no_feed = each (λ b. (b == 10) ≡ false) (λ b k. not-true (b == 10) (and_parts (not (b == 32)) (not (b == 10)) k).1) word h;
}
  where
    each : (P : ℕ → Type 0) → ((b : ℕ) → (not (b == 32) && not (b == 10)) ≡ true → P b) → (bytes : List ℕ) → list_all (λ b. not (b == 32) && not (b == 10)) bytes ≡ true → All P bytes
    each P is [] k = All-nil P
    each P is (b ∷ bytes) k =
        let parts = and_parts (not (b == 32) && not (b == 10)) (list_all (λ b. not (b == 32) && not (b == 10)) bytes) k in
        All-cons P b bytes (is b parts.0) (each P is bytes parts.1)

-- ---- lines with their meanings

-- a line of pieces that are these words tells what the words tell
pub line_reported : (pieces : List (List ℕ)) (word : List ℕ) (words : List (List ℕ)) (rest : List ℕ) (t : Option LineMeaning)
    → onto pieces rest ≡ spaced word words rest → IsWord word → AreWords words → line_meaning (word ∷ words) ≡ t → read_answer (concat pieces ++ rest) ≡ t ∷ read_answer rest
line_reported pieces word words rest t same h k e =
    ap read_answer (concat_onto pieces rest ∙ same)
    ∙ ap (map line_meaning) (line_back word words rest h (all_words words k))
    ∙ ap (λ (o : Option LineMeaning). o ∷ read_answer rest) e

-- a line of words tells what the words tell
pub words_reported : (word : List ℕ) (words : List (List ℕ)) (rest : List ℕ) (t : Option LineMeaning) → IsWord word → AreWords words → line_meaning (word ∷ words) ≡ t → read_answer (spaced word words rest) ≡ t ∷ read_answer rest
words_reported word words rest t h k e = ap (map line_meaning) (line_back word words rest h (all_words words k)) ∙ ap (λ (o : Option LineMeaning). o ∷ read_answer rest) e

-- a line that begins with a number
pub first_number : (m : ℕ) (words : List (List ℕ)) → m < 2 ^ 64 → line_meaning (decimal m ∷ words) ≡ meaning_of_number (decimal m) words
first_number m words low = rw (are_digits m low) refl

-- a line for each item, and then a rest
pub each_reported : {A : Type 0} (line : A → List ℕ) (tell : A → LineMeaning) (IsIn : A → Type 0)
    → ((x : A) (rest : List ℕ) → IsIn x → read_answer (line x ++ rest) ≡ Some (tell x) ∷ read_answer rest)
    → (xs : List A) (rest : List ℕ) → All IsIn xs → read_answer (flat_map line xs ++ rest) ≡ map (λ x. Some (tell x)) xs ++ read_answer rest
each_reported line tell IsIn one [] rest h = refl
each_reported {A} line tell IsIn one (x ∷ xs) rest h =
    ap read_answer (append_assoc (line x) (flat_map line xs) rest)
    ∙ one x (flat_map line xs ++ rest) (All-head IsIn x xs h)
    ∙ ap (λ (os : List (Option LineMeaning)). Some (tell x) ∷ os) (each_reported line tell IsIn one xs rest (All-tail IsIn x xs h))
