-- Forms that are written are read back, token by token.
use Rattle.std.proofs.Common.{◌≡◌, ℕ, zero, suc, ◌+◌, ◌-◌, ◌^◌, ◌<◌, ◌≤◌, ◌==◌, max, Bool, true, false, not, ◌&&◌, ◌||◌, nat_le, nat_lt, List, [], ◌∷◌, ◌++◌, length, replicate, decimal, ℤ, pos, negsuc, neg_ℤ, Option, Some, None, is_none, refl, sym, ap, ◌∙◌, subst, arith, rules, append_assoc, append-nil, ◌⊎◌, inl, inr, ⊎_elim}
use Rattle.std.specs.Char.{is_ascii_digit}
use Rattle.std.specs.List.{list_all, flat_map}
use Rattle.std.specs.Str.Parse.{digits_value}
use Rattle.std.proofs.lemmas.Bool.{and_parts, and_from, and_left, or_right, eqb-true, leb-true, le-leb, lt-ltb, ltb-true, ne_eqb, not-true}
use Rattle.std.proofs.lemmas.Fmt.{decimal_nonempty, digits_value-decimal}
use Rattle.std.proofs.lemmas.Str.Parse.{IsNumeralModel, numerals_by_value}
use Rattle.hz_base_model.specs.Forms.Forms.{round, square, OpenBracket, Token, opens, closes, leaf, spelled_tree, spelled, open_after_all, line_after, is_letter, is_mark, begins_comment, goes_on, Word, is_digit, is_digits, integer_of, is_in_range, is_string_byte, is_plain, Inside, Step, Reading, Reads}
use Rattle.hz_base_model.specs.Forms.Trees.{Tree, Trees, list, vector, atom, quoted, number, none, more, line_of}
use Rattle.hz_claims_laws.specs.Files.{string_text, integer_text, gap, end_of, end_of_all, form_text, forms_text, others_text, file_text, is_word_byte, is_word, is_printable, IsFrom, AreFrom, a_list, a_vector, an_atom, a_string, a_number, no_form, one_more, depth, greatest_depth}
use Rattle.hz_claims_laws.proofs.Words.{are_digits}

-- ---- words

no_comment : (b : ℕ) (text : List ℕ) → (b == 47) ≡ false → begins_comment (b ∷ text) ≡ false
no_comment b [] h = refl
no_comment b (c ∷ text) h = and_left (b == 47) (c == 42) h

goes : (b : ℕ) (text : List ℕ) → is_word_byte b ≡ true → goes_on (b ∷ text) ≡ true
goes b text h =
    let parts = and_parts (is_letter b) (not (b == 47)) h in
    and_from (is_letter b) (not (begins_comment (b ∷ text))) parts.0 (ap not (no_comment b text (not-true (b == 47) parts.1)))

word_read : (bytes rest : List ℕ) → list_all is_word_byte bytes ≡ true → goes_on rest ≡ false → Word (bytes ++ rest) bytes rest
word_read [] rest h k = Word.ends k
word_read (b ∷ bytes) rest h k =
    let parts = and_parts (is_word_byte b) (list_all is_word_byte bytes) h in
    Word.letter (goes b (bytes ++ rest) parts.0) (word_read bytes rest parts.1 k)

atom_step : (line : ℕ) (bytes rest : List ℕ) → is_word bytes ≡ true → goes_on rest ≡ false → Step line (bytes ++ rest) (leaf (atom line bytes) ∷ []) line rest
atom_step line [] rest h k = absurd (cc)
atom_step line (b ∷ bytes) rest h k =
    let parts = and_parts (list_all is_word_byte (b ∷ bytes)) (is_none (integer_of (b ∷ bytes))) h in
    Step.word (word_read (b ∷ bytes) rest parts.0 k) (no_integer (integer_of (b ∷ bytes)) parts.1)
  where
    no_integer : (o : Option ℤ) → is_none o ≡ true → o ≡ None
    no_integer None e = refl
    no_integer (Some value) e = absurd (cc)

-- ---- numbers

digit_word : (b : ℕ) → is_ascii_digit b ≡ true → is_word_byte b ≡ true
digit_word b h =
    let parts = and_parts (nat_le 48 b) (nat_le b 57) h in
    let low = leb-true 48 b parts.0 in
    let high = leb-true b 57 parts.1 in
    let other : (m : ℕ) → (m < 48) ⊎ (57 < m) → (b == m) ≡ false = λ m away. ne_eqb b m (λ e. ⊎_elim (λ l. absurd (omega (arith, e, l, low))) (λ g. absurd (omega (arith, e, g, high))) away) in
    let mark : is_mark b ≡ false = rw (other 40 (inl (omega arith)), other 41 (inl (omega arith)), other 91 (inr (omega arith)), other 93 (inr (omega arith)), other 123 (inr (omega arith)), other 125 (inr (omega arith)), other 34 (inl (omega arith)), other 59 (inr (omega arith))) refl in
    let letter : is_letter b ≡ true = and_from (nat_le 33 b && nat_le b 126) (not (is_mark b)) (and_from (nat_le 33 b) (nat_le b 126) (le-leb 33 b (omega (arith, low))) (le-leb b 126 (omega (arith, high)))) (ap not mark) in
    and_from (is_letter b) (not (b == 47)) letter (ap not (other 47 (inl (omega arith))))

digits_word : (bytes : List ℕ) → list_all is_ascii_digit bytes ≡ true → list_all is_word_byte bytes ≡ true
digits_word [] h = refl
digits_word (b ∷ bytes) h =
    let parts = and_parts (is_ascii_digit b) (list_all is_ascii_digit bytes) h in
    and_from (is_word_byte b) (list_all is_word_byte bytes) (digit_word b parts.0) (digits_word bytes parts.1)

are_number : (bytes : List ℕ) → list_all is_digit bytes ≡ true → 0 < length bytes → is_digits bytes ≡ true
are_number bytes h k = and_from (not (length bytes == 0)) (list_all is_digit bytes) (ap not (ne_eqb (length bytes) 0 (λ e. absurd (omega (arith, e, k))))) h

positive : (bytes : List ℕ) → list_all is_digit bytes ≡ true → 0 < length bytes → integer_of bytes ≡ Some (pos (digits_value 10 bytes))
positive [] h k = absurd (omega (arith, k))
positive (b ∷ bytes) h k =
    let low = leb-true 48 b (and_parts (nat_le 48 b) (nat_le b 57) (and_parts (is_digit b) (list_all is_digit bytes) h).0).0 in
    let no_sign : (b == 45 && is_digits bytes) ≡ false = and_left (b == 45) (is_digits bytes) (ne_eqb b 45 (λ e. absurd (omega (arith, e, low)))) in
    rw (no_sign, are_number (b ∷ bytes) h k) refl

negative : (bytes : List ℕ) → list_all is_digit bytes ≡ true → 0 < length bytes → integer_of (45 ∷ bytes) ≡ Some (neg_ℤ (pos (digits_value 10 bytes)))
negative bytes h k = rw (are_number bytes h k) refl

valued : IsNumeralModel (λ ds. list_all is_ascii_digit ds ≡ true) (digits_value 10)
valued = numerals_by_value _ (search rules)

number_step : (line : ℕ) (bytes rest : List ℕ) (value : ℤ) → list_all is_word_byte bytes ≡ true → 0 < length bytes → integer_of bytes ≡ Some value → is_in_range value ≡ true → goes_on rest ≡ false
    → Step line (bytes ++ rest) (leaf (number line value) ∷ []) line rest
number_step line [] rest value h some e r k = absurd (omega (arith, some))
number_step line (b ∷ bytes) rest value h some e r k = Step.numeral (word_read (b ∷ bytes) rest h k) e r

integer_step : (line : ℕ) (value : ℤ) (rest : List ℕ) → is_in_range value ≡ true → goes_on rest ≡ false → Step line (integer_text value ++ rest) (leaf (number line value) ∷ []) line rest
integer_step line (pos n) rest r k =
    let low : n < 2 ^ 64 = ltb-true n (2 ^ 64) r in
    let ds = are_digits n low in
    number_step line (decimal n) rest (pos n) (digits_word (decimal n) ds) (decimal_nonempty n low)
    (positive (decimal n) ds (decimal_nonempty n low) ∙ ap (λ (m : ℕ). Some (pos m)) (digits_value-decimal valued n low)) r k
integer_step line (negsuc n) rest r k =
    let less : n < 2 ^ 63 = ltb-true n (2 ^ 63) r in
    let low : suc n < 2 ^ 64 = omega (arith, less) in
    let ds = are_digits (suc n) low in
    let sign : is_word_byte 45 ≡ true = refl in
    number_step line (45 ∷ decimal (suc n)) rest (negsuc n) (and_from (is_word_byte 45) (list_all is_word_byte (decimal (suc n))) sign (digits_word (decimal (suc n)) ds)) (omega arith)
    (negative (decimal (suc n)) ds (decimal_nonempty (suc n) low) ∙ ap (λ (m : ℕ). Some (neg_ℤ (pos m))) (digits_value-decimal valued (suc n) low)) r k

-- ---- strings

printable_parts : (b : ℕ) → is_printable b ≡ true → (32 ≤ b) × (b ≤ 126)
printable_parts b h = let parts = and_parts (nat_le 32 b) (nat_le b 126) h in (leb-true 32 b parts.0, leb-true b 126 parts.1)

-- one byte and then the rest of the string
byte_read : (line b : ℕ) (text bytes end : List ℕ) → is_printable b ≡ true → Inside line text bytes line end → Inside line (string_text b ++ text) (b ∷ bytes) line end
byte_read line b text bytes end h inside = by_quote (b == 34) refl
  where
    same_line : line_after b line ≡ line
    same_line = let other : (b == 10) ≡ false = ne_eqb b 10 (λ e. absurd (omega (arith, e, (printable_parts b h).0))) in rw other refl

    plain_byte : (b == 34) ≡ false → (b == 92) ≡ false → is_plain b ≡ true
    plain_byte q s =
        let in_string : is_string_byte b ≡ true = or_right (b == 10 || b == 9) (nat_le 32 b && nat_le b 126) h in
        and_from (is_string_byte b && not (b == 34)) (not (b == 92)) (and_from (is_string_byte b) (not (b == 34)) in_string (ap not q)) (ap not s)

    by_slash : (b == 34) ≡ false → (t : Bool) → (b == 92) ≡ t → Inside line (string_text b ++ text) (b ∷ bytes) line end
    by_slash q true s =
        let is : 92 ≡ b = sym (eqb-true b 92 s) in
        subst (λ (c : ℕ). Inside line (string_text c ++ text) (c ∷ bytes) line end) is (Inside.escape {given = 92 ∷ []} refl inside)
    by_slash q false s =
        let one : b ∷ [] ≡ string_text b = rw (q, s) refl in
        subst (λ (xs : List ℕ). Inside line (xs ++ text) (b ∷ bytes) line end) one (Inside.plain (plain_byte q s) (subst (λ (l : ℕ). Inside l text bytes line end) (sym same_line) inside))

    by_quote : (t : Bool) → (b == 34) ≡ t → Inside line (string_text b ++ text) (b ∷ bytes) line end
    by_quote true q =
        let is : 34 ≡ b = sym (eqb-true b 34 q) in
        subst (λ (c : ℕ). Inside line (string_text c ++ text) (c ∷ bytes) line end) is (Inside.escape {given = 34 ∷ []} refl inside)
    by_quote false q = by_slash q (b == 92) refl

string_read : (line : ℕ) (bytes rest : List ℕ) → list_all is_printable bytes ≡ true → Inside line (flat_map string_text bytes ++ 34 ∷ rest) bytes line (34 ∷ rest)
string_read line [] rest h = Inside.stays
string_read line (b ∷ bytes) rest h =
    let parts = and_parts (is_printable b) (list_all is_printable bytes) h in
    subst (λ (xs : List ℕ). Inside line xs (b ∷ bytes) line (34 ∷ rest)) (sym (append_assoc (string_text b) (flat_map string_text bytes) (34 ∷ rest)))
    (byte_read line b (flat_map string_text bytes ++ 34 ∷ rest) bytes (34 ∷ rest) parts.0 (string_read line bytes rest parts.1))

-- ---- forms

moved : (line last : ℕ) (text other end : List ℕ) (tokens others : List Token) → text ≡ other → tokens ≡ others → Reading line text tokens last end → Reading line other others last end
moved line last text other end tokens others e f r =
    subst (λ (xs : List ℕ). Reading line xs others last end) e (subst (λ (ts : List Token). Reading line text ts last end) f r)

no_word : (line : ℕ) (forms : Trees) (rest : List ℕ) → goes_on rest ≡ false → goes_on (others_text line forms ++ rest) ≡ false
no_word line none rest h = h
no_word line (more first others) rest h = by_gap (line_of first - line)
  where
    by_gap : (n : ℕ) → goes_on ((gap n ++ (form_text first ++ others_text (end_of first) others)) ++ rest) ≡ false
    by_gap zero = refl
    by_gap (suc n) = refl

module _ (last : ℕ) (end : List ℕ) where
  feeds_read : (n line : ℕ) (rest : List ℕ) (tokens : List Token) → Reading (line + n) rest tokens last end → Reading line (replicate n 10 ++ rest) tokens last end
  feeds_read zero line rest tokens r = let same : line + 0 ≡ line = omega arith in subst (λ (l : ℕ). Reading l rest tokens last end) same r
  feeds_read (suc n) line rest tokens r =
      let same : line + suc n ≡ (line + 1) + n = omega arith in
      Reading.steps (Step.white refl) (feeds_read n (line + 1) rest tokens (subst (λ (l : ℕ). Reading l rest tokens last end) same r))

  gap_read : (n line : ℕ) (rest : List ℕ) (tokens : List Token) → Reading (line + n) rest tokens last end → Reading line (gap n ++ rest) tokens last end
  gap_read zero line rest tokens r = let same : line + 0 ≡ line = omega arith in Reading.steps (Step.white refl) (subst (λ (l : ℕ). Reading l rest tokens last end) same r)
  gap_read (suc n) line rest tokens r = feeds_read (suc n) line rest tokens r

  from_line : (line next : ℕ) (text : List ℕ) (tokens : List Token) → line ≤ next → Reading next text tokens last end → Reading (line + (next - line)) text tokens last end
  from_line line next text tokens h r = let same : next ≡ line + (next - line) = omega (arith, h) in subst (λ (l : ℕ). Reading l text tokens last end) same r

  begins : (now : ℕ) (form : Tree) → IsFrom now form → now ≤ line_of form
  begins now form (a_list low h) = low
  begins now form (a_vector low h) = low
  begins now form (an_atom low h) = low
  begins now form (a_string low h) = low
  begins now form (a_number low h) = low

  -- a form and those after it
  joined_read : (first : Tree) (others : Trees) (rest : List ℕ) (tokens : List Token) → Reading (line_of first) (form_text first ++ (others_text (end_of first) others ++ rest)) (spelled_tree first ++ (spelled others ++ tokens)) last end
      → Reading (line_of first) ((form_text first ++ others_text (end_of first) others) ++ rest) ((spelled_tree first ++ spelled others) ++ tokens) last end
  joined_read first others rest tokens r =
      moved (line_of first) last (form_text first ++ (others_text (end_of first) others ++ rest)) ((form_text first ++ others_text (end_of first) others) ++ rest) end (spelled_tree first ++ (spelled others ++ tokens)) ((spelled_tree first ++ spelled others) ++ tokens)
      (sym (append_assoc (form_text first) (others_text (end_of first) others) rest)) (sym (append_assoc (spelled_tree first) (spelled others) tokens)) r

  mutual
    form_read : (now : ℕ) (form : Tree) → IsFrom now form → (rest : List ℕ) (tokens : List Token) → goes_on rest ≡ false → Reading (end_of form) rest tokens last end → Reading (line_of form) (form_text form ++ rest) (spelled_tree form ++ tokens) last end
    form_read now form (a_list {line = line} {forms = forms} low h) rest tokens k r =
        moved line last (40 ∷ (forms_text line forms ++ 41 ∷ rest)) (40 ∷ ((forms_text line forms ++ 41 ∷ []) ++ rest)) end (opens round line ∷ (spelled forms ++ closes round ∷ tokens)) (opens round line ∷ ((spelled forms ++ closes round ∷ []) ++ tokens))
        (ap (λ (xs : List ℕ). 40 ∷ xs) (sym (append_assoc (forms_text line forms) (41 ∷ []) rest))) (ap (λ (ts : List Token). opens round line ∷ ts) (sym (append_assoc (spelled forms) (closes round ∷ []) tokens)))
        (Reading.steps (Step.opening refl) (forms_read line forms h (41 ∷ rest) (closes round ∷ tokens) refl (Reading.steps (Step.closing refl) r)))
    form_read now form (a_vector {line = line} {forms = forms} low h) rest tokens k r =
        moved line last (91 ∷ (forms_text line forms ++ 93 ∷ rest)) (91 ∷ ((forms_text line forms ++ 93 ∷ []) ++ rest)) end (opens square line ∷ (spelled forms ++ closes square ∷ tokens)) (opens square line ∷ ((spelled forms ++ closes square ∷ []) ++ tokens))
        (ap (λ (xs : List ℕ). 91 ∷ xs) (sym (append_assoc (forms_text line forms) (93 ∷ []) rest))) (ap (λ (ts : List Token). opens square line ∷ ts) (sym (append_assoc (spelled forms) (closes square ∷ []) tokens)))
        (Reading.steps (Step.opening refl) (forms_read line forms h (93 ∷ rest) (closes square ∷ tokens) refl (Reading.steps (Step.closing refl) r)))
    form_read now form (an_atom {line = line} {bytes = bytes} low h) rest tokens k r = Reading.steps (atom_step line bytes rest h k) r
    form_read now form (a_string {line = line} {bytes = bytes} low h) rest tokens k r =
        moved line last (34 ∷ (flat_map string_text bytes ++ 34 ∷ rest)) (34 ∷ ((flat_map string_text bytes ++ 34 ∷ []) ++ rest)) end (leaf (quoted line bytes) ∷ tokens) (leaf (quoted line bytes) ∷ tokens)
        (ap (λ (xs : List ℕ). 34 ∷ xs) (sym (append_assoc (flat_map string_text bytes) (34 ∷ []) rest))) refl
        (Reading.steps (Step.string refl (string_read line bytes rest h)) r)
    form_read now form (a_number {line = line} {value = value} low h) rest tokens k r = Reading.steps (integer_step line value rest h k) r

    forms_read : (now : ℕ) (forms : Trees) → AreFrom now forms → (rest : List ℕ) (tokens : List Token) → goes_on rest ≡ false → Reading (end_of_all now forms) rest tokens last end → Reading now (forms_text now forms ++ rest) (spelled forms ++ tokens) last end
    forms_read now forms no_form rest tokens k r = r
    forms_read now forms (one_more {first = first} {others = others} h hs) rest tokens k r =
        let both : List ℕ = form_text first ++ others_text (end_of first) others in
        subst (λ (xs : List ℕ). Reading now xs (spelled (more first others) ++ tokens) last end) (sym (append_assoc (replicate (line_of first - now) 10) both rest))
        (feeds_read (line_of first - now) now (both ++ rest) (spelled (more first others) ++ tokens) (from_line now (line_of first) (both ++ rest) (spelled (more first others) ++ tokens) (begins now first h) (joined_read first others rest tokens (form_read now first h (others_text (end_of first) others ++ rest) (spelled others ++ tokens) (no_word (end_of first) others rest k) (others_read (end_of first) others hs rest tokens k r)))))

    others_read : (now : ℕ) (forms : Trees) → AreFrom now forms → (rest : List ℕ) (tokens : List Token) → goes_on rest ≡ false → Reading (end_of_all now forms) rest tokens last end → Reading now (others_text now forms ++ rest) (spelled forms ++ tokens) last end
    others_read now forms no_form rest tokens k r = r
    others_read now forms (one_more {first = first} {others = others} h hs) rest tokens k r =
        let both : List ℕ = form_text first ++ others_text (end_of first) others in
        subst (λ (xs : List ℕ). Reading now xs (spelled (more first others) ++ tokens) last end) (sym (append_assoc (gap (line_of first - now)) both rest))
        (gap_read (line_of first - now) now (both ++ rest) (spelled (more first others) ++ tokens) (from_line now (line_of first) (both ++ rest) (spelled (more first others) ++ tokens) (begins now first h) (joined_read first others rest tokens (form_read now first h (others_text (end_of first) others ++ rest) (spelled others ++ tokens) (no_word (end_of first) others rest k) (others_read (end_of first) others hs rest tokens k r)))))

file_read : (forms : Trees) → AreFrom 1 forms → Reading 1 (file_text forms) (spelled forms ++ []) (end_of_all 1 forms + 1) []
file_read forms h = forms_read (end_of_all 1 forms + 1) [] 1 forms h (10 ∷ []) [] refl (Reading.steps (Step.white refl) Reading.stops)

-- ---- depth

mutual
  nests : (form : Tree) (opened : List OpenBracket) (rest : List Token) → length opened + depth form ≤ 64 → open_after_all opened (spelled_tree form ++ rest) ≡ open_after_all opened rest
  nests (list line forms) opened rest h =
      let low : length opened + suc (greatest_depth forms) ≤ 64 = h in
      let deeper : suc (length opened) + greatest_depth forms ≤ 64 = omega (arith, low) in
      let room : nat_lt (length opened) 64 ≡ true = lt-ltb (length opened) 64 (omega (arith, low)) in
      let inner : List OpenBracket = record { bracket = round; line = line } ∷ opened in
      rw room
      (ap (open_after_all inner) (append_assoc (spelled forms) (closes round ∷ []) rest) ∙ all_nest forms inner (closes round ∷ rest) deeper)
  nests (vector line forms) opened rest h =
      let low : length opened + suc (greatest_depth forms) ≤ 64 = h in
      let deeper : suc (length opened) + greatest_depth forms ≤ 64 = omega (arith, low) in
      let room : nat_lt (length opened) 64 ≡ true = lt-ltb (length opened) 64 (omega (arith, low)) in
      let inner : List OpenBracket = record { bracket = square; line = line } ∷ opened in
      rw room
      (ap (open_after_all inner) (append_assoc (spelled forms) (closes square ∷ []) rest) ∙ all_nest forms inner (closes square ∷ rest) deeper)
  nests (atom line bytes) opened rest h = refl
  nests (quoted line bytes) opened rest h = refl
  nests (number line value) opened rest h = refl

  all_nest : (forms : Trees) (opened : List OpenBracket) (rest : List Token) → length opened + greatest_depth forms ≤ 64 → open_after_all opened (spelled forms ++ rest) ≡ open_after_all opened rest
  all_nest none opened rest h = refl
  all_nest (more first others) opened rest h =
      let low : length opened + max (depth first) (greatest_depth others) ≤ 64 = h in
      ap (open_after_all opened) (append_assoc (spelled_tree first) (spelled others) rest)
      ∙ nests first opened (spelled others ++ rest) (omega (arith, low))
      ∙ all_nest others opened rest (omega (arith, low))

pub forms_back : (forms : Trees) → AreFrom 1 forms → greatest_depth forms ≤ 64 → Reads (file_text forms) forms
forms_back forms h deep =
    let whole = append-nil (spelled forms) in
    let room : 0 + greatest_depth forms ≤ 64 = omega (arith, deep) in
    record {
      last = end_of_all 1 forms + 1;
      reading = subst (λ (ts : List Token). Reading 1 (file_text forms) ts (end_of_all 1 forms + 1) []) whole (file_read forms h);
      nests = ap (open_after_all []) (sym whole) ∙ all_nest forms [] [] room;
    }
