-- Lines that are spelled from fields are cut into these fields, and texts into these lines.
use Rattle.std.proofs.Common.{◌≡◌, ℕ, ◌^◌, ◌<◌, ◌≤◌, Bool, true, false, cond, not, nat_lt, nat_le, List, [], ◌∷◌, ◌++◌, map, Ok, All, refl, sym, ap, ◌∙◌, arith, append_assoc, decimal}
use Rattle.std.specs.Prelude.{◌==◌, ◌&&◌}
use Rattle.std.specs.Char.{is_ascii_digit}
use Rattle.std.specs.List.{list_all, join_with_byte, onto_first, flat_map}
use Rattle.std.specs.Str.{bytes_eq}
use Rattle.std.proofs.lemmas.Bool.{and_parts, and_from, leb-true, ltb-true, lt-ltb, ne_eqb}
use Rattle.std.proofs.lemmas.List.Elements.{All-nil, All-cons, All-append}
use Rattle.std.proofs.lemmas.List.Folds.{list_all-append}
use Rattle.std.proofs.lemmas.List.Splits.{slice_split_none, slice_split_at, join_with_byte-slice_split}
use Rattle.std.proofs.lemmas.Slice.Eq.{bytes_eq-Decides}
use Rattle.hz_base_model.specs.Names.{is_name, is_name_byte, is_separator}
use Rattle.hz_tabtext_model.specs.Judging.{Kind, bad_line}
use Rattle.hz_tabtext_model.specs.Fields.{is_nil, fields_of, beyond, operands, only}
use Rattle.hz_tabtext_model.specs.Texts.{joined, line_text}
use Rattle.hz_tabtext_model.specs.Reading.{lines_in}
use Rattle.hz_tabtext_model.proofs.Steps.{guard_ok, ok_is}
use Rattle.hz_tabtext_model.proofs.Numbers.{digits_of_decimal}

-- ---- what stands in a field

-- a byte that is above the blank
abbrev pub is_visible : ℕ → Bool
is_visible b = nat_lt 32 b

-- one or more such bytes
abbrev pub is_field : List ℕ → Bool
is_field field = not (is_nil field) && list_all is_visible field

list_all_weaker : {X : Type 0} (p q : X → Bool) → ((x : X) → p x ≡ true → q x ≡ true) → (xs : List X) → list_all p xs ≡ true → list_all q xs ≡ true
list_all_weaker p q one [] h = refl
list_all_weaker p q one (x ∷ xs) h = let parts = and_parts (p x) (list_all p xs) h in and_from (q x) (list_all q xs) (one x parts.0) (list_all_weaker p q one xs parts.1)

visible_digit : (b : ℕ) → is_ascii_digit b ≡ true → is_visible b ≡ true
visible_digit b h = let parts = and_parts (nat_le 48 b) (nat_le b 57) h in let low = leb-true 48 b parts.0 in lt-ltb 32 b (omega arith)

visible_name_byte : (b : ℕ) → is_name_byte b ≡ true → is_visible b ≡ true
visible_name_byte b h =
    let parts = and_parts (nat_le 33 b && nat_le b 126) (not (is_separator b)) h in
    let low = leb-true 33 b (and_parts (nat_le 33 b) (nat_le b 126) parts.0).0 in
    lt-ltb 32 b (omega arith)

pub name_is_field : (name : List ℕ) → is_name name ≡ true → is_field name ≡ true
name_is_field [] h = absurd (cc)
name_is_field (b ∷ bs) h = list_all_weaker is_name_byte is_visible visible_name_byte (b ∷ bs) h

pub visible_decimal : (n : ℕ) → n < 2 ^ 64 → list_all is_visible (decimal n) ≡ true
visible_decimal n lt = list_all_weaker is_ascii_digit is_visible visible_digit (decimal n) (digits_of_decimal n lt)

-- what ends visibly is a field
pub append_is_field : (xs ys : List ℕ) → list_all is_visible xs ≡ true → is_field ys ≡ true → is_field (xs ++ ys) ≡ true
append_is_field [] ys h k = k
append_is_field (x ∷ xs) ys h k = rw list_all-append (and_from (list_all is_visible (x ∷ xs)) (list_all is_visible ys) h (and_parts (not (is_nil ys)) (list_all is_visible ys) k).1)

-- ---- a line and its fields

-- no byte is this one
abbrev Without : ℕ → List ℕ → Type 0
Without c bytes = All (λ b. (b == c) ≡ false) bytes

visible_without : (c : ℕ) → c ≤ 32 → (bytes : List ℕ) → list_all is_visible bytes ≡ true → Without c bytes
visible_without c small [] h = All-nil (λ b. (b == c) ≡ false)
visible_without c small (b ∷ bs) h =
    let parts = and_parts (is_visible b) (list_all is_visible bs) h in
    let low = ltb-true 32 b parts.0 in
    All-cons (λ b. (b == c) ≡ false) b bs (ne_eqb b c (λ e. omega (arith, low, e))) (visible_without c small bs parts.1)

field_without : (c : ℕ) → c ≤ 32 → (field : List ℕ) → is_field field ≡ true → Without c field
field_without c small field h = visible_without c small field (and_parts (not (is_nil field)) (list_all is_visible field) h).1

pub fields_joined : (field : List ℕ) (fields : List (List ℕ)) → list_all is_field (field ∷ fields) ≡ true → fields_of (joined (field ∷ fields)) ≡ field ∷ fields
unfolding joined
fields_joined field [] h = slice_split_none (λ b. b == 32) field (field_without 32 (omega arith) field (and_parts (is_field field) true h).0)
fields_joined field (other ∷ fields) h =
    let parts = and_parts (is_field field) (list_all is_field (other ∷ fields)) h in
    slice_split_at (λ b. b == 32) field 32 (join_with_byte 32 (other ∷ fields)) (field_without 32 (omega arith) field parts.0) refl ∙ ap (λ fs. field ∷ fs) (fields_joined other fields parts.1)

-- a line is joined from its fields
pub joined_fields : (line : List ℕ) → joined (fields_of line) ≡ line
unfolding joined
joined_fields line = join_with_byte-slice_split 32 line

joined_without : (fields : List (List ℕ)) → list_all is_field fields ≡ true → Without 10 (joined fields)
unfolding joined
joined_without [] h = All-nil (λ b. (b == 10) ≡ false)
joined_without (field ∷ []) h = field_without 10 (omega arith) field (and_parts (is_field field) true h).0
joined_without (field ∷ other ∷ fields) h =
    let parts = and_parts (is_field field) (list_all is_field (other ∷ fields)) h in
    All-append (λ b. (b == 10) ≡ false) field (32 ∷ join_with_byte 32 (other ∷ fields)) (field_without 10 (omega arith) field parts.0) (All-cons (λ b. (b == 10) ≡ false) 32 (join_with_byte 32 (other ∷ fields)) refl (joined_without (other ∷ fields) parts.1))

-- ---- the word of a line

after_takes : (word : List ℕ) (all fields : List (List ℕ)) → beyond word all ≡ Ok fields → all ≡ word ∷ fields
after_takes word [] fields e = absurd (cc)
after_takes word (first ∷ rest) fields e =
    let g = guard_ok (bytes_eq first word && list_all (λ field. not (is_nil field)) rest) (Ok rest) bad_line fields e in
    let same = (bytes_eq-Decides first word).0 (and_parts (bytes_eq first word) (list_all (λ field. not (is_nil field)) rest) g.0).0 in
    ap (λ (w : List ℕ). w ∷ rest) same ∙ ap (λ (fs : List (List ℕ)). word ∷ fs) (ok_is {E = Kind} rest fields g.1)

pub operands_take : (word line : List ℕ) (fields : List (List ℕ)) → operands word line ≡ Ok fields → line ≡ joined (word ∷ fields)
unfolding operands
operands_take word line fields e = sym (joined_fields line) ∙ ap joined (after_takes word (fields_of line) fields e)

some_fields : (fields : List (List ℕ)) → list_all is_field fields ≡ true → list_all (λ field. not (is_nil field)) fields ≡ true
some_fields fields h = list_all_weaker is_field (λ field. not (is_nil field)) (λ field f. (and_parts (not (is_nil field)) (list_all is_visible field) f).0) fields h

pub operands_again : (word : List ℕ) (fields : List (List ℕ)) → is_field word ≡ true → list_all is_field fields ≡ true → operands word (joined (word ∷ fields)) ≡ Ok fields
unfolding operands
operands_again word fields h k =
    let cut = fields_joined word fields (and_from (is_field word) (list_all is_field fields) h k) in
    let same : bytes_eq word word ≡ true = (bytes_eq-Decides word word).1 refl in
    let some = some_fields fields k in
    rw (cut, same, some) refl

pub only_takes : (fields : List (List ℕ)) (field : List ℕ) → only fields ≡ Ok field → fields ≡ field ∷ []
only_takes [] field e = absurd (cc)
only_takes (first ∷ []) field e = ap (λ (f : List ℕ). f ∷ []) (ok_is {E = Kind} first field e)
only_takes (first ∷ second ∷ rest) field e = absurd (cc)

-- ---- a text and its lines

-- each line has fields, all of them visible
abbrev pub AreLines : List (List (List ℕ)) → Type 0
AreLines lines = list_all (list_all is_field) lines ≡ true

pub lines_spelled : (lines : List (List (List ℕ))) → AreLines lines → lines_in (flat_map line_text lines) ≡ map joined lines ++ [] ∷ []
lines_spelled [] h = refl
lines_spelled (line ∷ lines) h =
    let parts = and_parts (list_all is_field line) (list_all (list_all is_field) lines) h in
    ap lines_in (append_assoc (joined line) (10 ∷ []) (flat_map line_text lines))
    ∙ (slice_split_at (λ b. b == 10) (joined line) 10 (flat_map line_text lines) (joined_without line parts.0) refl
    ∙ ap (λ ls. joined line ∷ ls) (lines_spelled lines parts.1))

joined_lines : (lines : List (List (List ℕ))) → join_with_byte 10 (map joined lines ++ [] ∷ []) ≡ flat_map line_text lines
joined_lines [] = refl
joined_lines (line ∷ []) = sym (append_assoc (joined line) (10 ∷ []) [])
joined_lines (line ∷ other ∷ lines) = ap (λ (bs : List ℕ). joined line ++ 10 ∷ bs) (joined_lines (other ∷ lines)) ∙ sym (append_assoc (joined line) (10 ∷ []) (flat_map line_text (other ∷ lines)))

pub text_of_lines : (text : List ℕ) (lines : List (List (List ℕ))) → lines_in text ≡ map joined lines ++ [] ∷ [] → text ≡ flat_map line_text lines
text_of_lines text lines e = sym (join_with_byte-slice_split 10 text) ∙ (ap (join_with_byte 10) e ∙ joined_lines lines)

pub some_lines : (text : List ℕ) → is_nil (lines_in text) ≡ false
some_lines [] = refl
some_lines (b ∷ bs) = cond_some (b == 10) (lines_in bs)
  where
    cond_some : (t : Bool) (others : List (List ℕ)) → is_nil (cond t ([] ∷ others) (onto_first b others)) ≡ false
    cond_some true others = refl
    cond_some false [] = refl
    cond_some false (other ∷ others) = refl
