-- What comes next in a text, as a function: each step and each fault is what it says, and it always says one.
use Rattle.std.proofs.Common.{◌≡◌, ℕ, Bool, true, false, cond, List, [], ◌∷◌, ◌++◌, length, drop, not, refl, sym, ap, ◌∙◌, subst, Option, Some, None, ◌⊎◌, inl, inr}
use Rattle.std.specs.Prelude.{IsTrue, ◌&&◌, ◌==◌, nat_lt, ℤ}
use Rattle.std.specs.Option.{option_and_then}
use Rattle.std.proofs.lemmas.Bool.{cases_Bool, eqb-true, and_parts, not-true}
use Rattle.hz_base_model.specs.Forms.Trees.{atom, quoted, number}
use Rattle.hz_base_model.specs.Forms.Forms.{Bracket, round, square, OpenBracket, Token, opens, closes, leaf, depth_limit, closed, open_after_all, line_after, Role, role, blank, semicolon, quote, letter, foreign, opener, closer, is_letter, begins_comment, ends_comment, goes_on, Word, integer_of, is_in_range, is_plain, is_string_byte, escaped, Inside, Comment, line_end, Step, FormFault, unclosed, stray, bad_escape, too_deep, bad_byte, number_too_large, Faulty}

-- what stands next: a step, with the brackets that are open after it, or the end with or without a fault
pub data Next : Type 0 where
  goes : (opened : List OpenBracket) (tokens : List Token) (last : ℕ) (rest : List ℕ) → Next
  stops : (fault : Option (FormFault × ℕ)) → Next

-- the bytes of a word, and what is left
abbrev pub word_scan : List ℕ → List ℕ × List ℕ
word_scan [] = ([], [])
word_scan (b ∷ text) = cond (goes_on (b ∷ text)) (b ∷ (word_scan text).0, (word_scan text).1) ([], b ∷ text)

pub word_is : {text bytes rest : List ℕ} → Word text bytes rest → word_scan text ≡ (bytes, rest)
word_is (Word.ends {rest = []} h) = refl
word_is (Word.ends {rest = b ∷ text} h) = rw h refl
word_is (Word.letter h word) = rw (h, word_is word) refl

pub is_word : (text : List ℕ) → Word text (word_scan text).0 (word_scan text).1
is_word [] = Word.ends refl
is_word (b ∷ text) = elim (cases_Bool (goes_on (b ∷ text))) [ inl h ↦ rw h (Word.letter h (is_word text)) | inr h ↦ rw h (Word.ends h) ]

-- a part of a comment, as long as it goes on
abbrev pub comment_scan : ℕ → List ℕ → ℕ × List ℕ
comment_scan line [] = (line, [])
comment_scan line (b ∷ text) = cond (ends_comment (b ∷ text)) (line, b ∷ text) (comment_scan (line_after b line) text)

pub comment_is : {line last : ℕ} {text rest : List ℕ} → Comment line text last (42 ∷ 47 ∷ rest) → comment_scan line text ≡ (last, 42 ∷ 47 ∷ rest)
comment_is Comment.stays = refl
comment_is (Comment.goes h part) = rw (h, comment_is part) refl

pub open_comment_is : {line last : ℕ} {text : List ℕ} → Comment line text last [] → comment_scan line text ≡ (last, [])
open_comment_is Comment.stays = refl
open_comment_is (Comment.goes h part) = rw (h, open_comment_is part) refl

-- the part leads to the end of the comment or of the text
pub is_comment : (line : ℕ) (text : List ℕ) → (Comment line text (comment_scan line text).0 (comment_scan line text).1) × (((comment_scan line text).1 ≡ []) ⊎ IsTrue (ends_comment (comment_scan line text).1))
is_comment line [] = (Comment.stays, inl refl)
is_comment line (b ∷ text) = elim (cases_Bool (ends_comment (b ∷ text))) [
  | inl h ↦ rw h (Comment.stays, inr h)
  | inr h ↦ rw h (Comment.goes h (is_comment (line_after b line) text).0, (is_comment (line_after b line) text).1)
]

-- what a part of a string stands for, and where it leads
pub record Scan : Type 0 where
  pub bytes : List ℕ
  pub last : ℕ
  pub rest : List ℕ

abbrev pub prepend : List ℕ → Scan → Scan
prepend given s = record s { bytes = given ++ s.bytes }

-- after a backslash, a byte that it may stand before goes on
abbrev pub escape_scan : Option (List ℕ) → Scan → Scan → Scan
escape_scan None stays on = stays
escape_scan (Some given) stays on = prepend given on

-- a part of a string, as long as it goes on; `true` says that a backslash stands before the text
abbrev pub inside_scan : Bool → ℕ → List ℕ → Scan
inside_scan false line [] = record { bytes = []; last = line; rest = [] }
inside_scan false line (b ∷ text) = cond (is_plain b) (prepend (b ∷ []) (inside_scan false (line_after b line) text))
    (cond (b == 92) (inside_scan true line text) (record { bytes = []; last = line; rest = b ∷ text }))
inside_scan true line [] = record { bytes = []; last = line; rest = 92 ∷ [] }
inside_scan true line (c ∷ text) = escape_scan (escaped c) (record { bytes = []; last = line; rest = 92 ∷ c ∷ text }) (inside_scan false (line_after c line) text)

-- where a string does not go on
pub data Halts : List ℕ → Type 0 where
  ended : Halts []
  cut : Halts (92 ∷ [])
  wrong : {c : ℕ} {rest : List ℕ} → escaped c ≡ None → Halts (92 ∷ c ∷ rest)
  other : {b : ℕ} {rest : List ℕ} → is_plain b ≡ false → (b == 92) ≡ false → Halts (b ∷ rest)

halts_is : (line : ℕ) {rest : List ℕ} → Halts rest → inside_scan false line rest ≡ record { bytes = []; last = line; rest = rest }
halts_is line Halts.ended = refl
halts_is line Halts.cut = refl
halts_is line (Halts.wrong h) = rw h refl
halts_is line (Halts.other h e) = rw (h, e) refl

pub inside_is : {line last : ℕ} {text bytes rest : List ℕ} → Inside line text bytes last rest → Halts rest → inside_scan false line text ≡ record { bytes = bytes; last = last; rest = rest }
inside_is (Inside.stays {line = line}) halts = halts_is line halts
inside_is (Inside.plain h part) halts = rw (h, inside_is part halts) refl
inside_is (Inside.escape h part) halts = rw (h, inside_is part halts) refl

-- the text, with the backslash before it if there is one
abbrev pub with_backslash : Bool → List ℕ → List ℕ
with_backslash false text = text
with_backslash true text = 92 ∷ text

-- the part is one of the text, and does not go on
pub record IsScan (line : ℕ) (text : List ℕ) (s : Scan) : Type 0 where
  pub inside : Inside line text s.bytes s.last s.rest
  pub halts : Halts s.rest

is_escape : (line c : ℕ) (text : List ℕ) (on : Scan) (given : Option (List ℕ)) → escaped c ≡ given → IsScan (line_after c line) text on
    → IsScan line (92 ∷ c ∷ text) (escape_scan given (record { bytes = []; last = line; rest = 92 ∷ c ∷ text }) on)
is_escape line c text on None e scan = record { inside = Inside.stays; halts = Halts.wrong e }
is_escape line c text on (Some given) e scan = record { inside = Inside.escape e scan.inside; halts = scan.halts }

is_inside : (b : Bool) (line : ℕ) (text : List ℕ) → IsScan line (with_backslash b text) (inside_scan b line text)
is_inside false line [] = record { inside = Inside.stays; halts = Halts.ended }
is_inside false line (b ∷ text) = elim (cases_Bool (is_plain b)) [
  | inl h ↦ rw h (record {
    inside = Inside.plain h (is_inside false (line_after b line) text).inside;
    halts = (is_inside false (line_after b line) text).halts;
  })
  | inr h ↦ elim (cases_Bool (b == 92)) [
    | inl e ↦ rw (h, e, eqb-true b 92 e) (is_inside true line text)
    | inr e ↦ rw (h, e) (record { inside = Inside.stays; halts = Halts.other h e })
  ]
]
is_inside true line [] = record { inside = Inside.stays; halts = Halts.cut }
is_inside true line (c ∷ text) = is_escape line c text _ (escaped c) refl (is_inside false (line_after c line) text)

pub is_string : (line : ℕ) (text : List ℕ) → IsScan line text (inside_scan false line text)
is_string = is_inside false

-- after a word's bytes
abbrev pub word_next : List OpenBracket → ℕ → List ℕ → List ℕ → Option ℤ → Next
word_next opened line bytes rest None = goes opened (leaf (atom line bytes) ∷ []) line rest
word_next opened line bytes rest (Some value) = cond (is_in_range value) (goes opened (leaf (number line value) ∷ []) line rest) (stops (Some (number_too_large, line)))

-- after a backslash before which a string does not go on
abbrev pub backslash_next : ℕ → ℕ → List ℕ → Next
backslash_next line last [] = stops (Some (unclosed, line))
backslash_next line last (c ∷ rest) = stops (Some (bad_escape, last))

-- after a string's bytes
abbrev pub string_next : List OpenBracket → ℕ → ℕ → List ℕ → List ℕ → Next
string_next opened line last bytes [] = stops (Some (unclosed, line))
string_next opened line last bytes (b ∷ rest) = cond (b == 34) (goes opened (leaf (quoted line bytes) ∷ []) last rest)
    (cond (b == 92) (backslash_next line last rest) (stops (Some (bad_byte, last))))

-- after a comment's bytes
abbrev pub comment_next : List OpenBracket → ℕ → ℕ → List ℕ → Next
comment_next opened line last [] = stops (Some (unclosed, line))
comment_next opened line last (b ∷ rest) = goes opened [] last (drop 1 rest)

-- after a closing bracket
abbrev pub close_next : Bracket → ℕ → List ℕ → Option (List OpenBracket) → Next
close_next bracket line rest None = stops (Some (stray, line))
close_next bracket line rest (Some outer) = goes outer (closes bracket ∷ []) line rest

-- at a byte that begins no comment
abbrev pub role_next : List OpenBracket → ℕ → ℕ → List ℕ → Role → Next
role_next opened line b text blank = goes opened [] (line_after b line) text
role_next opened line b text semicolon = goes opened [] line (line_end text)
role_next opened line b text quote = let s = inside_scan false line text in string_next opened line s.last s.bytes s.rest
role_next opened line b text letter = let s = word_scan (b ∷ text) in word_next opened line s.0 s.1 (integer_of s.0)
role_next opened line b text foreign = stops (Some (bad_byte, line))
role_next opened line b text (opener bracket) = cond (nat_lt (length opened) depth_limit)
    (goes (record { bracket = bracket; line = line } ∷ opened) (opens bracket line ∷ []) line text) (stops (Some (too_deep, line)))
role_next opened line b text (closer bracket) = close_next bracket line text (closed opened bracket)

-- at the end
abbrev pub end_next : List OpenBracket → Next
end_next [] = stops None
end_next (inner ∷ outer) = stops (Some (unclosed, inner.line))

abbrev pub next : List OpenBracket → ℕ → List ℕ → Next
next opened line [] = end_next opened
next opened line (b ∷ text) = cond (begins_comment (b ∷ text))
    (let s = comment_scan line (drop 1 text) in comment_next opened line s.0 s.1) (role_next opened line b text (role b))

not_comment : (b : ℕ) (text : List ℕ) (r : Role) → role b ≡ r → (r ≡ letter → ⊥) → begins_comment (b ∷ text) ≡ false
not_comment b [] r e ne = refl
not_comment b (c ∷ text) r e ne = elim (cases_Bool (b == 47)) [
  | inl h ↦ absurd (ne (sym e ∙ ap role (eqb-true b 47 h)))
  | inr h ↦ rw h refl
]

by_role : (opened : List OpenBracket) (line b : ℕ) (text : List ℕ) (r : Role) → role b ≡ r → (r ≡ letter → ⊥) → next opened line (b ∷ text) ≡ role_next opened line b text r
by_role opened line b text r e ne = rw (not_comment b text r e ne, e) refl

-- a word with bytes goes on
goes_first : {text bytes rest : List ℕ} → Word text bytes rest → (bytes ≡ []) ⊎ IsTrue (goes_on text)
goes_first (Word.ends h) = inl refl
goes_first (Word.letter h part) = inr h

by_word : (opened : List OpenBracket) (line b : ℕ) (text bytes rest : List ℕ) → Word (b ∷ text) (b ∷ bytes) rest → next opened line (b ∷ text) ≡ word_next opened line (b ∷ bytes) rest (integer_of (b ∷ bytes))
by_word opened line b text bytes rest word = elim (goes_first word) [
  | inl e ↦ absurd (cc)
  | inr h ↦ let parts = and_parts (is_letter b) (not (begins_comment (b ∷ text))) h in
      let r : role b ≡ letter = rw parts.0 refl in
      rw (not-true _ parts.1, r, word_is word) refl
]

open_goes : (t : Bool) (line : ℕ) (rest : List ℕ) (tokens : List Token) (inner after : List OpenBracket) → option_and_then (λ now. open_after_all now []) (cond t (Some inner) None) ≡ Some after
    → cond t (goes inner tokens line rest) (stops (Some (too_deep, line))) ≡ goes after tokens line rest
open_goes true line rest tokens inner after e = cc
open_goes false line rest tokens inner after e = absurd (cc)

close_goes : (o : Option (List OpenBracket)) (bracket : Bracket) (line : ℕ) (rest : List ℕ) (after : List OpenBracket) → option_and_then (λ now. open_after_all now []) o ≡ Some after
    → close_next bracket line rest o ≡ goes after (closes bracket ∷ []) line rest
close_goes None bracket line rest after e = absurd (cc)
close_goes (Some outer) bracket line rest after e = cc

-- a step is the next one, where its token may stand
pub step_next : (opened after : List OpenBracket) {line last : ℕ} {text rest : List ℕ} {tokens : List Token} → Step line text tokens last rest
    → open_after_all opened tokens ≡ Some after → next opened line text ≡ goes after tokens last rest
step_next opened after {line = line} (Step.white {b} {rest} e) o = by_role opened line b rest blank e (λ h. cc) ∙ cc
step_next opened after {line = line} (Step.line_comment {b} {text} e) o = by_role opened line b text semicolon e (λ h. cc) ∙ cc
step_next opened after {line = line} (Step.comment part) o = rw (comment_is part) cc
step_next opened after {line = line} (Step.opening {b} {bracket} {rest} e) o = by_role opened line b rest (opener bracket) e (λ h. cc) ∙ open_goes _ line rest _ _ after o
step_next opened after {line = line} (Step.closing {b} {bracket} {rest} e) o = by_role opened line b rest (closer bracket) e (λ h. cc) ∙ close_goes _ bracket line rest after o
step_next opened after {line = line} (Step.word {b} {text} {bytes} {rest} w e) o = by_word opened line b text bytes rest w ∙ rw e cc
step_next opened after {line = line} (Step.numeral {b} {text} {bytes} {rest} w e h) o = by_word opened line b text bytes rest w ∙ rw (e, h) cc
step_next opened after {line = line} (Step.string {b} {text} e part) o = by_role opened line b text quote e (λ h. cc) ∙ rw (inside_is part (Halts.other refl refl)) cc

-- a byte that may not stand in a string is neither a quote nor a backslash, nor plain
not_string_byte : (b : ℕ) → is_string_byte b ≡ false → (is_plain b ≡ false) × ((b == 92) ≡ false) × ((b == 34) ≡ false)
not_string_byte b h = (rw h refl, not_at 92 refl, not_at 34 refl)
  where
    not_at : (n : ℕ) → is_string_byte n ≡ true → (b == n) ≡ false
    not_at n t = elim (cases_Bool (b == n)) [ inl e ↦ absurd (let same : is_string_byte b ≡ is_string_byte n = ap is_string_byte (eqb-true b n e) in cc) | inr e ↦ e ]

-- a fault is what comes next
pub fault_next : {opened : List OpenBracket} {line place : ℕ} {text : List ℕ} {fault : FormFault} → Faulty opened line text fault place
    → next opened line text ≡ stops (Some (fault, place))
fault_next (Faulty.open_bracket e) = rw e refl
fault_next (Faulty.open_comment part) = rw (open_comment_is part) refl
fault_next {opened} {line} (Faulty.open_string {b} {text = text} e part) = by_role opened line b text quote e (λ h. cc) ∙ rw (inside_is part Halts.ended) refl
fault_next {opened} {line} (Faulty.cut_string {b} {text = text} e part) = by_role opened line b text quote e (λ h. cc) ∙ rw (inside_is part Halts.cut) refl
fault_next {opened} {line} (Faulty.stray_bracket {b} {bracket} {rest} e h) = by_role opened line b rest (closer bracket) e (λ h. cc) ∙ rw h refl
fault_next {opened} {line} (Faulty.wrong_escape {b} {text = text} e part h) = by_role opened line b text quote e (λ h. cc) ∙ rw (inside_is part (Halts.wrong h)) refl
fault_next {opened} {line} (Faulty.deep_bracket {b} {bracket} {rest} e h) = by_role opened line b rest (opener bracket) e (λ h. cc) ∙ rw h refl
fault_next {opened} {line} (Faulty.foreign_byte {b} {rest} e) = by_role opened line b rest foreign e (λ h. cc)
fault_next {opened} {line} (Faulty.foreign_in_string {b} {c} {text = text} e part h) = let no_byte = not_string_byte c h in
    by_role opened line b text quote e (λ h. cc) ∙ rw (inside_is part (Halts.other no_byte.0 no_byte.1), no_byte.2, no_byte.1) refl
fault_next {opened} {line} (Faulty.large_number {b} {text} {bytes} {rest} w e h) = by_word opened line b text bytes rest w ∙ rw (e, h) refl

-- what it means that this comes next
abbrev pub IsNext : List OpenBracket → ℕ → List ℕ → Next → Type 0
IsNext opened line text (goes after tokens last rest) = Step line text tokens last rest × (open_after_all opened tokens ≡ Some after)
IsNext opened line text (stops None) = (text ≡ []) × (opened ≡ [])
IsNext opened line text (stops (Some found)) = Faulty opened line text found.0 found.1

is_end : (opened : List OpenBracket) (line : ℕ) → IsNext opened line [] (end_next opened)
is_end [] line = (refl, refl)
is_end (inner ∷ outer) line = Faulty.open_bracket refl

is_comment_next : (opened : List OpenBracket) (line last : ℕ) (text rest : List ℕ) → Comment line text last rest → (rest ≡ []) ⊎ IsTrue (ends_comment rest)
    → IsNext opened line (47 ∷ 42 ∷ text) (comment_next opened line last rest)
is_comment_next opened line last text [] part h = Faulty.open_comment part
is_comment_next opened line last text (x ∷ []) part h = elim h [ inl e ↦ absurd (cc) | inr e ↦ absurd (cc) ]
is_comment_next opened line last text (x ∷ y ∷ rest) part h = elim h [
  | inl e ↦ absurd (cc)
  | inr e ↦ let both = and_parts (x == 42) (y == 47) e in
      let P : ℕ → ℕ → Type 0 = λ m n. Comment line text last (m ∷ n ∷ rest) in
      (Step.comment (subst (λ n. P 42 n) (eqb-true y 47 both.1) (subst (λ m. P m y) (eqb-true x 42 both.0) part)), refl)
]

is_comment_at : (opened : List OpenBracket) (line b : ℕ) (text : List ℕ) → begins_comment (b ∷ text) ≡ true
    → IsNext opened line (b ∷ text) (let s = comment_scan line (drop 1 text) in comment_next opened line s.0 s.1)
is_comment_at opened line b [] h = absurd (cc)
is_comment_at opened line b (c ∷ text) h = let both = and_parts (b == 47) (c == 42) h in
    let scan = is_comment line text in
    rw (eqb-true b 47 both.0, eqb-true c 42 both.1) (is_comment_next opened line _ text _ scan.0 scan.1)

is_word_next : (opened : List OpenBracket) (line b : ℕ) (text bytes rest : List ℕ) (value : Option ℤ) → Word (b ∷ text) (b ∷ bytes) rest → integer_of (b ∷ bytes) ≡ value
    → IsNext opened line (b ∷ text) (word_next opened line (b ∷ bytes) rest value)
is_word_next opened line b text bytes rest None w e = (Step.word w e, refl)
is_word_next opened line b text bytes rest (Some value) w e = elim (cases_Bool (is_in_range value)) [ inl h ↦ rw h (Step.numeral w e h, refl) | inr h ↦ rw h (Faulty.large_number w e h) ]

plain_or : (s q e : Bool) → (s && not q && not e) ≡ false → q ≡ false → e ≡ false → s ≡ false
plain_or false q e h hq he = refl
plain_or true q e h hq he = absurd (let clash : true ≡ false = rw (hq, he) at h in cc)

is_string_next : (opened : List OpenBracket) (line last b : ℕ) (text bytes : List ℕ) {rest : List ℕ} → role b ≡ quote → Inside line text bytes last rest → Halts rest
    → IsNext opened line (b ∷ text) (string_next opened line last bytes rest)
is_string_next opened line last b text bytes e part Halts.ended = Faulty.open_string e part
is_string_next opened line last b text bytes e part Halts.cut = Faulty.cut_string e part
is_string_next opened line last b text bytes e part (Halts.wrong h) = Faulty.wrong_escape e part h
is_string_next opened line last b text bytes e part (Halts.other {b = c} {rest} h n) = elim (cases_Bool (c == 34)) [
  | inl q ↦ let P : ℕ → Type 0 = λ m. Inside line text bytes last (m ∷ rest) in rw q (Step.string e (subst P (eqb-true c 34 q) part), refl)
  | inr q ↦ rw (q, n) (Faulty.foreign_in_string e part (plain_or (is_string_byte c) (c == 34) (c == 92) h q n))
]

is_open_next : (opened : List OpenBracket) (line b : ℕ) (text : List ℕ) (bracket : Bracket) → role b ≡ opener bracket → IsNext opened line (b ∷ text) (role_next opened line b text (opener bracket))
is_open_next opened line b text bracket e = elim (cases_Bool (nat_lt (length opened) depth_limit)) [
  | inl h ↦ rw h (Step.opening e, rw h refl)
  | inr h ↦ rw h (Faulty.deep_bracket e h)
]

is_close_next : (opened : List OpenBracket) (line b : ℕ) (text : List ℕ) (bracket : Bracket) (outer : Option (List OpenBracket)) → role b ≡ closer bracket → closed opened bracket ≡ outer
    → IsNext opened line (b ∷ text) (close_next bracket line text outer)
is_close_next opened line b text bracket None e h = Faulty.stray_bracket e h
is_close_next opened line b text bracket (Some outer) e h = (Step.closing e, rw h refl)

-- the byte of no other role is a letter
only_letter : (l s o c p d q t : Bool) → cond l letter (cond s blank (cond o (opener round) (cond c (closer round) (cond p (opener square) (cond d (closer square) (cond q quote (cond t semicolon foreign))))))) ≡ letter → l ≡ true
only_letter true s o c p d q t e = refl
only_letter false true o c p d q t e = absurd (cc)
only_letter false false true c p d q t e = absurd (cc)
only_letter false false false true p d q t e = absurd (cc)
only_letter false false false false true d q t e = absurd (cc)
only_letter false false false false false true q t e = absurd (cc)
only_letter false false false false false false true t e = absurd (cc)
only_letter false false false false false false false true e = absurd (cc)
only_letter false false false false false false false false e = absurd (cc)

is_letter_next : (opened : List OpenBracket) (line b : ℕ) (text : List ℕ) → role b ≡ letter → begins_comment (b ∷ text) ≡ false
    → IsNext opened line (b ∷ text) (role_next opened line b text letter)
is_letter_next opened line b text e h = let l : is_letter b ≡ true = only_letter _ _ _ _ _ _ _ _ e in
    let on : goes_on (b ∷ text) ≡ true = rw (l, h) refl in
    rw on (is_word_next opened line b text (word_scan text).0 (word_scan text).1 _ (Word.letter on (is_word text)) refl)

is_role_next : (opened : List OpenBracket) (line b : ℕ) (text : List ℕ) (r : Role) → role b ≡ r → begins_comment (b ∷ text) ≡ false
    → IsNext opened line (b ∷ text) (role_next opened line b text r)
is_role_next opened line b text blank e h = (Step.white e, refl)
is_role_next opened line b text semicolon e h = (Step.line_comment e, refl)
is_role_next opened line b text quote e h = let s = is_string line text in is_string_next opened line _ b text _ e s.inside s.halts
is_role_next opened line b text letter e h = is_letter_next opened line b text e h
is_role_next opened line b text foreign e h = Faulty.foreign_byte e
is_role_next opened line b text (opener bracket) e h = is_open_next opened line b text bracket e
is_role_next opened line b text (closer bracket) e h = is_close_next opened line b text bracket _ e refl

-- what comes next is a step or the end
pub is_next : (opened : List OpenBracket) (line : ℕ) (text : List ℕ) → IsNext opened line text (next opened line text)
is_next opened line [] = is_end opened line
is_next opened line (b ∷ text) = elim (cases_Bool (begins_comment (b ∷ text))) [
  | inl h ↦ rw h (is_comment_at opened line b text h)
  | inr h ↦ rw h (is_role_next opened line b text (role b) refl h)
]
