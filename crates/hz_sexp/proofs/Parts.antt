-- Parts of comments, strings and words, one after another.
use Rattle.std.proofs.Common.{◌≡◌, ℕ, zero, suc, ◌<◌, List, [], ◌∷◌, ◌++◌, length, take, drop, refl, arith, append_assoc, Some, None}
use Rattle.std.specs.Prelude.{⊤, Option, MatchOption, IsTrue, IsFalse}
use Rattle.std.proofs.lemmas.Bool.{ne_eqb}
use Rattle.std.proofs.lemmas.List.{append-nil}
use Rattle.hz_base_model.specs.Forms.Forms.{line_after, ends_comment, goes_on, is_string_byte, is_plain, escaped, Word, Comment, Inside, FormFault}
use Rattle.hz_sexp.specs.declared.fault.SexpFault.{SexpFault}
use Rattle.hz_sexp.specs.Faults.{Tells, fault_of}
use Rattle.hz_sexp.specs.Steps.{IsWrongInString}

-- a comment goes on by a byte
pub comment_goes : {line last b : ℕ} {text rest : List ℕ} → Comment line text last (b ∷ rest) → IsFalse (ends_comment (b ∷ rest)) → Comment line text (line_after b last) rest
comment_goes Comment.stays h = Comment.goes h Comment.stays
comment_goes (Comment.goes k part) h = Comment.goes k (comment_goes part h)

-- a string goes on by a part
pub inside_on : {line now last : ℕ} {text left rest first second : List ℕ} → Inside line text first now left → Inside now left second last rest → Inside line text (first ++ second) last rest
inside_on Inside.stays part = part
inside_on (Inside.plain h front) part = Inside.plain h (inside_on front part)
inside_on {second = second} (Inside.escape {given = given} {bytes} h front) part = rw (append_assoc given bytes second) (Inside.escape h (inside_on front part))

-- a word is the bytes at which it goes on
pub word_of : (n : ℕ) (text : List ℕ) → ((k : ℕ) → k < n → IsTrue (goes_on (drop k text))) → IsFalse (goes_on (drop n text)) → Word text (take n text) (drop n text)
word_of zero text on stop = Word.ends stop
word_of (suc n) [] on stop = Word.ends refl
word_of (suc n) (b ∷ text) on stop = Word.letter (on 0 (omega arith)) (word_of n text (λ k h. on (suc k) (omega arith)) stop)

-- a byte that stands for itself
pub part_plain : (line last b : ℕ) (text rest : List ℕ) → text ≡ b ∷ rest → last ≡ line_after b line → IsTrue (is_string_byte b) → (b ≡ 34 → ⊥) → (b ≡ 92 → ⊥)
    → Inside line text (b ∷ []) last rest × (length rest < length text)
part_plain line last b text rest e f h quote backslash =
    let plain : IsTrue (is_plain b) = rw (h, ne_eqb b 34 quote, ne_eqb b 92 backslash) refl in
    rw (e, f) (Inside.plain plain Inside.stays, omega arith)

-- a backslash and the byte after it
pub part_escape : (line last b : ℕ) (text rest given : List ℕ) → text ≡ b ∷ rest → last ≡ line_after b line → escaped b ≡ Some given
    → Inside line (92 ∷ text) given last rest × (length rest < length (92 ∷ text))
part_escape line last b text rest given e f h =
    let part : Inside line (92 ∷ b ∷ rest) (given ++ []) (line_after b line) rest = Inside.escape h Inside.stays in
    rw (e, f) (rw (append-nil given) at part, omega arith)

pub no_escape : (b : ℕ) → (b ≡ 10 → ⊥) → (b ≡ 34 → ⊥) → (b ≡ 92 → ⊥) → escaped b ≡ None
no_escape b feed quote backslash = rw (ne_eqb b 10 feed, ne_eqb b 34 quote, ne_eqb b 92 backslash) refl

-- what is reported of a fault may be said in weaker words
pub tells_weaker : {P Q : FormFault → ℕ → Type 0} → ((fault : FormFault) (line : ℕ) → P fault line → Q fault line) → (e : SexpFault) → Tells P e → Tells Q e
tells_weaker {P} {Q} weaker e h = go (fault_of e) h
  where
    go : (fault : Option (FormFault × ℕ)) → MatchOption fault ⊤ (λ reported. P reported.0 reported.1) → MatchOption fault ⊤ (λ reported. Q reported.0 reported.1)
    go (Some reported) h = weaker _ _ h
    go None h = h

-- what is wrong in a string after a part of it is wrong in it
pub wrong_before : (start : ℕ) {line now : ℕ} {text left given : List ℕ} → Inside line text given now left → (e : SexpFault) → Tells (IsWrongInString start now left) e
    → Tells (IsWrongInString start line text) e
wrong_before start {line} {now} {text} {left} front e h = tells_weaker {P = IsWrongInString start now left} {Q = IsWrongInString start line text}
    (λ fault place wrong opened b whole bytes q part. wrong opened b whole _ q (inside_on part front)) e h
