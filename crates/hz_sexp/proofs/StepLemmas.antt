-- One step over a text, and what is wrong in its place.
use Rattle.std.proofs.Common.{◌≡◌, ℕ, List, [], ◌∷◌, drop, refl, Some, None}
use Rattle.std.specs.Prelude.{IsTrue, IsFalse, ℤ, ◌==◌}
use Rattle.std.proofs.lemmas.Bool.{and_parts, eqb-true}
use Rattle.hz_base_model.specs.Forms.Trees.{atom, number}
use Rattle.hz_base_model.specs.Forms.Forms.{leaf, begins_comment, goes_on, Word, Comment, integer_of, is_in_range, Step, Faulty, unclosed, number_too_large, role, quote, Inside}
use Rattle.hz_sexp.specs.declared.fault.SexpFault.{SexpFault}
use Rattle.hz_sexp.specs.Faults.{Tells}
use Rattle.hz_sexp.specs.Steps.{IsWrong, IsWrongInString}
use Rattle.hz_sexp.proofs.Parts.{tells_weaker}

comment_front : (text : List ℕ) → IsTrue (begins_comment text) → text ≡ 47 ∷ 42 ∷ drop 2 text
comment_front [] h = absurd (cc)
comment_front (a ∷ []) h = absurd (cc)
comment_front (a ∷ b ∷ text) h = let both = and_parts (a == 47) (b == 42) h in rw (eqb-true a 47 both.0, eqb-true b 42 both.1) refl

pub comment_step : (line last : ℕ) (text rest : List ℕ) → IsTrue (begins_comment text) → Comment line (drop 2 text) last (42 ∷ 47 ∷ rest) → Step line text [] last rest
comment_step line last text rest h part = rw (comment_front text h) (Step.comment part)

pub comment_open : (line last : ℕ) (text : List ℕ) → IsTrue (begins_comment text) → Comment line (drop 2 text) last [] → IsWrong line text unclosed line
comment_open line last text h part = λ opened. rw (comment_front text h) (Faulty.open_comment part)

pub atom_step : (line : ℕ) {text bytes rest : List ℕ} → IsTrue (goes_on text) → Word text bytes rest → integer_of bytes ≡ None → Step line text (leaf (atom line bytes) ∷ []) line rest
atom_step line on (Word.ends h) e = absurd (cc)
atom_step line on (Word.letter h w) e = Step.word (Word.letter h w) e

pub number_step : (line : ℕ) {text bytes rest : List ℕ} (value : ℤ) → IsTrue (goes_on text) → Word text bytes rest → integer_of bytes ≡ Some value → IsTrue (is_in_range value)
    → Step line text (leaf (number line value) ∷ []) line rest
number_step line value on (Word.ends h) e r = absurd (cc)
number_step line value on (Word.letter h w) e r = Step.numeral (Word.letter h w) e r

pub large_number : (line : ℕ) {text bytes rest : List ℕ} (value : ℤ) → IsTrue (goes_on text) → Word text bytes rest → integer_of bytes ≡ Some value → IsFalse (is_in_range value)
    → IsWrong line text number_too_large line
large_number line value on (Word.ends h) e r = absurd (cc)
large_number line value on (Word.letter h w) e r = λ opened. Faulty.large_number (Word.letter h w) e r

-- what is wrong in a string is wrong where it begins
pub string_wrong : (line b : ℕ) (text : List ℕ) → role b ≡ quote → (e : SexpFault) → Tells (IsWrongInString line line text) e → Tells (IsWrong line (b ∷ text)) e
string_wrong line b text q e h = tells_weaker {P = IsWrongInString line line text} {Q = IsWrong line (b ∷ text)} (λ fault place wrong opened. wrong opened b text [] q Inside.stays) e h
