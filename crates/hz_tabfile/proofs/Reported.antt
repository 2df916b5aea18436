-- A line that is taken and judged is judged in its text.
use Rattle.std.proofs.Common.{◌≡◌, ℕ, ◌+◌, ◌==◌, Bool, true, false, cond, List, [], ◌∷◌, ◌++◌, length, Result, Ok, Err, refl, sym, ap, ◌∙◌, arith}
use Rattle.std.specs.List.{onto_first}
use Rattle.std.proofs.lemmas.Bool.{ne_eqb}
use Rattle.hz_tabtext_model.specs.Judging.{Kind, Fault, truncated, ◌>>=◌}
use Rattle.hz_tabtext_model.specs.Fields.{is_nil}
use Rattle.hz_tabtext_model.specs.Reading.{Rest, at_line, first_by, line_by, is_over, lines_in}
use Rattle.hz_tabtext_model.specs.Lines.{class_in}
use Rattle.hz_tabfile.specs.Lines.{class_onto}
use Rattle.hz_tabfile.specs.Texts.{class_read}
use Rattle.hz_tabtext_model.proofs.FieldLaws.{some_lines}

abbrev pub placed : {A : Type 0} → Rest → A → Result (A × Rest) Fault
placed after x = Ok (x, after)

abbrev pub taken_line : Rest → Result (List ℕ × Rest) Fault
taken_line rest = line_by (λ line. Ok line) rest

first_judged : {A : Type 0} (judge : List ℕ → Result A Kind) (number : ℕ) (lines : List (List ℕ))
    → first_by judge number lines ≡ (first_by (λ line. Ok line) number lines >>= λ x. at_line number (judge x.0) >>= placed x.1)
first_judged judge number [] = refl
first_judged {A = A} judge number (line ∷ others) = by_end (is_nil others)
  where
    by_end : (b : Bool) → (at_line number (cond b (Err truncated) (judge line)) >>= placed (record { number = number + 1; lines = others }))
        ≡ ((at_line number (cond b (Err truncated) (Ok line)) >>= placed (record { number = number + 1; lines = others })) >>= λ x. at_line number (judge x.0) >>= placed x.1)
    by_end true = refl
    by_end false = refl

-- a line is taken, and then judged
pub judged_line : {A : Type 0} (judge : List ℕ → Result A Kind) (rest : Rest) → line_by judge rest ≡ (taken_line rest >>= λ x. at_line rest.number (judge x.0) >>= placed x.1)
judged_line judge rest = first_judged judge rest.number rest.lines

pub over_by_length : (bytes : List ℕ) → is_over (lines_in bytes) ≡ (length bytes == 0)
over_by_length [] = refl
over_by_length (b ∷ bs) = by_feed (b == 10) (lines_in bs) (some_lines bs) ∙ sym (ne_eqb (length (b ∷ bs)) 0 (λ e. omega (arith, e)))
  where
    by_feed : (t : Bool) (others : List (List ℕ)) → is_nil others ≡ false → is_over (cond t ([] ∷ others) (onto_first b others)) ≡ false
    by_feed true others some = some
    by_feed false [] some = refl
    by_feed false (other ∷ others) some = refl

class_after : (number : ℕ) (before : List (List ℕ)) (line : List ℕ) (after : Rest)
    → ((at_line number (class_in before line) >>= placed after) >>= λ class. placed class.1 (before ++ class.0 ∷ [])) ≡ (at_line number (class_onto before line) >>= placed after)
class_after number before line after = by_class (class_in before line)
  where
    by_class : (r : Result (List ℕ) Kind) → ((at_line number r >>= placed after) >>= λ class. placed class.1 (before ++ class.0 ∷ [])) ≡ (at_line number (r >>= λ name. Ok (before ++ name ∷ [])) >>= placed after)
    by_class (Ok name) = refl
    by_class (Err kind) = refl

first_then : (r : Result (List ℕ × Rest) Fault) (number : ℕ) (before : List (List ℕ)) → ((r >>= λ x. at_line number (class_in before x.0) >>= placed x.1) >>= λ class. placed class.1 (before ++ class.0 ∷ [])) ≡ (r >>= λ x. at_line number (class_onto before x.0) >>= placed x.1)
first_then (Ok x) number before = class_after number before x.0 x.1
first_then (Err fault) number before = refl

-- a line is taken, and its class joins those before it
pub judged_class : (before : List (List ℕ)) (rest : Rest) → class_read before rest ≡ (taken_line rest >>= λ x. at_line rest.number (class_onto before x.0) >>= placed x.1)
unfolding class_read
judged_class before rest = ap (λ (r : Result (List ℕ × Rest) Fault). r >>= λ class. placed class.1 (before ++ class.0 ∷ [])) (judged_line (class_in before) rest) ∙ first_then (taken_line rest) rest.number before
