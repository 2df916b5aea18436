-- A front of a text that is read, as the open brackets with the forms before each. Every text ends in forms or in a fault.
use Rattle.std.proofs.Common.{◌≡◌, ℕ, zero, suc, ◌+◌, ◌<◌, ◌≤◌, true, List, [], ◌∷◌, ◌++◌, length, refl, sym, ap, ◌∙◌, arith, subst, Some, None, ◌⊎◌, inl, inr, append_assoc}
use Rattle.std.specs.Prelude.{nat_lt, ◌==◌}
use Rattle.std.proofs.lemmas.List.{append-nil, length-map}
use Rattle.std.proofs.lemmas.Bool.{cases_Bool, lt-ltb, ltb-true}
use Rattle.hz_base_model.specs.Forms.Trees.{Tree, Trees, none, more}
use Rattle.hz_base_model.specs.Forms.Forms.{Bracket, round, square, same_bracket, OpenBracket, Token, opens, closes, leaf, spelled_tree, spelled, open_after_all, Step, Reading, Reads, FormFault, FaultAt, Word, Comment, Inside, line_end}
use Rattle.hz_base_model.specs.Forms.FormFronts.{Frame, brackets, front, enclosed_by}
use Rattle.hz_base_model.proofs.Forms.PushedForms.{push}
use Rattle.hz_base_model.proofs.Forms.FormsNext.{Next, goes, stops, IsNext, is_next}
use Rattle.hz_base_model.proofs.Forms.FormsLaws.{open_after_all-append}

pub spelled-push : (forms : Trees) (form : Tree) → spelled (push forms form) ≡ spelled forms ++ spelled_tree form
spelled-push none form = append-nil (spelled_tree form)
spelled-push (more first others) form = rw (spelled-push others form) (sym (append_assoc (spelled_tree first) (spelled others) (spelled_tree form)))

pub front-push : (frames : List Frame) (forms : Trees) (form : Tree) → front frames (push forms form) ≡ front frames forms ++ spelled_tree form
front-push [] forms form = spelled-push forms form
front-push (inner ∷ outer) forms form = rw (spelled-push forms form) (sym (append_assoc (front outer inner.before) (opens inner.opened.bracket inner.opened.line ∷ spelled forms) (spelled_tree form)))

pub front-close : (inner : Frame) (outer : List Frame) (forms : Trees)
    → front outer (push inner.before (enclosed_by inner.opened.bracket inner.opened.line forms)) ≡ front (inner ∷ outer) forms ++ (closes inner.opened.bracket ∷ [])
front-close inner outer forms = front-push outer inner.before (enclosed_by inner.opened.bracket inner.opened.line forms) ∙ go inner.opened.bracket
  where
    go : (b : Bracket) → front outer inner.before ++ spelled_tree (enclosed_by b inner.opened.line forms) ≡ (front outer inner.before ++ (opens b inner.opened.line ∷ spelled forms)) ++ (closes b ∷ [])
    go round = sym (append_assoc (front outer inner.before) (opens round inner.opened.line ∷ spelled forms) (closes round ∷ []))
    go square = sym (append_assoc (front outer inner.before) (opens square inner.opened.line ∷ spelled forms) (closes square ∷ []))

pub reading_on : {line last after : ℕ} {text rest left : List ℕ} {tokens others : List Token} → Reading line text tokens last rest → Step last rest others after left
    → Reading line text (tokens ++ others) after left
reading_on {others = others} Reading.stops step = rw (append-nil others) at (Reading.steps step Reading.stops)
reading_on {others = next_tokens} (Reading.steps {tokens = tokens} {others} first reading) step = rw (append_assoc tokens others next_tokens) (Reading.steps first (reading_on reading step))

-- A text is read up to a rest, with these frames open and these forms after them.
pub record Front (text : List ℕ) (frames : List Frame) (forms : Trees) (line : ℕ) (rest : List ℕ) : Type 0 where
  pub reading : Reading 1 text (front frames forms) line rest
  pub nests : open_after_all [] (front frames forms) ≡ Some (brackets frames)

-- the front after a step
pub front_on : {text rest left : List ℕ} {line last : ℕ} {tokens : List Token} (frames after : List Frame) (forms now : Trees) → Front text frames forms line rest → Step line rest tokens last left
    → front after now ≡ front frames forms ++ tokens → open_after_all (brackets frames) tokens ≡ Some (brackets after) → Front text after now last left
front_on {tokens = tokens} frames after forms now f step e o = record {
  reading = rw e (reading_on f.reading step);
  nests = rw (e, open_after_all-append [] (front frames forms) tokens, f.nests) o;
}

pub front_skip : {text rest left : List ℕ} {line last : ℕ} (frames : List Frame) (forms : Trees) → Front text frames forms line rest → Step line rest [] last left → Front text frames forms last left
front_skip frames forms f step = front_on frames frames forms forms f step (sym (append-nil (front frames forms))) refl

pub front_leaf : {text rest left : List ℕ} {line last : ℕ} (frames : List Frame) (forms : Trees) (form : Tree) → spelled_tree form ≡ leaf form ∷ []
    → Front text frames forms line rest → Step line rest (leaf form ∷ []) last left → Front text frames (push forms form) last left
front_leaf frames forms form e f step = front_on frames frames forms (push forms form) f step (front-push frames forms form ∙ ap (λ ts. front frames forms ++ ts) e) refl

pub front_open : {text rest left : List ℕ} {line last : ℕ} (frames : List Frame) (forms : Trees) (opened : OpenBracket) → length frames < 64
    → Front text frames forms line rest → Step line rest (opens opened.bracket opened.line ∷ []) last left → Front text (record { opened = opened; before = forms } ∷ frames) none last left
front_open frames forms opened h f step = front_on frames (record { opened = opened; before = forms } ∷ frames) forms none f step refl (let few : length (brackets frames) < 64 = rw length-map h in rw (lt-ltb _ _ few) refl)

pub same_is : (b : Bracket) → same_bracket b b ≡ true
same_is round = refl
same_is square = refl

pub front_close : {text rest left : List ℕ} {line last : ℕ} (inner : Frame) (outer : List Frame) (forms : Trees)
    → Front text (inner ∷ outer) forms line rest → Step line rest (closes inner.opened.bracket ∷ []) last left → Front text outer (push inner.before (enclosed_by inner.opened.bracket inner.opened.line forms)) last left
front_close inner outer forms f step = front_on (inner ∷ outer) outer forms (push inner.before (enclosed_by inner.opened.bracket inner.opened.line forms)) f step (front-close inner outer forms) (rw (same_is inner.opened.bracket) refl)

-- a front with a step after it is a front
pub record Longer (text : List ℕ) (line : ℕ) (rest : List ℕ) : Type 0 where
  pub frames : List Frame
  pub forms : Trees
  pub is_front : Front text frames forms line rest

longer : {text rest : List ℕ} {line : ℕ} (frames : List Frame) (forms : Trees) → Front text frames forms line rest → Longer text line rest
longer frames forms f = record { frames = frames; forms = forms; is_front = f }

longer_open : {text rest left : List ℕ} {line last : ℕ} (frames : List Frame) (forms : Trees) (opened : OpenBracket) (after : List OpenBracket) → open_after_all (brackets frames) (opens opened.bracket opened.line ∷ []) ≡ Some after
    → Front text frames forms line rest → Step line rest (opens opened.bracket opened.line ∷ []) last left → Longer text last left
longer_open frames forms opened after o f step = elim (cases_Bool (nat_lt (length (brackets frames)) 64)) [
  | inl h ↦ longer _ _ (front_open frames forms opened (rw length-map at (ltb-true _ _ h)) f step)
  | inr h ↦ absurd (let none_is = rw h at o in cc)
]

same_bracket-true : (a b : Bracket) → same_bracket a b ≡ true → a ≡ b
same_bracket-true round round h = refl
same_bracket-true square square h = refl
same_bracket-true _ _ h = absurd (cc)

longer_close : {text rest left : List ℕ} {line last : ℕ} (frames : List Frame) (forms : Trees) (bracket : Bracket) (after : List OpenBracket) → open_after_all (brackets frames) (closes bracket ∷ []) ≡ Some after
    → Front text frames forms line rest → Step line rest (closes bracket ∷ []) last left → Longer text last left
longer_close [] forms bracket after o f step = absurd (cc)
longer_close {rest = rest} {left} {line} {last} (inner ∷ outer) forms bracket after o f step = elim (cases_Bool (same_bracket inner.opened.bracket bracket)) [
  | inl h ↦ let P : Bracket → Type 0 = λ b. Step line rest (closes b ∷ []) last left in
      longer _ _ (front_close inner outer forms f (subst P (sym (same_bracket-true inner.opened.bracket bracket h)) step))
  | inr h ↦ absurd (let none_is = rw h at o in cc)
]

longer_on : {text rest left : List ℕ} {line last : ℕ} {tokens : List Token} (frames : List Frame) (forms : Trees) (after : List OpenBracket) → Step line rest tokens last left → open_after_all (brackets frames) tokens ≡ Some after
    → Front text frames forms line rest → Longer text last left
longer_on frames forms after (Step.white e) o f = longer _ _ (front_skip frames forms f (Step.white e))
longer_on frames forms after (Step.line_comment e) o f = longer _ _ (front_skip frames forms f (Step.line_comment e))
longer_on frames forms after (Step.comment part) o f = longer _ _ (front_skip frames forms f (Step.comment part))
longer_on {line = line} frames forms after (Step.opening {bracket = bracket} e) o f = longer_open frames forms (record { bracket = bracket; line = line }) after o f (Step.opening e)
longer_on frames forms after (Step.closing {bracket = bracket} e) o f = longer_close frames forms bracket after o f (Step.closing e)
longer_on frames forms after (Step.word w e) o f = longer _ _ (front_leaf frames forms _ refl f (Step.word w e))
longer_on frames forms after (Step.numeral w e h) o f = longer _ _ (front_leaf frames forms _ refl f (Step.numeral w e h))
longer_on frames forms after (Step.string e part) o f = longer _ _ (front_leaf frames forms _ refl f (Step.string e part))

-- what is left grows shorter
word_shorter : {text bytes rest : List ℕ} → Word text bytes rest → length bytes + length rest ≡ length text
word_shorter (Word.ends h) = omega arith
word_shorter (Word.letter h w) = omega (arith, word_shorter w)

inside_shorter : {line last : ℕ} {text bytes rest : List ℕ} → Inside line text bytes last rest → length rest ≤ length text
inside_shorter Inside.stays = omega arith
inside_shorter (Inside.plain h part) = omega (arith, inside_shorter part)
inside_shorter (Inside.escape h part) = omega (arith, inside_shorter part)

comment_shorter : {line last : ℕ} {text rest : List ℕ} → Comment line text last rest → length rest ≤ length text
comment_shorter Comment.stays = omega arith
comment_shorter (Comment.goes h part) = omega (arith, comment_shorter part)

line_end_shorter : (text : List ℕ) → length (line_end text) ≤ length text
line_end_shorter [] = omega arith
line_end_shorter (b ∷ text) = elim (cases_Bool (b == 10)) [ inl h ↦ rw h (omega arith) | inr h ↦ rw h (omega (arith, line_end_shorter text)) ]

pub step_shorter : {line last : ℕ} {text rest : List ℕ} {tokens : List Token} → Step line text tokens last rest → length rest < length text
step_shorter (Step.white e) = omega arith
step_shorter (Step.line_comment {text = text} e) = omega (arith, line_end_shorter text)
step_shorter (Step.comment part) = omega (arith, comment_shorter part)
step_shorter (Step.opening e) = omega arith
step_shorter (Step.closing e) = omega arith
step_shorter (Step.word w e) = omega (arith, word_shorter w)
step_shorter (Step.numeral w e h) = omega (arith, word_shorter w)
step_shorter (Step.string e part) = omega (arith, inside_shorter part)

-- forms or a fault
abbrev pub Judged : List ℕ → Type 0
Judged text = ((forms : Trees) × Reads text forms) ⊎ ((fault : FormFault) × (place : ℕ) × FaultAt text fault place)

judged_end : (text : List ℕ) (frames : List Frame) (forms : Trees) (line : ℕ) (rest : List ℕ) → rest ≡ [] → brackets frames ≡ [] → Front text frames forms line rest → Judged text
judged_end text [] forms line rest e b f = inl (forms, record { last = line; reading = rw e at f.reading; nests = f.nests })
judged_end text (inner ∷ outer) forms line rest e b f = absurd (cc)

judged_next : (text : List ℕ) (line : ℕ) (rest : List ℕ) (frames : List Frame) (forms : Trees) (n : Next) → Front text frames forms line rest → IsNext (brackets frames) line rest n
    → ((last : ℕ) (left : List ℕ) → length left < length rest → Longer text last left → Judged text) → Judged text
judged_next text line rest frames forms (goes after tokens last left) f h on = on last left (step_shorter h.0) (longer_on frames forms after h.0 h.1 f)
judged_next text line rest frames forms (stops None) f h on = judged_end text frames forms line rest h.0 h.1 f
judged_next text line rest frames forms (stops (Some found)) f h on = inr (
  found.0,
  found.1,
  record {
    tokens = front frames forms;
    last = line;
    rest = rest;
    opened = brackets frames;
    reading = f.reading;
    nests = f.nests;
    wrong = h;
  },
)

judged_from : (fuel : ℕ) (text : List ℕ) (line : ℕ) (rest : List ℕ) → length rest < fuel → Longer text line rest → Judged text
judged_from zero text line rest h f = absurd (omega arith)
judged_from (suc fuel) text line rest h f = judged_next text line rest f.frames f.forms _ f.is_front (is_next (brackets f.frames) line rest)
    (λ last left shorter longer_still. judged_from fuel text last left (omega arith) longer_still)

-- Every text has a list of forms or a fault.
pub every_text : (text : List ℕ) → Judged text
every_text text = judged_from (length text + 1) text 1 text (omega arith) (longer [] none (record { reading = Reading.stops; nests = refl }))
