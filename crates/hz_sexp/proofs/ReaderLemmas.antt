-- What the reader holds after a token.
use Rattle.std.proofs.Common.{◌≡◌, ℕ, List, [], ◌∷◌, ◌++◌, refl, ap, ◌∙◌, None}
use Rattle.std.specs.Prelude.{nat_lt, IsFalse, length}
use Rattle.std.proofs.lemmas.List.{reverse-append}
use Rattle.hz_base_model.specs.Forms.Trees.{Trees}
use Rattle.hz_base_model.specs.Forms.Forms.{Bracket, OpenBracket, Token, opens, closes, leaf, spelled_tree, closed, depth_limit, Step, FormFault, too_deep, stray, FaultAt, Faulty}
use Rattle.hz_base_model.specs.Forms.FormFronts.{front, enclosed_by}
use Rattle.hz_base_model.proofs.Forms.PushedForms.{push}
use Rattle.hz_base_model.proofs.Forms.FormsFront.{front-push, front-close, same_is, Front, front_on}
use Rattle.hz_sexp.specs.declared.form.Form.{Form}
use Rattle.hz_sexp.specs.declared.reader.Frame as code
use Rattle.hz_sexp.specs.declared.reader.Reader.{Reader}
use Rattle.hz_sexp.specs.declared.step.Token as code_token
use Rattle.hz_sexp.specs.declared.step.Token.TheVariants.{Open, Close, Leaf}
use Rattle.hz_sexp.specs.declared.fault.SexpFault.{SexpFault}
use Rattle.hz_sexp.specs.Faults.{Tells}
use Rattle.hz_sexp.proofs.Parts.{tells_weaker}
use Rattle.hz_sexp.specs.Kinds.{bracket_of}
use Rattle.hz_sexp.specs.Shape.{tree, trees}
use Rattle.hz_sexp.specs.State.{frame_of, frames_in, frames_of, opened_in, token_of, Takes, IsRefused, IsOpen}

pub frames_in-push : (outer : List code.Frame) (inner : code.Frame) → frames_in (outer ++ inner ∷ []) ≡ frame_of inner ∷ frames_in outer
frames_in-push outer inner = rw reverse-append refl

pub trees-push : (forms : List Form) (form : Form) → trees (forms ++ form ∷ []) ≡ push (trees forms) (tree form)
trees-push [] form = refl
trees-push (first ∷ others) form = ap (λ (ts : Trees). Trees.more (tree first) ts) (trees-push others form)

-- a form without brackets goes past the others
pub takes_form : (old new : Reader) (form : Form) → new.open.items ≡ old.open.items → new.forms.items ≡ old.forms.items ++ form ∷ [] → spelled_tree (tree form) ≡ leaf (tree form) ∷ []
    → Takes old (leaf (tree form)) new
takes_form old new form o f e = record {
  read = rw (o, f, trees-push old.forms.items form) (front-push (frames_of old) (trees old.forms.items) (tree form) ∙ ap (λ ts. front (frames_of old) (trees old.forms.items) ++ ts) e);
  opened = rw o refl;
}

-- a closing bracket makes a form of the forms after its partner
pub takes_close : (old new : Reader) (outer : List code.Frame) (inner : code.Frame) (form : Form) → old.open.items ≡ outer ++ inner ∷ [] → new.open.items ≡ outer
    → new.forms.items ≡ inner.before.items ++ form ∷ [] → tree form ≡ enclosed_by (bracket_of inner.bracket) inner.line (trees old.forms.items) → Takes old (closes (bracket_of inner.bracket)) new
takes_close old new outer inner form o n f t = record {
  read = rw (o, n, f, frames_in-push outer inner, trees-push inner.before.items form, t) (front-close (frame_of inner) (frames_in outer) (trees old.forms.items));
  opened = rw (o, n, frames_in-push outer inner, same_is (bracket_of inner.bracket)) refl;
}

-- a front with a token more
pub front_takes : {text rest left : List ℕ} {line last : ℕ} {token : Token} (old new : Reader) → Front text (frames_of old) (trees old.forms.items) line rest → Step line rest (token ∷ []) last left
    → Takes old token new → Front text (frames_of new) (trees new.forms.items) last left
front_takes old new f step takes = front_on (frames_of old) (frames_of new) (trees old.forms.items) (trees new.forms.items) f step takes.read takes.opened

-- what is wrong at the rest of a front is what is wrong with the text
pub front_wrong : {text rest : List ℕ} {line : ℕ} (reader : Reader) → Front text (frames_of reader) (trees reader.forms.items) line rest → (e : SexpFault) → Tells (Faulty (opened_in reader) line rest) e → Tells (FaultAt text) e
front_wrong {text} {rest} {line} reader f e h = tells_weaker {P = Faulty (opened_in reader) line rest} {Q = FaultAt text}
    (λ fault place wrong. record {
      tokens = front (frames_of reader) (trees reader.forms.items);
      last = line;
      rest = rest;
      opened = opened_in reader;
      reading = f.reading;
      nests = f.nests;
      wrong = wrong;
    }) e h

open_wrong : {line at last : ℕ} {text rest : List ℕ} {bracket : Bracket} (opened : List OpenBracket) → Step line text (opens bracket at ∷ []) last rest → IsFalse (nat_lt (length opened) depth_limit) → Faulty opened line text too_deep line
open_wrong opened (Step.opening e) h = Faulty.deep_bracket e h

close_wrong : {line last : ℕ} {text rest : List ℕ} {bracket : Bracket} (opened : List OpenBracket) → Step line text (closes bracket ∷ []) last rest → closed opened bracket ≡ None → Faulty opened line text stray line
close_wrong opened (Step.closing e) h = Faulty.stray_bracket e h

-- a token that is refused is what is wrong at its place
pub refused_wrong : {text rest : List ℕ} {line last : ℕ} (reader : Reader) (token : code_token.Token) → Step line text (token_of line token ∷ []) last rest → (e : SexpFault)
    → Tells (IsRefused reader token line) e → Tells (Faulty (opened_in reader) line text) e
refused_wrong {text} {rest} {line} {last} reader token step e h = tells_weaker {P = IsRefused reader token line} {Q = Faulty (opened_in reader) line text} (λ fault place reported. go token step fault place reported) e h
  where
    go : (t : code_token.Token) → Step line text (token_of line t ∷ []) last rest → (fault : FormFault) (place : ℕ) → IsRefused reader t line fault place → Faulty (opened_in reader) line text fault place
    go (Open bracket) s fault place reported = rw (reported.0, reported.1) (open_wrong (opened_in reader) s reported.2)
    go (Close bracket) s fault place reported = rw (reported.0, reported.1) (close_wrong (opened_in reader) s reported.2)
    go (Leaf form) s fault place reported = absurd reported

-- a bracket that is open at the end is what is wrong there
pub open_at_end : (reader : Reader) (line : ℕ) (e : SexpFault) → Tells (IsOpen reader) e → Tells (Faulty (opened_in reader) line []) e
open_at_end reader line e h = tells_weaker {P = IsOpen reader} {Q = Faulty (opened_in reader) line []} (λ fault place reported. rw (reported.0, reported.4) (Faulty.open_bracket reported.3)) e h
