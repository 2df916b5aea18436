-- The tokens that the reader has taken, and what is wrong with the next one or with the end.
use Rattle.std.proofs.Common.{◌≡◌, ℕ, List, [], ◌∷◌, ◌++◌, length, refl, sym, ap, ◌∙◌, subst, Ok, Err, Some, None}
use Rattle.std.specs.Prelude.{⊤, Option, MatchOption}
use Rattle.std.proofs.lemmas.List.{append-nil}
use Rattle.hz_description_model.specs.Reservations.Alternatives.{Expression}
use Rattle.hz_description_model.specs.Grammar.ExpressionTexts.{place, tokens, Reads, FaultAt, ExpressionFault, unexpected, no_token}
use Rattle.hz_description_model.specs.Grammar.ExpressionTexts as model
use Rattle.hz_description_model.specs.Grammar.ExpressionSteps.{State, start, take, finish}
use Rattle.hz_description_model.proofs.Grammar.ExpressionTextsFront.{Leads, start_leads, take_leads, beyond}
use Rattle.hz_description_model.proofs.Grammar.ExpressionTextsLaws.{take_wrong, read_end, cut_short}
use Rattle.hz_regexp.specs.declared.fault.ExprFault.{ExprFault}
use Rattle.hz_regexp.specs.declared.tokens.Token.{Token}
use Rattle.hz_regexp.specs.declared.tokens.Token.TheVariants as code
use Rattle.hz_regexp.specs.Faults.{Tells, fault_of}
use Rattle.hz_regexp.specs.State.{Refuses}
use Rattle.hz_regexp.specs.Tokens.{token_of}

place_of_token : (at : ℕ) (token : Token) → place (token_of at token) ≡ at
place_of_token at (code.Word bytes) = refl
place_of_token at (code.Mark kind) = refl
place_of_token at code.Star = refl
place_of_token at code.Opens = refl
place_of_token at code.Closes = refl
place_of_token at code.Foreign = refl

-- what is reported of a fault may be said in weaker words
pub tells_weaker : {P Q : ExpressionFault → ℕ → Type 0} → ((fault : ExpressionFault) (at : ℕ) → P fault at → Q fault at) → (e : ExprFault) → Tells P e → Tells Q e
tells_weaker {P} {Q} weaker e h = go (fault_of e) h
  where
    go : (fault : Option (ExpressionFault × ℕ)) → MatchOption fault ⊤ (λ reported. P reported.0 reported.1) → MatchOption fault ⊤ (λ reported. Q reported.0 reported.1)
    go (Some reported) h = weaker _ _ h
    go None h = h

-- The reader holds one token or more of a text, and the tokens of the rest are left.
pub record Taken (text : List ℕ) (s : State) (rest : List model.Token) : Type 0 where
  pub first : model.Token
  pub more : List model.Token
  pub leads : Leads (first ∷ more) s
  pub is : tokens text ≡ (first ∷ more) ++ rest

pub taken_first : (text : List ℕ) (s after : State) (token : model.Token) (rest : List model.Token) → s ≡ start → tokens text ≡ token ∷ rest → take s token ≡ Ok after → Taken text after rest
taken_first text s after token rest b e h = record { first = token; more = []; leads = take_leads [] s after token (rw b start_leads) h; is = e }

pub taken_more : (text : List ℕ) (s after : State) (all : List model.Token) (token : model.Token) (rest : List model.Token) → Taken text s all → all ≡ token ∷ rest → take s token ≡ Ok after → Taken text after rest
taken_more text s after all token rest t e h = record {
  first = t.first;
  more = t.more ++ token ∷ [];
  leads = take_leads (t.first ∷ t.more) s after token t.leads h;
  is = t.is ∙ (ap (λ ts. (t.first ∷ t.more) ++ ts) e ∙ sym (beyond (t.first ∷ t.more) token rest));
}

-- the fault of a token is that of the text
wrong_token : (text : List ℕ) (front rest : List model.Token) (s : State) (at : ℕ) (token : Token) → tokens text ≡ front ++ token_of at token ∷ rest → Leads front s → (e : ExprFault) → Refuses s at token e → Tells (FaultAt text) e
wrong_token text front rest s at token e leads = tells_weaker {P = λ f p. (take s (token_of at token) ≡ Err f) × (p ≡ at)} {Q = FaultAt text}
    (λ fault p h. rw (h.1) (rw (place_of_token at token) at (take_wrong text front rest (token_of at token) s fault e leads h.0)))

pub wrong_first : (text : List ℕ) (s : State) (rest : List model.Token) (at : ℕ) (token : Token) → s ≡ start → tokens text ≡ token_of at token ∷ rest → (e : ExprFault) → Refuses s at token e → Tells (FaultAt text) e
wrong_first text s rest at token b e = wrong_token text [] rest s at token e (rw b start_leads)

pub wrong_next : (text : List ℕ) (s : State) (all rest : List model.Token) (at : ℕ) (token : Token) → Taken text s all → all ≡ token_of at token ∷ rest → (e : ExprFault) → Refuses s at token e → Tells (FaultAt text) e
wrong_next text s all rest at token t e = wrong_token text (t.first ∷ t.more) rest s at token (t.is ∙ ap (λ ts. (t.first ∷ t.more) ++ ts) e) t.leads

taken_all : {text : List ℕ} {s : State} (t : Taken text s []) → tokens text ≡ t.first ∷ t.more
taken_all t = t.is ∙ append-nil (t.first ∷ t.more)

-- what is held at the end is the expression
pub read_all : (text : List ℕ) (s : State) (rest : List model.Token) (value : Expression) → Taken text s rest → rest ≡ [] → finish s ≡ Some value → Reads text value
read_all text s rest value t e f = let u = subst (λ ts. Taken text s ts) e t in read_end text (u.first ∷ u.more) s value (taken_all u) u.leads f

-- or the text is cut short
pub wrong_end : (text : List ℕ) (s : State) (rest : List model.Token) → Taken text s rest → rest ≡ [] → (e : ExprFault)
    → Tells (λ fault at. (finish s ≡ None) × (fault ≡ unexpected) × (at ≡ length text)) e → Tells (FaultAt text) e
wrong_end text s rest t e = let u = subst (λ ts. Taken text s ts) e t in tells_weaker {P = λ fault at. (finish s ≡ None) × (fault ≡ unexpected) × (at ≡ length text)} {Q = FaultAt text}
    (λ fault at h. rw (h.1, h.2) (cut_short text u.first u.more s (taken_all u) u.leads h.0))
