-- Each text has one expression or one fault, and not both: the reading of all tokens gives the one that it has.
use Rattle.std.proofs.Common.{true, ◌≡◌, ℕ, ◌++◌, List, [], ◌∷◌, length, refl, sym, ap, ◌∙◌, Option, Some, None, Ok, Err, Result, ◌⊎◌, inl, inr, append_assoc}
use Rattle.std.proofs.lemmas.List.{append-nil}
use Rattle.hz_description_model.specs.Reservations.Alternatives.{Expression}
use Rattle.hz_description_model.specs.Grammar.ExpressionTexts.{Token, place, tokens, limit_fault, KeepsLimits, IsWhole, Begins, IsSound, Reads, ExpressionFault, unexpected, no_token, FaultAt}
use Rattle.hz_description_model.specs.Reservations.Expressions.{is_expression}
use Rattle.hz_description_model.specs.Grammar.ExpressionSteps.{take, judged, State, start, step, finish}
use Rattle.hz_description_model.proofs.Grammar.ExpressionTextsRest.{CompletesAfter}
use Rattle.hz_description_model.proofs.Grammar.ExpressionTextsEnd.{ended, finished}
use Rattle.hz_description_model.proofs.Grammar.ExpressionTextsFormed.{formed_finish}
use Rattle.hz_description_model.proofs.Grammar.ExpressionTextsFront.{beyond, limit_held, Leads, start_leads, step_leads, leads_sound, taken_begins, begins_taken, refused_begins}

abbrev pub Outcome : Type 0
Outcome = Result Expression (ExpressionFault × ℕ)

-- what comes of a token: a fault, or what comes of those after it
abbrev pub outcome_at : Token → Option State → Option ExpressionFault → (State → Outcome) → Outcome
outcome_at token None fault on = Err (unexpected, place token)
outcome_at token (Some s) (Some fault) on = Err (fault, place token)
outcome_at token (Some s) None on = on s

-- what comes of the end of a text of so many bytes
abbrev pub outcome_end : ℕ → List Token → Option Expression → Outcome
outcome_end size [] value = Err (no_token, 0)
outcome_end size (token ∷ front) None = Err (unexpected, size)
outcome_end size (token ∷ front) (Some value) = Ok value

-- what comes of tokens after a front
abbrev pub outcome : ℕ → State → List Token → List Token → Outcome
outcome size s front [] = outcome_end size front (finish s)
outcome size s front (token ∷ rest) = outcome_at token (step s token) (limit_fault front token) (λ after. outcome size after (front ++ token ∷ []) rest)

-- a front that leads somewhere, after which the outcome is that of the whole
record Walked (size : ℕ) (s : State) (front more rest : List Token) : Type 0 where
  state : State
  leads : Leads (front ++ more) state
  same : outcome size s front (more ++ rest) ≡ outcome size state (front ++ more) rest

walk_on : (size : ℕ) (s : State) (front : List Token) (token : Token) (more rest after_all : List Token) (whole : Expression) → Leads front s → limit_fault front token ≡ None
    → ((after : State) → Leads (front ++ token ∷ []) after → Walked size after (front ++ token ∷ []) more rest)
    → (after : Option State) → step s token ≡ after → CompletesAfter after after_all whole → Walked size s front (token ∷ more) rest
walk_on size s front token more rest after_all whole leads now on None e h = absurd h
walk_on size s front token more rest after_all whole leads now on (Some after) e h =
    let w = on after (step_leads front s after token leads e now) in
    record { state = w.state; leads = rw (beyond front token more) at w.leads; same = rw (e, now) (w.same ∙ ap (λ f. outcome size w.state f rest) (beyond front token more)) }

walk : (size : ℕ) (s : State) (front more rest : List Token) → Leads front s → IsSound (front ++ more) → Walked size s front more rest
walk size s front [] rest leads sound = record { state = s; leads = rw (append-nil front) leads; same = rw (append-nil front) refl }
walk size s front (token ∷ more) rest leads sound =
    let b = sound.begins in
    walk_on size s front token more rest (more ++ b.0) b.1 leads (sound.limits front token more refl)
    (λ after now. walk size after (front ++ token ∷ []) more rest now (rw (beyond front token more) sound))
    (step s token) refl (begins_taken front s token (more ++ b.0) b.1 leads (rw append_assoc at b.2))

-- the outcome of a text
abbrev pub outcome_of : List ℕ → Outcome
outcome_of text = outcome (length text) start [] (tokens text)

walk_front : (text : List ℕ) (front rest : List Token) → tokens text ≡ front ++ rest → IsSound front → Walked (length text) start [] front rest
walk_front text front rest e sound = walk (length text) start [] front rest start_leads sound

outcome_front : (text : List ℕ) (front rest : List Token) → tokens text ≡ front ++ rest → (w : Walked (length text) start [] front rest) → outcome_of text ≡ outcome (length text) w.state front rest
outcome_front text front rest e w = ap (λ ts. outcome (length text) start [] ts) e ∙ w.same

read_first : (text : List ℕ) (value : Expression) (all : List Token) → tokens text ≡ all → IsWhole all value → KeepsLimits all → outcome_of text ≡ Ok value
read_first text value [] e whole limits = absurd (let none = ended start value (start_leads.to [] value whole) in cc)
read_first text value (token ∷ all) e whole limits =
    let sound : IsSound (token ∷ all) = record { begins = ([], value, rw (append-nil (token ∷ all)) whole); limits = limits } in
    let same : tokens text ≡ (token ∷ all) ++ [] = e ∙ sym (append-nil (token ∷ all)) in
    let w = walk_front text (token ∷ all) [] same sound in
    outcome_front text (token ∷ all) [] same w ∙ ap (λ o. outcome_end (length text) (token ∷ all) o) (ended w.state value (w.leads.to [] value (rw (append-nil (token ∷ all)) whole)))

-- What is read is well formed.
pub well_formed : (text : List ℕ) (value : Expression) → Reads text value → is_expression value ≡ true
well_formed text value r =
    let all = tokens text in
    let sound : IsSound all = record { begins = ([], value, rw (append-nil all) r.whole); limits = r.limits } in
    let w = walk_front text all [] (sym (append-nil all)) sound in
    formed_finish w.state value w.leads.formed (ended w.state value (w.leads.to [] value (rw (append-nil all) r.whole)))

-- an expression is the outcome
pub read_is : (text : List ℕ) (value : Expression) → Reads text value → outcome_of text ≡ Ok value
read_is text value r = read_first text value (tokens text) refl r.whole r.limits

no_begin : (text : List ℕ) (size : ℕ) (front rest : List Token) (token : Token) (s : State) → Leads front s → (Begins (front ++ token ∷ []) → ⊥) → outcome size s front (token ∷ rest) ≡ Err (unexpected, place token)
no_begin text size front rest token s leads never = go (step s token) refl
  where
    go : (o : Option State) → step s token ≡ o → outcome size s front (token ∷ rest) ≡ Err (unexpected, place token)
    go None e = rw e refl
    go (Some after) e = absurd (never (taken_begins front s after token leads e))

past : (size : ℕ) (front rest : List Token) (token : Token) (s : State) (fault : ExpressionFault) → Leads front s → Begins (front ++ token ∷ []) → limit_fault front token ≡ Some fault
    → outcome size s front (token ∷ rest) ≡ Err (fault, place token)
past size front rest token s fault leads begins now = go (step s token) refl
  where
    go : (o : Option State) → step s token ≡ o → outcome size s front (token ∷ rest) ≡ Err (fault, place token)
    go None e = absurd (refused_begins front s token leads e begins)
    go (Some after) e = rw (e, now) refl

no_end : (size : ℕ) (token : Token) (front : List Token) (s : State) → Leads (token ∷ front) s → ((value : Expression) → IsWhole (token ∷ front) value → ⊥) → outcome size s (token ∷ front) [] ≡ Err (unexpected, size)
no_end size token front s leads never = go (finish s) refl
  where
    go : (o : Option Expression) → finish s ≡ o → outcome_end size (token ∷ front) o ≡ Err (unexpected, size)
    go None e = refl
    go (Some value) e = absurd (never value (rw (append-nil (token ∷ front)) at (leads.from [] value (finished s value e))))

-- a fault is the outcome
pub fault_is : {text : List ℕ} {fault : ExpressionFault} {at : ℕ} → FaultAt text fault at → outcome_of text ≡ Err (fault, at)
fault_is {text} (FaultAt.without_token e) = ap (λ ts. outcome (length text) start [] ts) e
fault_is {text} (FaultAt.wrong_token front token rest e sound never) =
    let w = walk_front text front (token ∷ rest) e sound in
    outcome_front text front (token ∷ rest) e w ∙ no_begin text (length text) front rest token w.state w.leads never
fault_is {text} (FaultAt.wrong_end token front e sound never) =
    let same : tokens text ≡ (token ∷ front) ++ [] = e ∙ sym (append-nil (token ∷ front)) in
    let w = walk_front text (token ∷ front) [] same sound in
    outcome_front text (token ∷ front) [] same w ∙ no_end (length text) token front w.state w.leads never
fault_is {text} (FaultAt.past_limit front token rest {fault} e sound begins now) =
    let w = walk_front text front (token ∷ rest) e sound in
    outcome_front text front (token ∷ rest) e w ∙ past (length text) front rest token w.state fault w.leads begins now

-- One text has one expression.
pub one_expression : (text : List ℕ) (a b : Expression) → Reads text a → Reads text b → a ≡ b
one_expression text a b p q = let same : ◌≡◌ {A = Outcome} (Ok a) (Ok b) = sym (read_is text a p) ∙ read_is text b q in cc

-- One text has one fault, at one place.
pub one_fault : (text : List ℕ) (f g : ExpressionFault) (m n : ℕ) → FaultAt text f m → FaultAt text g n → (f ≡ g) × (m ≡ n)
one_fault text f g m n p q =
    let same : ◌≡◌ {A = Outcome} (Err (f, m)) (Err (g, n)) = sym (fault_is p) ∙ fault_is q in
    let pairs : (f, m) ≡ (g, n) = cc in (ap (λ (x : ExpressionFault × ℕ). x.0) pairs, ap (λ (x : ExpressionFault × ℕ). x.1) pairs)

-- No text has both.
pub expression_or_fault : (text : List ℕ) (value : Expression) (fault : ExpressionFault) (at : ℕ) → Reads text value → FaultAt text fault at → ⊥
expression_or_fault text value fault at p q = let clash : ◌≡◌ {A = Outcome} (Ok value) (Err (fault, at)) = sym (read_is text value p) ∙ fault_is q in absurd (cc)

-- an expression or a fault
abbrev pub Decided : List ℕ → Type 0
Decided text = ((value : Expression) × Reads text value) ⊎ ((fault : ExpressionFault) × (at : ℕ) × FaultAt text fault at)

-- at the end of a text: what is held is the expression
pub read_end : (text : List ℕ) (front : List Token) (s : State) (value : Expression) → tokens text ≡ front → Leads front s → finish s ≡ Some value → Reads text value
read_end text front s value e leads f = record { whole = rw (append-nil front, ← e) at (leads.from [] value (finished s value f)); limits = rw (← e) at leads.limits }

-- or it is cut short
pub cut_short : (text : List ℕ) (token : Token) (front : List Token) (s : State) → tokens text ≡ token ∷ front → Leads (token ∷ front) s → finish s ≡ None → FaultAt text unexpected (length text)
cut_short text token front s e leads f = FaultAt.wrong_end token front e (leads_sound (token ∷ front) s leads)
    (λ value whole. let some = ended s value (leads.to [] value (rw (append-nil (token ∷ front)) whole)) in absurd (cc))

-- at a token that does not continue what was read
pub stops : (text : List ℕ) (front rest : List Token) (token : Token) (s : State) → tokens text ≡ front ++ token ∷ rest → Leads front s → step s token ≡ None → FaultAt text unexpected (place token)
stops text front rest token s e leads f = FaultAt.wrong_token front token rest e (leads_sound front s leads) (refused_begins front s token leads f)

-- at a token that continues it and passes a limit
pub passes : (text : List ℕ) (front rest : List Token) (token : Token) (s after : State) (fault : ExpressionFault) → tokens text ≡ front ++ token ∷ rest → Leads front s → step s token ≡ Some after
    → limit_fault front token ≡ Some fault → FaultAt text fault (place token)
passes text front rest token s after fault e leads f now = FaultAt.past_limit front token rest e (leads_sound front s leads) (taken_begins front s after token leads f) now

-- a token that is not taken is what is wrong
pub take_wrong : (text : List ℕ) (front rest : List Token) (token : Token) (s : State) (fault : ExpressionFault) → tokens text ≡ front ++ token ∷ rest → Leads front s → take s token ≡ Err fault
    → FaultAt text fault (place token)
take_wrong text front rest token s fault e leads h = go (step s token) refl _ (limit_held front s token leads) h
  where
    go : (o : Option State) → step s token ≡ o → (f : Option ExpressionFault) → limit_fault front token ≡ f → judged o f ≡ Err fault → FaultAt text fault (place token)
    go None p f q h = let same : unexpected ≡ fault = cc in rw (← same) (stops text front rest token s e leads p)
    go (Some t) p (Some f) q h = let same : f ≡ fault = cc in rw (← same) (passes text front rest token s t f e leads p q)
    go (Some t) p None q h = absurd (cc)

decided_end : (text : List ℕ) (front : List Token) (s : State) → tokens text ≡ front → Leads front s → (value : Option Expression) → finish s ≡ value → Decided text
decided_end text [] s e leads value f = inr (no_token, 0, FaultAt.without_token e)
decided_end text (token ∷ front) s e leads None f = inr (unexpected, length text, cut_short text token front s e leads f)
decided_end text (token ∷ front) s e leads (Some value) f = inl (value, read_end text (token ∷ front) s value e leads f)

decided_at : (text : List ℕ) (front rest : List Token) (token : Token) (s : State) → tokens text ≡ front ++ token ∷ rest → Leads front s → ((after : State) → Leads (front ++ token ∷ []) after → Decided text)
    → (after : Option State) → step s token ≡ after → (fault : Option ExpressionFault) → limit_fault front token ≡ fault → Decided text
decided_at text front rest token s e leads on None f fault now = inr (unexpected, place token, stops text front rest token s e leads f)
decided_at text front rest token s e leads on (Some after) f (Some fault) now = inr (fault, place token, passes text front rest token s after fault e leads f now)
decided_at text front rest token s e leads on (Some after) f None now = on after (step_leads front s after token leads f now)

decided : (text : List ℕ) (front rest : List Token) (s : State) → tokens text ≡ front ++ rest → Leads front s → Decided text
decided text front [] s e leads = decided_end text front s (e ∙ append-nil front) leads (finish s) refl
decided text front (token ∷ rest) s e leads = decided_at text front rest token s e leads (λ after now. decided text (front ++ token ∷ []) rest after (e ∙ sym (beyond front token rest)) now)
    (step s token) refl (limit_fault front token) refl

-- Every text has an expression or a fault.
pub every_text : (text : List ℕ) → Decided text
every_text text = decided text [] (tokens text) start refl start_leads
