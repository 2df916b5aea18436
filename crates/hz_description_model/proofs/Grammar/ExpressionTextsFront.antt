-- The tokens that were read so far and what is held of them; each text has one expression or one fault.
use Rattle.std.proofs.Common.{Ok, ◌≡◌, ℕ, false, ◌++◌, List, [], ◌∷◌, length, refl, sym, ap, ◌∙◌, subst, arith, Option, Some, None, append_assoc}
use Rattle.std.specs.Option.{option_map}
use Rattle.std.proofs.lemmas.List.Sums.{fold_push}
use Rattle.hz_description_model.specs.Reservations.Alternatives.{Expression}
use Rattle.hz_description_model.specs.Grammar.ExpressionTexts.{Token, word, mark, star, opens, closes, depth, depth_after, ends_in_star, is_star, limit_fault, limit_past, ExpressionFault, KeepsLimits, IsWhole, Begins, IsSound}
use Rattle.hz_description_model.specs.Grammar.ExpressionSteps.{is_starred, judged, take, Open, Last, nothing_yet, element, starred, repeated, State, start, step, step_part}
use Rattle.hz_base_model.specs.Lines.{number_of}
use Rattle.hz_description_model.proofs.Grammar.ExpressionTextsRest.{Completes, CompletesAfter, opened, spelled, numbered, back, forth}
use Rattle.hz_description_model.proofs.Grammar.ExpressionTextsFormed.{StateFormed, formed_step}
use Rattle.hz_description_model.proofs.Grammar.ExpressionTextsEnd.{can_end}

-- where two lists are one: the elements that follow two fronts are the same, or one front is within the other
pub data Meets {A : Type 0} (a : List A) (x : A) (xs : List A) (b : List A) (y : A) (ys : List A) : Type 0 where
  same : a ≡ b → x ≡ y → xs ≡ ys → Meets a x xs b y ys
  earlier : (mid : List A) → b ≡ a ++ x ∷ mid → xs ≡ mid ++ y ∷ ys → Meets a x xs b y ys
  later : (mid : List A) → a ≡ b ++ y ∷ mid → ys ≡ mid ++ x ∷ xs → Meets a x xs b y ys

pub meets : {A : Type 0} (a : List A) (x : A) (xs : List A) (b : List A) (y : A) (ys : List A) → a ++ x ∷ xs ≡ b ++ y ∷ ys → Meets a x xs b y ys
meets [] x xs [] y ys e = Meets.same refl (cc) (cc)
meets [] x xs (z ∷ b) y ys e = Meets.earlier b (cc) (cc)
meets (z ∷ a) x xs [] y ys e = Meets.later a (cc) (cc)
meets (z ∷ a) x xs (w ∷ b) y ys e = let head : z ≡ w = cc in go (meets a x xs b y ys (cc))
  where
    go : Meets a x xs b y ys → Meets (z ∷ a) x xs (w ∷ b) y ys
    go (Meets.same p q r) = Meets.same (cc) q r
    go (Meets.earlier mid p q) = Meets.earlier mid (cc) q
    go (Meets.later mid p q) = Meets.later mid (cc) q

-- a token and those after it
pub beyond : (front : List Token) (token : Token) (rest : List Token) → (front ++ token ∷ []) ++ rest ≡ front ++ token ∷ rest
beyond front token rest = append_assoc front (token ∷ []) rest

-- how a step counts parentheses and stars
abbrev pub Counts : ℕ → Token → Option State → Type 0
Counts deep token None = Unit {0}
Counts deep token (Some s) = (depth_after deep token ≡ length s.outer) × (is_star token ≡ is_starred s.last)

counts_part : (inner : Open) (outer : List Open) (value : Expression) (token : Token) → Counts (length outer) token (step_part inner outer value token)
counts_part inner outer value (mark at kind) = (refl, refl)
counts_part inner (o ∷ outer) value (closes at) = (omega arith, refl)
counts_part inner outer value token = tt

counts_number : (inner : Open) (outer : List Open) (value : Expression) (at : ℕ) (bytes : List ℕ) (number : Option ℕ) → Counts (length outer) (word at bytes) (option_map (numbered inner outer value) number)
counts_number inner outer value at bytes None = tt
counts_number inner outer value at bytes (Some number) = (refl, refl)

counts_last : (inner : Open) (outer : List Open) (last : Last) (token : Token) → Counts (length outer) token (step (record { inner = inner; outer = outer; last = last }) token)
counts_last inner outer nothing_yet (word at bytes) = (refl, refl)
counts_last inner outer nothing_yet (opens at) = (omega arith, refl)
counts_last inner outer nothing_yet token = tt
counts_last inner outer (element value) (star at) = (refl, refl)
counts_last inner outer (element value) (mark at kind) = (refl, refl)
counts_last inner outer (element value) (closes at) = counts_part inner outer value (closes at)
counts_last inner outer (element value) token = tt
counts_last inner outer (starred value) (word at bytes) = counts_number inner outer value at bytes (number_of bytes)
counts_last inner outer (starred value) token = tt
counts_last inner outer (repeated value) token = counts_part inner outer value token

-- The tokens that were read lead to what is held: the same expressions follow, and no limit is passed.
pub record Leads (front : List Token) (s : State) : Type 0 where
  pub to : (rest : List Token) (whole : Expression) → IsWhole (front ++ rest) whole → Completes s rest whole
  pub from : (rest : List Token) (whole : Expression) → Completes s rest whole → IsWhole (front ++ rest) whole
  pub deep : depth front ≡ length s.outer
  pub starred : ends_in_star front ≡ is_starred s.last
  pub limits : KeepsLimits front
  pub formed : StateFormed s

no_limits : KeepsLimits []
no_limits [] token rest e = absurd (cc)
no_limits (t ∷ front) token rest e = absurd (cc)

pub start_leads : Leads [] start
start_leads = record {
  to = λ rest whole h. let o = opened h in record { part = o.part; left = o.left; spells = o.spells; ends = record { value = whole; rest = []; encloses = o.encloses; ends = (refl, refl) } };
  from = λ rest whole h. let spells = spelled h.spells h.ends.encloses in rw (h.ends.ends.0, h.ends.ends.1) at spells;
  deep = refl;
  starred = refl;
  limits = no_limits;
  formed = record { inner = record { sequence = refl; choices = refl; together = refl }; outer = tt; last = tt };
}

push_limits : (front : List Token) (token : Token) → KeepsLimits front → limit_fault front token ≡ None → KeepsLimits (front ++ token ∷ [])
push_limits front token keeps now f t rest e = go (meets front token [] f t rest e)
  where
    go : Meets front token [] f t rest → limit_fault f t ≡ None
    go (Meets.same p q r) = rw (← p, ← q) now
    go (Meets.earlier [] p q) = absurd (cc)
    go (Meets.earlier (m ∷ mid) p q) = absurd (cc)
    go (Meets.later mid p q) = keeps f t mid p

-- what is passed at a token, by what is held
pub limit_held : (front : List Token) (s : State) (token : Token) → Leads front s → limit_fault front token ≡ limit_past (length s.outer) (is_starred s.last) token
limit_held front s token leads = rw (leads.deep, leads.starred) refl

-- a step that is taken leads on
pub step_leads : (front : List Token) (s after : State) (token : Token) → Leads front s → step s token ≡ Some after → limit_fault front token ≡ None → Leads (front ++ token ∷ []) after
step_leads front s after token leads e now =
    let counts = subst (λ o. Counts (length s.outer) token o) e (counts_last s.inner s.outer s.last token) in
    record {
      to = λ rest whole h. subst (λ o. CompletesAfter o rest whole) e (forth s token rest whole (leads.to (token ∷ rest) whole (rw (beyond front token rest) at h)));
      from = λ rest whole h. rw (beyond front token rest) (leads.from (token ∷ rest) whole (back s token rest whole (subst (λ o. CompletesAfter o rest whole) (sym e) h)));
      deep = fold_push depth_after 0 front token ∙ (ap (λ n. depth_after n token) leads.deep ∙ counts.0);
      starred = fold_push (λ _ t. is_star t) false front token ∙ counts.1;
      limits = push_limits front token leads.limits now;
      formed = formed_step s token after leads.formed (sym (limit_held front s token leads) ∙ now) e;
    }

-- what is held can be ended, so it was the beginning of an expression
pub leads_sound : (front : List Token) (s : State) → Leads front s → IsSound front
leads_sound front s leads = let e = can_end s in record { begins = (e.tokens, e.whole, leads.from e.tokens e.whole e.complete); limits = leads.limits }

-- a token that is taken continues an expression, and one that is not does not
pub taken_begins : (front : List Token) (s after : State) (token : Token) → Leads front s → step s token ≡ Some after → Begins (front ++ token ∷ [])
taken_begins front s after token leads e = let c = can_end after in
    (c.tokens, c.whole, rw (beyond front token c.tokens) (leads.from (token ∷ c.tokens) c.whole (back s token c.tokens c.whole (subst (λ o. CompletesAfter o c.tokens c.whole) (sym e) c.complete))))

pub begins_taken : (front : List Token) (s : State) (token : Token) (rest : List Token) (whole : Expression) → Leads front s → IsWhole (front ++ token ∷ rest) whole → CompletesAfter (step s token) rest whole
begins_taken front s token rest whole leads h = forth s token rest whole (leads.to (token ∷ rest) whole h)

pub refused_begins : (front : List Token) (s : State) (token : Token) → Leads front s → step s token ≡ None → Begins (front ++ token ∷ []) → ⊥
refused_begins front s token leads e b = subst (λ o. CompletesAfter o b.0 b.1) e (begins_taken front s token b.0 b.1 leads (rw (beyond front token b.0) at b.2))

-- a token that is taken leads on
pub take_leads : (front : List Token) (s after : State) (token : Token) → Leads front s → take s token ≡ Ok after → Leads (front ++ token ∷ []) after
take_leads front s after token leads e = go (step s token) refl _ (limit_held front s token leads) e
  where
    go : (o : Option State) → step s token ≡ o → (f : Option ExpressionFault) → limit_fault front token ≡ f → judged o f ≡ Ok after → Leads (front ++ token ∷ []) after
    go None p f q h = absurd (cc)
    go (Some t) p (Some f) q h = absurd (cc)
    go (Some t) p None q h = step_leads front s after token leads (cc) q
