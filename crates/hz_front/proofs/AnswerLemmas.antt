-- Results and refusals of which something narrower is known.
use Rattle.std.proofs.Common.{ℕ, List, Bool, true, false, MatchBool}
use Rattle.std.specs.Prelude.{⊤, Result, Ok, Err, IfOk, IfErr}
use Rattle.hz_front.specs.Refusals.{Agrees, Answers, Decided, done, refused, is_memory, status_of, text_of}
use Rattle.hz_front.specs.declared.refusal.Refusal.{Refusal}

-- a refusal that agrees with one answer agrees with a wider one
pub agrees_weaker : (narrow wide : ℕ → List ℕ → Type 0) → ((s : ℕ) (t : List ℕ) → narrow s t → wide s t) → (refusal : Refusal) → Agrees narrow refusal → Agrees wide refusal
agrees_weaker narrow wide f refusal = by_memory (is_memory refusal)
  where
    by_memory : (memory : Bool) → MatchBool memory ⊤ (narrow (status_of refusal) (text_of refusal)) → MatchBool memory ⊤ (wide (status_of refusal) (text_of refusal))
    by_memory true h = h
    by_memory false h = f (status_of refusal) (text_of refusal) h

-- what answers one question answers a wider one
pub answers_weaker : (narrow wide : ℕ → List ℕ → Type 0) → ((s : ℕ) (t : List ℕ) → narrow s t → wide s t) → (decided : Decided) → Answers narrow decided → Answers wide decided
answers_weaker narrow wide f (done status text) h = f status text h
answers_weaker narrow wide f (refused refusal) h = agrees_weaker narrow wide f refusal h

-- what follows for each value, or for each error
pub if_ok : {T E : Type 0} {P Q : T → Type 0} → ((x : T) → P x → Q x) → (r : Result T E) → IfOk r P → IfOk r Q
if_ok f (Ok x) h = f x h
if_ok f (Err e) h = h

pub if_err : {T E : Type 0} {P Q : E → Type 0} → ((e : E) → P e → Q e) → (r : Result T E) → IfErr r P → IfErr r Q
if_err f (Ok x) h = h
if_err f (Err e) h = f e h
