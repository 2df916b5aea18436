-- What is decided of one answer is decided of a wider one; and what is handed on at the exit of a `?`.
use Rattle.std.proofs.Common.{◌≡◌, ℕ, List, sym, subst}
use Rattle.std.specs.Prelude.{Result, Ok, Err, IfOk, IfErr, IsErrAnd}
use Rattle.hz_front.proofs.AnswerLemmas.{agrees_weaker}
use Rattle.hz_front.specs.Endings.{IsOrdered}
use Rattle.hz_front.specs.Refusals.{Answers, CountsDecided, CountsRefusal, IsJudged, IsOfOrder, NamesFile, NamesIn}
use Rattle.hz_front.specs.declared.refusal.Refusal.{Refusal}
use Rattle.hz_front.specs.declared.refusal.Refusal.TheVariants.{Usage, File}
use Rattle.hz_tool.specs.Deciding.{CanTell, Decides, Gives, Refuses, decided_in, done_status, done_text}
use Rattle.hz_tool.specs.declared.done.Done.{Done}

-- what holds of the error of a `?` holds of what it hands on
pub err_exit : {T : Type 0} (P : Refusal → Type 0) (r : Result T Refusal) (refusal : Refusal) → IsErrAnd r (λ e. e ≡ refusal) → P refusal → IfErr r P
err_exit P (Ok x) refusal is h = absurd is
err_exit P (Err e) refusal is h = subst P (sym is) h

-- a refusal that a phase hands on
pub phase_exit : {T : Type 0} (is : T → Type 0) (answer : ℕ → List ℕ → Type 0) (r : Result T Refusal) (refusal : Refusal) → IsErrAnd r (λ e. e ≡ refusal) → Refuses answer refusal → Gives is answer r
phase_exit P answer (Ok x) refusal is h = absurd is
phase_exit P answer (Err e) refusal is h = subst (Refuses answer) (sym is) h

module _ (narrow wide : ℕ → List ℕ → Type 0) (widens : (s : ℕ) (t : List ℕ) → narrow s t → wide s t) where
  pub refuses_weaker : (refusal : Refusal) → Refuses narrow refusal → Refuses wide refusal
  refuses_weaker refusal h = (h.0, agrees_weaker narrow wide widens refusal h.1)

  pub decides_weaker : (r : Result Done Refusal) → Decides narrow r → Decides wide r
  decides_weaker (Ok done) h = (h.0, widens (done_status done) (done_text done) h.1)
  decides_weaker (Err refusal) h = refuses_weaker refusal h

  pub hands_on : (r : Result Done Refusal) (refusal : Refusal) → IsErrAnd r (λ e. e ≡ refusal) → Refuses narrow refusal → Decides wide r
  hands_on (Ok done) refusal is h = absurd is
  hands_on (Err e) refusal is h = subst (Refuses wide) (sym is) (refuses_weaker refusal h)

-- ---- what is decided of texts that were judged is nothing of files or words

judged_counts : (old new : ℕ) (refusal : Refusal) → IsJudged refusal → new ≡ old → CountsRefusal old new refusal
judged_counts old new (File name) judged same = absurd judged
judged_counts old new _ judged same = same

judged_ordered : (refusal : Refusal) → IsJudged refusal → IsOfOrder refusal
judged_ordered (Usage line) judged = absurd judged
judged_ordered _ judged = tt

judged_names : (names : List ℕ → Type 0) (refusal : Refusal) → IsJudged refusal → NamesFile names refusal
judged_names names (File name) judged = absurd judged
judged_names names _ judged = tt

module _ (answer : ℕ → List ℕ → Type 0) where
  pub decides_counts : (old new : ℕ) (r : Result Done Refusal) → Decides answer r → new ≡ old → CountsDecided old new (decided_in r)
  decides_counts old new (Ok done) h same = same
  decides_counts old new (Err refusal) h same = judged_counts old new refusal h.0 same

  pub decides_ordered : (r : Result Done Refusal) → Decides answer r → IsOrdered (decided_in r)
  decides_ordered (Ok done) h = tt
  decides_ordered (Err refusal) h = judged_ordered refusal h.0

  pub decides_tells : (r : Result Done Refusal) → Decides answer r → IfOk r CanTell
  decides_tells (Ok done) h = h.0
  decides_tells (Err refusal) h = tt

  pub decides_names : (names : List ℕ → Type 0) (r : Result Done Refusal) → Decides answer r → NamesIn names (decided_in r)
  decides_names names (Ok done) h = tt
  decides_names names (Err refusal) h = judged_names names refusal h.0

  pub decides_answers : (r : Result Done Refusal) → Decides answer r → Answers answer (decided_in r)
  decides_answers (Ok done) h = h.1
  decides_answers (Err refusal) h = h.1
