-- What is answered begins with what `replay` answers, unless a limit of states stands in its way.
use Rattle.std.proofs.Common.{◌≡◌, ℕ, zero, suc, ◌<◌, ◌≤◌, ◌⊎◌, inl, inr, ⊎_elim, Bool, true, false, List, [], ◌∷◌, length, nat_lt, Option, Some, None, refl, sym, subst, arith}
use Rattle.std.specs.Prelude.{MatchBool, MatchOption, slice_index_or}
use Rattle.std.proofs.lemmas.Bool.{cases_lt}
use Rattle.std.proofs.lemmas.List.{append-nil}
use Rattle.hz_base_model.specs.Names.{Held}
use Rattle.hz_description_model.specs.Check.CheckedParts.{automaton_count, automaton_names}
use Rattle.hz_description_model.specs.Check.Places.{Known}
use Rattle.hz_description_model.specs.Reading.Descriptions.{Description}
use Rattle.hz_pipeline_model.specs.Compiling.DescriptionLimits.{KeepsLimits, AllKeepLimits, PassesLimit, IsFirstPastLimit}
use Rattle.hz_words_model.specs.Words.{replay}
use Rattle.hz_laws.proofs.Leaving.LimitsReported.{are_counted}
use Rattle.hz_pipeline_model.specs.Reaching.Counts.{Count}
use Rattle.hz_front_model.specs.Descriptions.{HasDescription}
use Rattle.hz_answer_model.specs.Answers.{ReplaysDescription, JudgesOrder, AnswersOrder, Judges}
use Rattle.hz_front_model.specs.Phases.{Says, Next, Opens}
use Rattle.hz_front_model.specs.Texts.{states_line, file_line, limit_line}
use Rattle.hz_why_model.specs.Answers.{ExplainsTrace, JudgesTexts, AnswersFiles}
use Rattle.hz_why_laws.specs.Beginnings.{Begins}

-- what begins with an answer, or a limit
module _ (file : List ℕ) (A B : ℕ → List ℕ → Type 0) where
  into : ((s : ℕ) (t : List ℕ) → A s t → B s t) → (status : ℕ) (text : List ℕ) → Begins file A status text → Begins file B status text
  into widen status text (inl (answer, rest, (is, parts))) = inl (answer, rest, (widen status answer is, parts))
  into widen status text (inr (automaton, is)) = inr (automaton, widen 3 (states_line file automaton) is)

whole : (file : List ℕ) (A : ℕ → List ℕ → Type 0) (status : ℕ) (text : List ℕ) → A status text → Begins file A status text
whole file A status text is = inl (text, [], (is, sym (append-nil text)))

-- the first automaton past a limit, or none
limits_reported : (d : Description) (known : Known) → (n : ℕ) → n ≤ automaton_count d → ((a : ℕ) → a < n → KeepsLimits d known a) ⊎ ((a : ℕ) × IsFirstPastLimit d known a)
limits_reported d known zero few = inl (λ a low. absurd (omega (arith, low)))
limits_reported d known (suc n) few = ⊎_elim
    (λ (kept : (a : ℕ) → a < n → KeepsLimits d known a). ⊎_elim
    (λ (here : KeepsLimits d known n). inl (λ a low. ⊎_elim
    (λ (less : a < n). kept a less)
    (λ (high : n ≤ a). let same : n ≡ a = omega (arith, low, high) in subst (KeepsLimits d known) same here)
    (cases_lt a n)))
    (λ (past : (kind : Count) × PassesLimit d known n kind). inr (n, record { there = omega (arith, few); before = kept; kind = past.0; past = past.1 }))
    (are_counted d known n (omega (arith, few))))
    (λ first. inr first)
    (limits_reported d known n (omega (arith, few)))

module _ (description trace traced : List ℕ) (d : Description) (known : Known) where
  abbrev Replayed : ℕ → List ℕ → Type 0
  Replayed = ReplaysDescription description trace traced d known

  limited : (first : (a : ℕ) × IsFirstPastLimit d known a) → Replayed 3 (states_line description (slice_index_or (automaton_names d) first.0 []))
  limited first = inr (first.0, first.1, (refl, refl))

  trace_begins : (status : ℕ) (text : List ℕ) → ExplainsTrace trace traced d known status text → Begins description Replayed status text
  trace_begins status text (inr fault) = ⊎_elim
      (λ (kept : AllKeepLimits d known). inl (text, [], (inl (kept, inr fault), sym (append-nil text))))
      (λ (first : (a : ℕ) × IsFirstPastLimit d known a). inr (slice_index_or (automaton_names d) first.0 [], limited first))
      (limits_reported d known (automaton_count d) (omega arith))
  trace_begins status text (inl (events, is, (answer, why, replayed, explained, parts))) = ⊎_elim
      (λ (kept : AllKeepLimits d known). inl (answer, why, (inl (kept, inl (events, is, replayed)), parts)))
      (λ (first : (a : ℕ) × IsFirstPastLimit d known a). inr (slice_index_or (automaton_names d) first.0 [], limited first))
      (limits_reported d known (automaton_count d) (omega arith))

module _ (description described trace traced : List ℕ) where
  abbrev Judged : ℕ → List ℕ → Type 0
  Judged = Judges description described trace traced

  -- a description with its alternatives, and what is answered of both
  described_begins : (status : ℕ) (text : List ℕ) → HasDescription description described (ExplainsTrace trace traced) status text → Begins description Judged status text
  described_begins status text (inr fault) = whole description Judged status text (inr fault)
  described_begins status text (inl (read, reads, inr fault)) = whole description Judged status text (inl (read, reads, inr fault))
  described_begins status text (inl (read, reads, inl (d, says, inr fault))) = whole description Judged status text (inl (read, reads, inl (d, says, inr fault)))
  described_begins status text (inl (read, reads, inl (d, says, inl (known, sound, explained)))) =
      into description (ReplaysDescription description trace traced d known) Judged (λ s t h. inl (read, reads, inl (d, says, inl (known, sound, h)))) status text
      (trace_begins description trace traced d known status text explained)

-- files that are read
module _ (held : Held) (file : List ℕ) where
  module _ (name : List ℕ) (most : ℕ) (next other : Next (List ℕ)) (begins : (bytes : List ℕ) (status : ℕ) (text : List ℕ) → next bytes status text → Begins file (other bytes) status text) where
    abbrev Opened : ℕ → List ℕ → Type 0
    Opened = Opens held name most other

    by_length : (bytes : List ℕ) → held name ≡ Some bytes → (b : Bool) → nat_lt most (length bytes) ≡ b → (status : ℕ) (text : List ℕ) → MatchBool b (Says 3 (limit_line name) status text) (next bytes status text) → Begins file Opened status text
    by_length bytes e true long status text h = whole file Opened status text (rw (e, long) h)
    by_length bytes e false long status text h = into file (other bytes) Opened (λ s t is. rw (e, long) is) status text (begins bytes status text h)

    by_file : (o : Option (List ℕ)) → held name ≡ o → (status : ℕ) (text : List ℕ) → MatchOption o (Says 6 (file_line name) status text) (λ bytes. MatchBool (nat_lt most (length bytes)) (Says 3 (limit_line name) status text) (next bytes status text)) → Begins file Opened status text
    by_file None e status text h = whole file Opened status text (rw e h)
    by_file (Some bytes) e status text h = by_length bytes e (nat_lt most (length bytes)) refl status text h

    opened_begins : (status : ℕ) (text : List ℕ) → Opens held name most next status text → Begins file Opened status text
    opened_begins status text h = by_file (held name) refl status text h

pub answers_begin : (held : Held) (description trace : List ℕ) (status : ℕ) (text : List ℕ) → AnswersFiles held (description, trace) status text → Begins description (AnswersOrder held (replay description trace)) status text
answers_begin held description trace status text h =
    opened_begins held description description _
    (λ described. Opens held trace _ (λ traced. JudgesTexts description trace (described ∷ traced ∷ [])))
    (λ described. Opens held trace _ (λ traced. JudgesOrder (replay description trace) (described ∷ traced ∷ [])))
    (λ described. opened_begins held description trace _ (λ traced. JudgesTexts description trace (described ∷ traced ∷ [])) (λ traced. JudgesOrder (replay description trace) (described ∷ traced ∷ []))
    (λ traced. described_begins description described trace traced))
    status text h
