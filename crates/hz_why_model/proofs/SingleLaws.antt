-- What is reported of a trace is reported in one way.
use Rattle.std.proofs.Common.{◌≡◌, ℕ, List, [], ◌∷◌, ◌++◌, inl, inr, Option, Some, None, MatchOption, take, sym, ap, ◌∙◌, subst}
use Rattle.std.specs.Prelude.{slice_get}
use Rattle.std.proofs.lemmas.Option.{same_Some}
use Rattle.hz_base_model.specs.Lines.{lines_of}
use Rattle.hz_base_model.specs.Names.{Held}
use Rattle.hz_description_model.specs.Check.Places.{Known}
use Rattle.hz_description_model.specs.Reading.Descriptions.{Description}
use Rattle.hz_description_model.specs.Reading.Limits.{description_limit}
use Rattle.hz_description_model.specs.Reservations.Automata.{UnitPlace}
use Rattle.hz_pipeline_model.specs.Accepting.Events.{Event, issue}
use Rattle.hz_pipeline_model.specs.Accepting.Replay.{Pipeline}
use Rattle.hz_pipeline_model.specs.Pipelines.Pipelines.{pipeline_with}
use Rattle.hz_pipeline_model.specs.Traces.TraceLimits.{trace_limit}
use Rattle.hz_pipeline_model.specs.Traces.Traces.{event_lines}
use Rattle.hz_pipeline_model.proofs.Accepting.AcceptanceLaws.{one_refused, accepted_or_refused}
use Rattle.hz_front_model.specs.Asks.{held_in, trace_names}
use Rattle.hz_front_model.specs.Phases.{Says}
use Rattle.hz_front_model.proofs.SingleLaws.{IsSingle, says_single, replays_single, traces_single, description_single, files_single}
use Rattle.hz_why_model.specs.Answers.{wording_of, Explains, ReplaysAndExplains, ExplainsTrace, why_usage, why_files, JudgesTexts, AnswersFiles, WhyAnswer}
use Rattle.hz_why_model.specs.Explanations.{Wording, TellsLeft, TellsRefusal, left_text, refusal_text}
use Rattle.hz_why_model.proofs.ChoiceLaws.{one_first_choice}
use Rattle.hz_why_model.proofs.WaitLaws.{one_wait}

module _ (w : Wording UnitPlace) (m : Pipeline UnitPlace) where
  one_left : (t : List Event) (lines text other : List ℕ) → TellsLeft w m t lines text → TellsLeft w m t lines other → text ≡ other
  one_left t lines text other a b = a.is ∙ ap (left_text w m t lines) (one_first_choice m t a.choices b.choices a.first b.first) ∙ sym b.is

  one_refusal : (t : List Event) (lines : List ℕ) (k : ℕ) (text other : List ℕ) → TellsRefusal w m t lines k text → TellsRefusal w m t lines k other → text ≡ other
  one_refusal t lines k text other a b =
      let choices = one_first_choice m t a.choices b.choices a.first b.first in
      a.is
      ∙ ap (λ (cs : List ℕ). refusal_text w m t lines cs k a.wait) choices
      ∙ ap (refusal_text w m t lines b.choices k) (one_wait m t k a.wait b.wait a.waits b.waits)
      ∙ sym b.is

  same_class : (e : Option Event) (k l : ℕ) → e ≡ Some (issue k) → e ≡ Some (issue l) → k ≡ l
  same_class e k l a b = let same : issue k ≡ issue l = same_Some _ _ (sym a ∙ b) in cc

  explains_single : (events : List Event) (lines text other : List ℕ) → Explains w m events lines text → Explains w m events lines other → text ≡ other
  explains_single events lines text other (inl a) (inl b) = one_left events lines text other a.1 b.1
  explains_single events lines text other (inl a) (inr b) = absurd (accepted_or_refused m events b.0 a.0 b.2)
  explains_single events lines text other (inr a) (inl b) = absurd (accepted_or_refused m events a.0 b.0 a.2)
  explains_single events lines text other (inr (i, k, first, there, tells)) (inr (j, l, first', there', tells')) =
      let place : i ≡ j = one_refused m events i j first first' in
      let class : k ≡ l = same_class (slice_get events i) k l there (subst (λ (n : ℕ). slice_get events n ≡ Some (issue l)) (sym place) there') in
      one_refusal (take i events) lines k text other tells
      (subst (λ (n : ℕ). TellsRefusal w m (take i events) lines n other) (sym class)
      (subst (λ (n : ℕ). TellsRefusal w m (take n events) lines l other) (sym place) tells'))

reported_single : (d : Description) (known : Known) (lines : List ℕ) (events : List Event) → IsSingle (ReplaysAndExplains d known lines events)
reported_single d known lines events s s' t t' (answer, why, replays, explains, is) (answer', why', replays', explains', is') =
    let first = replays_single (pipeline_with d known) (held_in d known) (trace_names d) lines events s s' answer answer' replays replays' in
    let second = explains_single (wording_of d) (pipeline_with d known) events lines why why' explains explains' in
    (first.0, is ∙ ap (λ (xs : List ℕ). xs ++ why) first.1 ∙ ap (λ (xs : List ℕ). answer' ++ xs) second ∙ sym is')

texts_single : (description described trace traced : List ℕ) → IsSingle (JudgesTexts description trace (described ∷ traced ∷ []))
texts_single description described trace traced =
    description_single description described (ExplainsTrace trace traced) (λ d known.
    traces_single (trace_names d) trace traced (ReplaysAndExplains d known (event_lines (trace_names d) 1 (lines_of traced)))
    (reported_single d known (event_lines (trace_names d) 1 (lines_of traced))))

both_single : (held : Held) (files : List ℕ × List ℕ) → IsSingle (AnswersFiles held files)
both_single held files =
    files_single held (record { name = files.0; most = description_limit } ∷ record { name = files.1; most = trace_limit } ∷ []) (JudgesTexts files.0 files.1)
    (λ described traced. texts_single files.0 described files.1 traced)

-- the words and what is held have one answer at most
pub why_single : (words : List (List ℕ)) (held : Held) → IsSingle (WhyAnswer words held)
why_single words held = by_files (why_files words)
  where
    by_files : (files : Option (List ℕ × List ℕ)) → IsSingle (λ s t. MatchOption files (Says 4 why_usage s t) (λ files. AnswersFiles held files s t))
    by_files None = says_single 4 why_usage
    by_files (Some files) = both_single held files
