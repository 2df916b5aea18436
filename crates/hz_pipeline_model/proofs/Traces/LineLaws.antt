-- The lines of events.
use Rattle.std.proofs.Common.{◌≡◌, ℕ, zero, suc, ◌+◌, ◌<◌, List, [], ◌∷◌, ◌++◌, length, All, Option, Some, refl, sym, ap, ◌∙◌, arith}
use Rattle.std.specs.Prelude.{slice_get}
use Rattle.std.specs.List.{AllPairs}
use Rattle.std.proofs.lemmas.List.Elements.{All-nil, All-cons}
use Rattle.std.proofs.lemmas.List.Kept.{AllPairs-cons}
use Rattle.hz_base_model.specs.Lines.{lines_of}
use Rattle.hz_pipeline_model.specs.Accepting.Events.{Event}
use Rattle.hz_pipeline_model.specs.Traces.TraceNames.{TraceNames}
use Rattle.hz_pipeline_model.specs.Traces.Traces.{Line, skipped, says, wrong, line_says, Say, Trace, numbered, event_lines}
use Rattle.hz_pipeline_model.specs.Traces.TraceLines.{SaysEvent}

module _ (names : TraceNames) where
  -- a line of this number, of lines that begin with another number
  record SaysFrom (from : ℕ) (lines : List (List ℕ)) (number : ℕ) (event : Event) : Type 0 where
    before : List (List ℕ)
    line : List ℕ
    after : List (List ℕ)
    parts : lines ≡ before ++ line ∷ after
    counted : number ≡ from + length before
    event_is : line_says names line ≡ says event

  after_line : (from : ℕ) (line : List ℕ) (lines : List (List ℕ)) (number : ℕ) (event : Event) → SaysFrom (from + 1) lines number event → SaysFrom from (line ∷ lines) number event
  after_line from line lines number event s = record {
    before = line ∷ s.before;
    line = s.line;
    after = s.after;
    parts = ap (λ (ls : List (List ℕ)). line ∷ ls) s.parts;
    counted = let count = s.counted in omega (arith, count);
    event_is = s.event_is;
  }

  says_from : (from : ℕ) {lines : List (List ℕ)} {events : List Event} → Say names lines events → (place number : ℕ) (event : Event)
      → slice_get events place ≡ Some event → slice_get (event_lines names from lines) place ≡ Some number → SaysFrom from lines number event
  says_from from Say.nothing place number event is at = absurd (cc)
  says_from from (Say.skips {line = line} {lines = lines} here rest) place number event is at =
      after_line from line lines number event (says_from (from + 1) rest place number event is (ap (λ (l : Line). slice_get (numbered l from (event_lines names (from + 1) lines)) place) (sym here) ∙ at))
  says_from from (Say.tells {line = line} {lines = lines} {event = first} here rest) zero number event is at =
      let same : first ≡ event = cc in
      let there : ◌≡◌ {A = Option ℕ} (Some from) (Some number) = ap (λ (l : Line). slice_get (numbered l from (event_lines names (from + 1) lines)) zero) (sym here) ∙ at in
      let count : from ≡ number = cc in
      record { before = []; line = line; after = lines; parts = refl; counted = omega (arith, count); event_is = here ∙ ap says same }
  says_from from (Say.tells {line = line} {lines = lines} here rest) (suc place) number event is at =
      after_line from line lines number event (says_from (from + 1) rest place number event is (ap (λ (l : Line). slice_get (numbered l from (event_lines names (from + 1) lines)) (suc place)) (sym here) ∙ at))

  pub event_in_line : (text : List ℕ) (events : List Event) → Trace names text events → (place number : ℕ) (event : Event)
      → slice_get events place ≡ Some event → slice_get (event_lines names 1 (lines_of text)) place ≡ Some number → SaysEvent names text number event
  event_in_line text events h place number event is at =
      let s = says_from 1 h.lines place number event is at in
      record { before = s.before; line = s.line; after = s.after; parts = s.parts; counted = let count = s.counted in omega (arith, count); event_is = s.event_is }

  -- lines from a number on are not below it
  all_from : (low from : ℕ) (lines : List (List ℕ)) → low < from → All (λ (n : ℕ). low < n) (event_lines names from lines)
  all_from low from [] h = All-nil (λ (n : ℕ). low < n)
  all_from low from (line ∷ lines) h = by_line (line_says names line) (all_from low (from + 1) lines (omega (arith, h)))
    where
      by_line : (l : Line) → All (λ (n : ℕ). low < n) (event_lines names (from + 1) lines) → All (λ (n : ℕ). low < n) (numbered l from (event_lines names (from + 1) lines))
      by_line skipped rest = rest
      by_line (says event) rest = All-cons (λ (n : ℕ). low < n) from (event_lines names (from + 1) lines) h rest
      by_line (wrong fault) rest = rest

  pub lines_ascend : (from : ℕ) (lines : List (List ℕ)) → AllPairs (λ m n. m < n) (event_lines names from lines)
  lines_ascend from [] = λ i j d lt within. absurd (omega arith)
  lines_ascend from (line ∷ lines) = by_line (line_says names line) (lines_ascend (from + 1) lines)
    where
      by_line : (l : Line) → AllPairs (λ m n. m < n) (event_lines names (from + 1) lines) → AllPairs (λ m n. m < n) (numbered l from (event_lines names (from + 1) lines))
      by_line skipped rest = rest
      by_line (says event) rest = AllPairs-cons (λ (m n : ℕ). m < n) from (event_lines names (from + 1) lines) (all_from from (from + 1) lines (omega arith)) rest
      by_line (wrong fault) rest = rest
