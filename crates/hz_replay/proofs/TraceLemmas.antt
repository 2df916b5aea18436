-- A trace that is read line after line is a trace by the grammar, and a line that is reported is its first wrong one.
use Rattle.std.proofs.Common.{◌≡◌, ℕ, ◌+◌, ◌≤◌, Bool, true, false, cond, nat_le, List, [], ◌∷◌, ◌++◌, length, map, Option, Some, None, Result, Ok, Err, refl, sym, ap, ◌∙◌, subst, arith, append_assoc}
use Rattle.std.specs.Prelude.{⊤, MatchOption}
use Rattle.std.proofs.lemmas.List.{append-nil, map-append}
use Rattle.std.proofs.lemmas.Bool.{leb-true, leb-false}
use Rattle.hz_pipeline_model.specs.Traces.TraceLimits.{advance_limit}
use Rattle.hz_base_model.specs.Lines.{lines_of}
use Rattle.hz_pipeline_model.specs.Accepting.Events.{Event, issue, advance, ask, cycles_of}
use Rattle.hz_pipeline_model.specs.Traces.TraceNames.{TraceNames}
use Rattle.hz_pipeline_model.specs.Traces.Traces.{Trace, TraceFault, too_many_advances, TraceFaultAt, Line, skipped, says, wrong, line_says, Say, nothing, skips, tells, WrongAfter, line_alone, advances, event_lines, numbered}
use Rattle.std.specs.Option.{option_map}
use Rattle.hz_replay.specs.declared.event.What.{What}
use Rattle.hz_replay.specs.Lines.{event_of, judged, judgement}
use Rattle.hz_replay.specs.Traces.{Placed, events_in, lines_in, placed_in, noted, cycles_in, fault_reported, IsTraceFault}
use Rattle.hz_replay.specs.declared.event.Event.{Event as ReadEvent}
use Rattle.hz_replay.specs.declared.fault.TraceFault.{TraceFault as Fault}

-- what follows a line that is judged: `more` goes on after it, from the events so far and their advances
abbrev pub after_line : (List Placed → ℕ → Result (List Placed) (TraceFault × ℕ)) → List Placed → ℕ → ℕ → Result (Option Event) TraceFault → Result (List Placed) (TraceFault × ℕ)
after_line more done advanced number (Ok event) = more (noted done number event) (advanced + cycles_in event)
after_line more done advanced number (Err fault) = Err (fault, number)

-- The events of lines, of which the first has this number, after those that are done; or the first line that is wrong.
unfoldable pub trace_from : TraceNames → List Placed → ℕ → ℕ → List (List ℕ) → Result (List Placed) (TraceFault × ℕ)
trace_from names done advanced number [] = Ok done
trace_from names done advanced number (line ∷ lines) =
    after_line (λ done advanced. trace_from names done advanced (number + 1) lines) done advanced number (judged advanced (line_says names line))

pub from_none : (names : TraceNames) (done : List Placed) (advanced number : ℕ) → trace_from names done advanced number [] ≡ Ok done
unfolding trace_from
from_none names done advanced number = refl

pub from_line : (names : TraceNames) (done : List Placed) (advanced number : ℕ) (line : List ℕ) (lines : List (List ℕ)) → trace_from names done advanced number (line ∷ lines)
    ≡ after_line (λ done advanced. trace_from names done advanced (number + 1) lines) done advanced number (judged advanced (line_says names line))
unfolding trace_from
from_line names done advanced number line lines = refl

-- the events of placed ones, and their lines
abbrev events_of : List Placed → List Event
events_of items = map (λ (p : Placed). p.0) items

abbrev numbers_of : List Placed → List ℕ
numbers_of items = map (λ (p : Placed). p.1) items

module _ (names : TraceNames) where
  record Read (done : List Placed) (advanced number : ℕ) (lines : List (List ℕ)) (items : List Placed) : Type 0 where
    events : List Event
    say : Say names lines events
    all : events_of items ≡ events_of done ++ events
    places : numbers_of items ≡ numbers_of done ++ event_lines names number lines
    short : advanced + cycles_of events ≤ advance_limit

  abbrev Goes : (number : ℕ) (lines : List (List ℕ)) (items : List Placed) → Type 0
  Goes number lines items = (done : List Placed) (advanced : ℕ) → advanced ≤ advance_limit → trace_from names done advanced (number + 1) lines ≡ Ok items → Read done advanced (number + 1) lines items

  -- after a line that says an event
  reported_read : (done : List Placed) (advanced number : ℕ) (line : List ℕ) (lines : List (List ℕ)) (items : List Placed) (e : Event) → line_says names line ≡ says e
      → cycles_of (e ∷ []) ≡ cycles_in (Some e) → ((es : List Event) → cycles_of (e ∷ es) ≡ cycles_in (Some e) + cycles_of es)
      → Read (done ++ (e, number) ∷ []) (advanced + cycles_in (Some e)) (number + 1) lines items → Read done advanced number (line ∷ lines) items
  reported_read done advanced number line lines items e is one more r = record {
    events = e ∷ r.events;
    say = tells is r.say;
    all = r.all ∙ (ap (λ es. es ++ r.events) (map-append (λ (p : Placed). p.0) done ((e, number) ∷ [])) ∙ append_assoc (events_of done) (e ∷ []) r.events);
    places = r.places ∙ (ap (λ es. es ++ event_lines names (number + 1) lines) (map-append (λ (p : Placed). p.1) done ((e, number) ∷ []))
        ∙ (append_assoc (numbers_of done) (number ∷ []) (event_lines names (number + 1) lines)
        ∙ ap (λ l. numbers_of done ++ numbered l number (event_lines names (number + 1) lines)) (sym is)));
    short = let sum = more r.events in let short = r.short in omega (arith, sum, short);
  }

  step_read : (done : List Placed) (advanced number : ℕ) (line : List ℕ) (lines : List (List ℕ)) (items : List Placed) (l : Line) → line_says names line ≡ l → advanced ≤ advance_limit
      → after_line (λ done advanced. trace_from names done advanced (number + 1) lines) done advanced number (judged advanced l) ≡ Ok items → Goes number lines items → Read done advanced number (line ∷ lines) items
  step_read done advanced number line lines items skipped is low h later =
      let r = later done (advanced + 0) (omega arith) h in
      record {
        events = r.events;
        say = skips is r.say;
        all = r.all;
        places = r.places ∙ ap (λ l. numbers_of done ++ numbered l number (event_lines names (number + 1) lines)) (sym is);
        short = let short = r.short in omega (arith, short);
      }
  step_read done advanced number line lines items (says (issue k)) is low h later =
      reported_read done advanced number line lines items (issue k) is refl (λ es. omega arith) (later (done ++ (issue k, number) ∷ []) (advanced + 0) (omega arith) h)
  step_read done advanced number line lines items (says (ask a u)) is low h later =
      reported_read done advanced number line lines items (ask a u) is refl (λ es. omega arith) (later (done ++ (ask a u, number) ∷ []) (advanced + 0) (omega arith) h)
  step_read done advanced number line lines items (says (advance n)) is low h later = by_test (nat_le (advanced + n) advance_limit) refl h
    where
      by_test : (b : Bool) → nat_le (advanced + n) advance_limit ≡ b → after_line (λ done advanced. trace_from names done advanced (number + 1) lines) done advanced number (cond b (Ok (Some (advance n))) (Err too_many_advances)) ≡ Ok items → Read done advanced number (line ∷ lines) items
      by_test true e h = reported_read done advanced number line lines items (advance n) is (omega arith) (λ es. omega arith) (later (done ++ (advance n, number) ∷ []) (advanced + n) (leb-true (advanced + n) advance_limit e) h)
      by_test false e h = absurd (cc)
  step_read done advanced number line lines items (wrong fault) is low h later = absurd (cc)

  read : (done : List Placed) (advanced number : ℕ) (lines : List (List ℕ)) (items : List Placed) → advanced ≤ advance_limit → trace_from names done advanced number lines ≡ Ok items → Read done advanced number lines items
  read done advanced number [] items low h =
      let made : ◌≡◌ {A = Result (List Placed) (TraceFault × ℕ)} (Ok done) (Ok items) = sym (from_none names done advanced number) ∙ h in
      let same : done ≡ items = cc in
      record { events = []; say = nothing; all = ap events_of (sym same) ∙ sym (append-nil (events_of done)); places = ap numbers_of (sym same) ∙ sym (append-nil (numbers_of done)); short = omega (arith, low) }
  read done advanced number (line ∷ lines) items low h =
      step_read done advanced number line lines items (line_says names line) refl low (sym (from_line names done advanced number line lines) ∙ h) (λ d a small k. read d a (number + 1) lines items small k)

  pub is_trace : (text : List ℕ) (items : List Placed) → trace_from names [] 0 1 (lines_of text) ≡ Ok items → Trace names text (events_of items)
  is_trace text items h =
      let r = read [] 0 1 (lines_of text) items (omega arith) h in
      let short = r.short in
      subst (Trace names text) (sym r.all) (record { lines = r.say; short = omega (arith, short) })

  pub on_lines : (text : List ℕ) (items : List Placed) → trace_from names [] 0 1 (lines_of text) ≡ Ok items → numbers_of items ≡ event_lines names 1 (lines_of text)
  on_lines text items h = (read [] 0 1 (lines_of text) items (omega arith) h).places

  -- the first wrong line
  record Reported (advanced number : ℕ) (lines : List (List ℕ)) (fault : TraceFault) (at : ℕ) : Type 0 where
    before : List (List ℕ)
    line : List ℕ
    after : List (List ℕ)
    events : List Event
    parts : lines ≡ before ++ line ∷ after
    say : Say names before events
    short : advanced + cycles_of events ≤ advance_limit
    counted : at ≡ number + length before
    wrong : WrongAfter names (advanced + cycles_of events) line fault

  abbrev Tells : (number : ℕ) (lines : List (List ℕ)) (fault : TraceFault) (at : ℕ) → Type 0
  Tells number lines fault at = (done : List Placed) (advanced : ℕ) → advanced ≤ advance_limit → trace_from names done advanced (number + 1) lines ≡ Err (fault, at) → Reported advanced (number + 1) lines fault at

  here_reported : (advanced number : ℕ) (line : List ℕ) (lines : List (List ℕ)) (fault : TraceFault) (at : ℕ) → advanced ≤ advance_limit → number ≡ at → WrongAfter names advanced line fault → Reported advanced number (line ∷ lines) fault at
  here_reported advanced number line lines fault at low same w =
      let none : advanced ≡ advanced + 0 = omega arith in
      record { before = []; line = line; after = lines; events = []; parts = refl; say = nothing; short = omega (arith, low); counted = omega (arith, same); wrong = subst (λ n. WrongAfter names n line fault) none w }

  event_reported : (advanced number : ℕ) (line : List ℕ) (lines : List (List ℕ)) (fault : TraceFault) (at : ℕ) (e : Event) → line_says names line ≡ says e
      → ((es : List Event) → cycles_of (e ∷ es) ≡ cycles_in (Some e) + cycles_of es) → Reported (advanced + cycles_in (Some e)) (number + 1) lines fault at → Reported advanced number (line ∷ lines) fault at
  event_reported advanced number line lines fault at e is more t =
      let sum = more t.events in
      let moved : advanced + cycles_in (Some e) + cycles_of t.events ≡ advanced + cycles_of (e ∷ t.events) = omega (arith, sum) in
      let short = t.short in
      let counted = t.counted in
      record { before = line ∷ t.before; line = t.line; after = t.after; events = e ∷ t.events; parts = ap (λ ls. line ∷ ls) t.parts; say = tells is t.say; short = omega (arith, short, moved); counted = omega (arith, counted); wrong = subst (λ n. WrongAfter names n t.line fault) moved t.wrong }

  step_reported : (done : List Placed) (advanced number : ℕ) (line : List ℕ) (lines : List (List ℕ)) (fault : TraceFault) (at : ℕ) (l : Line) → line_says names line ≡ l → advanced ≤ advance_limit
      → after_line (λ done advanced. trace_from names done advanced (number + 1) lines) done advanced number (judged advanced l) ≡ Err (fault, at) → Tells number lines fault at → Reported advanced number (line ∷ lines) fault at
  step_reported done advanced number line lines fault at skipped is low h later =
      let t = later done (advanced + 0) (omega arith) h in
      let none : advanced + 0 + cycles_of t.events ≡ advanced + cycles_of t.events = omega arith in
      let short = t.short in
      let counted = t.counted in
      record { before = line ∷ t.before; line = t.line; after = t.after; events = t.events; parts = ap (λ ls. line ∷ ls) t.parts; say = skips is t.say; short = omega (arith, short); counted = omega (arith, counted); wrong = subst (λ n. WrongAfter names n t.line fault) none t.wrong }
  step_reported done advanced number line lines fault at (says (issue k)) is low h later =
      event_reported advanced number line lines fault at (issue k) is (λ es. omega arith) (later (done ++ (issue k, number) ∷ []) (advanced + 0) (omega arith) h)
  step_reported done advanced number line lines fault at (says (ask a u)) is low h later =
      event_reported advanced number line lines fault at (ask a u) is (λ es. omega arith) (later (done ++ (ask a u, number) ∷ []) (advanced + 0) (omega arith) h)
  step_reported done advanced number line lines fault at (says (advance n)) is low h later = by_test (nat_le (advanced + n) advance_limit) refl h
    where
      by_test : (b : Bool) → nat_le (advanced + n) advance_limit ≡ b → after_line (λ done advanced. trace_from names done advanced (number + 1) lines) done advanced number (cond b (Ok (Some (advance n))) (Err too_many_advances)) ≡ Err (fault, at) → Reported advanced number (line ∷ lines) fault at
      by_test true e h = event_reported advanced number line lines fault at (advance n) is (λ es. omega arith) (later (done ++ (advance n, number) ∷ []) (advanced + n) (leb-true (advanced + n) advance_limit e) h)
      by_test false e h =
          let same : ◌≡◌ {A = TraceFault × ℕ} (too_many_advances, number) (fault, at) = cc in
          let far = leb-false (advanced + n) advance_limit e in
          here_reported advanced number line lines fault at low (ap (λ x. x.1) same) (subst (WrongAfter names advanced line) (ap (λ x. x.0) same) (advances is far))
  step_reported done advanced number line lines fault at (wrong w) is low h later =
      let same : ◌≡◌ {A = TraceFault × ℕ} (w, number) (fault, at) = cc in
      here_reported advanced number line lines fault at low (ap (λ x. x.1) same) (subst (WrongAfter names advanced line) (ap (λ x. x.0) same) (line_alone is))

  reported : (done : List Placed) (advanced number : ℕ) (lines : List (List ℕ)) (fault : TraceFault) (at : ℕ) → advanced ≤ advance_limit → trace_from names done advanced number lines ≡ Err (fault, at) → Reported advanced number lines fault at
  reported done advanced number [] fault at low h =
      let made : ◌≡◌ {A = Result (List Placed) (TraceFault × ℕ)} (Ok done) (Err (fault, at)) = sym (from_none names done advanced number) ∙ h in
      absurd (cc)
  reported done advanced number (line ∷ lines) fault at low h =
      step_reported done advanced number line lines fault at (line_says names line) refl low (sym (from_line names done advanced number line lines) ∙ h) (λ d a small k. reported d a (number + 1) lines fault at small k)

  pub is_fault : (text : List ℕ) (fault : TraceFault) (at : ℕ) → trace_from names [] 0 1 (lines_of text) ≡ Err (fault, at) → TraceFaultAt names text fault at
  is_fault text fault at h =
      let t = reported [] 0 1 (lines_of text) fault at (omega arith) h in
      let none : 0 + cycles_of t.events ≡ cycles_of t.events = omega arith in
      let short = t.short in
      let counted = t.counted in
      record { before = t.before; line = t.line; after = t.after; events = t.events; parts = t.parts; say = t.say; short = omega (arith, short); counted = omega (arith, counted); wrong = subst (λ n. WrongAfter names n t.line fault) none t.wrong }

  -- the loop of the reader, line by line
  module _ (text rest others line : List ℕ) (done : List Placed) (advanced number : ℕ)
      (reported : trace_from names done advanced (number + 1) (lines_of rest) ≡ trace_from names [] 0 1 (lines_of text)) (first : lines_of rest ≡ line ∷ lines_of others) where
    at_line : (r : Result (Option Event) TraceFault) → judged advanced (line_says names line) ≡ r
        → after_line (λ done advanced. trace_from names done advanced (number + 1 + 1) (lines_of others)) done advanced (number + 1) r ≡ trace_from names [] 0 1 (lines_of text)
    at_line r judges =
        ap (after_line (λ done advanced. trace_from names done advanced (number + 1 + 1) (lines_of others)) done advanced (number + 1)) (sym judges)
        ∙ (sym (from_line names done advanced (number + 1) line (lines_of others)) ∙ (ap (trace_from names done advanced (number + 1)) (sym first) ∙ reported))

    pub wrong_line : (fault : TraceFault) → judged advanced (line_says names line) ≡ Err fault → TraceFaultAt names text fault (number + 1)
    wrong_line fault judges = is_fault text fault (number + 1) (sym (at_line (Err fault) judges))

    pub good_line : (event : Option Event) → judged advanced (line_says names line) ≡ Ok event → trace_from names (noted done (number + 1) event) (advanced + cycles_in event) (number + 1 + 1) (lines_of others) ≡ trace_from names [] 0 1 (lines_of text)
    good_line event judges = at_line (Ok event) judges

pub low_after : (advanced : ℕ) (l : Line) (event : Option Event) → advanced ≤ advance_limit → judged advanced l ≡ Ok event → advanced + cycles_in event ≤ advance_limit
low_after advanced skipped event low h = let same : None ≡ event = cc in subst (λ e. advanced + cycles_in e ≤ advance_limit) same (omega (arith, low))
low_after advanced (says (issue k)) event low h = let same : Some (issue k) ≡ event = cc in subst (λ e. advanced + cycles_in e ≤ advance_limit) same (omega (arith, low))
low_after advanced (says (ask a u)) event low h = let same : Some (ask a u) ≡ event = cc in subst (λ e. advanced + cycles_in e ≤ advance_limit) same (omega (arith, low))
low_after advanced (says (advance n)) event low h = by_test (nat_le (advanced + n) advance_limit) refl h
  where
    by_test : (b : Bool) → nat_le (advanced + n) advance_limit ≡ b → cond b (Ok (Some (advance n))) (Err too_many_advances) ≡ Ok event → advanced + cycles_in event ≤ advance_limit
    by_test true e h = let same : Some (advance n) ≡ event = cc in subst (λ e. advanced + cycles_in e ≤ advance_limit) same (leb-true (advanced + n) advance_limit e)
    by_test false e h = absurd (cc)
low_after advanced (wrong w) event low h = absurd (cc)

pub placed_events : (items : List ReadEvent) → map (λ (p : Placed). p.0) (placed_in items) ≡ events_in items
placed_events [] = refl
placed_events (e ∷ items) = ap (λ es. event_of e.what ∷ es) (placed_events items)

pub placed_lines : (items : List ReadEvent) → map (λ (p : Placed). p.1) (placed_in items) ≡ lines_in items
placed_lines [] = refl
placed_lines (e ∷ items) = ap (λ ns. e.line ∷ ns) (placed_lines items)

pub fault_from : (names : TraceNames) (text : List ℕ) (reported : Fault) (fault : TraceFault) (at : ℕ) → fault_reported reported ≡ Some (fault, at) → TraceFaultAt names text fault at → IsTraceFault names text reported
fault_from names text reported fault at h is = subst (λ (found : Option (TraceFault × ℕ)). MatchOption found ⊤ (λ reported. TraceFaultAt names text reported.0 reported.1)) (sym h) is

pub ok_judged : (what : Option What) → judgement (Ok what) ≡ Ok (option_map event_of what)
ok_judged None = refl
ok_judged (Some what) = refl
