-- One text has one list of events or one fault.
use Rattle.std.proofs.Common.{◌≡◌, ℕ, suc, ◌+◌, ◌≤◌, ◌⊎◌, inl, inr, ⊎_elim, false, cond, List, [], ◌∷◌, ◌++◌, length, refl, ap, ◌∙◌, subst, arith, nat_lt, add-zero, zero-add}
use Rattle.std.proofs.lemmas.Bool.{le-ltb, lt-ltb, cases_lt}
use Rattle.hz_pipeline_model.specs.Traces.TraceLimits.{advance_limit}
use Rattle.hz_base_model.specs.Lines.{lines_of}
use Rattle.hz_pipeline_model.specs.Accepting.Events.{Event, issue, advance, ask, cycles_of}
use Rattle.hz_pipeline_model.specs.Traces.TraceNames.{TraceNames}
use Rattle.hz_pipeline_model.specs.Traces.Traces.{TraceFault, too_many_advances, Line, skipped, says, wrong, line_says, Say, Trace, WrongAfter, TraceFaultAt, event_lines}

-- the events of lines, or what is wrong with one of this number
data Judged : Type 0 where
  good : (events : List Event) → Judged
  bad : (fault : TraceFault) (number : ℕ) → Judged

abbrev onto : Event → Judged → Judged
onto e (good events) = good (e ∷ events)
onto e (bad fault number) = bad fault number

abbrev judged_line : Line → ℕ → ℕ → (ℕ → Judged) → Judged
judged_line skipped advanced number rest = rest advanced
judged_line (says (issue k)) advanced number rest = onto (issue k) (rest advanced)
judged_line (says (advance n)) advanced number rest = cond (nat_lt advance_limit (advanced + n)) (bad too_many_advances number) (onto (advance n) (rest (advanced + n)))
judged_line (says (ask a u)) advanced number rest = onto (ask a u) (rest advanced)
judged_line (wrong fault) advanced number rest = bad fault number

module _ (names : TraceNames) where
  abbrev judged : ℕ → ℕ → List (List ℕ) → Judged
  judged advanced number [] = good []
  judged advanced number (line ∷ lines) = judged_line (line_says names line) advanced number (λ a. judged a (number + 1) lines)

  judged_good : {lines : List (List ℕ)} {events : List Event} (advanced number : ℕ) → Say names lines events → advanced + cycles_of events ≤ advance_limit → judged advanced number lines ≡ good events
  judged_good advanced number Say.nothing short = refl
  judged_good advanced number (Say.skips is rest) short = rw is (judged_good advanced (number + 1) rest short)
  judged_good advanced number (Say.tells {event = issue k} is rest) short = rw is (ap (onto (issue k)) (judged_good advanced (number + 1) rest short))
  judged_good advanced number (Say.tells {event = ask a u} is rest) short = rw is (ap (onto (ask a u)) (judged_good advanced (number + 1) rest short))
  judged_good advanced number (Say.tells {event = advance n} {events = events} is rest) short =
      let low : nat_lt advance_limit (advanced + n) ≡ false = le-ltb advance_limit (advanced + n) (omega arith) in
      rw (is, low) (ap (onto (advance n)) (judged_good (advanced + n) (number + 1) rest (omega arith)))

  wrong_judged : (advanced number : ℕ) (line : List ℕ) (after : List (List ℕ)) (fault : TraceFault) → WrongAfter names advanced line fault → judged advanced number (line ∷ after) ≡ bad fault number
  wrong_judged advanced number line after fault (WrongAfter.line_alone is) = rw is refl
  wrong_judged advanced number line after fault (WrongAfter.advances {cycles = n} is far) = let high = lt-ltb advance_limit (advanced + n) far in rw (is, high) refl

  judged_bad : {before : List (List ℕ)} {events : List Event} (advanced number : ℕ) (line : List ℕ) (after : List (List ℕ)) (fault : TraceFault) → Say names before events → advanced + cycles_of events ≤ advance_limit → WrongAfter names (advanced + cycles_of events) line fault → judged advanced number (before ++ line ∷ after) ≡ bad fault (number + length before)
  judged_bad advanced number line after fault Say.nothing short is = rw add-zero (wrong_judged advanced number line after fault (rw add-zero at is))
  judged_bad advanced number line after fault (Say.skips {lines = lines} here rest) short is =
      let count : number + 1 + length lines ≡ number + suc (length lines) = omega arith in
      rw here (judged_bad advanced (number + 1) line after fault rest short is ∙ ap (bad fault) count)
  judged_bad advanced number line after fault (Say.tells {lines = lines} {event = issue k} here rest) short is =
      let count : number + 1 + length lines ≡ number + suc (length lines) = omega arith in
      rw here (ap (onto (issue k)) (judged_bad advanced (number + 1) line after fault rest short is) ∙ ap (bad fault) count)
  judged_bad advanced number line after fault (Say.tells {lines = lines} {event = ask a u} here rest) short is =
      let count : number + 1 + length lines ≡ number + suc (length lines) = omega arith in
      rw here (ap (onto (ask a u)) (judged_bad advanced (number + 1) line after fault rest short is) ∙ ap (bad fault) count)
  judged_bad advanced number line after fault (Say.tells {lines = lines} {event = advance n} {events = events} here rest) short is =
      let count : number + 1 + length lines ≡ number + suc (length lines) = omega arith in
      let low : nat_lt advance_limit (advanced + n) ≡ false = le-ltb advance_limit (advanced + n) (omega arith) in
      let sum : advanced + (n + cycles_of events) ≡ advanced + n + cycles_of events = omega arith in
      rw (here, low) (ap (onto (advance n)) (judged_bad (advanced + n) (number + 1) line after fault rest (omega arith) (subst (λ (a : ℕ). WrongAfter names a line fault) sum is)) ∙ ap (bad fault) count)

  trace_judged : (text : List ℕ) (events : List Event) → Trace names text events → judged 0 1 (lines_of text) ≡ good events
  trace_judged text events h = judged_good 0 1 h.lines (rw zero-add h.short)

  fault_judged : (text : List ℕ) (fault : TraceFault) (number : ℕ) → TraceFaultAt names text fault number → judged 0 1 (lines_of text) ≡ bad fault number
  fault_judged text fault number h =
      let count : 1 + length h.before ≡ number = omega (arith, h.counted) in
      rw h.parts (judged_bad 0 1 h.line h.after fault h.say (rw zero-add h.short) (rw zero-add h.wrong) ∙ ap (bad fault) count)

  pub one_trace : (text : List ℕ) (a b : List Event) → Trace names text a → Trace names text b → a ≡ b
  one_trace text a b h k = let e = trace_judged text a h in let f = trace_judged text b k in cc

  pub one_trace_fault : (text : List ℕ) (f g : TraceFault) (m n : ℕ) → TraceFaultAt names text f m → TraceFaultAt names text g n → (f ≡ g) × (m ≡ n)
  one_trace_fault text f g m n h k = let e = fault_judged text f m h in let d = fault_judged text g n k in (cc, cc)

  pub trace_or_fault : (text : List ℕ) (events : List Event) (fault : TraceFault) (number : ℕ) → Trace names text events → TraceFaultAt names text fault number → ⊥
  trace_or_fault text events fault number h k = let e = trace_judged text events h in let d = fault_judged text fault number k in cc

  -- lines say events, with room for their advances, or some line is the first that is wrong
  record Broken (advanced : ℕ) (lines : List (List ℕ)) : Type 0 where
    before : List (List ℕ)
    line : List ℕ
    after : List (List ℕ)
    events : List Event
    fault : TraceFault
    parts : lines ≡ before ++ line ∷ after
    say : Say names before events
    short : advanced + cycles_of events ≤ advance_limit
    is : WrongAfter names (advanced + cycles_of events) line fault

  abbrev Settled : ℕ → List (List ℕ) → Type 0
  Settled advanced lines = ((events : List Event) × Say names lines events × (advanced + cycles_of events ≤ advance_limit)) ⊎ Broken advanced lines

  broken_here : (advanced : ℕ) (line : List ℕ) (lines : List (List ℕ)) (fault : TraceFault) → advanced ≤ advance_limit → WrongAfter names advanced line fault → Settled advanced (line ∷ lines)
  broken_here advanced line lines fault room is = inr (record { before = []; line = line; after = lines; events = []; fault = fault; parts = refl; say = Say.nothing; short = omega arith; is = rw add-zero is })

  -- a line that says nothing or one event leads on
  beyond : (advanced gain : ℕ) (line : List ℕ) (lines : List (List ℕ)) (reported : List Event) → ((es : List Event) → cycles_of (reported ++ es) ≡ gain + cycles_of es)
      → ((ls : List (List ℕ)) (es : List Event) → Say names ls es → Say names (line ∷ ls) (reported ++ es)) → Settled (advanced + gain) lines → Settled advanced (line ∷ lines)
  beyond advanced gain line lines reported sum more (inl (events, say, short)) = inl (reported ++ events, more lines events say, omega (arith, sum events))
  beyond advanced gain line lines reported sum more (inr b) =
      let same : advanced + gain + cycles_of b.events ≡ advanced + cycles_of (reported ++ b.events) = omega (arith, sum b.events) in
      inr (record {
        before = line ∷ b.before;
        line = b.line;
        after = b.after;
        events = reported ++ b.events;
        fault = b.fault;
        parts = ap (λ (ls : List (List ℕ)). line ∷ ls) b.parts;
        say = more b.before b.events b.say;
        short = subst (λ (a : ℕ). a ≤ advance_limit) same b.short;
        is = subst (λ (a : ℕ). WrongAfter names a b.line b.fault) same b.is;
      })

  settled : (advanced : ℕ) (lines : List (List ℕ)) → advanced ≤ advance_limit → Settled advanced lines
  settled advanced [] room = inl ([], Say.nothing, omega arith)
  settled advanced (line ∷ lines) room = by_line (line_says names line) refl (λ a more. settled a lines more)
    where
      by_line : (l : Line) → line_says names line ≡ l → ((a : ℕ) → a ≤ advance_limit → Settled a lines) → Settled advanced (line ∷ lines)
      by_line skipped e rest = beyond advanced 0 line lines [] (λ es. omega arith) (λ ls es say. Say.skips e say) (rest (advanced + 0) (omega arith))
      by_line (says (issue k)) e rest = beyond advanced 0 line lines (issue k ∷ []) (λ es. omega arith) (λ ls es say. Say.tells e say) (rest (advanced + 0) (omega arith))
      by_line (says (ask a u)) e rest = beyond advanced 0 line lines (ask a u ∷ []) (λ es. omega arith) (λ ls es say. Say.tells e say) (rest (advanced + 0) (omega arith))
      by_line (says (advance n)) e rest = ⊎_elim
          (λ far. broken_here advanced line lines too_many_advances room (WrongAfter.advances e far))
          (λ near. beyond advanced n line lines (advance n ∷ []) (λ es. refl) (λ ls es say. Say.tells e say) (rest (advanced + n) near))
          (cases_lt advance_limit (advanced + n))
      by_line (wrong fault) e rest = broken_here advanced line lines fault room (WrongAfter.line_alone e)

  pub trace_of_every_text : (text : List ℕ) → ((events : List Event) × Trace names text events) ⊎ ((fault : TraceFault) × (number : ℕ) × TraceFaultAt names text fault number)
  trace_of_every_text text = ⊎_elim
      (λ a. inl (a.0, record { lines = a.1; short = rw zero-add at a.2 }))
      (λ b. inr (
        b.fault,
        length b.before + 1,
        record {
          before = b.before;
          line = b.line;
          after = b.after;
          events = b.events;
          parts = b.parts;
          say = b.say;
          short = rw zero-add at b.short;
          counted = refl;
          wrong = rw zero-add at b.is;
        },
      ))
      (settled 0 (lines_of text) (omega arith))

  -- as many lines say an event as there are events
  pub counted_lines : {lines : List (List ℕ)} {events : List Event} (number : ℕ) → Say names lines events → length (event_lines names number lines) ≡ length events
  counted_lines number Say.nothing = refl
  counted_lines number (Say.skips is rest) = rw is (counted_lines (number + 1) rest)
  counted_lines number (Say.tells is rest) = rw is (ap suc (counted_lines (number + 1) rest))
