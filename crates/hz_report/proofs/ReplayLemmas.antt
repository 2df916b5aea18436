-- The lines of asks, event by event.
use Rattle.std.proofs.Common.{◌≡◌, ℕ, ◌+◌, ◌<◌, List, [], ◌∷◌, ◌++◌, length, get_or, take, drop, All, refl, sym, ap, ◌∙◌, append_assoc, subst, arith}
use Rattle.std.proofs.lemmas.List.{append-nil, get_or-map, length-map, take-map, take_more, take-append-drop}
use Rattle.std.proofs.lemmas.List.Elements.{All-get_or, All-take, All-head, All-tail}
use Rattle.hz_pipeline_model.specs.Accepting.Events as accepting
use Rattle.hz_pipeline_model.specs.Tables.Machines.{Machine}
use Rattle.hz_replay.specs.Lines.{event_of}
use Rattle.hz_replay.specs.Traces.{events_in}
use Rattle.hz_replay.specs.declared.event.Event.{Event}
use Rattle.hz_replay.specs.declared.outcome.Outcome.{Outcome}
use Rattle.hz_replay.specs.declared.outcome.Outcome.TheVariants.{Accepted, Refused}
use Rattle.hz_report.specs.Replays.{AsksNothing, asks_from, beyond, line_of, no_event, states_from, taken, reported_on}

module _ (m : Machine) where
  states_append : (states : List ℕ) (xs ys : List Event) → states_from m states (xs ++ ys) ≡ states_from m (states_from m states xs) ys
  states_append states [] ys = refl
  states_append states (x ∷ xs) ys = states_append (beyond m states x) xs ys

  asks_append : (states : List ℕ) (xs ys : List Event) → asks_from m states (xs ++ ys) ≡ asks_from m states xs ++ asks_from m (states_from m states xs) ys
  asks_append states [] ys = refl
  asks_append states (x ∷ xs) ys =
      ap (λ (text : List ℕ). line_of m states x ++ text) (asks_append (beyond m states x) xs ys)
      ∙ sym (append_assoc (line_of m states x) (asks_from m (beyond m states x) xs) (asks_from m (states_from m (beyond m states x) xs) ys))

  -- one more event
  pub states_more : (states : List ℕ) (events : List Event) (i : ℕ) (d : Event) → i < length events → states_from m states (take (i + 1) events) ≡ beyond m (states_from m states (take i events)) (get_or events i d)
  states_more states events i d inside = ap (states_from m states) (take_more events i d inside) ∙ states_append states (take i events) (get_or events i d ∷ [])

  pub asks_more : (states : List ℕ) (events : List Event) (i : ℕ) (d : Event) → i < length events
      → asks_from m states (take (i + 1) events) ≡ asks_from m states (take i events) ++ line_of m (states_from m states (take i events)) (get_or events i d)
  asks_more states events i d inside =
      let before = states_from m states (take i events) in
      ap (asks_from m states) (take_more events i d inside)
      ∙ (asks_append states (take i events) (get_or events i d ∷ []) ∙ ap (λ (text : List ℕ). asks_from m states (take i events) ++ text) (append-nil (line_of m before (get_or events i d))))

  -- what comes after an event
  abbrev pub asks_after : List ℕ → List Event → ℕ → List ℕ
  asks_after states events i = asks_from m (states_from m states (take (i + 1) events)) (drop (i + 1) events)

  pub asks_parts : (states : List ℕ) (events : List Event) (i : ℕ) (d : Event) → i < length events
      → asks_from m states events ≡ asks_from m states (take i events) ++ line_of m (states_from m states (take i events)) (get_or events i d) ++ asks_after states events i
  asks_parts states events i d inside =
      ap (asks_from m states) (sym (take-append-drop (i + 1) events))
      ∙ (asks_append states (take (i + 1) events) (drop (i + 1) events) ∙ ap (λ (text : List ℕ). text ++ asks_after states events i) (asks_more states events i d inside))

  -- nothing is reported where nothing is asked
  silent : (states : List ℕ) (events : List Event) → All (λ e. AsksNothing (event_of e.what)) events → asks_from m states events ≡ []
  silent states [] none = refl
  silent states (x ∷ events) none =
      ap (λ (text : List ℕ). text ++ asks_from m (beyond m states x) events) (no_line (event_of x.what) (All-head (λ (e : Event). AsksNothing (event_of e.what)) x events none))
      ∙ silent (beyond m states x) events (All-tail (λ (e : Event). AsksNothing (event_of e.what)) x events none)
    where
      no_line : (e : accepting.Event) → AsksNothing e → reported_on m states x.line e ≡ []
      no_line (accepting.issue class) h = refl
      no_line (accepting.advance cycles) h = refl
      no_line (accepting.ask part query) h = absurd h

  -- the asks are among the first events, after which nothing is asked
  pub asks_first : (states : List ℕ) (events : List Event) (n : ℕ) → All (λ e. AsksNothing (event_of e.what)) (drop n events) → asks_from m states (take n events) ≡ asks_from m states events
  asks_first states events n none =
      sym (append-nil (asks_from m states (take n events)))
      ∙ (ap (λ (text : List ℕ). asks_from m states (take n events) ++ text) (sym (silent (states_from m states (take n events)) (drop n events) none))
      ∙ (sym (asks_append states (take n events) (drop n events)) ∙ ap (asks_from m states) (take-append-drop n events)))

-- what holds of all events holds of the one at a place
pub event_at : (P : accepting.Event → Type 0) (events : List Event) (i : ℕ) → i < length events → All P (events_in events) → P (event_of (get_or events i no_event).what)
event_at P events i inside all =
    subst P (get_or-map (λ (e : Event). event_of e.what) events i no_event (event_of no_event.what) inside)
    (All-get_or P (events_in events) i (event_of no_event.what) (omega (arith, inside, length-map events (λ (e : Event). event_of e.what))) all)

-- what holds of all events holds of the first of those before the one that is refused
pub all_taken : (P : accepting.Event → Type 0) (events : List Event) (outcome : Outcome) (n : ℕ) → All P (events_in events) → All P (events_in (take n (taken outcome events)))
all_taken P events outcome n all = first n (taken outcome events) (before outcome)
  where
    first : (n : ℕ) (events : List Event) → All P (events_in events) → All P (events_in (take n events))
    first n events all = subst (All P) (take-map (λ (e : Event). event_of e.what) n events) (All-take P n (events_in events) all)

    before : (outcome : Outcome) → All P (events_in (taken outcome events))
    before (Accepted issues cycles) = all
    before (Refused event) = first event events all
