-- What is written of a replay is what the walk of its events says.
use Rattle.std.proofs.Common.{◌≡◌, ℕ, zero, suc, ◌<◌, Bool, true, false, All, List, [], ◌∷◌, ◌++◌, length, replicate, take, get_or, IsSome, Option, Some, None, slice_get, inl, inr, refl, sym, ap, ap₂, ◌∙◌, subst, add-one, append_assoc, arith}
use Rattle.std.specs.Option.{option_and_then, unwrap_or}
use Rattle.std.proofs.lemmas.List.{length-map, take_all}
use Rattle.std.proofs.lemmas.List.Elements.{All-get_or}
use Rattle.std.proofs.lemmas.Option.{same_Some, slice_get-get_or, get_or_from_slice_get}
use Rattle.hz_pipeline_model.specs.Accepting.Events.{Event, issue, advance, ask, IsOfClass}
use Rattle.hz_pipeline_model.specs.Traces.TraceNames.{TraceNames}
use Rattle.hz_front_model.specs.Asks.{AskSays, AsksSay, query_name}
use Rattle.hz_answer_model.specs.TableAnswers.{reported_by, Walks}
use Rattle.hz_front_model.specs.Texts.{accepted_line, ask_line, refused_line}
use Rattle.hz_answer_model.proofs.TableLaws.{prefix_walked}
use Rattle.hz_pipeline_model.specs.Tables.MachineNames.{names_of_machine}
use Rattle.hz_pipeline_model.specs.Tables.Machines.{Machine, Part, machine_walk, onto_states, parts_walk, starts_of, states_tell}
use Rattle.hz_pipeline_model.proofs.Tables.MachineLaws.{parts_walk-append}
use Rattle.hz_replay.specs.Lines.{event_of}
use Rattle.hz_replay.specs.Replaying.{IsOutcome}
use Rattle.hz_replay.specs.Traces.{events_in, lines_in}
use Rattle.hz_replay.specs.declared.event.Event.{Event as Placed}
use Rattle.hz_replay.specs.declared.outcome.Outcome.{Outcome}
use Rattle.hz_replay.specs.declared.outcome.Outcome.TheVariants.{Accepted, Refused}
use Rattle.hz_report.specs.Replays.{asks_from, beyond, issued_name, no_event, refused_by, replay_text, reported_on}
use Rattle.hz_front.proofs.TraceLemmas.{event_there, line_there}
use Rattle.hz_tool.specs.Deciding.{replay_status}

module _ (m : Machine) where
  abbrev names : TraceNames
  names = names_of_machine m

  -- the states after one more event that is walked
  abbrev next : List ℕ → Event → List ℕ
  next states e = unwrap_or (parts_walk m.parts states (e ∷ [])) states

  walked_next : (before : List Event) (states : List ℕ) (e : Event) → machine_walk m before ≡ Some states → IsSome (machine_walk m (before ++ e ∷ [])) → machine_walk m (before ++ e ∷ []) ≡ Some (next states e)
  walked_next before states e walked some = by_walk (parts_walk m.parts states (e ∷ [])) refl
    where
      one : machine_walk m (before ++ e ∷ []) ≡ parts_walk m.parts states (e ∷ [])
      one = parts_walk-append m.parts (starts_of m) before (e ∷ []) ∙ ap (option_and_then (λ next. parts_walk m.parts next (e ∷ []))) walked

      by_walk : (o : Option (List ℕ)) → parts_walk m.parts states (e ∷ []) ≡ o → machine_walk m (before ++ e ∷ []) ≡ Some (unwrap_or (parts_walk m.parts states (e ∷ [])) states)
      by_walk None none = absurd (let bad = subst IsSome (one ∙ none) some in cc)
      by_walk (Some after) is = one ∙ (is ∙ ap Some (sym (ap (λ (o : Option (List ℕ)). unwrap_or o states) is)))

  -- an ask is answered by the states
  one_ask : (before : List Event) (states : List ℕ) (line part query : ℕ) → machine_walk m before ≡ Some states → AskSays (reported_by m) names before line part query (ask_line line (query_name names part query) (states_tell m states part query))
  one_ask before states line part query walked = by_entry (states_tell m states part query) refl
    where
      by_entry : (b : Bool) → states_tell m states part query ≡ b → AskSays (reported_by m) names before line part query (ask_line line (query_name names part query) (states_tell m states part query))
      by_entry true e = inl ((states, walked, e), ap (ask_line line (query_name names part query)) e)
      by_entry false e = inr (
        λ (h : reported_by m before part query).
            let same : states ≡ h.0 = same_Some states h.0 (sym walked ∙ h.1) in
            let tells : states_tell m states part query ≡ true = subst (λ (x : List ℕ). states_tell m x part query ≡ true) (sym same) h.2 in
            absurd (cc),
        ap (ask_line line (query_name names part query)) e,
      )

  -- what is reported of an event, and then of others
  event_reported : (before : List Event) (states : List ℕ) (line : ℕ) (lines : List ℕ) (e : Event) (others : List Event) (text : List ℕ) → machine_walk m before ≡ Some states
      → AsksSay (reported_by m) names (before ++ e ∷ []) lines others text → AsksSay (reported_by m) names before (line ∷ lines) (e ∷ others) (reported_on m states line e ++ text)
  event_reported before states line lines (issue k) others text walked rest = rest
  event_reported before states line lines (advance n) others text walked rest = rest
  event_reported before states line lines (ask part query) others text walked rest =
      (ask_line line (query_name names part query) (states_tell m states part query), text, one_ask before states line part query walked, rest, refl)

  -- the lines of the asks among the first events are what the machine's walk tells
  asks_reported : (before : List Event) (states : List ℕ) (events : List Placed) (n : ℕ) → machine_walk m before ≡ Some states → IsSome (machine_walk m (before ++ take n (events_in events)))
      → AsksSay (reported_by m) names before (lines_in events) (take n (events_in events)) (asks_from m states (take n events))
  asks_reported before states events zero walked some = refl
  asks_reported before states [] (suc n) walked some = refl
  asks_reported before states (x ∷ events) (suc n) walked some =
      let e = event_of x.what in
      let others = take n (events_in events) in
      let more : IsSome (machine_walk m ((before ++ e ∷ []) ++ others)) = subst (λ (t : List Event). IsSome (machine_walk m t)) (sym (append_assoc before (e ∷ []) others)) some in
      event_reported before states x.line (lines_in events) e others (asks_from m (beyond m states x) (take n events)) walked
      (asks_reported (before ++ e ∷ []) (next states e) events n (walked_next before states e walked (prefix_walked m (before ++ e ∷ []) others more)) more)

  start_walked : machine_walk m [] ≡ Some (starts_of m)
  start_walked = nothing m.parts
    where
      nothing : (parts : List Part) → parts_walk parts (replicate (length parts) 0) [] ≡ Some (replicate (length parts) 0)
      nothing [] = refl
      nothing (part ∷ parts) = ap (onto_states (Some 0)) (nothing parts)

  all_reported : (events : List Placed) → IsSome (machine_walk m (events_in events)) → AsksSay (reported_by m) names [] (lines_in events) (events_in events) (asks_from m (starts_of m) events)
  all_reported events some =
      let n = length events in
      let all : take n events ≡ events = take_all n events (omega arith) in
      let same : take n (events_in events) ≡ events_in events = take_all n (events_in events) (omega (arith, length-map events (λ (e : Placed). event_of e.what))) in
      subst (λ (es : List Placed). AsksSay (reported_by m) names [] (lines_in events) (events_in events) (asks_from m (starts_of m) es)) all
      (subst (λ (t : List Event). AsksSay (reported_by m) names [] (lines_in events) t (asks_from m (starts_of m) (take n events))) same
      (asks_reported [] (starts_of m) events n start_walked (subst (λ (t : List Event). IsSome (machine_walk m t)) (sym same) some)))

  -- the walk of events is reported by their replay
  pub replay_reported : (events : List Placed) (outcome : Outcome) → All (IsOfClass (length m.classes)) (events_in events) → IsOutcome m (events_in events) outcome → Walks m (lines_in events) (events_in events) (replay_status outcome) (replay_text m events outcome)
  replay_reported events (Accepted issues cycles) all (some, issued, passed) =
      inl (some, (asks_from m (starts_of m) events, accepted_line issues cycles, all_reported events some, (refl, ap₂ accepted_line issued passed), refl))
  replay_reported events (Refused i) all first =
      let t = events_in events in
      let low : i < length events = let within = first.within in omega (arith, within, length-map events (λ (e : Placed). event_of e.what)) in
      let e = get_or events i no_event in
      let there : slice_get t i ≡ Some (event_of e.what) = event_there events i no_event low in
      let issues : event_of e.what ≡ issue first.class = same_Some (event_of e.what) (issue first.class) (sym there ∙ first.issue) in
      let known : IsOfClass (length m.classes) (issue first.class) = subst (IsOfClass (length m.classes)) (get_or_from_slice_get t i (issue first.class) (advance 0) first.issue) (All-get_or (IsOfClass (length m.classes)) t i (advance 0) first.within all) in
      let name = get_or m.classes first.class [] in
      inr (
        i,
        e.line,
        name,
        (first.before, subst (λ (n : ℕ). machine_walk m (take n t) ≡ None) (sym (add-one i)) first.stops),
        line_there events i no_event low,
        (first.class, first.issue, slice_get-get_or m.classes first.class [] known),
        (asks_from m (starts_of m) (take i events), refused_by m.classes e, asks_reported [] (starts_of m) events i start_walked first.before, (refl, ap (λ (x : Event). refused_line e.line (issued_name m.classes x)) issues), refl),
      )
