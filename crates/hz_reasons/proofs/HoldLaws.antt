-- Who holds what, along the choices of a trace.
use Rattle.std.proofs.Common.{◌≡◌, ℕ, ◌+◌, ◌<◌, ◌≤◌, List, [], ◌∷◌, ◌++◌, length, take, drop, get_or, slice_index, refl, sym, ap, ◌∙◌, subst, arith, append_assoc}
use Rattle.std.proofs.lemmas.List.{length-map, length-take, get_or-map, map-append, take_all, take_more, take-append-drop}
use Rattle.hz_description_model.specs.Reservations.Automata.{UnitPlace}
use Rattle.hz_pipeline_model.specs.Accepting.Events.{Event, issue, advance, ask, issues_of}
use Rattle.hz_pipeline_model.specs.Accepting.Replay.{Pipeline, IsChoice}
use Rattle.hz_pipeline_model.proofs.Accepting.ReplayLaws.{issues_of-append}
use Rattle.hz_replay.specs.Lines.{event_of}
use Rattle.hz_replay.specs.Traces.{events_in, lines_in}
use Rattle.hz_replay.specs.declared.event.Event.{Event as TraceEvent}
use Rattle.hz_reasons.specs.Holding.{AreHolders}
use Rattle.hz_reasons.specs.Plans.{IsPlanOf}
use Rattle.hz_reasons.specs.Walking.{HasNumber, AreNumbers, HoldsTo}
use Rattle.hz_reasons.specs.declared.holders.Holder.{Holder}
use Rattle.hz_reasons.specs.declared.plan.Plan.{Plan}
use Rattle.hz_reasons.proofs.HoldingLaws.{holders_ask}
use Rattle.hz_reasons.proofs.WalkLaws.{events_step}

-- one choice more
pub next_choice : (choices : List ℕ) (n : ℕ) → n < length choices → take (n + 1) choices ≡ take n choices ++ slice_index choices n ∷ []
next_choice choices n low = take_more choices n 0 low

pub few_taken : (choices : List ℕ) (n : ℕ) → n < length choices → length (take n choices) ≡ n
few_taken choices n low = let few = length-take n choices in omega (arith, few, low)

-- choices that accept events have a number for each issue
pub accepted_numbers : (m : Pipeline UnitPlace) (plan : Plan) → IsPlanOf m plan → (t : List Event) (choices : List ℕ) → IsChoice m t choices → AreNumbers plan t choices
accepted_numbers m plan of_plan t choices is = record {
  each = is.each;
  numbers = λ before after k parts.
      let may = is.may before after k parts in
      let numbers = of_plan.numbers k in
      let fits = may.fits.0 in
      omega (arith, numbers, fits);
}

pub has_number : (plan : Plan) (t before after : List Event) (e : Event) (choices : List ℕ) → AreNumbers plan t choices → t ≡ before ++ e ∷ after → HasNumber plan choices (issues_of before) e
has_number plan t before after (issue k) choices are parts = (omega (arith, are.each, ap issues_of parts, issues_of-append before (issue k ∷ after)), are.numbers before after k parts)
has_number plan t before after (advance n) choices are parts = tt
has_number plan t before after (ask a u) choices are parts = tt

module _ (m : Pipeline UnitPlace) (t : List Event) (lines choices : List ℕ) (next : ℕ) (old : List Holder) (holds : HoldsTo m t lines choices next old) where
  -- an event that is no issue
  pub idle_holds : (e : Event) (new : List Holder) → issues_of (e ∷ []) ≡ 0 → AreHolders m (t ++ e ∷ []) lines (take next choices) new → HoldsTo m (t ++ e ∷ []) lines choices next new
  idle_holds e new none are = record { count = (let count = holds.count in let sum = issues_of-append t (e ∷ []) in omega (arith, count, sum, none)); holders = are }

  pub advance_holds : (n : ℕ) (new : List Holder) → AreHolders m (t ++ advance n ∷ []) lines (take next choices) new → HoldsTo m (t ++ advance n ∷ []) lines choices next new
  advance_holds n new are = idle_holds (advance n) new refl are

  pub ask_holds : (a u : ℕ) (new : List Holder) → new ≡ old → HoldsTo m (t ++ ask a u ∷ []) lines choices next new
  ask_holds a u new same = subst (HoldsTo m (t ++ ask a u ∷ []) lines choices next) (sym same) (idle_holds (ask a u) old refl (holders_ask m t lines (take next choices) old holds.holders a u))

  pub issue_holds : (k : ℕ) (new : List Holder) → next < length choices → AreHolders m (t ++ issue k ∷ []) lines (take next choices ++ slice_index choices next ∷ []) new → HoldsTo m (t ++ issue k ∷ []) lines choices (next + 1) new
  issue_holds k new low are = record {
    count = (let count = holds.count in let sum = issues_of-append t (issue k ∷ []) in omega (arith, count, sum));
    holders = subst (λ (cs : List ℕ). AreHolders m (t ++ issue k ∷ []) lines cs new) (sym (next_choice choices next low)) are;
  }

module _ (es : List TraceEvent) (i : ℕ) (e : TraceEvent) (is : e ≡ get_or es i e) (inside : i < length es) where
  abbrev says : TraceEvent → Event
  says x = event_of x.what

  pub parts_there : events_in es ≡ events_in (take i es) ++ event_of e.what ∷ events_in (drop (i + 1) es)
  parts_there =
      ap events_in (sym (take-append-drop (i + 1) es))
      ∙ (map-append says (take (i + 1) es) (drop (i + 1) es)
      ∙ (ap (λ (t : List Event). t ++ events_in (drop (i + 1) es)) (events_step es i e is inside) ∙ append_assoc (events_in (take i es)) (event_of e.what ∷ []) (events_in (drop (i + 1) es))))

  pub line_there : slice_index (lines_in es) (length (events_in (take i es))) ≡ e.line
  line_there =
      let few : length (events_in (take i es)) ≡ i = omega (arith, inside, length-map (take i es) says, length-take i es) in
      ap (slice_index (lines_in es)) few ∙ (get_or-map (λ (x : TraceEvent). x.line) es i e 0 inside ∙ ap (λ (x : TraceEvent). x.line) (sym is))

pub all_hold : (m : Pipeline UnitPlace) (plan : Plan) (es : List TraceEvent) (i : ℕ) (choices : List ℕ) (next : ℕ) (issues : List Holder) → length es ≤ i → AreNumbers plan (events_in es) choices → HoldsTo m (events_in (take i es)) (lines_in es) choices next issues → AreHolders m (events_in es) (lines_in es) choices issues
all_hold m plan es i choices next issues all is holds =
    let whole : take i es ≡ es = take_all i es all in
    let count = subst (λ (xs : List TraceEvent). next ≡ issues_of (events_in xs)) whole holds.count in
    let each = is.each in
    subst (λ (cs : List ℕ). AreHolders m (events_in es) (lines_in es) cs issues) (take_all next choices (omega (arith, each, count)))
    (subst (λ (xs : List TraceEvent). AreHolders m (events_in xs) (lines_in es) (take next choices) issues) whole holds.holders)
