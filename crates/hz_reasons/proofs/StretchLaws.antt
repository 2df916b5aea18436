-- What the last stretch of a trace leaves held, as a trace of its own, is what the whole trace leaves held.
use Rattle.std.proofs.Common.{◌≡◌, ℕ, suc, ◌+◌, ◌-◌, ◌<◌, ◌≤◌, ◌⊎◌, inl, inr, ⊎_elim, false, List, [], ◌∷◌, ◌++◌, length, take, drop, slice_index, Contains, Option, Some, None, refl, sym, ap, ◌∙◌, subst, arith, append_assoc}
use Rattle.std.specs.Prelude.{slice_get}
use Rattle.std.specs.declared.alloc.Global.{Global}
use Rattle.std.specs.declared.vec.Vec.{Vec}
use Rattle.std.proofs.lemmas.List.{length-map, length-take, length-drop, map-append, drop-map, get_or-drop, take-append-drop}
use Rattle.std.proofs.lemmas.List.Elements.{Contains-append_cases}
use Rattle.hz_base_model.specs.Pairs.{Pair, placed}
use Rattle.hz_base_model.proofs.Elements.{Contains-nil, Contains-from_map}
use Rattle.hz_description_model.specs.Reservations.Automata.{UnitPlace}
use Rattle.hz_pipeline_model.specs.Accepting.Events.{Event, issue, advance, ask, issues_of, cycles_of}
use Rattle.hz_pipeline_model.specs.Accepting.Replay.{Pipeline, chosen, alternatives_at, IsChoice}
use Rattle.hz_pipeline_model.proofs.Accepting.ReplayLaws.{issues_of-append, cycles_of-append}
use Rattle.hz_replay.specs.Lines.{event_of}
use Rattle.hz_replay.specs.Traces.{events_in, lines_in}
use Rattle.hz_replay.specs.declared.event.Event.{Event as TraceEvent}
use Rattle.hz_why_model.specs.Holders.{Entry, entries_of, entries, entries_from}
use Rattle.hz_why_model.specs.Ways.{Way, ways, still_holds}
use Rattle.hz_why_model.proofs.Finding.{Contains-at}
use Rattle.hz_reasons.specs.Holding.{last_of, last_of_choices, last_of_classes, AreHolders}
use Rattle.hz_reasons.specs.Plans.{choices_of, choices_at, pairs_of, pairs_at, IsPlanOf}
use Rattle.hz_reasons.specs.Walking.{AreNumbers}
use Rattle.hz_reasons.specs.declared.holders.Holder.{Holder}
use Rattle.hz_reasons.specs.declared.plan.Choice.{Choice}
use Rattle.hz_reasons.specs.declared.plan.Place.{Place}
use Rattle.hz_reasons.specs.declared.plan.Plan.{Plan}
use Rattle.hz_reasons.proofs.HoldLaws.{accepted_numbers}
use Rattle.hz_reasons.proofs.HoldingLaws.{at_cycle, from-append, from-from, from_low, from_past, within_most, within_alternatives, listed_pair}
use Rattle.hz_reasons.proofs.WayLaws.{drop_one, ways_past, ways_whole}

-- ---- events before others

module _ {U : Type 0} (m : Pipeline U) where
  entries_none : (now : ℕ) (t : List Event) (lines : List ℕ) → entries m now t lines [] ≡ []
  entries_none now [] lines = refl
  entries_none now (advance n ∷ t) lines = entries_none (n + now) t (drop 1 lines)
  entries_none now (ask a u ∷ t) lines = entries_none now t (drop 1 lines)
  entries_none now (issue k ∷ t) lines = refl

  entries-append : (now : ℕ) (xs ys : List Event) (lines choices : List ℕ) → entries m now (xs ++ ys) lines choices ≡ entries m now xs lines choices ++ entries m (cycles_of xs + now) ys (drop (length xs) lines) (drop (issues_of xs) choices)
  entries-append now [] ys lines choices = let time : now ≡ 0 + now = omega arith in ap (λ (c : ℕ). entries m c ys lines choices) time
  entries-append now (advance n ∷ xs) ys lines choices =
      let time : cycles_of xs + (n + now) ≡ n + cycles_of xs + now = omega arith in
      entries-append (n + now) xs ys (drop 1 lines) choices
      ∙ ap (λ (c : ℕ). entries m (n + now) xs (drop 1 lines) choices ++ entries m c ys (drop (length xs) (drop 1 lines)) (drop (issues_of xs) choices)) time
      ∙ ap (λ (ls : List ℕ). entries m (n + now) xs (drop 1 lines) choices ++ entries m (n + cycles_of xs + now) ys ls (drop (issues_of xs) choices)) (drop_one (length xs) lines)
  entries-append now (ask a u ∷ xs) ys lines choices =
      entries-append now xs ys (drop 1 lines) choices
      ∙ ap (λ (ls : List ℕ). entries m now xs (drop 1 lines) choices ++ entries m (cycles_of xs + now) ys ls (drop (issues_of xs) choices)) (drop_one (length xs) lines)
  entries-append now (issue k ∷ xs) ys lines [] = sym (entries_none (cycles_of xs + now) ys (drop (suc (length xs)) lines))
  entries-append now (issue k ∷ xs) ys lines (i ∷ choices) =
      let first = entries_of (slice_index lines 0) k (placed now (chosen m k i)) in
      ap (λ (es : List (Entry U)). first ++ es) (entries-append now xs ys (drop 1 lines) choices
      ∙ ap (λ (ls : List ℕ). entries m now xs (drop 1 lines) choices ++ entries m (cycles_of xs + now) ys ls (drop (issues_of xs) choices)) (drop_one (length xs) lines))
      ∙ sym (append_assoc first (entries m now xs (drop 1 lines) choices) (entries m (cycles_of xs + now) ys (drop (suc (length xs)) lines) (drop (issues_of xs) choices)))

-- ---- events so many cycles later

module _ {U : Type 0} where
  placed_back : (c now line class : ℕ) (ps : List (Pair U)) → entries_from c (entries_of line class (placed (c + now) ps)) ≡ entries_of line class (placed now ps)
  placed_back c now line class [] = refl
  placed_back c now line class (p ∷ ps) =
      let first : Entry U = record { pair = record { unit = p.unit; cycle = c + now + p.cycle }; line = line; class = class } in
      let time : c + now + p.cycle - c ≡ now + p.cycle = omega arith in
      from_low c first (entries_of line class (placed (c + now) ps)) (omega arith)
      ∙ ap (λ (d : ℕ). at_cycle first d ∷ entries_from c (entries_of line class (placed (c + now) ps))) time
      ∙ ap (λ (es : List (Entry U)). at_cycle first (now + p.cycle) ∷ es) (placed_back c now line class ps)

  entries_back : (m : Pipeline U) (c now : ℕ) (t : List Event) (lines choices : List ℕ) → entries_from c (entries m (c + now) t lines choices) ≡ entries m now t lines choices
  entries_back m c now [] lines choices = refl
  entries_back m c now (advance n ∷ t) lines choices =
      let time : n + (c + now) ≡ c + (n + now) = omega arith in
      ap (λ (d : ℕ). entries_from c (entries m d t (drop 1 lines) choices)) time ∙ entries_back m c (n + now) t (drop 1 lines) choices
  entries_back m c now (ask a u ∷ t) lines choices = entries_back m c now t (drop 1 lines) choices
  entries_back m c now (issue k ∷ t) lines [] = refl
  entries_back m c now (issue k ∷ t) lines (i ∷ choices) =
      from-append c (entries_of (slice_index lines 0) k (placed (c + now) (chosen m k i))) (entries m (c + now) t (drop 1 lines) choices)
      ∙ ap (λ (es : List (Entry U)). es ++ entries_from c (entries m (c + now) t (drop 1 lines) choices)) (placed_back c now (slice_index lines 0) k (chosen m k i))
      ∙ ap (λ (es : List (Entry U)). entries_of (slice_index lines 0) k (placed now (chosen m k i)) ++ es) (entries_back m c now t (drop 1 lines) choices)

-- ---- alternatives that are shorter than the stretch

module _ (m : Pipeline UnitPlace) (span : ℕ) (short : (k i : ℕ) (p : Pair UnitPlace) → Contains (chosen m k i) p → p.cycle < span) where
  entries_short : (now : ℕ) (t : List Event) (lines choices : List ℕ) (e : Entry UnitPlace) → Contains (entries m now t lines choices) e → e.pair.cycle < cycles_of t + now + span
  entries_short now [] lines choices e h = absurd (Contains-nil e h)
  entries_short now (advance n ∷ t) lines choices e h = let early = entries_short (n + now) t (drop 1 lines) choices e h in omega arith
  entries_short now (ask a u ∷ t) lines choices e h = entries_short now t (drop 1 lines) choices e h
  entries_short now (issue k ∷ t) lines [] e h = absurd (Contains-nil e h)
  entries_short now (issue k ∷ t) lines (i ∷ choices) e h = ⊎_elim
      (λ here.
      let (p, is, same) = Contains-from_map _ (placed now (chosen m k i)) e here in
      let (q, there, later) = Contains-from_map _ (chosen m k i) p is in
      let early = short k i q there in
      let time : now + q.cycle < cycles_of t + now + span = omega arith in
      subst (λ (x : Entry UnitPlace). x.pair.cycle < cycles_of t + now + span) same (subst (λ (r : Pair UnitPlace). r.cycle < cycles_of t + now + span) later time))
      (λ there. entries_short now t (drop 1 lines) choices e there)
      (Contains-append_cases (entries_of (slice_index lines 0) k (placed now (chosen m k i))) (entries m now t (drop 1 lines) choices) e h)

  module _ (before t : List Event) (lines choices : List ℕ) (long : (before ≡ []) ⊎ (span ≤ cycles_of t)) where
    abbrev whole : ℕ
    whole = cycles_of (before ++ t)

    abbrev old : List (Entry UnitPlace)
    old = entries m 0 before lines choices

    abbrev new : List (Entry UnitPlace)
    new = entries m (cycles_of before + 0) t (drop (length before) lines) (drop (issues_of before) choices)

    old_past : entries_from whole old ≡ []
    old_past = ⊎_elim
        (λ (none : before ≡ []). ap (λ (es : List Event). entries_from whole (entries m 0 es lines choices)) none)
        (λ (high : span ≤ cycles_of t). from_past whole old (λ e h.
        let early = entries_short 0 before lines choices e h in
        let sum = cycles_of-append before t in
        omega arith))
        long

    stretch_entries : entries_from whole (entries m 0 (before ++ t) lines choices) ≡ entries_from (cycles_of t) (entries m 0 t (drop (length before) lines) (drop (issues_of before) choices))
    stretch_entries =
        let sum = cycles_of-append before t in
        let time : whole ≡ cycles_of t + cycles_of before = omega arith in
        ap (entries_from whole) (entries-append m 0 before t lines choices)
        ∙ from-append whole old new
        ∙ ap (λ (es : List (Entry UnitPlace)). es ++ entries_from whole new) old_past
        ∙ ap (λ (c : ℕ). entries_from c new) time
        ∙ sym (from-from (cycles_of t) (cycles_of before) new)
        ∙ ap (entries_from (cycles_of t)) (entries_back m (cycles_of before) 0 t (drop (length before) lines) (drop (issues_of before) choices))

    ways_before : (w : Way) → Contains (ways 0 before lines choices) w → still_holds m whole w ≡ false
    ways_before w there = ⊎_elim
        (λ (none : before ≡ []). absurd (Contains-nil w (subst (λ (es : List Event). Contains (ways 0 es lines choices) w) none there)))
        (λ (high : span ≤ cycles_of t).
        let sum = cycles_of-append before t in
        ways_past m span short before lines choices whole (omega arith) w there)
        long

    stretch_holders : (issues : List Holder) → AreHolders m t (drop (length before) lines) (drop (issues_of before) choices) issues → AreHolders m (before ++ t) lines choices issues
    stretch_holders issues are =
        let sum = cycles_of-append before t in
        record {
          each = are.each;
          early = λ h there. let began = are.early h there in omega arith;
          all = are.all ∙ sym stretch_entries;
          ways = ways_whole m before t lines choices ways_before issues are.early are.ways;
        }

-- ---- the last cycle of a plan's alternatives

within_choices : (choices : List Choice) (i : ℕ) (p : Place) (o : Option Choice) → slice_get choices i ≡ o → Contains (pairs_of o) p → p.cycle ≤ last_of_choices choices
within_choices choices i p None is h = absurd (Contains-nil p h)
within_choices choices i p (Some choice) is h =
    let here = within_most (λ (q : Place). q.cycle) choice.pairs.items p h in
    let all = within_most (λ (c : Choice). last_of c.pairs.items) choices choice (Contains-at choices i choice is) in
    omega arith

within_classes : (classes : List (Vec Choice Global)) (k i : ℕ) (p : Place) (o : Option (Vec Choice Global)) → slice_get classes k ≡ o → Contains (pairs_at (choices_of o) i) p → p.cycle ≤ last_of_classes classes
within_classes classes k i p None is h = let none = within_choices [] i p (slice_get [] i) refl h in omega arith
within_classes classes k i p (Some choices) is h =
    let here = within_choices choices.items i p (slice_get choices.items i) refl h in
    let all = within_most (λ (c : Vec Choice Global). last_of_choices c.items) classes choices (Contains-at classes k choices is) in
    omega arith

pub within_plan : (plan : Plan) (k i : ℕ) (p : Place) → Contains (pairs_at (choices_at plan k) i) p → p.cycle ≤ last_of_classes plan.classes.items
within_plan plan k i p h = within_classes plan.classes.items k i p (slice_get plan.classes.items k) refl h

-- ---- of a plan

later_numbers : (plan : Plan) (before t : List Event) (choices : List ℕ) → AreNumbers plan (before ++ t) choices → AreNumbers plan t (drop (issues_of before) choices)
later_numbers plan before t choices are = record {
  each = omega (arith, are.each, issues_of-append before t, length-drop (issues_of before) choices);
  numbers = λ done after k parts.
      subst (λ (n : ℕ). n < length (choices_at plan k))
      (ap (slice_index choices) (issues_of-append before done) ∙ sym (get_or-drop (issues_of before) choices (issues_of done) 0))
      (are.numbers (before ++ done) after k (ap (λ (es : List Event). before ++ es) parts ∙ sym (append_assoc before done (issue k ∷ after))));
}

-- what is longer than each alternative of the plan is longer than each of the pipeline
plan_short : (m : Pipeline UnitPlace) (plan : Plan) → IsPlanOf m plan → (span : ℕ) → ((k i : ℕ) (q : Place) → Contains (pairs_at (choices_at plan k) i) q → q.cycle < span) → (k i : ℕ) (p : Pair UnitPlace) → Contains (chosen m k i) p → p.cycle < span
plan_short m plan of_plan span short k i p h =
    let low = within_alternatives m (alternatives_at m k) i p h in
    let numbers = of_plan.numbers k in
    let (q, there, same) = listed_pair m plan of_plan k i (omega arith) p h in
    subst (λ (r : Pair UnitPlace). r.cycle < span) same (short k i q there)

module _ (es : List TraceEvent) (start : ℕ) (low : start ≤ length es) where
  abbrev before : List Event
  before = events_in (take start es)

  abbrev last : List Event
  last = events_in (drop start es)

  both : before ++ last ≡ events_in es
  both = sym (map-append (λ (x : TraceEvent). event_of x.what) (take start es) (drop start es)) ∙ ap events_in (take-append-drop start es)

  lines_after : drop (length before) (lines_in es) ≡ lines_in (drop start es)
  lines_after =
      let few : length before ≡ start = omega (arith, low, length-map (take start es) (λ (x : TraceEvent). event_of x.what), length-take start es) in
      ap (λ (n : ℕ). drop n (lines_in es)) few ∙ drop-map (λ (x : TraceEvent). x.line) start es

  none_before : start ≡ 0 → before ≡ []
  none_before none = ap (λ (n : ℕ). events_in (take n es)) none

  -- what the last events leave held, by the last choices, is what all leave held
  pub last_hold : (m : Pipeline UnitPlace) (plan : Plan) → IsPlanOf m plan → (span : ℕ) → ((k i : ℕ) (q : Place) → Contains (pairs_at (choices_at plan k) i) q → q.cycle < span)
      → (start ≡ 0) ⊎ (span ≤ cycles_of last) → (choices : List ℕ) (first : ℕ) → first ≡ length choices - issues_of last → IsChoice m (events_in es) choices
      → (issues : List Holder) → (AreNumbers plan last (drop first choices) → AreHolders m last (lines_in (drop start es)) (drop first choices) issues) → AreHolders m (events_in es) (lines_in es) choices issues
  last_hold m plan of_plan span short long choices first is_first is issues holds =
      let sum = issues_of-append before last in
      let each = is.each in
      let all = ap issues_of both in
      let there : first ≡ issues_of before = omega arith in
      let numbers = subst (λ (t : List Event). AreNumbers plan t choices) (sym both) (accepted_numbers m plan of_plan (events_in es) choices is) in
      let are = holds (subst (λ (n : ℕ). AreNumbers plan last (drop n choices)) (sym there) (later_numbers plan before last choices numbers)) in
      let there_are = subst (λ (n : ℕ). AreHolders m last (lines_in (drop start es)) (drop n choices) issues) there are in
      let held = subst (λ (ls : List ℕ). AreHolders m last ls (drop (issues_of before) choices) issues) (sym lines_after) there_are in
      let far : (before ≡ []) ⊎ (span ≤ cycles_of last) = ⊎_elim (λ (none : start ≡ 0). inl (none_before none)) (λ (high : span ≤ cycles_of last). inr high) long in
      subst (λ (t : List Event). AreHolders m t (lines_in es) choices issues) both
      (stretch_holders m span (plan_short m plan of_plan span short) before last (lines_in es) choices far issues held)
