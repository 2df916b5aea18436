-- What `replay` answers of a trace, by what was issued of it.
use Rattle.std.proofs.Common.{◌≡◌, ℕ, zero, suc, ◌<◌, inl, inr, Bool, true, false, IsTrue, List, [], ◌∷◌, ◌++◌, length, map, take, drop, get_or, All, Option, Some, None, refl, sym, ap, ◌∙◌, subst, arith, append_assoc}
use Rattle.std.specs.Prelude.{◌↔◌, slice_get, slice_index_or, if◌then◌else◌}
use Rattle.std.specs.List.{flat_map}
use Rattle.std.specs.Option.{option_map}
use Rattle.std.proofs.lemmas.List.{append-nil, length-map, get_or-map, map-append, take-map, take-append-drop}
use Rattle.std.proofs.lemmas.List.Elements.{All-head, All-tail, All-take, All-get_or}
use Rattle.std.proofs.lemmas.Option.{same_Some, slice_get-get_or, slice_get-map}
use Rattle.hz_description_model.specs.Check.CheckedParts.{AutomatonParts, automata_of, queries_in}
use Rattle.hz_description_model.specs.Check.CheckedShape.{AskNothingUnderNdfa}
use Rattle.hz_description_model.specs.Check.Places.{Known}
use Rattle.hz_description_model.specs.Reading.Descriptions.{Description, ClassItem}
use Rattle.hz_description_model.specs.Reservations.Automata.{UnitPlace}
use Rattle.hz_pipeline_model.specs.Accepting.Asking.{IsHeld, IsOfQuery}
use Rattle.hz_pipeline_model.specs.Accepting.Events.{Event, issue, advance, ask, issues_of, cycles_of, IsOfClass}
use Rattle.hz_pipeline_model.specs.Accepting.Replay.{Pipeline, first_fit, any_fit, FirstRefused}
use Rattle.hz_pipeline_model.specs.Compiling.AutomatonPipelines.{query_unit, no_automaton}
use Rattle.hz_pipeline_model.specs.Pipelines.Pipelines.{pipeline_with, class_of}
use Rattle.hz_pipeline_model.proofs.Accepting.AcceptanceLaws.{refused_issue}
use Rattle.hz_pipeline_model.proofs.Compiling.DescriptionLaws.{automata_count, queries_there}
use Rattle.hz_front_model.specs.Replays.{Replays}
use Rattle.hz_front_model.specs.Asks.{held_in, trace_names, query_name, AskSays, AsksSay}
use Rattle.hz_front_model.specs.Texts.{accepted_line, ask_line, refused_line}
use Rattle.hz_replay.specs.Lines.{event_of}
use Rattle.hz_replay.specs.Traces.{events_in, lines_in}
use Rattle.hz_replay.specs.declared.event.Event.{Event as TraceEvent}
use Rattle.hz_explain.specs.Answering.{asked_line, unit_name, issued_name, refused_by, replay_text, status_of, queries_of, IsTraceOf}
use Rattle.hz_reasons.specs.Frontiers.{Entry, AreEntriesOf, first_of}
use Rattle.hz_reasons.specs.Walking.{taken, query_at, IsAsked, AreAsked, ChoosesAll}
use Rattle.hz_reasons.specs.declared.plan.Plan.{Plan}
use Rattle.hz_reasons.specs.declared.walking.Asked.{Asked}
use Rattle.hz_reasons.proofs.FrontierSteps.{first_chosen}
use Rattle.hz_reasons.proofs.WalkLaws.{query_part}

-- five pieces that are added one after the other
pub added_five : (old a b c d e first second third fourth fifth : List ℕ) → first ≡ old ++ a → second ≡ first ++ b → third ≡ second ++ c → fourth ≡ third ++ d → fifth ≡ fourth ++ e → fifth ≡ old ++ (a ++ (b ++ (c ++ (d ++ e))))
added_five old a b c d e first second third fourth fifth h1 h2 h3 h4 h5 =
    h5
    ∙ ap (λ (xs : List ℕ). xs ++ e) (h4 ∙ ap (λ (xs : List ℕ). xs ++ d) (h3 ∙ ap (λ (xs : List ℕ). xs ++ c) (h2 ∙ ap (λ (xs : List ℕ). xs ++ b) h1)))
    ∙ append_assoc (((old ++ a) ++ b) ++ c) d e
    ∙ append_assoc ((old ++ a) ++ b) c (d ++ e)
    ∙ append_assoc (old ++ a) b (c ++ (d ++ e))
    ∙ append_assoc old a (b ++ (c ++ (d ++ e)))

-- an item that is there
read_there : {A : Type 0} (xs : List A) (i : ℕ) → i < length xs → (x : A) × (slice_get xs i ≡ Some x)
read_there [] i inside = absurd (omega (arith, inside))
read_there (x ∷ xs) zero inside = (x, refl)
read_there (x ∷ xs) (suc i) inside = read_there xs i (omega (arith, inside))

-- ---- query units of a description

no_queries : (automata : List AutomatonParts) (a u : ℕ) → All (λ x. x.queries ≡ []) automata → u < length (slice_index_or (map (λ (x : AutomatonParts). x.queries) automata) a []) → ⊥
no_queries [] a u none low = absurd (omega (arith, low))
no_queries (x ∷ automata) zero u none low = let empty = ap length (All-head (λ (y : AutomatonParts). y.queries ≡ []) x automata none) in absurd (omega (arith, low, empty))
no_queries (x ∷ automata) (suc a) u none low = no_queries automata a u (All-tail (λ (y : AutomatonParts). y.queries ≡ []) x automata none) low

-- where a unit is asked for, issues take the first alternative that fits
treatment_first : (ndfa : Bool) (automata : List AutomatonParts) (a u : ℕ) → AskNothingUnderNdfa ndfa automata → u < length (slice_index_or (map (λ (x : AutomatonParts). x.queries) automata) a []) → (if ndfa then any_fit else first_fit) ≡ first_fit
treatment_first false automata a u none low = refl
treatment_first true automata a u none low = absurd (no_queries automata a u (none refl) low)

module _ (d : Description) where
  same_queries : (a u : ℕ) → u < length (slice_index_or (queries_of d) a []) → slice_index_or (queries_of d) a [] ≡ queries_in d a
  same_queries a u low =
      let inside : a < length (automata_of d) = omega (arith, query_part (queries_of d) a u low, length-map (automata_of d) (λ (x : AutomatonParts). x.queries)) in
      get_or-map (λ (x : AutomatonParts). x.queries) (automata_of d) a no_automaton [] inside ∙ queries_there d a (omega (arith, inside, automata_count d))

  same_unit : (a u : ℕ) → u < length (slice_index_or (queries_of d) a []) → query_at (queries_of d) a u ≡ query_unit d a u
  same_unit a u low = ap (λ (units : List ℕ). let p : UnitPlace = record { automaton = a; unit = slice_index_or units u 0 } in p) (same_queries a u low)

  module _ (known : Known) (classes : List (List ℕ)) (units : List (List (List ℕ))) (es : List TraceEvent) (is : IsTraceOf d classes units (events_in es)) where
    abbrev m : Pipeline UnitPlace
    m = pipeline_with d known

    -- ---- the lines of asks

    ask_says : (before : List Event) (line a u : ℕ) (x : Asked) (b : Bool) → x.reserved ≡ b → IsAsked m (queries_of d) before line a u x → u < length (slice_index_or (queries_of d) a []) → AskSays (held_in d known) (trace_names d) before line a u (asked_line units x)
    ask_says before line a u x b reserved asked low = by_test b reserved
      where
        both : IsTrue x.reserved ↔ IsHeld m before (query_at (queries_of d) a u)
        both = asked.held (treatment_first d.options.ndfa (automata_of d) a u is.nothing low)

        text : (c : Bool) → x.reserved ≡ c → asked_line units x ≡ ask_line line (query_name (trace_names d) a u) c
        text c reported =
            ap (λ (l : ℕ). ask_line l (unit_name units x.part x.ask) x.reserved) asked.on_line
            ∙ ap (λ (p : ℕ). ask_line line (unit_name units p x.ask) x.reserved) asked.automaton_there
            ∙ ap (λ (q : ℕ). ask_line line (unit_name units a q) x.reserved) asked.query_there
            ∙ ap (λ (names : List (List (List ℕ))). ask_line line (unit_name names a u) x.reserved) is.unit_names
            ∙ ap (λ (r : Bool). ask_line line (query_name (trace_names d) a u) r) reported

        by_test : (c : Bool) → x.reserved ≡ c → AskSays (held_in d known) (trace_names d) before line a u (asked_line units x)
        by_test true reported = inl (subst (IsHeld m before) (same_unit a u low) (both.0 reported), text true reported)
        by_test false reported = inr ((λ held. let yes : x.reserved ≡ true = both.1 (subst (IsHeld m before) (sym (same_unit a u low)) held) in cc), text false reported)

    asks_say : (before t : List Event) (lines more : List ℕ) (asked : List Asked) → length lines ≡ length t → All (IsOfQuery (queries_of d)) t → AreAsked m (queries_of d) before lines t asked
        → AsksSay (held_in d known) (trace_names d) before (lines ++ more) t (flat_map (asked_line units) asked)
    asks_say before [] lines more asked each all are = ap (flat_map (asked_line units)) are
    asks_say before (issue k ∷ t) [] more asked each all are = absurd (omega (arith, each))
    asks_say before (issue k ∷ t) (l ∷ lines) more asked each all are = asks_say (before ++ issue k ∷ []) t lines more asked (omega (arith, each)) (All-tail (IsOfQuery (queries_of d)) (issue k) t all) are
    asks_say before (advance n ∷ t) [] more asked each all are = absurd (omega (arith, each))
    asks_say before (advance n ∷ t) (l ∷ lines) more asked each all are = asks_say (before ++ advance n ∷ []) t lines more asked (omega (arith, each)) (All-tail (IsOfQuery (queries_of d)) (advance n) t all) are
    asks_say before (ask a u ∷ t) [] more asked each all are = absurd (omega (arith, each))
    asks_say before (ask a u ∷ t) (l ∷ lines) more asked each all (first, rest, one, after, whole) = (
      asked_line units first,
      flat_map (asked_line units) rest,
      ask_says before l a u first first.reserved refl one (All-head (IsOfQuery (queries_of d)) (ask a u) t all),
      asks_say (before ++ ask a u ∷ []) t lines more rest (omega (arith, each)) (All-tail (IsOfQuery (queries_of d)) (ask a u) t all) after,
      ap (flat_map (asked_line units)) whole,
    )

    -- ---- the whole answer

    abbrev says : TraceEvent → Event
    says e = event_of e.what

    as_long : (xs : List TraceEvent) → length (lines_in xs) ≡ length (events_in xs)
    as_long xs = length-map xs (λ (e : TraceEvent). e.line) ∙ sym (length-map xs says)

    all_said : (asked : List Asked) → AreAsked m (queries_of d) [] (lines_in es) (events_in es) asked → AsksSay (held_in d known) (trace_names d) [] (lines_in es) (events_in es) (flat_map (asked_line units) asked)
    all_said asked are = subst (λ (ls : List ℕ). AsksSay (held_in d known) (trace_names d) [] ls (events_in es) (flat_map (asked_line units) asked)) (append-nil (lines_in es)) (asks_say [] (events_in es) (lines_in es) [] asked (as_long es) is.of_query are)

    front_said : (i : ℕ) (asked : List Asked) → AreAsked m (queries_of d) [] (lines_in (take i es)) (events_in (take i es)) asked → AsksSay (held_in d known) (trace_names d) [] (lines_in es) (take i (events_in es)) (flat_map (asked_line units) asked)
    front_said i asked are =
        let front : take i (events_in es) ≡ events_in (take i es) = take-map says i es in
        let lines : lines_in (take i es) ++ lines_in (drop i es) ≡ lines_in es = sym (map-append (λ (e : TraceEvent). e.line) (take i es) (drop i es)) ∙ ap lines_in (take-append-drop i es) in
        subst (λ (ls : List ℕ). AsksSay (held_in d known) (trace_names d) [] ls (take i (events_in es)) (flat_map (asked_line units) asked)) lines
        (subst (λ (t : List Event). AsksSay (held_in d known) (trace_names d) [] (lines_in (take i es) ++ lines_in (drop i es)) t (flat_map (asked_line units) asked)) (sym front)
        (asks_say [] (events_in (take i es)) (lines_in (take i es)) (lines_in (drop i es)) asked (as_long (take i es)) (subst (All (IsOfQuery (queries_of d))) front (All-take (IsOfQuery (queries_of d)) i (events_in es) is.of_query)) are))

    -- the class of an issue
    class_there : (k : ℕ) (i : ℕ) → i < length es → slice_get (events_in es) i ≡ Some (issue k) → k < length d.classes
    class_there k i inside there =
        let low : i < length (events_in es) = omega (arith, inside, length-map es says) in
        let same : get_or (events_in es) i (issue k) ≡ issue k = same_Some _ _ (sym (slice_get-get_or (events_in es) i (issue k) low) ∙ there) in
        subst (IsOfClass (length d.classes)) same (All-get_or (IsOfClass (length d.classes)) (events_in es) i (issue k) low is.of_class)

    name_there : (k : ℕ) (c : ClassItem) → slice_get d.classes k ≡ Some c → k < length d.classes → slice_index_or classes k [] ≡ c.name
    name_there k c there low =
        let same : get_or d.classes k c ≡ c = same_Some _ _ (sym (slice_get-get_or d.classes k c low) ∙ there) in
        ap (λ (names : List (List ℕ)). slice_index_or names k []) is.names ∙ (get_or-map (λ (x : ClassItem). x.name) d.classes k c [] low ∙ ap (λ (x : ClassItem). x.name) same)

    -- the event that is refused
    module _ (i : ℕ) (e : TraceEvent) (there : slice_get es i ≡ Some e) (k : ℕ) (is_issue : slice_get (events_in es) i ≡ Some (issue k)) where
      same_event : event_of e.what ≡ issue k
      same_event = same_Some _ _ (sym (slice_get-map says es i ∙ ap (option_map says) there) ∙ is_issue)

      line_there : slice_get (lines_in es) i ≡ Some e.line
      line_there = slice_get-map (λ (x : TraceEvent). x.line) es i ∙ ap (option_map (λ (x : TraceEvent). x.line)) there

    tells_refused : (i : ℕ) (asked : List Asked) → FirstRefused m (events_in es) i → AreAsked m (queries_of d) [] (lines_in (take i es)) (events_in (take i es)) asked
        → Replays m (held_in d known) (trace_names d) (lines_in es) (events_in es) 1 (replay_text classes units es (Some i) asked)
    tells_refused i asked refused are =
        let inside : i < length es = omega (arith, refused.within, length-map es says) in
        by_issue (refused_issue m (events_in es) i refused).0 (refused_issue m (events_in es) i refused).1 inside
      where
        by_event : (k : ℕ) → slice_get (events_in es) i ≡ Some (issue k) → i < length es → (e : TraceEvent) → slice_get es i ≡ Some e → (c : ClassItem) → slice_get d.classes k ≡ Some c → Replays m (held_in d known) (trace_names d) (lines_in es) (events_in es) 1 (replay_text classes units es (Some i) asked)
        by_event k is_issue inside e there c class =
            let name : issued_name classes (event_of e.what) ≡ c.name = ap (issued_name classes) (same_event i e there k is_issue) ∙ name_there k c class (class_there k i inside is_issue) in
            inr (
              i,
              e.line,
              issued_name classes (event_of e.what),
              refused,
              line_there i e there k is_issue,
              (k, class_of known c, is_issue, slice_get-map (class_of known) d.classes k ∙ ap (option_map (class_of known)) class, sym name),
              (flat_map (asked_line units) asked, refused_line e.line (issued_name classes (event_of e.what)), front_said i asked are, (refl, refl), ap (λ (o : Option TraceEvent). flat_map (asked_line units) asked ++ refused_by classes o) there),
            )

        by_issue : (k : ℕ) → slice_get (events_in es) i ≡ Some (issue k) → i < length es → Replays m (held_in d known) (trace_names d) (lines_in es) (events_in es) 1 (replay_text classes units es (Some i) asked)
        by_issue k is_issue inside =
            let e = read_there es i inside in
            let c = read_there d.classes k (class_there k i inside is_issue) in
            by_event k is_issue inside e.0 e.1 c.0 c.1

    pub replays : (plan : Plan) (entries : List Entry) (refused : Option ℕ) (asked : List Asked) → AreEntriesOf plan entries → ChoosesAll m (events_in es) entries refused → AreAsked m (queries_of d) [] (lines_in (taken refused es)) (events_in (taken refused es)) asked
        → Replays m (held_in d known) (trace_names d) (lines_in es) (events_in es) (status_of refused) (replay_text classes units es refused asked)
    replays plan entries None asked are frontier said = inl (
      ((first_of entries).choices, (first_chosen m (events_in es) entries (first_of entries).grids refl are.some frontier).choice),
      (flat_map (asked_line units) asked, accepted_line (issues_of (events_in es)) (cycles_of (events_in es)), all_said asked said, (refl, refl), refl),
    )
    replays plan entries (Some i) asked are stops said = tells_refused i asked stops.refused said
