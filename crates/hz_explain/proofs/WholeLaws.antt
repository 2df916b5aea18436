-- The whole answer on a trace.
use Rattle.std.proofs.Common.{◌≡◌, ℕ, zero, suc, ◌+◌, inr, List, [], ◌∷◌, ◌++◌, length, map, filter, take, drop, All, Some, refl, sym, ap, ◌∙◌, subst, arith, ◌≤◌, Option, None}
use Rattle.std.specs.Prelude.{slice_get, slice_index_or}
use Rattle.std.specs.List.{concat, flat_map}
use Rattle.std.specs.declared.alloc.Global.{Global}
use Rattle.std.specs.declared.vec.Vec.{Vec}
use Rattle.std.proofs.lemmas.List.{length-map, map-append, take-map, take-append-drop}
use Rattle.std.proofs.lemmas.List.Elements.{All-take, All-weaker}
use Rattle.hz_base_model.specs.Pairs.{placed}
use Rattle.hz_altern.specs.Shapes.{alternatives}
use Rattle.hz_altern.specs.declared.alternative.Alt.{Alt}
use Rattle.hz_check.specs.declared.parts.Parts.{Parts}
use Rattle.hz_check.specs.Parts.{IsPartsOf}
use Rattle.hz_checked.specs.Shape.{automaton_of}
use Rattle.hz_description_model.specs.Check.CheckedParts.{AutomatonParts, automata_of}
use Rattle.hz_description_model.specs.Check.CheckedShape.{ask_names}
use Rattle.hz_description_model.specs.Check.Places.{class_names}
use Rattle.hz_description_model.specs.Reading.Descriptions.{Description, ClassItem}
use Rattle.hz_description_model.specs.Reservations.Alternatives.{alternatives_of}
use Rattle.hz_description_model.specs.Reservations.Automata.{UnitPlace, listed}
use Rattle.hz_description_model.proofs.Check.QueryLaws.{asks_nothing}
use Rattle.hz_pipeline_model.specs.Accepting.Asking.{IsOfQuery}
use Rattle.hz_pipeline_model.specs.Accepting.Events.{Event, issue, advance, ask, cycles_of, IsOfClass}
use Rattle.hz_pipeline_model.specs.Accepting.Replay.{Pipeline, alternatives_at, chosen}
use Rattle.hz_replay.specs.Lines.{event_of}
use Rattle.hz_replay.specs.Traces.{events_in, lines_in}
use Rattle.hz_replay.specs.declared.event.Event.{Event as TraceEvent}
use Rattle.hz_front_model.specs.Asks.{trace_names}
use Rattle.hz_why_model.specs.Answers.{Explains}
use Rattle.hz_why_model.specs.Explanations.{Wording, choice_line, wait_line, alternative_lines, reasons, pair_lists, TellsRefusal}
use Rattle.hz_why_model.specs.Holders.{Entry, entries_of, entries, entries_from}
use Rattle.hz_why_model.specs.Pictures.{picture}
use Rattle.hz_why_model.specs.Takes.{takes_lines}
use Rattle.hz_why_model.specs.Ways.{Way, ways, still_holds, way_lines}
use Rattle.hz_reasons.specs.Frontiers as frontiers
use Rattle.hz_reasons.specs.Walking.{StopsAll}
use Rattle.hz_reasons.proofs.PlanLaws.{map_twice}
use Rattle.hz_explain.specs.Answering.{queries_of, status_of, IsTraceOf}
use Rattle.hz_explain.specs.Naming.{queries_held}

-- ---- query units

-- lists by the same items are as long
same_lengths : {A B C : Type 0} (f : A → List B) (g : A → List C) (xs : List A) → ((x : A) → length (f x) ≡ length (g x)) → (i : ℕ) → length (slice_index_or (map f xs) i []) ≡ length (slice_index_or (map g xs) i [])
same_lengths f g [] same i = refl
same_lengths f g (x ∷ xs) same zero = same x
same_lengths f g (x ∷ xs) same (suc i) = same_lengths f g xs same i

queried : {A B : Type 0} (qs : List (List A)) (rs : List (List B)) → ((i : ℕ) → length (slice_index_or qs i []) ≡ length (slice_index_or rs i [])) → (e : Event) → IsOfQuery qs e → IsOfQuery rs e
queried qs rs same (issue k) is = is
queried qs rs same (advance n) is = is
queried qs rs same (ask a u) is = omega (arith, is, same a)

module _ (d : Description) (parts : Parts) (is : IsPartsOf d parts) where
  pub queries_are : queries_held parts ≡ queries_of d
  queries_are = sym (map_twice (λ (x : AutomatonParts). x.queries) automaton_of parts.automata.items) ∙ ap (map (λ (x : AutomatonParts). x.queries)) is.automata

  -- asks of names are asks of numbers
  pub asks_of_numbers : (t : List Event) → All (IsOfQuery (trace_names d).queries) t → All (IsOfQuery (queries_held parts)) t
  asks_of_numbers t all = subst (λ (qs : List (List ℕ)). All (IsOfQuery qs) t) (sym queries_are)
      (All-weaker (IsOfQuery (trace_names d).queries) (IsOfQuery (queries_of d)) (queried (trace_names d).queries (queries_of d) (same_lengths ask_names (λ (x : AutomatonParts). x.queries) (automata_of d) (λ x. length-map x.queries (λ (n : ℕ). slice_index_or x.units n [])))) t all)

  -- as many lists of alternatives as classes
  pub lists_of_classes : length parts.lists.items ≡ length d.classes
  lists_of_classes = sym (length-map parts.lists.items (λ (list : Vec Alt Global). alternatives list.items)) ∙ ap length is.lists ∙ length-map d.classes (λ (c : ClassItem). map listed (alternatives_of is.known c.expression))

  -- what the names and events of a trace are of
  pub trace_is : (classes : List (List ℕ)) (units : List (List (List ℕ))) (t : List Event) → classes ≡ class_names d → units ≡ map ask_names (map automaton_of parts.automata.items) → All (IsOfClass (length d.classes)) t → All (IsOfQuery (queries_held parts)) t → IsTraceOf d classes units t
  trace_is classes units t names unit_names of_class of_query = record {
    names = names;
    unit_names = unit_names ∙ ap (map ask_names) is.automata;
    of_class = of_class;
    of_query = subst (λ (qs : List (List ℕ)). All (IsOfQuery qs) t) queries_are of_query;
    nothing = asks_nothing d is.known is.sound;
  }

  -- the classes of names are classes
  pub classes_named : (n : ℕ) (t : List Event) → n ≡ length parts.lists.items → All (IsOfClass (length (trace_names d).classes)) t → All (IsOfClass n) t
  classes_named n t count all = subst (λ (k : ℕ). All (IsOfClass k) t) (omega (arith, count, lists_of_classes, length-map d.classes (λ (c : ClassItem). c.name))) all

-- ---- events before one

-- what holds of all events holds of those before one
pub front_all : (P : Event → Type 0) (es : List TraceEvent) (i : ℕ) → All P (events_in es) → All P (events_in (take i es))
front_all P es i all = subst (All P) (take-map (λ (e : TraceEvent). event_of e.what) i es) (All-take P i (events_in es) all)

abbrev issue_at : (line class number cycle : ℕ) → Way
issue_at line class number cycle = record { line = line; class = class; number = number; cycle = cycle }

-- lines of later events are of no issue
ways_front : (now : ℕ) (t : List Event) (lines more choices : List ℕ) → length lines ≡ length t → ways now t (lines ++ more) choices ≡ ways now t lines choices
ways_front now [] lines more choices each = refl
ways_front now (e ∷ t) [] more choices each = absurd (omega (arith, each))
ways_front now (advance n ∷ t) (l ∷ lines) more choices each = ways_front (n + now) t lines more choices (omega (arith, each))
ways_front now (ask a u ∷ t) (l ∷ lines) more choices each = ways_front now t lines more choices (omega (arith, each))
ways_front now (issue k ∷ t) (l ∷ lines) more [] each = refl
ways_front now (issue k ∷ t) (l ∷ lines) more (i ∷ choices) each = ap (λ (ws : List Way). issue_at l k i now ∷ ws) (ways_front now t lines more choices (omega (arith, each)))

module _ {U : Type 0} (m : Pipeline U) where
  -- lines of later events hold nothing
  entries_front : (now : ℕ) (t : List Event) (lines more choices : List ℕ) → length lines ≡ length t → entries m now t (lines ++ more) choices ≡ entries m now t lines choices
  entries_front now [] lines more choices each = refl
  entries_front now (e ∷ t) [] more choices each = absurd (omega (arith, each))
  entries_front now (advance n ∷ t) (l ∷ lines) more choices each = entries_front (n + now) t lines more choices (omega (arith, each))
  entries_front now (ask a u ∷ t) (l ∷ lines) more choices each = entries_front now t lines more choices (omega (arith, each))
  entries_front now (issue k ∷ t) (l ∷ lines) more [] each = refl
  entries_front now (issue k ∷ t) (l ∷ lines) more (i ∷ choices) each = ap (λ (es : List (Entry U)). entries_of l k (placed now (chosen m k i)) ++ es) (entries_front now t lines more choices (omega (arith, each)))

  -- the text, by what stands reserved and by the issues
  abbrev text_by : (w : Wording U) (t : List Event) (choices : List ℕ) (k : ℕ) (wait : Option ℕ) (held : List (Entry U)) (ws : List Way) → List ℕ
  text_by w t choices k wait held ws = concat (
      choice_line m.treatment
      ∷ wait_line wait
      ∷ alternative_lines w (cycles_of t) held m.statements (reasons w m t [] choices k)
      ∷ takes_lines w.same w.unit (pair_lists w m t [] choices k)
      ∷ way_lines w.class (cycles_of t) (filter (still_holds m (cycles_of t)) ws)
      ∷ picture w.same w.unit (entries_from (cycles_of t) held) w.units (flat_map (λ a. a.pairs) (alternatives_at m k))
      ∷ [])

  tells_front : (w : Wording U) (t : List Event) (lines more : List ℕ) (k : ℕ) (text : List ℕ) → length lines ≡ length t → TellsRefusal w m t lines k text → TellsRefusal w m t (lines ++ more) k text
  tells_front w t lines more k text each tells = record {
    choices = tells.choices;
    first = tells.first;
    wait = tells.wait;
    waits = tells.waits;
    is = tells.is
        ∙ ap (λ (held : List (Entry U)). text_by w t tells.choices k tells.wait held (ways 0 t lines tells.choices)) (sym (entries_front 0 t lines more tells.choices each))
        ∙ ap (λ (ws : List Way). text_by w t tells.choices k tells.wait (entries m 0 t (lines ++ more) tells.choices) ws) (sym (ways_front 0 t lines more tells.choices each));
  }

-- one is refused
pub refusal_explains : (w : Wording UnitPlace) (m : Pipeline UnitPlace) (es : List TraceEvent) (entries : List frontiers.Entry) (i k : ℕ) (text : List ℕ) → StopsAll m (events_in es) entries i → slice_get (events_in es) i ≡ Some (issue k)
    → TellsRefusal w m (events_in (take i es)) (lines_in (take i es)) k text → Explains w m (events_in es) (lines_in es) text
refusal_explains w m es entries i k text stops there tells =
    let front : take i (events_in es) ≡ events_in (take i es) = take-map (λ (e : TraceEvent). event_of e.what) i es in
    let lines : lines_in (take i es) ++ lines_in (drop i es) ≡ lines_in es = sym (map-append (λ (e : TraceEvent). e.line) (take i es) (drop i es)) ∙ ap lines_in (take-append-drop i es) in
    let each : length (lines_in (take i es)) ≡ length (events_in (take i es)) = length-map (take i es) (λ (e : TraceEvent). e.line) ∙ sym (length-map (take i es) (λ (e : TraceEvent). event_of e.what)) in
    let more = tells_front m w (events_in (take i es)) (lines_in (take i es)) (lines_in (drop i es)) k text each tells in
    inr (
      i,
      k,
      stops.refused,
      there,
      subst (λ (t : List Event). TellsRefusal w m t (lines_in es) k text) (sym front)
          (subst (λ (ls : List ℕ). TellsRefusal w m (events_in (take i es)) ls k text) lines more),
    )

-- a trace is accepted or refused
pub status_low : (refused : Option ℕ) → status_of refused ≤ 1
status_low None = omega arith
status_low (Some place) = omega arith
