-- What `compile` writes is said by the description, and `walk` on it answers as `replay` does.
use Rattle.std.proofs.lemmas.List.{length-map, get_or-map}
use Rattle.std.proofs.Common.{◌∷◌, ◌≡◌, ℕ, ◌+◌, ◌<◌, inl, inr, Bool, true, false, List, [], length, map, take, All, Option, Some, None, Ok, IsSome, MatchOption, MatchBool, nat_lt, slice_get, refl, sym, ap, ◌∙◌, subst, zero, suc, ◌≤◌, ◌⊎◌, ⊎_elim, ◌++◌, get_or, slice_index_or, arith}
use Rattle.std.specs.Prelude.{◌↔◌}
use Rattle.std.specs.Option.{option_map}
use Rattle.std.proofs.lemmas.Bool.{le-ltb, ltb-false, cases_lt}
use Rattle.std.proofs.lemmas.List.Elements.{All-take, All-nil, All-cons, All-head, All-tail}
use Rattle.std.proofs.lemmas.Option.{none-some, same_Some, slice_get-map, slice_get_within}
use Rattle.hz_base_model.proofs.Forms.FormsLaws.{one_reading, forms_or_fault}
use Rattle.hz_description_model.proofs.Reading.DescriptionLaws.{one_description, description_or_fault}
use Rattle.hz_description_model.proofs.Check.CheckLaws.{fault_or_sound}
use Rattle.hz_pipeline_model.specs.Accepting.Events.{Event, issue, IsOfClass, ask, issues_of, cycles_of}
use Rattle.hz_pipeline_model.specs.Accepting.Replay.{Accepted, FirstRefused, Class}
use Rattle.hz_description_model.specs.Reservations.Automata.{UnitPlace}
use Rattle.hz_pipeline_model.specs.Compiling.DescriptionLimits.{AllKeepLimits}
use Rattle.hz_pipeline_model.proofs.Compiling.DescriptionLaws.{machine_accepts, unwalked_refused, machine_tells, automata_count, queries_there}
use Rattle.hz_description_model.specs.Reading.Limits.{description_limit}
use Rattle.hz_pipeline_model.specs.Traces.TraceLimits.{trace_limit}
use Rattle.hz_base_model.specs.Lines.{lines_of}
use Rattle.hz_description_model.specs.Check.CheckedParts.{class_parts, AutomatonParts, automata_of, automaton_count, queries_in}
use Rattle.hz_description_model.specs.Check.CheckFaults.{CheckFaultAt, IsSound}
use Rattle.hz_description_model.specs.Check.Places.{Known, class_names}
use Rattle.hz_description_model.specs.Reading.Descriptions.{Description, ClassItem}
use Rattle.hz_description_model.specs.Reading.DescriptionForms as description_forms
use Rattle.hz_base_model.specs.Forms.Trees.{Trees}
use Rattle.hz_pipeline_model.specs.Pipelines.Pipelines.{class_of, pipeline_with}
use Rattle.hz_pipeline_model.specs.Tables.Machines.{Machine, machine_walk, Part, no_part, states_tell}
use Rattle.hz_tabtext_model.specs.Judging.{Fault}
use Rattle.hz_tabtext_model.specs.Reading.{tables_in}
use Rattle.hz_tabtext_model.specs.Texts.{TableText}
use Rattle.hz_tabtext_model.proofs.TextAgain.{tables_again}
use Rattle.hz_tabtext_model.proofs.Steps.{ok_is}
use Rattle.hz_pipeline_model.specs.Traces.Traces.{Trace, event_lines}
use Rattle.hz_front_model.specs.Descriptions.{HasDescription}
use Rattle.hz_answer_model.specs.Answers.{Compiles, ReplaysTrace, ReplaysDescription, Judges, CompilesDescription, AnswersOrder}
use Rattle.hz_front_model.specs.Replays.{Replays}
use Rattle.hz_answer_model.specs.Headline.{IsDescribed, WritesTables, WalkIsReplay}
use Rattle.hz_base_model.specs.Names.{Held}
use Rattle.hz_words_model.specs.Words.{compile}
use Rattle.hz_front_model.specs.Phases.{Says, Next, Opens, Traces}
use Rattle.hz_answer_model.specs.TableAnswers.{tables_limit, IsTablesOf, WritesTablesOf, HasTables, IsFirstUnwalked, WalksTrace, IsIssueIn, reported_by}
use Rattle.hz_front_model.specs.Texts.{file_line, limit_line, accepted_line, refused_line}
use Rattle.hz_answer_model.proofs.AnswerLaws.{kept_or_past}
use Rattle.hz_answer_model.proofs.DoneLaws.{IsOpened, opened, IsGiven, given_of, compiled_of}
use Rattle.hz_answer_model.proofs.EventLaws.{issue_named}
use Rattle.hz_answer_model.proofs.HeadlineLaws.{one_described}
use Rattle.hz_answer_model.proofs.ShortLaws.{tables_short}
use Rattle.hz_pipeline_model.specs.Accepting.Asking.{IsOfQuery}
use Rattle.hz_pipeline_model.specs.Traces.TraceNames.{TraceNames}
use Rattle.hz_pipeline_model.proofs.Traces.NameLaws.{events_of_classes, events_of_queries}
use Rattle.hz_description_model.specs.Check.CheckedShape.{ask_names}
use Rattle.hz_pipeline_model.specs.Tables.MachineNames.{names_of_machine}
use Rattle.hz_pipeline_model.specs.Compiling.Compiled.{Report, IsCompiled}
use Rattle.hz_pipeline_model.specs.Compiling.AutomatonPipelines.{automaton_at, no_automaton}
use Rattle.hz_front_model.specs.Asks.{Tells, trace_names, held_in}
use Rattle.hz_front_model.proofs.AskLaws.{reported_alike}
use Rattle.hz_answer_model.proofs.TableLaws.{prefix_walked}

-- ---- one machine, walked and replayed

pub map_twice : {A B C : Type 0} (f : B → C) (g : A → B) (xs : List A) → map f (map g xs) ≡ map (λ x. f (g x)) xs
map_twice f g [] = refl
map_twice f g (x ∷ xs) = ap (λ (ys : List _). f (g x) ∷ ys) (map_twice f g xs)

-- what holds of all of two lists holds of the first
all_front : {X : Type 0} (P : X → Type 0) (xs ys : List X) → All P (xs ++ ys) → All P xs
all_front P [] ys h = All-nil P
all_front P (x ∷ xs) ys h = All-cons P x xs (All-head P x (xs ++ ys) h) (all_front P xs ys (All-tail P x (xs ++ ys) h))

-- a trace hands on what follows it
traces_map : (names : TraceNames) (name text : List ℕ) (next other : Next (List Event)) (s : ℕ) (t : List ℕ) → ((events : List Event) → Trace names text events → next events s t → other events s t) → Traces names name text next s t → Traces names name text other s t
traces_map names name text next other s t f (inl (events, is, h)) = inl (events, is, f events is h)
traces_map names name text next other s t f (inr wrong) = inr wrong

module _ (d : Description) (known : Known) (m : Machine) (named_alike : names_of_machine m ≡ trace_names d) (walks : (t : List Event) → All (IsOfClass (length d.classes)) t → IsSome (machine_walk m t) ↔ Accepted (pipeline_with d known) t)
    (holds : (before : List Event) (a u : ℕ) → IsSome (machine_walk m before) → All (IsOfClass (length d.classes)) before → IsOfQuery (trace_names d).queries (ask a u) → reported_by m before a u ↔ held_in d known before a u) where
  names : m.classes ≡ class_names d
  names = ap (λ (ns : TraceNames). ns.classes) named_alike

  -- the class of an issue in the pipeline has its name in the machine
  class_named : (k : ℕ) (c : Class UnitPlace) (class : List ℕ) → slice_get (pipeline_with d known).classes k ≡ Some c → c.name ≡ class → slice_get m.classes k ≡ Some class
  class_named k c class there named = found (slice_get d.classes k) refl
    where
      found : (o : Option ClassItem) → slice_get d.classes k ≡ o → slice_get m.classes k ≡ Some class
      found None none = absurd (none-some c (sym (slice_get-map (class_of known) d.classes k ∙ ap (option_map (class_of known)) none) ∙ there))
      found (Some x) some =
          let same : class_of known x ≡ c = same_Some (class_of known x) c (sym (slice_get-map (class_of known) d.classes k ∙ ap (option_map (class_of known)) some) ∙ there) in
          let name : x.name ≡ class = ap (λ (c : Class UnitPlace). c.name) same ∙ named in
          ap (λ (cs : List (List ℕ)). slice_get cs k) names ∙ (slice_get-map (λ (c : ClassItem). c.name) d.classes k ∙ (ap (option_map (λ c. c.name)) some ∙ ap Some name))

  -- the first event that is not walked is the first refused, and the other way round
  unwalked_is_refused : (events : List Event) → All (IsOfClass (length d.classes)) events → (i : ℕ) → i < length events → IsFirstUnwalked m events i → FirstRefused (pipeline_with d known) events i
  unwalked_is_refused events all i within (before, stops) = unwalked_refused (pipeline_with d known) m (length d.classes) walks events all i within before stops

  refused_is_unwalked : (events : List Event) → All (IsOfClass (length d.classes)) events → (i : ℕ) → FirstRefused (pipeline_with d known) events i → IsFirstUnwalked m events i
  refused_is_unwalked events all i first = ((walks (take i events) (All-take (IsOfClass (length d.classes)) i events all)).1 first.before, stops (machine_walk m (take (i + 1) events)) refl)
    where
      stops : (o : Option (List ℕ)) → machine_walk m (take (i + 1) events) ≡ o → machine_walk m (take (i + 1) events) ≡ None
      stops None e = e
      stops (Some states) e = absurd (first.refused ((walks (take (i + 1) events) (All-take (IsOfClass (length d.classes)) (i + 1) events all)).0 (subst IsSome (sym e) refl)))

  -- events that are walked, of the description's classes
  abbrev IsWalkedFront : List Event → Type 0
  IsWalkedFront t = IsSome (machine_walk m t) × All (IsOfClass (length d.classes)) t

  front : (s t : List Event) → IsWalkedFront (s ++ t) → IsWalkedFront s
  front s t (walked, all) = (prefix_walked m s t walked, all_front (IsOfClass (length d.classes)) s t all)

  abbrev AllNamed : List Event → Type 0
  AllNamed events = All (IsOfClass (length d.classes)) events × All (IsOfQuery (trace_names d).queries) events

  -- the asks of events that are walked are reported alike
  reported_both : (lines : List ℕ) (events : List Event) (last : ℕ → List ℕ → Type 0) (s : ℕ) (t : List ℕ) → IsSome (machine_walk m events) → AllNamed events
      → Tells (reported_by m) (trace_names d) lines events last s t ↔ Tells (held_in d known) (trace_names d) lines events last s t
  reported_both lines events last s t walked (all, asked) = (
    reported_alike (reported_by m) (held_in d known) (trace_names d) IsWalkedFront front (λ before a u is of_query. holds before a u is.0 is.1 of_query) lines events last s t (walked, all) asked,
    reported_alike (held_in d known) (reported_by m) (trace_names d) IsWalkedFront front (λ before a u is of_query. let both = holds before a u is.0 is.1 of_query in (both.1, both.0)) lines events last s t (walked, all) asked,
  )

  -- the walk of events by the names of the description
  abbrev WalksNamed : List ℕ → List Event → ℕ → List ℕ → Type 0
  WalksNamed lines events s t =
      (IsSome (machine_walk m events) × Tells (reported_by m) (trace_names d) lines events (Says 0 (accepted_line (issues_of events) (cycles_of events))) s t)
      ⊎ ((i line : ℕ) × (class : List ℕ) × IsFirstUnwalked m events i × (slice_get lines i ≡ Some line) × IsIssueIn m (slice_get events i) class × Tells (reported_by m) (trace_names d) lines (take i events) (Says 1 (refused_line line class)) s t)

  some_named : (i : ℕ) (events : List Event) → AllNamed events → AllNamed (take i events)
  some_named i events (all, asked) = (All-take (IsOfClass (length d.classes)) i events all, All-take (IsOfQuery (trace_names d).queries) i events asked)

  walked_replayed : (lines : List ℕ) (events : List Event) → AllNamed events → (s : ℕ) (t : List ℕ) → WalksNamed lines events s t → Replays (pipeline_with d known) (held_in d known) (trace_names d) lines events s t
  walked_replayed lines events all s t (inl (some, tells)) = inl ((walks events all.0).0 some, (reported_both lines events (Says 0 (accepted_line (issues_of events) (cycles_of events))) s t some all).0 tells)
  walked_replayed lines events all s t (inr (i, line, class, first, there, (k, is_issue, named), tells)) =
      inr (
        i,
        line,
        class,
        unwalked_is_refused events all.0 i (slice_get_within events i (issue k) is_issue) first,
        there,
        issue_named d known (slice_get events i) k class is_issue (subst (λ (cs : List (List ℕ)). slice_get cs k ≡ Some class) names named),
        (reported_both lines (take i events) (Says 1 (refused_line line class)) s t first.0 (some_named i events all)).0 tells,
      )

  replayed_walked : (lines : List ℕ) (events : List Event) → AllNamed events → (s : ℕ) (t : List ℕ) → Replays (pipeline_with d known) (held_in d known) (trace_names d) lines events s t → WalksNamed lines events s t
  replayed_walked lines events all s t (inl (accepted, tells)) = let some = (walks events all.0).1 accepted in inl (some, (reported_both lines events (Says 0 (accepted_line (issues_of events) (cycles_of events))) s t some all).1 tells)
  replayed_walked lines events all s t (inr (i, line, class, first, there, (k, c, is_issue, has, named), tells)) =
      let unwalked = refused_is_unwalked events all.0 i first in
      inr (i, line, class, unwalked, there, (k, is_issue, class_named k c class has named), (reported_both lines (take i events) (Says 1 (refused_line line class)) s t unwalked.0 (some_named i events all)).1 tells)

  -- the machine's trace, by these names
  abbrev TracesBy : (trace traced : List ℕ) → TraceNames → ℕ → List ℕ → Type 0
  TracesBy trace traced ns = Traces ns trace traced (λ events s t.
      (IsSome (machine_walk m events) × Tells (reported_by m) ns (event_lines ns 1 (lines_of traced)) events (Says 0 (accepted_line (issues_of events) (cycles_of events))) s t)
      ⊎ ((i line : ℕ) × (class : List ℕ) × IsFirstUnwalked m events i × (slice_get (event_lines ns 1 (lines_of traced)) i ≡ Some line) × IsIssueIn m (slice_get events i) class × Tells (reported_by m) ns (event_lines ns 1 (lines_of traced)) (take i events) (Says 1 (refused_line line class)) s t))

  -- a trace of the machine's names is walked as the description's is replayed
  pub traced_both : (trace traced : List ℕ) (s : ℕ) (t : List ℕ) → WalksTrace trace traced m s t ↔ ReplaysTrace trace traced d known s t
  traced_both trace traced s t = (
    λ h. traces_map (trace_names d) trace traced (WalksNamed lines) (Replays (pipeline_with d known) (held_in d known) (trace_names d) lines) s t
        (λ events says. walked_replayed lines events (all_named events says) s t)
        (subst (λ (ns : TraceNames). TracesBy trace traced ns s t) named_alike h),
    λ h. subst (λ (ns : TraceNames). TracesBy trace traced ns s t) (sym named_alike)
        (traces_map (trace_names d) trace traced (Replays (pipeline_with d known) (held_in d known) (trace_names d) lines) (WalksNamed lines) s t
        (λ events says. replayed_walked lines events (all_named events says) s t)
        h),
  )
    where
      lines : List ℕ
      lines = event_lines (trace_names d) 1 (lines_of traced)

      all_named : (events : List Event) → Trace (trace_names d) traced events → AllNamed events
      all_named events says = (
        subst (λ (n : ℕ). All (IsOfClass n) events) (length-map d.classes (λ (c : ClassItem). c.name)) (events_of_classes (trace_names d) says.lines),
        events_of_queries (trace_names d) says.lines,
      )

-- ---- the phases before

-- what follows a file that is held and not too long
after_file : (o : Option (List ℕ)) (most : ℕ) (lacks long : Type 0) (next : List ℕ → Type 0) (bytes : List ℕ) → o ≡ Some bytes → nat_lt most (length bytes) ≡ false
    → MatchOption o lacks (λ bytes. MatchBool (nat_lt most (length bytes)) long (next bytes)) ↔ next bytes
after_file None most lacks long next bytes is low = absurd (none-some bytes is)
after_file (Some found) most lacks long next bytes is low =
    let same : found ≡ bytes = same_Some found bytes is in
    subst (λ (b : List ℕ). MatchBool (nat_lt most (length b)) long (next b) ↔ next bytes) (sym same)
    (subst (λ (b : Bool). MatchBool b long (next bytes) ↔ next bytes) (sym low) (λ h. h, λ h. h))

-- a file hands on what follows it
file_map : (o : Option (List ℕ)) (most : ℕ) (lacks : Type 0) (long : Type 0) (next other : List ℕ → Type 0) → ((bytes : List ℕ) → next bytes → other bytes)
    → MatchOption o lacks (λ bytes. MatchBool (nat_lt most (length bytes)) long (next bytes)) → MatchOption o lacks (λ bytes. MatchBool (nat_lt most (length bytes)) long (other bytes))
file_map None most lacks long next other f h = h
file_map (Some bytes) most lacks long next other f h = by_length (nat_lt most (length bytes)) h
  where
    by_length : (b : Bool) → MatchBool b long (next bytes) → MatchBool b long (other bytes)
    by_length true h = h
    by_length false h = f bytes h

-- what follows the tables of a text that stands for a machine
after_tables : (name bytes : List ℕ) (m : Machine) (next : Next Machine) (s : ℕ) (t : List ℕ) → TableText bytes m → HasTables name bytes next s t ↔ next m s t
after_tables name bytes m next s t stands = (to, λ h. inl (m, stands, h))
  where
    read : tables_in bytes ≡ Ok m
    read = tables_again bytes m stands

    to : HasTables name bytes next s t → next m s t
    to (inl (other, also, h)) =
        let same : other ≡ m = ok_is {E = Fault} other m (sym (tables_again bytes other also) ∙ read) in
        subst (λ (x : Machine). next x s t) same h
    to (inr (kind, line, wrong, says)) = let again = tables_again bytes m stands in absurd (cc)

-- what follows a description that a text says
after_description : (name bytes : List ℕ) (d : Description) (known : Known) (next : (d : Description) → Next Known) (s : ℕ) (t : List ℕ) → IsDescribed bytes d known → HasDescription name bytes next s t ↔ next d known s t
after_description name bytes d known next s t is = (to, λ h. inl (is.read, is.forms, inl (d, is.says, inl (known, is.sound, h))))
  where
    to : HasDescription name bytes next s t → next d known s t
    to (inl (read, reads, inl (e, says, inl (other, sound, h)))) =
        let same = one_described bytes e d other known (record { read = read; forms = reads; says = says; sound = sound }) is in
        subst (λ (k : Known). next d k s t) same.1 (subst (λ (x : Description). next x other s t) same.0 h)
    to (inl (read, reads, inl (e, says, inr (fault, site, wrong, h)))) =
        let reading = one_reading bytes read is.read reads is.forms in
        let same = one_description is.read e d (subst (λ (x : Trees). description_forms.Reads x e) reading says) is.says in
        absurd (fault_or_sound d fault site known (subst (λ (x : Description). CheckFaultAt x fault site) same wrong) is.sound)
    to (inl (read, reads, inr (fault, line, wrong, h))) =
        let reading = one_reading bytes read is.read reads is.forms in
        absurd (description_or_fault is.read d fault line is.says (subst (λ (x : Trees). description_forms.FaultAt x fault line) reading wrong))
    to (inr (fault, line, wrong, h)) = absurd (forms_or_fault bytes is.read fault line is.forms wrong)

-- what follows a description whose automata are within their limits
after_limits : (name : List ℕ) (d : Description) (known : Known) (next : ℕ → List ℕ → Type 0) (s : ℕ) (t : List ℕ) → AllKeepLimits d known → Compiles name d known next s t ↔ next s t
after_limits name d known next s t kept = (to, λ h. inl (kept, h))
  where
    to : Compiles name d known next s t → next s t
    to (inl (also, h)) = h
    to (inr (a, first, says)) = absurd (kept_or_past d known a (kept a first.there) first.kind first.past)

-- ---- what is compiled of a description

-- past the end of a list there is nothing else
past_end : {X : Type 0} (xs : List X) (i : ℕ) (other : X) → length xs ≤ i → get_or xs i other ≡ other
past_end [] i other past = refl
past_end (x ∷ xs) zero other past = absurd (omega (arith, past))
past_end (x ∷ xs) (suc i) other past = past_end xs i other (omega (arith, past))

-- the names of a machine's parts are those of the automata
parts_named : (parts : List Part) (automata : List AutomatonParts) → length parts ≡ length automata → ((a : ℕ) → a < length automata → (get_or parts a no_part).asks ≡ ask_names (automaton_at automata a)) → map (λ (part : Part). part.asks) parts ≡ map ask_names automata
parts_named [] [] each same = refl
parts_named [] (automaton ∷ automata) each same = absurd (omega (arith, each))
parts_named (part ∷ parts) [] each same = absurd (omega (arith, each))
parts_named (part ∷ parts) (automaton ∷ automata) each same =
    ap (λ (first : List (List ℕ)). first ∷ map (λ (p : Part). p.asks) parts) (same zero (omega arith))
    ∙ ap (λ (rest : List (List (List ℕ))). ask_names automaton ∷ rest) (parts_named parts automata (omega (arith, each)) (λ a low. same (suc a) (omega (arith, low))))

module _ (d : Description) (known : Known) (m : Machine) (reports : List Report) (is : IsCompiled d.options (automata_of d) (map (class_parts d known) d.classes) m reports) where
  pub machine_names : names_of_machine m ≡ trace_names d
  machine_names =
      let classes : m.classes ≡ class_names d = is.names ∙ map_twice (λ c. c.name) (class_parts d known) d.classes in
      let queries = parts_named m.parts (automata_of d) is.each (λ a low. (is.parts a low).asks) in
      ap (λ (cs : List (List ℕ)). record { classes = cs; queries = map (λ (part : Part). part.asks) m.parts }) classes
      ∙ ap (λ (qs : List (List (List ℕ))). record { classes = class_names d; queries = qs }) queries

  -- an ask of a query unit is of an automaton, and of one of its query units
  asked_there : (a u : ℕ) → IsOfQuery (trace_names d).queries (ask a u) → (a < automaton_count d) × (u < length (queries_in d a))
  asked_there a u low = ⊎_elim
      (λ (inside : a < length (automata_of d)).
      let there : get_or (map ask_names (automata_of d)) a [] ≡ ask_names (automaton_at (automata_of d) a) = get_or-map ask_names (automata_of d) a no_automaton [] inside in
      let count : length (automata_of d) ≡ automaton_count d = automata_count d in
      let within : a < automaton_count d = omega (arith, inside, count) in
      let queries : (automaton_at (automata_of d) a).queries ≡ queries_in d a = queries_there d a within in
      let each = length-map (automaton_at (automata_of d) a).queries (λ n. slice_index_or (automaton_at (automata_of d) a).units n []) in
      let named : u < length (ask_names (automaton_at (automata_of d) a)) = subst (λ (names : List (List ℕ)). u < length names) there low in
      let number : length (automaton_at (automata_of d) a).queries ≡ length (queries_in d a) = ap length queries in
      (within, omega (arith, named, each, number)))
      (λ (beyond : length (automata_of d) ≤ a).
      let none : get_or (map ask_names (automata_of d)) a [] ≡ [] = past_end (map ask_names (automata_of d)) a [] (omega (arith, beyond, length-map (automata_of d) ask_names)) in
      let bad : u < 0 = subst (λ (names : List (List ℕ)). u < length names) none low in
      absurd (omega (arith, bad)))
      (cases_lt a (length (automata_of d)))

  pub reported_is_held : IsSound d known → (before : List Event) (a u : ℕ) → IsSome (machine_walk m before) → All (IsOfClass (length d.classes)) before → IsOfQuery (trace_names d).queries (ask a u) → reported_by m before a u ↔ held_in d known before a u
  reported_is_held sound before a u walked all of_query = by_walk (machine_walk m before) refl
    where
      there : (a < automaton_count d) × (u < length (queries_in d a))
      there = asked_there a u of_query

      by_walk : (o : Option (List ℕ)) → machine_walk m before ≡ o → reported_by m before a u ↔ held_in d known before a u
      by_walk None e = absurd (let bad = subst IsSome e walked in cc)
      by_walk (Some states) e =
          let both = machine_tells d known m reports is before all sound states e a u there.0 there.1 in (
            λ h. let same : h.0 ≡ states = same_Some h.0 states (sym h.1 ∙ e) in both.0 (subst (λ (x : List ℕ). states_tell m x a u ≡ true) same h.2),
            λ h. (states, e, both.1 h),
          )

-- ---- the laws

module _ (held : Held) (description text : List ℕ) (h : AnswersOrder held (compile description) 0 text) where
  first : IsOpened (held description) description_limit (λ described. HasDescription description described (CompilesDescription description)) text
  first = opened (held description) description description_limit (λ described. HasDescription description described (CompilesDescription description)) text h

  given : IsGiven first.bytes (CompilesDescription description) text
  given = given_of description first.bytes (CompilesDescription description) text first.answers

  tables : AllKeepLimits given.d given.known × WritesTablesOf given.d given.known 0 text
  tables = compiled_of description given.d given.known (WritesTablesOf given.d given.known) text given.answers

  pub writes_tables : WritesTables held description text
  writes_tables = record { described = first.bytes; file = first.is; d = given.d; known = given.known; is_described = given.is; tables = tables.1.1; short = tables_short first.bytes given.d given.known text (ltb-false _ _ first.low) given.is tables.1.1 }

  abbrev d : Description
  d = given.d

  abbrev known : Known
  known = given.known

  is : IsTablesOf d known text
  is = tables.1.1

  named : names_of_machine is.machine ≡ trace_names d
  named = machine_names d known is.machine is.reports is.compiled

  -- the tables are walked as the description is judged
  judged_both : (tables_name trace traced : List ℕ) (s : ℕ) (t : List ℕ) → HasTables tables_name text (WalksTrace trace traced) s t ↔ Judges description first.bytes trace traced s t
  judged_both tables_name trace traced s t =
      let one = after_tables tables_name text is.machine (WalksTrace trace traced) s t is.stands in
      let two = traced_both d known is.machine named (λ t all. machine_accepts d known is.machine is.reports is.compiled t all ((given.is).sound)) (reported_is_held d known is.machine is.reports is.compiled (given.is).sound) trace traced s t in
      let three = after_limits description d known (ReplaysTrace trace traced d known) s t tables.0 in
      let four = after_description description first.bytes d known (ReplaysDescription description trace traced) s t given.is in
      (λ h. four.1 (three.1 (two.0 (one.0 h))), λ h. one.1 (two.1 (three.0 (four.0 h))))

  pub walk_is_replay : WalkIsReplay held description text
  walk_is_replay = record {
    answers = λ other tables_name trace same there short s t.
        let one = after_file (other tables_name) tables_limit (Says 6 (file_line tables_name) s t) (Says 3 (limit_line tables_name) s t) (λ tabled. Opens other trace trace_limit (λ traced. HasTables tables_name tabled (WalksTrace trace traced)) s t) text there (le-ltb tables_limit (length text) short) in
        let two = after_file (other description) description_limit (Says 6 (file_line description) s t) (Says 3 (limit_line description) s t) (λ described. Opens other trace trace_limit (λ traced. Judges description described trace traced) s t) first.bytes (same ∙ first.is) first.low in (
          λ h. two.1 (file_map (other trace) trace_limit (Says 6 (file_line trace) s t) (Says 3 (limit_line trace) s t) (λ traced. HasTables tables_name text (WalksTrace trace traced) s t) (λ traced. Judges description first.bytes trace traced s t) (λ traced. (judged_both tables_name trace traced s t).0) (one.0 h)),
          λ h. one.1 (file_map (other trace) trace_limit (Says 6 (file_line trace) s t) (Says 3 (limit_line trace) s t) (λ traced. Judges description first.bytes trace traced s t) (λ traced. HasTables tables_name text (WalksTrace trace traced) s t) (λ traced. (judged_both tables_name trace traced s t).1) (two.0 h)),
        );
  }
