-- What two machines walk of a word, and what their descriptions accept.
use Rattle.std.proofs.Common.{◌≡◌, ◌⊎◌, ⊎_elim, inl, inr, ℕ, ◌<◌, ◌≤◌, Bool, true, false, List, [], ◌∷◌, ◌++◌, length, map, get_or, All, Option, Some, None, is_some, refl, sym, ap, ◌∙◌, subst, arith}
use Rattle.std.specs.Prelude.{◌↔◌, ◌≢◌, option_and_then, unwrap_or, slice_index_or, IsSome}
use Rattle.std.proofs.lemmas.Bool.{cases_lt}
use Rattle.std.proofs.lemmas.List.{get_or_past, length-map, map-append}
use Rattle.std.proofs.lemmas.List.Elements.{All-nil, All-cons, All-append, All-head, All-tail, All-get_or, All-filter, All-from_get_or, filter_passes, Contains-get_or}
use Rattle.std.proofs.lemmas.Option.{slice_get_within}
use Rattle.hz_base_model.specs.Lines.{place_of}
use Rattle.hz_description_model.specs.Check.CheckFaults.{IsSound}
use Rattle.hz_description_model.specs.Check.CheckedParts.{ClassParts, automata_of, class_parts}
use Rattle.hz_description_model.specs.Check.Places.{Known}
use Rattle.hz_description_model.specs.Reading.Descriptions.{Description}
use Rattle.hz_pipeline_model.specs.Accepting.Asking.{IsOfQuery}
use Rattle.hz_pipeline_model.specs.Accepting.Events.{Event, issue, advance, ask, IsOfClass}
use Rattle.hz_pipeline_model.specs.Accepting.Replay.{Accepted}
use Rattle.hz_pipeline_model.specs.Compiling.Compiled.{Report, IsCompiled}
use Rattle.hz_pipeline_model.specs.Pipelines.Pipelines.{pipeline_with}
use Rattle.hz_pipeline_model.specs.Tables.MachineNames.{names_of_machine}
use Rattle.hz_pipeline_model.specs.Tables.Machines.{Machine, parts_walk, machine_walk, starts_of, states_tell, names_of}
use Rattle.hz_pipeline_model.specs.Traces.TraceNames.{TraceNames, query_place}
use Rattle.hz_pipeline_model.proofs.Compiling.DescriptionLaws.{machine_accepts}
use Rattle.hz_pipeline_model.proofs.Tables.MachineLaws.{parts_walk-append}
use Rattle.hz_pipeline_model.proofs.Traces.NameLaws.{place_named, query_named}
use Rattle.hz_front_model.specs.Asks.{trace_names}
use Rattle.hz_tabtext_model.specs.Texts.{TableText}
use Rattle.hz_answer_model.specs.TableAnswers.{IsTablesOf}
use Rattle.hz_answer_model.proofs.WalkLaws.{machine_names, reported_is_held}
use Rattle.hz_same_model.proofs.SingleLaws.{one_machine}
use Rattle.hz_same_model.specs.Common.{Common, has_class, has_ask, common_of, issue_of, ask_at, ask_of, events_of, event_at, events_at, advance_symbol}
use Rattle.hz_same_model.specs.Telling.{answer_in, AnswerTheSame, TellsApart}
use Rattle.hz_same_model.proofs.NamedTraces.{has_own_class}
use Rattle.hz_same_model.proofs.ProductLaws.{has_own, next_leads, answer_is, length-walked, walked_nothing, length-starts}
use Rattle.hz_same_laws.specs.Shown.{AcceptTheSame, IsShown, Takes}

-- ---- events of classes

issue_within : (m : Machine) (name : List ℕ) → has_class m name ≡ true → IsOfClass (length m.classes) (issue_of m name)
issue_within m name h = by_place (place_of name m.classes) refl h
  where
    by_place : (o : Option ℕ) → place_of name m.classes ≡ o → is_some o ≡ true → unwrap_or o (length m.classes) < length m.classes
    by_place None e some = cc
    by_place (Some k) e some = slice_get_within m.classes k name (place_named name m.classes k e)

issues_within : (m : Machine) (names : List (List ℕ)) → All (λ name. has_class m name ≡ true) names → All (IsOfClass (length m.classes)) (map (issue_of m) names)
issues_within m [] all = All-nil (IsOfClass (length m.classes))
issues_within m (name ∷ names) all =
    All-cons (IsOfClass (length m.classes)) (issue_of m name) (map (issue_of m) names) (issue_within m name (All-head (λ n. has_class m n ≡ true) name names all)) (issues_within m names (All-tail (λ n. has_class m n ≡ true) name names all))

ask_within : (m : Machine) (count : ℕ) (o : Option (ℕ × ℕ)) → IsOfClass count (ask_at m o)
ask_within m count None = tt
ask_within m count (Some place) = tt

asks_within : (m : Machine) (count : ℕ) (names : List (List ℕ)) → All (IsOfClass count) (map (ask_of m) names)
asks_within m count [] = All-nil (IsOfClass count)
asks_within m count (name ∷ names) = All-cons (IsOfClass count) (ask_of m name) (map (ask_of m) names) (ask_within m count (query_place (names_of_machine m) name)) (asks_within m count names)

module _ (common : Common) (m : Machine) (held : All (λ name. has_class m name ≡ true) common.classes) where
  all_within : All (IsOfClass (length m.classes)) (events_of common m)
  all_within =
      All-append (IsOfClass (length m.classes)) (map (issue_of m) common.classes) (advance 1 ∷ map (ask_of m) common.asks) (issues_within m common.classes held)
      (All-cons (IsOfClass (length m.classes)) (advance 1) (map (ask_of m) common.asks) tt (asks_within m (length m.classes) common.asks))

  event_within : (symbol : ℕ) → IsOfClass (length m.classes) (event_at common m symbol)
  event_within symbol = ⊎_elim
      (λ (low : symbol < length (events_of common m)). All-get_or (IsOfClass (length m.classes)) (events_of common m) symbol (advance 0) low all_within)
      (λ (high : length (events_of common m) ≤ symbol). subst (IsOfClass (length m.classes)) (sym (get_or_past (events_of common m) symbol (advance 0) high)) tt)
      (cases_lt symbol (length (events_of common m)))

  word_within : (word : List ℕ) → All (IsOfClass (length m.classes)) (events_at common m word)
  word_within [] = All-nil (IsOfClass (length m.classes))
  word_within (symbol ∷ word) = All-cons (IsOfClass (length m.classes)) (event_at common m symbol) (events_at common m word) (event_within symbol) (word_within word)

-- ---- asks of query units

ask_of_query : (m : Machine) (o : Option (ℕ × ℕ)) (name : List ℕ) → query_place (names_of_machine m) name ≡ o → is_some o ≡ true → IsOfQuery (names_of_machine m).queries (ask_at m o)
ask_of_query m None name e some = cc
ask_of_query m (Some place) name e some =
    slice_get_within (slice_index_or (names_of_machine m).queries place.0 []) place.1 name (query_named (names_of_machine m) name place.0 place.1 e)

issues_of_query : (m : Machine) (names : List (List ℕ)) → All (IsOfQuery (names_of_machine m).queries) (map (issue_of m) names)
issues_of_query m [] = All-nil (IsOfQuery (names_of_machine m).queries)
issues_of_query m (name ∷ names) = All-cons (IsOfQuery (names_of_machine m).queries) (issue_of m name) (map (issue_of m) names) tt (issues_of_query m names)

asks_of_query : (m : Machine) (names : List (List ℕ)) → All (λ name. has_ask m name ≡ true) names → All (IsOfQuery (names_of_machine m).queries) (map (ask_of m) names)
asks_of_query m [] all = All-nil (IsOfQuery (names_of_machine m).queries)
asks_of_query m (name ∷ names) all =
    All-cons (IsOfQuery (names_of_machine m).queries) (ask_of m name) (map (ask_of m) names) (ask_of_query m (query_place (names_of_machine m) name) name refl (All-head (λ n. has_ask m n ≡ true) name names all))
    (asks_of_query m names (All-tail (λ n. has_ask m n ≡ true) name names all))

event_of_query : (common : Common) (m : Machine) → All (λ name. has_ask m name ≡ true) common.asks → (symbol : ℕ) → IsOfQuery (names_of_machine m).queries (event_at common m symbol)
event_of_query common m held symbol = ⊎_elim
    (λ (low : symbol < length (events_of common m)). All-get_or (IsOfQuery queries) (events_of common m) symbol (advance 0) low
    (All-append (IsOfQuery queries) (map (issue_of m) common.classes) (advance 1 ∷ map (ask_of m) common.asks) (issues_of_query m common.classes)
    (All-cons (IsOfQuery queries) (advance 1) (map (ask_of m) common.asks) tt (asks_of_query m common.asks held))))
    (λ (high : length (events_of common m) ≤ symbol). subst (IsOfQuery queries) (sym (get_or_past (events_of common m) symbol (advance 0) high)) tt)
    (cases_lt symbol (length (events_of common m)))
  where
    queries : List (List (List ℕ))
    queries = (names_of_machine m).queries

-- ---- what both machines walk

is_there : (o o' : Option (List ℕ)) → is_some o ≡ is_some o' → IsSome o → IsSome o'
is_there o o' same h = sym same ∙ h

same_bool : (x y : Bool) → ((x ≢ y) → ⊥) → x ≡ y
same_bool true true h = refl
same_bool false false h = refl
same_bool true false h = absurd (h (λ (e : true ≡ false). cc))
same_bool false true h = absurd (h (λ (e : false ≡ true). cc))

pub walked_more : (m : Machine) (common : Common) (u : List ℕ) (symbol : ℕ) (states : List ℕ) → machine_walk m (events_at common m u) ≡ Some states
    → machine_walk m (events_at common m (u ++ symbol ∷ [])) ≡ parts_walk m.parts states (event_at common m symbol ∷ [])
walked_more m common u symbol states one =
    ap (machine_walk m) (map-append (event_at common m) u (symbol ∷ []))
    ∙ (parts_walk-append m.parts (starts_of m) (events_at common m u) (event_at common m symbol ∷ [])
    ∙ ap (option_and_then (λ next. parts_walk m.parts next (event_at common m symbol ∷ []))) one)

module _ (first second : Machine) where
  abbrev common : Common
  common = common_of first second

  abbrev IsLow : ℕ → Type 0
  IsLow s = s ≤ advance_symbol common

  pub first_asks : All (λ name. has_ask first name ≡ true) common.asks
  first_asks = All-filter (has_ask second) (λ name. has_ask first name ≡ true) (names_of first.parts)
      (All-from_get_or (λ name. has_ask first name ≡ true) (names_of first.parts) [] (λ i low. has_own first (get_or (names_of first.parts) i []) (Contains-get_or (names_of first.parts) i [] low)))

  pub second_asks : All (λ name. has_ask second name ≡ true) common.asks
  second_asks = filter_passes (has_ask second) (names_of first.parts)

  pub first_classes : All (λ name. has_class first name ≡ true) common.classes
  first_classes = All-filter (has_class second) (λ name. has_class first name ≡ true) first.classes
      (All-from_get_or (λ name. has_class first name ≡ true) first.classes [] (λ i low. has_own_class first (get_or first.classes i []) (Contains-get_or first.classes i [] low)))

  pub second_classes : All (λ name. has_class second name ≡ true) common.classes
  second_classes = filter_passes (has_class second) first.classes

  -- an answer to an issue or a cycle is whether it is walked
  pub first_answer : (states : List ℕ) (symbol : ℕ) → IsLow symbol → length states ≡ length first.parts → answer_in first states (event_at common first symbol) ≡ is_some (parts_walk first.parts states (event_at common first symbol ∷ []))
  first_answer states symbol low same = sym (answer_is common first first_asks symbol states (omega arith) same) ∙ ap is_some (next_leads common first first_asks symbol states low)

  pub second_answer : (states : List ℕ) (symbol : ℕ) → IsLow symbol → length states ≡ length second.parts → answer_in second states (event_at common second symbol) ≡ is_some (parts_walk second.parts states (event_at common second symbol ∷ []))
  second_answer states symbol low same = sym (answer_is common second second_asks symbol states (omega arith) same) ∙ ap is_some (next_leads common second second_asks symbol states low)

  module _ (answers : AnswerTheSame first second) where
    step_same : (u : List ℕ) (symbol : ℕ) (states others : List ℕ) → All IsLow u → IsLow symbol → machine_walk first (events_at common first u) ≡ Some states → machine_walk second (events_at common second u) ≡ Some others
        → is_some (parts_walk first.parts states (event_at common first symbol ∷ [])) ≡ is_some (parts_walk second.parts others (event_at common second symbol ∷ []))
    step_same u symbol states others all low one other =
        sym (first_answer states symbol low (length-walked first.parts (starts_of first) (events_at common first u) states one))
        ∙ (same_bool (answer_in first states (event_at common first symbol)) (answer_in second others (event_at common second symbol))
        (λ apart. answers u symbol (record { walked = all; there = omega arith; states = states; others = others; one = one; other = other; otherwise = apart }))
        ∙ second_answer others symbol low (length-walked second.parts (starts_of second) (events_at common second u) others other))

    both_walk : (u w : List ℕ) (states others : List ℕ) → All IsLow u → All IsLow w → machine_walk first (events_at common first u) ≡ Some states → machine_walk second (events_at common second u) ≡ Some others
        → is_some (parts_walk first.parts states (events_at common first w)) ≡ is_some (parts_walk second.parts others (events_at common second w))
    both_walk u [] states others all low one other =
        ap is_some (walked_nothing first.parts states (length-walked first.parts (starts_of first) (events_at common first u) states one))
        ∙ sym (ap is_some (walked_nothing second.parts others (length-walked second.parts (starts_of second) (events_at common second u) others other)))
    both_walk u (symbol ∷ w) states others all low one other =
        ap is_some (parts_walk-append first.parts states (event_at common first symbol ∷ []) (events_at common first w))
        ∙ (by_steps (parts_walk first.parts states (event_at common first symbol ∷ [])) (parts_walk second.parts others (event_at common second symbol ∷ [])) refl refl
        (step_same u symbol states others all here one other)
        (λ next next' goes goes'. both_walk (u ++ symbol ∷ []) w next next' (All-append IsLow u (symbol ∷ []) all (All-cons IsLow symbol [] here (All-nil IsLow))) (All-tail IsLow symbol w low)
        (walked_more first common u symbol states one ∙ goes) (walked_more second common u symbol others other ∙ goes'))
        ∙ sym (ap is_some (parts_walk-append second.parts others (event_at common second symbol ∷ []) (events_at common second w))))
      where
        here : IsLow symbol
        here = All-head IsLow symbol w low

        by_steps : (o o' : Option (List ℕ)) → parts_walk first.parts states (event_at common first symbol ∷ []) ≡ o → parts_walk second.parts others (event_at common second symbol ∷ []) ≡ o' → is_some o ≡ is_some o'
            → ((next next' : List ℕ) → parts_walk first.parts states (event_at common first symbol ∷ []) ≡ Some next → parts_walk second.parts others (event_at common second symbol ∷ []) ≡ Some next'
            → is_some (parts_walk first.parts next (events_at common first w)) ≡ is_some (parts_walk second.parts next' (events_at common second w)))
            → is_some (option_and_then (λ next. parts_walk first.parts next (events_at common first w)) o) ≡ is_some (option_and_then (λ next. parts_walk second.parts next (events_at common second w)) o')
        by_steps None None e e' same on = refl
        by_steps None (Some ys) e e' same on = cc
        by_steps (Some xs) None e e' same on = cc
        by_steps (Some xs) (Some ys) e e' same on = on xs ys e e'

    pub walk_same : (word : List ℕ) → All IsLow word → is_some (machine_walk first (events_at common first word)) ≡ is_some (machine_walk second (events_at common second word))
    walk_same word low =
        both_walk [] word (starts_of first) (starts_of second) (All-nil IsLow) low (walked_nothing first.parts (starts_of first) (length-starts first)) (walked_nothing second.parts (starts_of second) (length-starts second))

-- ---- of descriptions

pub no_yes : false ≡ true → ⊥
no_yes h = cc

some_states : (o : Option (List ℕ)) → IsSome o → (states : List ℕ) × (o ≡ Some states)
some_states None h = absurd (no_yes h)
some_states (Some states) h = (states, refl)

some_same : (xs ys : List ℕ) → Some xs ≡ Some ys → xs ≡ ys
some_same xs ys h = cc

module _ (common : Common) (m : Machine) (held : All (λ name. has_class m name ≡ true) common.classes) (held_asks : All (λ name. has_ask m name ≡ true) common.asks)
    (d : Description) (known : Known) (sound : IsSound d known) (reports : List Report) (is : IsCompiled d.options (automata_of d) (map (class_parts d known) d.classes) m reports) where
  count : length m.classes ≡ length d.classes
  count = ap length is.names ∙ (length-map (map (class_parts d known) d.classes) (λ (c : ClassParts). c.name) ∙ length-map d.classes (class_parts d known))

  in_classes : (word : List ℕ) → All (IsOfClass (length d.classes)) (events_at common m word)
  in_classes word = subst (λ (k : ℕ). All (IsOfClass k) (events_at common m word)) count (word_within common m held word)

  accepts : (word : List ℕ) → IsSome (machine_walk m (events_at common m word)) ↔ Accepted (pipeline_with d known) (events_at common m word)
  accepts word = machine_accepts d known m reports is (events_at common m word) (in_classes word) sound

  -- what the machine answers is what the description says
  takes : (before : List ℕ) (last : ℕ) (states : List ℕ) → machine_walk m (events_at common m before) ≡ Some states → (answer_in m states (event_at common m last) ≡ true) ↔ Takes d known (events_at common m before) (event_at common m last)
  takes before last states one =
      by_event (event_at common m last) (event_within common m held last)
      (subst (λ (names : TraceNames). IsOfQuery names.queries (event_at common m last)) (machine_names d known m reports is) (event_of_query common m held_asks last))
    where
      t : List Event
      t = events_at common m before

      walks : (e : Event) → machine_walk m (t ++ e ∷ []) ≡ parts_walk m.parts states (e ∷ [])
      walks e = parts_walk-append m.parts (starts_of m) t (e ∷ []) ∙ ap (option_and_then (λ next. parts_walk m.parts next (e ∷ []))) one

      accepted : (e : Event) → IsOfClass (length m.classes) e → IsSome (machine_walk m (t ++ e ∷ [])) ↔ Accepted (pipeline_with d known) (t ++ e ∷ [])
      accepted e of_class =
          machine_accepts d known m reports is (t ++ e ∷ [])
          (All-append (IsOfClass (length d.classes)) t (e ∷ []) (in_classes before) (All-cons (IsOfClass (length d.classes)) e [] (subst (λ (k : ℕ). IsOfClass k e) count of_class) (All-nil (IsOfClass (length d.classes))))) sound

      by_event : (e : Event) → IsOfClass (length m.classes) e → IsOfQuery (trace_names d).queries e → (answer_in m states e ≡ true) ↔ Takes d known t e
      by_event (issue class) of_class of_query =
          let both = accepted (issue class) of_class in
          (λ h. both.0 (ap is_some (walks (issue class)) ∙ h), λ h. sym (ap is_some (walks (issue class))) ∙ both.1 h)
      by_event (advance cycles) of_class of_query =
          let both = accepted (advance cycles) of_class in
          (λ h. both.0 (ap is_some (walks (advance cycles)) ∙ h), λ h. sym (ap is_some (walks (advance cycles))) ∙ both.1 h)
      by_event (ask a query) of_class of_query =
          let both = reported_is_held d known m reports is sound t a query (ap is_some one) (in_classes before) of_query in
          (λ h. both.0 (states, one, h), λ h. let reported = both.1 h in subst (λ (xs : List ℕ). states_tell m xs a query ≡ true) (some_same reported.0 states (sym reported.1 ∙ one)) reported.2)

module _ (d e : Description) (known also : Known) (sound : IsSound d known) (sound' : IsSound e also) (m n : Machine) (reports others : List Report)
    (is : IsCompiled d.options (automata_of d) (map (class_parts d known) d.classes) m reports) (is' : IsCompiled e.options (automata_of e) (map (class_parts e also) e.classes) n others) where
  abbrev shared : Common
  shared = common_of m n

  accepts_one : (word : List ℕ) → IsSome (machine_walk m (events_at shared m word)) ↔ Accepted (pipeline_with d known) (events_at shared m word)
  accepts_one = accepts shared m (first_classes m n) (first_asks m n) d known sound reports is

  accepts_other : (word : List ℕ) → IsSome (machine_walk n (events_at shared n word)) ↔ Accepted (pipeline_with e also) (events_at shared n word)
  accepts_other = accepts shared n (second_classes m n) (second_asks m n) e also sound' others is'

  takes_one : (before : List ℕ) (last : ℕ) (states : List ℕ) → machine_walk m (events_at shared m before) ≡ Some states → (answer_in m states (event_at shared m last) ≡ true) ↔ Takes d known (events_at shared m before) (event_at shared m last)
  takes_one = takes shared m (first_classes m n) (first_asks m n) d known sound reports is

  takes_other : (before : List ℕ) (last : ℕ) (states : List ℕ) → machine_walk n (events_at shared n before) ≡ Some states → (answer_in n states (event_at shared n last) ≡ true) ↔ Takes e also (events_at shared n before) (event_at shared n last)
  takes_other = takes shared n (second_classes m n) (second_asks m n) e also sound' others is'

  pub shows : (before : List ℕ) (last : ℕ) → TellsApart m n before last → IsShown d known e also m n before last
  shows before last t = record {
    one = (accepts_one before).0 (ap is_some t.one);
    other = (accepts_other before).0 (ap is_some t.other);
    exactly = by_answers (answer_in m t.states (event_at shared m last)) (answer_in n t.others (event_at shared n last)) refl refl;
  }
    where
      Own : Type 0
      Own = Takes d known (events_at shared m before) (event_at shared m last)

      Other : Type 0
      Other = Takes e also (events_at shared n before) (event_at shared n last)

      own : (answer_in m t.states (event_at shared m last) ≡ true) ↔ Own
      own = takes_one before last t.states t.one

      other : (answer_in n t.others (event_at shared n last) ≡ true) ↔ Other
      other = takes_other before last t.others t.other

      by_answers : (a b : Bool) → answer_in m t.states (event_at shared m last) ≡ a → answer_in n t.others (event_at shared n last) ≡ b → (Own × (Other → ⊥)) ⊎ ((Own → ⊥) × Other)
      by_answers true true x y = absurd (t.otherwise (x ∙ sym y))
      by_answers false false x y = absurd (t.otherwise (x ∙ sym y))
      by_answers true false x y = inl (own.0 x, λ h. no_yes (sym y ∙ other.1 h))
      by_answers false true x y = inr ((λ h. no_yes (sym x ∙ own.1 h)), other.0 y)

  -- the machines answer the same exactly if the descriptions accept the same
  pub accept_same : AnswerTheSame m n ↔ AcceptTheSame d known e also m n
  accept_same = (to, from)
    where
      to : AnswerTheSame m n → AcceptTheSame d known e also m n
      to answers = record {
        accepts = λ word low.
            let same = walk_same m n answers word low in (
              (λ h. (accepts_other word).0 (is_there (machine_walk m (events_at shared m word)) (machine_walk n (events_at shared n word)) same ((accepts_one word).1 h))),
              (λ h. (accepts_one word).0 (is_there (machine_walk n (events_at shared n word)) (machine_walk m (events_at shared m word)) (sym same) ((accepts_other word).1 h))),
            );
        takes = λ before last low there one other.
            let states = some_states (machine_walk m (events_at shared m before)) ((accepts_one before).1 one) in
            let others = some_states (machine_walk n (events_at shared n before)) ((accepts_other before).1 other) in
            let same : answer_in m states.0 (event_at shared m last) ≡ answer_in n others.0 (event_at shared n last) =
            same_bool (answer_in m states.0 (event_at shared m last)) (answer_in n others.0 (event_at shared n last))
            (λ apart. answers before last (record { walked = low; there = there; states = states.0; others = others.0; one = states.1; other = others.1; otherwise = apart })) in
            let own = takes_one before last states.0 states.1 in
            let its = takes_other before last others.0 others.1 in
            (λ h. its.0 (sym same ∙ own.1 h), λ h. own.0 (same ∙ its.1 h));
      }

      from : AcceptTheSame d known e also m n → AnswerTheSame m n
      from accept before last t =
          let shown = shows before last t in
          let both = accept.takes before last t.walked t.there shown.one shown.other in
          ⊎_elim (λ own. own.1 (both.0 own.0)) (λ other. other.0 (both.1 other.1)) shown.exactly

-- ---- of texts

pub texts_same : (d e : Description) (known also : Known) → IsSound d known → IsSound e also → (text other : List ℕ) → IsTablesOf d known text → IsTablesOf e also other → (m n : Machine) → TableText text m → TableText other n → AnswerTheSame m n ↔ AcceptTheSame d known e also m n
texts_same d e known also sound sound' text other is is' m n reads reads' =
    subst (λ (x : Machine). AnswerTheSame x n ↔ AcceptTheSame d known e also x n) (one_machine text is.machine m is.stands reads)
    (subst (λ (y : Machine). AnswerTheSame is.machine y ↔ AcceptTheSame d known e also is.machine y) (one_machine other is'.machine n is'.stands reads')
    (accept_same d e known also sound sound' is.machine is'.machine is.reports is'.reports is.compiled is'.compiled))
