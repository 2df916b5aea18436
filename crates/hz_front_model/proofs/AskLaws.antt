-- What is reported at the asks of events: it is one text, there is one, and reserved units that are reported alike are reported alike.
use Rattle.std.proofs.Common.{◌≡◌, ℕ, ◌⊎◌, inl, inr, ⊎_elim, true, false, List, [], ◌∷◌, ◌++◌, drop, All, slice_index_or, refl, sym, ap, ◌∙◌, subst, arith, append_assoc}
use Rattle.std.specs.Prelude.{◌↔◌}
use Rattle.std.proofs.lemmas.List.Elements.{All-nil, All-cons, All-head, All-tail}
use Rattle.hz_pipeline_model.specs.Accepting.Asking.{IsOfQuery, issues_and_advances}
use Rattle.hz_pipeline_model.specs.Accepting.Events.{Event, issue, advance, ask}
use Rattle.hz_pipeline_model.specs.Traces.Drills.{IsOfTurn}
use Rattle.hz_pipeline_model.specs.Traces.TraceNames.{TraceNames}
use Rattle.hz_front_model.specs.Asks.{Reserved, AskSays, AsksSay, Tells, query_name}
use Rattle.hz_front_model.specs.Texts.{ask_line}

-- an event that is no ask
abbrev pub AsksNothing : Event → Type 0
AsksNothing = IsOfQuery {Q = ℕ} []

-- ---- one text

module _ (reserved : Reserved) (names : TraceNames) where
  one_ask : (before : List Event) (line a u : ℕ) (s t : List ℕ) → AskSays reserved names before line a u s → AskSays reserved names before line a u t → s ≡ t
  one_ask before line a u s t (inl (is, said)) (inl (also, same)) = said ∙ sym same
  one_ask before line a u s t (inl (is, said)) (inr (free, same)) = absurd (free is)
  one_ask before line a u s t (inr (free, said)) (inl (is, same)) = absurd (free is)
  one_ask before line a u s t (inr (free, said)) (inr (also, same)) = said ∙ sym same

  one_asks : (before : List Event) (lines : List ℕ) (events : List Event) (s t : List ℕ) → AsksSay reserved names before lines events s → AsksSay reserved names before lines events t → s ≡ t
  one_asks before lines [] s t a b = a ∙ sym b
  one_asks before lines (issue k ∷ events) s t a b = one_asks (before ++ issue k ∷ []) (drop 1 lines) events s t a b
  one_asks before lines (advance n ∷ events) s t a b = one_asks (before ++ advance n ∷ []) (drop 1 lines) events s t a b
  one_asks before lines (ask x u ∷ events) s t (first, rest, says, more, is) (first', rest', says', more', is') =
      let head = one_ask before (slice_index_or lines 0 0) x u first first' says says' in
      let tail = one_asks (before ++ ask x u ∷ []) (drop 1 lines) events rest rest' more more' in
      is ∙ (ap (λ (f : List ℕ). f ++ rest) head ∙ (ap (λ (r : List ℕ). first' ++ r) tail ∙ sym is'))

  -- what is reported of events is one status and text, where what comes last is
  pub one_reported : (lines : List ℕ) (events : List Event) (last : ℕ → List ℕ → Type 0) → ((s s' : ℕ) (t t' : List ℕ) → last s t → last s' t' → (s ≡ s') × (t ≡ t'))
      → (s s' : ℕ) (t t' : List ℕ) → Tells reserved names lines events last s t → Tells reserved names lines events last s' t' → (s ≡ s') × (t ≡ t')
  one_reported lines events last single s s' t t' (asks, rest, say, is, whole) (asks', rest', say', is', whole') =
      let both = single s s' rest rest' is is' in
      let head = one_asks [] lines events asks asks' say say' in
      (both.0, whole ∙ (ap (λ (a : List ℕ). a ++ rest) head ∙ (ap (λ (r : List ℕ). asks' ++ r) both.1 ∙ sym whole')))

  -- ---- there is one

  module _ (decided : (before : List Event) (a u : ℕ) → reserved before a u ⊎ (reserved before a u → ⊥)) where
    some_ask : (before : List Event) (line a u : ℕ) → (text : List ℕ) × AskSays reserved names before line a u text
    some_ask before line a u = ⊎_elim
        (λ (is : reserved before a u). (ask_line line (query_name names a u) true, inl (is, refl)))
        (λ (free : reserved before a u → ⊥). (ask_line line (query_name names a u) false, inr (free, refl)))
        (decided before a u)

    some_asks : (before : List Event) (lines : List ℕ) (events : List Event) → (text : List ℕ) × AsksSay reserved names before lines events text
    some_asks before lines [] = ([], refl)
    some_asks before lines (issue k ∷ events) = some_asks (before ++ issue k ∷ []) (drop 1 lines) events
    some_asks before lines (advance n ∷ events) = some_asks (before ++ advance n ∷ []) (drop 1 lines) events
    some_asks before lines (ask x u ∷ events) =
        let first = some_ask before (slice_index_or lines 0 0) x u in
        let rest = some_asks (before ++ ask x u ∷ []) (drop 1 lines) events in
        (first.0 ++ rest.0, (first.0, rest.0, first.1, rest.1, refl))

    -- what comes last is reported after the asks
    pub some_reported : (lines : List ℕ) (events : List Event) (last : ℕ → List ℕ → Type 0) → (s : ℕ) (t : List ℕ) → last s t → (text : List ℕ) × Tells reserved names lines events last s text
    some_reported lines events last s t is =
        let asks = some_asks [] lines events in
        (asks.0 ++ t, (asks.0, t, asks.1, is, refl))

  -- ---- where nothing is asked

  no_asks : (before : List Event) (lines : List ℕ) (events : List Event) → All AsksNothing events → AsksSay reserved names before lines events []
  no_asks before lines [] none = refl
  no_asks before lines (issue k ∷ events) none = no_asks (before ++ issue k ∷ []) (drop 1 lines) events (All-tail AsksNothing (issue k) events none)
  no_asks before lines (advance n ∷ events) none = no_asks (before ++ advance n ∷ []) (drop 1 lines) events (All-tail AsksNothing (advance n) events none)
  no_asks before lines (ask x u ∷ events) none = absurd (let low = All-head AsksNothing (ask x u) events none in omega (arith, low))

  pub last_reported : (lines : List ℕ) (events : List Event) (last : ℕ → List ℕ → Type 0) → All AsksNothing events → (s : ℕ) (t : List ℕ) → last s t → Tells reserved names lines events last s t
  last_reported lines events last none s t is = ([], t, no_asks [] lines events none, is, refl)

-- events that are no others than issues and advances ask nothing
pub none_of_others : (events : List Event) → issues_and_advances events ≡ events → All AsksNothing events
none_of_others events same = subst (All AsksNothing) same (others_only events)
  where
    others_only : (es : List Event) → All AsksNothing (issues_and_advances es)
    others_only [] = All-nil AsksNothing
    others_only (issue k ∷ es) = All-cons AsksNothing (issue k) (issues_and_advances es) tt (others_only es)
    others_only (advance n ∷ es) = All-cons AsksNothing (advance n) (issues_and_advances es) tt (others_only es)
    others_only (ask x u ∷ es) = others_only es

-- nor does a drill
pub turns_ask_nothing : (classes : ℕ) (events : List Event) → All (IsOfTurn classes) events → All AsksNothing events
turns_ask_nothing classes [] all = All-nil AsksNothing
turns_ask_nothing classes (issue k ∷ es) all = All-cons AsksNothing (issue k) es tt (turns_ask_nothing classes es (All-tail (IsOfTurn classes) (issue k) es all))
turns_ask_nothing classes (advance n ∷ es) all = All-cons AsksNothing (advance n) es tt (turns_ask_nothing classes es (All-tail (IsOfTurn classes) (advance n) es all))
turns_ask_nothing classes (ask x u ∷ es) all = absurd (All-head (IsOfTurn classes) (ask x u) es all)

-- ---- reported alike

module _ (reserved other : Reserved) (names : TraceNames) (IsFront : List Event → Type 0) (front : (s t : List Event) → IsFront (s ++ t) → IsFront s)
    (alike : (before : List Event) (a u : ℕ) → IsFront before → IsOfQuery names.queries (ask a u) → reserved before a u ↔ other before a u) where
  ask_alike : (before : List Event) (line a u : ℕ) (text : List ℕ) → (reserved before a u ↔ other before a u) → AskSays reserved names before line a u text → AskSays other names before line a u text
  ask_alike before line a u text both (inl (is, said)) = inl (both.0 is, said)
  ask_alike before line a u text both (inr (free, said)) = inr (λ (h : other before a u). free (both.1 h), said)

  asks_alike : (before : List Event) (lines : List ℕ) (events : List Event) (text : List ℕ) → IsFront (before ++ events) → All (IsOfQuery names.queries) events
      → AsksSay reserved names before lines events text → AsksSay other names before lines events text
  asks_alike before lines [] text is all say = say
  asks_alike before lines (issue k ∷ events) text is all say =
      asks_alike (before ++ issue k ∷ []) (drop 1 lines) events text (subst IsFront (sym (append_assoc before (issue k ∷ []) events)) is) (All-tail (IsOfQuery names.queries) (issue k) events all) say
  asks_alike before lines (advance n ∷ events) text is all say =
      asks_alike (before ++ advance n ∷ []) (drop 1 lines) events text (subst IsFront (sym (append_assoc before (advance n ∷ []) events)) is) (All-tail (IsOfQuery names.queries) (advance n) events all) say
  asks_alike before lines (ask x u ∷ events) text is all (first, rest, says, more, whole) =
      let there = front before (ask x u ∷ events) is in
      let both = alike before x u there (All-head (IsOfQuery names.queries) (ask x u) events all) in (
        first,
        rest,
        ask_alike before (slice_index_or lines 0 0) x u first both says,
        asks_alike (before ++ ask x u ∷ []) (drop 1 lines) events rest (subst IsFront (sym (append_assoc before (ask x u ∷ []) events)) is) (All-tail (IsOfQuery names.queries) (ask x u) events all) more,
        whole,
      )

  pub reported_alike : (lines : List ℕ) (events : List Event) (last : ℕ → List ℕ → Type 0) (s : ℕ) (t : List ℕ) → IsFront events → All (IsOfQuery names.queries) events
      → Tells reserved names lines events last s t → Tells other names lines events last s t
  reported_alike lines events last s t is all (asks, rest, say, ends, whole) = (asks, rest, asks_alike [] lines events asks is all say, ends, whole)
