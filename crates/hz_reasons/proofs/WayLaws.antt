-- Which issues still hold something, event by event.
use Rattle.std.proofs.Common.{◌≡◌, ℕ, suc, ◌+◌, ◌-◌, ◌<◌, ◌≤◌, ⊎_elim, Bool, true, false, cond, List, [], ◌∷◌, ◌++◌, map, filter, drop, length, slice_index, Contains, refl, sym, ap, ◌∙◌, subst, arith}
use Rattle.std.specs.Prelude.{◌||◌, nat_le}
use Rattle.std.specs.List.{list_any}
use Rattle.std.proofs.Math.Bool.{or-true}
use Rattle.std.proofs.Math.Seq.{drop-nil}
use Rattle.std.proofs.lemmas.Bool.{cases_lt, le-leb, lt-leb, leb-true, false≢true}
use Rattle.std.proofs.lemmas.List.{append-nil, map-append}
use Rattle.std.proofs.lemmas.List.Elements.{filter-append}
use Rattle.hz_base_model.specs.Pairs.{Pair}
use Rattle.hz_base_model.proofs.Elements.{Contains-nil, Contains-head, Contains-tail, Contains-cons_cases}
use Rattle.hz_description_model.specs.Reservations.Automata.{UnitPlace}
use Rattle.hz_pipeline_model.specs.Accepting.Events.{Event, issue, advance, ask, issues_of, cycles_of}
use Rattle.hz_pipeline_model.specs.Accepting.Replay.{Pipeline, chosen}
use Rattle.hz_pipeline_model.proofs.Accepting.ReplayLaws.{cycles_of-append}
use Rattle.hz_why_model.specs.Ways.{Way, ways, still_holds, ways_left}
use Rattle.hz_reasons.specs.Holding.{age_of, way_of, IsHolder, older}
use Rattle.hz_reasons.specs.declared.holders.Holder.{Holder}
use Rattle.hz_reasons.proofs.Finding.{any_alike}

-- ---- tests of items

module _ {A : Type 0} where
  any_true : (t : A → Bool) (xs : List A) (x : A) → Contains xs x → t x ≡ true → list_any t xs ≡ true
  any_true t [] x there passes = absurd (Contains-nil x there)
  any_true t (y ∷ xs) x there passes = ⊎_elim
      (λ (same : y ≡ x). ap (λ (b : Bool). b || list_any t xs) (ap t same ∙ passes))
      (λ later. ap (λ (b : Bool). t y || b) (any_true t xs x later passes) ∙ or-true (t y))
      (Contains-cons_cases y x xs there)

  any_false : (t : A → Bool) (xs : List A) → ((x : A) → Contains xs x → t x ≡ false) → list_any t xs ≡ false
  any_false t [] fails = refl
  any_false t (x ∷ xs) fails = ap (λ (b : Bool). b || list_any t xs) (fails x (Contains-head x xs)) ∙ any_false t xs (λ y there. fails y (Contains-tail x y xs there))

  any_weaker : (s t : A → Bool) → ((x : A) → s x ≡ true → t x ≡ true) → (xs : List A) → list_any s xs ≡ true → list_any t xs ≡ true
  any_weaker s t weaker [] passes = passes
  any_weaker s t weaker (x ∷ xs) passes = by_test (s x) refl passes (any_weaker s t weaker xs)
    where
      by_test : (b : Bool) → s x ≡ b → (b || list_any s xs) ≡ true → (list_any s xs ≡ true → list_any t xs ≡ true) → (t x || list_any t xs) ≡ true
      by_test true is any rest = ap (λ (b : Bool). b || list_any t xs) (weaker x is)
      by_test false is any rest = ap (λ (b : Bool). t x || b) (rest any) ∙ or-true (t x)

  filter_by : (t : A → Bool) (x : A) (xs : List A) (b : Bool) → t x ≡ b → filter t (x ∷ xs) ≡ cond b (x ∷ filter t xs) (filter t xs)
  filter_by t x xs b is = ap (λ (c : Bool). cond c (x ∷ filter t xs) (filter t xs)) is

  filter_none : (t : A → Bool) (xs : List A) → ((x : A) → Contains xs x → t x ≡ false) → filter t xs ≡ []
  filter_none t [] fails = refl
  filter_none t (x ∷ xs) fails = filter_by t x xs false (fails x (Contains-head x xs)) ∙ filter_none t xs (λ y there. fails y (Contains-tail x y xs there))

  -- a test after one that all pass which pass it
  filter_again : (s t : A → Bool) → ((x : A) → t x ≡ true → s x ≡ true) → (xs : List A) → filter t (filter s xs) ≡ filter t xs
  filter_again s t weaker [] = refl
  filter_again s t weaker (x ∷ xs) = by_tests (s x) (t x) refl refl (filter_again s t weaker xs)
    where
      by_tests : (a b : Bool) → s x ≡ a → t x ≡ b → filter t (filter s xs) ≡ filter t xs → filter t (cond a (x ∷ filter s xs) (filter s xs)) ≡ cond b (x ∷ filter t xs) (filter t xs)
      by_tests true true first second rest = filter_by t x (filter s xs) true second ∙ ap (λ (ys : List A). x ∷ ys) rest
      by_tests true false first second rest = filter_by t x (filter s xs) false second ∙ rest
      by_tests false true first second rest = absurd (false≢true (sym first ∙ weaker x second))
      by_tests false false first second rest = rest

filter_mapped : {A B : Type 0} (f : A → B) (s : B → Bool) (t : A → Bool) → ((x : A) → s (f x) ≡ t x) → (xs : List A) → filter s (map f xs) ≡ map f (filter t xs)
filter_mapped f s t same [] = refl
filter_mapped {A} {B} f s t same (x ∷ xs) = by_test (t x) (same x) (filter_mapped f s t same xs)
  where
    by_test : (b : Bool) → s (f x) ≡ b → filter s (map f xs) ≡ map f (filter t xs) → filter s (f x ∷ map f xs) ≡ map f (cond b (x ∷ filter t xs) (filter t xs))
    by_test true is rest = filter_by s (f x) (map f xs) true is ∙ ap (λ (ys : List B). f x ∷ ys) rest
    by_test false is rest = filter_by s (f x) (map f xs) false is ∙ rest

-- ---- lines of later events

pub drop_index : (lines : List ℕ) (n : ℕ) → slice_index (drop 1 lines) n ≡ slice_index lines (suc n)
drop_index [] n = refl
drop_index (x ∷ xs) n = refl

pub drop_one : (n : ℕ) (lines : List ℕ) → drop n (drop 1 lines) ≡ drop (suc n) lines
drop_one n [] = drop-nil n
drop_one n (l ∷ lines) = refl

-- ---- one event more

abbrev way_at : (k i line cycle : ℕ) → Way
way_at k i line cycle = record { line = line; class = k; number = i; cycle = cycle }

-- an event that is no issue
pub ways_idle : (e : Event) → ((c : ℕ) (lines choices : List ℕ) → ways c (e ∷ []) lines choices ≡ []) → (now : ℕ) (t : List Event) (lines choices : List ℕ) → ways now (t ++ e ∷ []) lines choices ≡ ways now t lines choices
ways_idle e idle now [] lines choices = idle now lines choices
ways_idle e idle now (advance n ∷ t) lines choices = ways_idle e idle (n + now) t (drop 1 lines) choices
ways_idle e idle now (ask a u ∷ t) lines choices = ways_idle e idle now t (drop 1 lines) choices
ways_idle e idle now (issue k ∷ t) lines [] = refl
ways_idle e idle now (issue k ∷ t) lines (i ∷ choices) = ap (λ (ws : List Way). way_at k i (slice_index lines 0) now ∷ ws) (ways_idle e idle now t (drop 1 lines) choices)

-- an issue
ways_issue : (k i now : ℕ) (t : List Event) (lines choices : List ℕ) → length choices ≡ issues_of t → ways now (t ++ issue k ∷ []) lines (choices ++ i ∷ []) ≡ ways now t lines choices ++ way_at k i (slice_index lines (length t)) (cycles_of t + now) ∷ []
ways_issue k i now [] lines [] count =
    let time : now ≡ 0 + now = omega arith in
    ap (λ (c : ℕ). way_at k i (slice_index lines 0) c ∷ []) time
ways_issue k i now [] lines (c ∷ cs) count = absurd (omega arith)
ways_issue k i now (advance n ∷ t) lines choices count =
    let time : cycles_of t + (n + now) ≡ n + cycles_of t + now = omega arith in
    ways_issue k i (n + now) t (drop 1 lines) choices count
    ∙ ap (λ (l : ℕ). ways (n + now) t (drop 1 lines) choices ++ way_at k i l (cycles_of t + (n + now)) ∷ []) (drop_index lines (length t))
    ∙ ap (λ (c : ℕ). ways (n + now) t (drop 1 lines) choices ++ way_at k i (slice_index lines (suc (length t))) c ∷ []) time
ways_issue k i now (ask a u ∷ t) lines choices count =
    ways_issue k i now t (drop 1 lines) choices count
    ∙ ap (λ (l : ℕ). ways now t (drop 1 lines) choices ++ way_at k i l (cycles_of t + now) ∷ []) (drop_index lines (length t))
ways_issue k i now (issue j ∷ t) lines [] count = absurd (omega arith)
ways_issue k i now (issue j ∷ t) lines (c ∷ cs) count =
    ap (λ (ws : List Way). way_at j c (slice_index lines 0) now ∷ ws) (ways_issue k i now t (drop 1 lines) cs (omega arith)
    ∙ ap (λ (l : ℕ). ways now t (drop 1 lines) cs ++ way_at k i l (cycles_of t + now) ∷ []) (drop_index lines (length t)))

-- ---- events before others

ways_none : (now : ℕ) (t : List Event) (lines : List ℕ) → ways now t lines [] ≡ []
ways_none now [] lines = refl
ways_none now (advance n ∷ t) lines = ways_none (n + now) t (drop 1 lines)
ways_none now (ask a u ∷ t) lines = ways_none now t (drop 1 lines)
ways_none now (issue k ∷ t) lines = refl

ways-append : (now : ℕ) (xs ys : List Event) (lines choices : List ℕ) → ways now (xs ++ ys) lines choices ≡ ways now xs lines choices ++ ways (cycles_of xs + now) ys (drop (length xs) lines) (drop (issues_of xs) choices)
ways-append now [] ys lines choices = let time : now ≡ 0 + now = omega arith in ap (λ (c : ℕ). ways c ys lines choices) time
ways-append now (advance n ∷ xs) ys lines choices =
    let time : cycles_of xs + (n + now) ≡ n + cycles_of xs + now = omega arith in
    ways-append (n + now) xs ys (drop 1 lines) choices
    ∙ ap (λ (c : ℕ). ways (n + now) xs (drop 1 lines) choices ++ ways c ys (drop (length xs) (drop 1 lines)) (drop (issues_of xs) choices)) time
    ∙ ap (λ (ls : List ℕ). ways (n + now) xs (drop 1 lines) choices ++ ways (n + cycles_of xs + now) ys ls (drop (issues_of xs) choices)) (drop_one (length xs) lines)
ways-append now (ask a u ∷ xs) ys lines choices =
    ways-append now xs ys (drop 1 lines) choices
    ∙ ap (λ (ls : List ℕ). ways now xs (drop 1 lines) choices ++ ways (cycles_of xs + now) ys ls (drop (issues_of xs) choices)) (drop_one (length xs) lines)
ways-append now (issue k ∷ xs) ys lines [] = sym (ways_none (cycles_of xs + now) ys (drop (suc (length xs)) lines))
ways-append now (issue k ∷ xs) ys lines (i ∷ choices) =
    ap (λ (ws : List Way). way_at k i (slice_index lines 0) now ∷ ws) (ways-append now xs ys (drop 1 lines) choices
    ∙ ap (λ (ls : List ℕ). ways now xs (drop 1 lines) choices ++ ways (cycles_of xs + now) ys ls (drop (issues_of xs) choices)) (drop_one (length xs) lines))

-- an issue so many cycles later
abbrev moved_by : ℕ → Way → Way
moved_by c w = record { line = w.line; class = w.class; number = w.number; cycle = c + w.cycle }

ways_moved : (c now : ℕ) (t : List Event) (lines choices : List ℕ) → ways (c + now) t lines choices ≡ map (moved_by c) (ways now t lines choices)
ways_moved c now [] lines choices = refl
ways_moved c now (advance n ∷ t) lines choices =
    let time : n + (c + now) ≡ c + (n + now) = omega arith in
    ap (λ (d : ℕ). ways d t (drop 1 lines) choices) time ∙ ways_moved c (n + now) t (drop 1 lines) choices
ways_moved c now (ask a u ∷ t) lines choices = ways_moved c now t (drop 1 lines) choices
ways_moved c now (issue k ∷ t) lines [] = refl
ways_moved c now (issue k ∷ t) lines (i ∷ choices) = ap (λ (ws : List Way). way_at k i (slice_index lines 0) (c + now) ∷ ws) (ways_moved c now t (drop 1 lines) choices)

-- no issue is after all events
ways_early : (now : ℕ) (t : List Event) (lines choices : List ℕ) (w : Way) → Contains (ways now t lines choices) w → w.cycle ≤ cycles_of t + now
ways_early now [] lines choices w there = absurd (Contains-nil w there)
ways_early now (advance n ∷ t) lines choices w there = let early = ways_early (n + now) t (drop 1 lines) choices w there in omega arith
ways_early now (ask a u ∷ t) lines choices w there = ways_early now t (drop 1 lines) choices w there
ways_early now (issue k ∷ t) lines [] w there = absurd (Contains-nil w there)
ways_early now (issue k ∷ t) lines (i ∷ choices) w there = ⊎_elim
    (λ (same : way_at k i (slice_index lines 0) now ≡ w). subst (λ (x : Way). x.cycle ≤ cycles_of t + now) same (omega arith))
    (λ later. ways_early now t (drop 1 lines) choices w later)
    (Contains-cons_cases (way_at k i (slice_index lines 0) now) w (ways now t (drop 1 lines) choices) there)

-- ---- which still hold something

-- the issue in a cycle
abbrev in_cycle : Holder → ℕ → Way
in_cycle h c = record { line = h.line; class = h.class; number = h.number; cycle = c }

module _ (m : Pipeline UnitPlace) where
  still_before : (n now : ℕ) (w : Way) → still_holds m (n + now) w ≡ true → still_holds m now w ≡ true
  still_before n now w holds = any_weaker (λ (p : Pair UnitPlace). nat_le (n + now) (w.cycle + p.cycle)) (λ p. nat_le now (w.cycle + p.cycle))
      (λ p is. let high = leb-true (n + now) (w.cycle + p.cycle) is in le-leb now (w.cycle + p.cycle) (omega arith))
      (chosen m w.class w.number) holds

  -- an issue holds something up to its last cycle
  still_there : (n now : ℕ) (h : Holder) → IsHolder m h → age_of h ≤ now → n ≤ h.left → still_holds m (n + now) (way_of now h) ≡ true
  still_there n now h is early low =
      let (p, there, last) = is.reached in
      let order = is.order in
      any_true (λ (q : Pair UnitPlace). nat_le (n + now) (now - age_of h + q.cycle)) (chosen m h.class h.number) p there (le-leb (n + now) (now - age_of h + p.cycle) (omega arith))

  still_past : (n now : ℕ) (h : Holder) → IsHolder m h → age_of h ≤ now → h.left < n → still_holds m (n + now) (way_of now h) ≡ false
  still_past n now h is early high =
      let order = is.order in
      any_false (λ (q : Pair UnitPlace). nat_le (n + now) (now - age_of h + q.cycle)) (chosen m h.class h.number) (λ p there.
      let within = is.within p there in
      lt-leb (n + now) (now - age_of h + p.cycle) (omega arith))

  way_older : (n now : ℕ) (h : Holder) → IsHolder m h → n ≤ h.left → way_of (n + now) (older n h) ≡ way_of now h
  way_older n now h is low =
      let order = is.order in
      let time : n + now - (h.last - (h.left - n)) ≡ now - (h.last - h.left) = omega arith in
      ap (in_cycle h) time

  abbrev keeps : ℕ → Holder → Bool
  keeps n h = nat_le n h.left

  older_ways : (n now : ℕ) (hs : List Holder) → ((h : Holder) → Contains hs h → IsHolder m h) → ((h : Holder) → Contains hs h → age_of h ≤ now)
      → map (way_of (n + now)) (map (older n) (filter (keeps n) hs)) ≡ filter (still_holds m (n + now)) (map (way_of now) hs)
  older_ways n now [] each early = refl
  older_ways n now (h ∷ hs) each early =
      let is = each h (Contains-head h hs) in
      let began = early h (Contains-head h hs) in
      let rest = older_ways n now hs (λ x there. each x (Contains-tail h x hs there)) (λ x there. early x (Contains-tail h x hs there)) in
      ⊎_elim
      (λ (high : h.left < n).
      ap (λ (xs : List Holder). map (way_of (n + now)) (map (older n) xs)) (filter_by (keeps n) h hs false (lt-leb n h.left high)) ∙ rest
      ∙ sym (filter_by (still_holds m (n + now)) (way_of now h) (map (way_of now) hs) false (still_past n now h is began high)))
      (λ (low : n ≤ h.left).
      ap (λ (xs : List Holder). map (way_of (n + now)) (map (older n) xs)) (filter_by (keeps n) h hs true (le-leb n h.left low))
      ∙ ap (λ (w : Way). w ∷ map (way_of (n + now)) (map (older n) (filter (keeps n) hs))) (way_older n now h is low)
      ∙ ap (λ (ws : List Way). way_of now h ∷ ws) rest
      ∙ sym (filter_by (still_holds m (n + now)) (way_of now h) (map (way_of now) hs) true (still_there n now h is began low)))
      (cases_lt h.left n)

  -- the issues after so many cycles
  pub ways_advance : (n now : ℕ) (ws : List Way) (hs : List Holder) → ((h : Holder) → Contains hs h → IsHolder m h) → ((h : Holder) → Contains hs h → age_of h ≤ now) → map (way_of now) hs ≡ filter (still_holds m now) ws
      → map (way_of (n + now)) (map (older n) (filter (keeps n) hs)) ≡ filter (still_holds m (n + now)) ws
  ways_advance n now ws hs each early are =
      older_ways n now hs each early ∙ ap (filter (still_holds m (n + now))) are ∙ filter_again (still_holds m now) (still_holds m (n + now)) (still_before n now) ws

  -- the issues after another
  module _ (t : List Event) (lines choices : List ℕ) (hs : List Holder) (are : map (way_of (cycles_of t)) hs ≡ ways_left m t lines choices) (k i line : ℕ) (count : length choices ≡ issues_of t) (there : slice_index lines (length t) ≡ line) where
    abbrev new : Way
    new = way_at k i line (cycles_of t)

    with_new : ways_left m (t ++ issue k ∷ []) lines (choices ++ i ∷ []) ≡ map (way_of (cycles_of t)) hs ++ filter (still_holds m (cycles_of t)) (new ∷ [])
    with_new =
        let sum = cycles_of-append t (issue k ∷ []) in
        let time : cycles_of (t ++ issue k ∷ []) ≡ cycles_of t = omega arith in
        let here : cycles_of t + 0 ≡ cycles_of t = omega arith in
        let old : List Way = ways 0 t lines choices in
        ap (λ (c : ℕ). filter (still_holds m c) (ways 0 (t ++ issue k ∷ []) lines (choices ++ i ∷ []))) time
        ∙ ap (filter (still_holds m (cycles_of t))) (ways_issue k i 0 t lines choices count)
        ∙ ap (λ (l : ℕ). filter (still_holds m (cycles_of t)) (old ++ way_at k i l (cycles_of t + 0) ∷ [])) there
        ∙ ap (λ (c : ℕ). filter (still_holds m (cycles_of t)) (old ++ way_at k i line c ∷ [])) here
        ∙ filter-append (still_holds m (cycles_of t)) old (new ∷ [])
        ∙ ap (λ (ws : List Way). ws ++ filter (still_holds m (cycles_of t)) (new ∷ [])) (sym are)

    pub ways_some : (p : Pair UnitPlace) → Contains (chosen m k i) p → (last : ℕ) → map (way_of (cycles_of (t ++ issue k ∷ []))) (hs ++ record { line = line; class = k; number = i; last = last; left = last } ∷ []) ≡ ways_left m (t ++ issue k ∷ []) lines (choices ++ i ∷ [])
    ways_some p taken last =
        let h : Holder = record { line = line; class = k; number = i; last = last; left = last } in
        let sum = cycles_of-append t (issue k ∷ []) in
        let time : cycles_of (t ++ issue k ∷ []) ≡ cycles_of t = omega arith in
        let now : cycles_of t - (last - last) ≡ cycles_of t = omega arith in
        let holds = any_true (λ (q : Pair UnitPlace). nat_le (cycles_of t) (cycles_of t + q.cycle)) (chosen m k i) p taken (le-leb (cycles_of t) (cycles_of t + p.cycle) (omega arith)) in
        ap (λ (c : ℕ). map (way_of c) (hs ++ h ∷ [])) time
        ∙ map-append (way_of (cycles_of t)) hs (h ∷ [])
        ∙ ap (λ (c : ℕ). map (way_of (cycles_of t)) hs ++ in_cycle h c ∷ []) now
        ∙ ap (λ (ws : List Way). map (way_of (cycles_of t)) hs ++ ws) (sym (filter_by (still_holds m (cycles_of t)) new [] true holds))
        ∙ sym with_new

    pub ways_same : ((p : Pair UnitPlace) → Contains (chosen m k i) p → ⊥) → map (way_of (cycles_of (t ++ issue k ∷ []))) hs ≡ ways_left m (t ++ issue k ∷ []) lines (choices ++ i ∷ [])
    ways_same none =
        let sum = cycles_of-append t (issue k ∷ []) in
        let time : cycles_of (t ++ issue k ∷ []) ≡ cycles_of t = omega arith in
        let holds = any_false (λ (q : Pair UnitPlace). nat_le (cycles_of t) (cycles_of t + q.cycle)) (chosen m k i) (λ p taken. absurd (none p taken)) in
        ap (λ (c : ℕ). map (way_of c) hs) time
        ∙ sym (append-nil (map (way_of (cycles_of t)) hs))
        ∙ ap (λ (ws : List Way). map (way_of (cycles_of t)) hs ++ ws) (sym (filter_by (still_holds m (cycles_of t)) new [] false holds))
        ∙ sym with_new

  -- ---- after events that hold nothing more

  still_moved : (c now : ℕ) (w : Way) → still_holds m (c + now) (moved_by c w) ≡ still_holds m now w
  still_moved c now w = any_alike (λ (p : Pair UnitPlace). nat_le (c + now) (c + w.cycle + p.cycle)) (λ p. nat_le now (w.cycle + p.cycle)) (chosen m w.class w.number) (λ p there. ⊎_elim
      (λ (past : w.cycle + p.cycle < now). lt-leb (c + now) (c + w.cycle + p.cycle) (omega arith) ∙ sym (lt-leb now (w.cycle + p.cycle) past))
      (λ (left : now ≤ w.cycle + p.cycle). le-leb (c + now) (c + w.cycle + p.cycle) (omega arith) ∙ sym (le-leb now (w.cycle + p.cycle) left))
      (cases_lt (w.cycle + p.cycle) now))

  moved_ways : (c now : ℕ) (hs : List Holder) → ((h : Holder) → Contains hs h → age_of h ≤ now) → map (way_of (c + now)) hs ≡ map (moved_by c) (map (way_of now) hs)
  moved_ways c now [] early = refl
  moved_ways c now (h ∷ hs) early =
      let began = early h (Contains-head h hs) in
      let time : c + now - (h.last - h.left) ≡ c + (now - (h.last - h.left)) = omega arith in
      ap (λ (d : ℕ). in_cycle h d ∷ map (way_of (c + now)) hs) time
      ∙ ap (λ (ws : List Way). moved_by c (way_of now h) ∷ ws) (moved_ways c now hs (λ x there. early x (Contains-tail h x hs there)))

  module _ (before t : List Event) (lines choices : List ℕ) (past : (w : Way) → Contains (ways 0 before lines choices) w → still_holds m (cycles_of (before ++ t)) w ≡ false) where
    abbrev whole : ℕ
    whole = cycles_of (before ++ t)

    abbrev last : List Way
    last = ways 0 t (drop (length before) lines) (drop (issues_of before) choices)

    ways_stretch : filter (still_holds m whole) (ways 0 (before ++ t) lines choices) ≡ map (moved_by (cycles_of before)) (filter (still_holds m (cycles_of t)) last)
    ways_stretch =
        let sum = cycles_of-append before t in
        let time : whole ≡ cycles_of before + cycles_of t = omega arith in
        let old : List Way = ways 0 before lines choices in
        let new : List Way = ways (cycles_of before + 0) t (drop (length before) lines) (drop (issues_of before) choices) in
        ap (filter (still_holds m whole)) (ways-append 0 before t lines choices)
        ∙ filter-append (still_holds m whole) old new
        ∙ ap (λ (ws : List Way). ws ++ filter (still_holds m whole) new) (filter_none (still_holds m whole) old past)
        ∙ ap (filter (still_holds m whole)) (ways_moved (cycles_of before) 0 t (drop (length before) lines) (drop (issues_of before) choices))
        ∙ ap (λ (c : ℕ). filter (still_holds m c) (map (moved_by (cycles_of before)) last)) time
        ∙ filter_mapped (moved_by (cycles_of before)) (still_holds m (cycles_of before + cycles_of t)) (still_holds m (cycles_of t)) (still_moved (cycles_of before) (cycles_of t)) last

    -- what the last events leave is what all leave
    pub ways_whole : (hs : List Holder) → ((h : Holder) → Contains hs h → age_of h ≤ cycles_of t) → map (way_of (cycles_of t)) hs ≡ filter (still_holds m (cycles_of t)) last → map (way_of whole) hs ≡ ways_left m (before ++ t) lines choices
    ways_whole hs early are =
        let sum = cycles_of-append before t in
        let time : whole ≡ cycles_of before + cycles_of t = omega arith in
        ap (λ (c : ℕ). map (way_of c) hs) time
        ∙ moved_ways (cycles_of before) (cycles_of t) hs early
        ∙ ap (map (moved_by (cycles_of before))) are
        ∙ sym ways_stretch

  -- issues whose alternatives are shorter than what is left of the cycles hold nothing more
  pub ways_past : (span : ℕ) → ((k i : ℕ) (p : Pair UnitPlace) → Contains (chosen m k i) p → p.cycle < span) → (before : List Event) (lines choices : List ℕ) (whole : ℕ) → cycles_of before + span ≤ whole
      → (w : Way) → Contains (ways 0 before lines choices) w → still_holds m whole w ≡ false
  ways_past span short before lines choices whole long w there =
      let early = ways_early 0 before lines choices w there in
      any_false (λ (p : Pair UnitPlace). nat_le whole (w.cycle + p.cycle)) (chosen m w.class w.number) (λ p taken.
      let under = short w.class w.number p taken in
      lt-leb whole (w.cycle + p.cycle) (omega arith))
