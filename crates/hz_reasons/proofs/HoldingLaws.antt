-- Which issues hold what stands reserved, event by event.
use Rattle.std.proofs.Common.{◌≡◌, ℕ, zero, suc, ◌+◌, ◌-◌, ◌<◌, ◌≤◌, ⊎_elim, Bool, true, false, cond, List, [], ◌∷◌, ◌++◌, map, filter, take, drop, length, get_or, add-one, slice_index, Contains, Option, Some, None, refl, sym, ap, ◌∙◌, subst, arith, append_assoc}
use Rattle.std.specs.Prelude.{◌&&◌, ◌||◌, ◌==◌, nat_le, slice_get, slice_set}
use Rattle.std.specs.List.{find, list_any, flat_map}
use Rattle.std.specs.Option.{option_map, option_or, is_some}
use Rattle.std.proofs.lemmas.Bool.{cases_lt, and_parts, and_right, le-leb, lt-leb, eqb-true, eq-eqb, ne_eqb, false_from_ne_true}
use Rattle.std.specs.Cmp.{both_ways}
use Rattle.std.proofs.lemmas.Grind.{flat_map-append}
use Rattle.std.proofs.lemmas.List.{append-nil, map-append}
use Rattle.std.proofs.lemmas.List.Elements.{filter-append, Contains-append_cases}
use Rattle.std.proofs.lemmas.List.Folds.{find-append}
use Rattle.std.proofs.lemmas.Option.{slice_get_past}
use Rattle.hz_base_model.specs.Pairs.{Pair, placed}
use Rattle.hz_base_model.proofs.Elements.{Contains-nil, Contains-head, Contains-tail, Contains-cons_cases, Contains-map, Contains-from_map, Contains-from_filter}
use Rattle.hz_description_model.specs.Reservations.Alternatives.{Alternative}
use Rattle.hz_description_model.specs.Reservations.Automata.{UnitPlace}
use Rattle.hz_description_model.proofs.Reservations.AscendingLaws.{same_ascending}
use Rattle.hz_pipeline_model.specs.Accepting.Events.{Event, issue, advance, ask, issues_of, cycles_of}
use Rattle.hz_pipeline_model.specs.Accepting.Plays.{has}
use Rattle.hz_pipeline_model.specs.Accepting.Replay.{Pipeline, chosen, pairs_at, alternatives_at}
use Rattle.hz_pipeline_model.proofs.Accepting.PlayLaws.{has_decides}
use Rattle.hz_pipeline_model.proofs.Accepting.ReplayLaws.{cycles_of-append}
use Rattle.hz_pipeline_model.proofs.Accepting.Rows.{places_tell}
use Rattle.hz_why_model.specs.Holders.{Entry, entries_of, entries, entry_at, entry_from, entries_from}
use Rattle.hz_why_model.specs.Reasons.{same_place}
use Rattle.hz_why_model.specs.Ways.{still_holds, ways}
use Rattle.hz_reasons.specs.Calendars.{parts_at}
use Rattle.hz_reasons.specs.Holding.{most, last_of, age_of, held_by, IsHolder, way_of, AreHolders, older, entry_with, is_holder_of}
use Rattle.hz_reasons.specs.Plans as plans
use Rattle.hz_reasons.specs.Plans.{place_of, in_automaton, choices_at, IsPlanOf}
use Rattle.hz_reasons.specs.Taken.{is_held}
use Rattle.hz_reasons.specs.declared.holders.Holder.{Holder}
use Rattle.hz_reasons.specs.declared.plan.Place.{Place}
use Rattle.hz_reasons.specs.declared.plan.Plan.{Plan}
use Rattle.hz_reasons.proofs.Finding.{find_alike, is_some-find, is_some-map}
use Rattle.hz_reasons.proofs.TakenLaws.{held_alike}
use Rattle.hz_reasons.proofs.WayLaws.{drop_index, ways_idle, ways_advance, ways_some, ways_same}

-- ---- entries from a cycle on

module _ {U : Type 0} where
  pub from-append : (n : ℕ) (xs ys : List (Entry U)) → entries_from n (xs ++ ys) ≡ entries_from n xs ++ entries_from n ys
  from-append n xs ys =
      ap (map (entry_from n)) (filter-append (λ e. nat_le n e.pair.cycle) xs ys)
      ∙ map-append (entry_from n) (filter (λ e. nat_le n e.pair.cycle) xs) (filter (λ e. nat_le n e.pair.cycle) ys)

  from_by : (n : ℕ) (e : Entry U) (es : List (Entry U)) (b : Bool) → nat_le n e.pair.cycle ≡ b → entries_from n (e ∷ es) ≡ map (entry_from n) (cond b (e ∷ filter (λ x. nat_le n x.pair.cycle) es) (filter (λ x. nat_le n x.pair.cycle) es))
  from_by n e es b h = ap (λ (c : Bool). map (entry_from n) (cond c (e ∷ filter (λ x. nat_le n x.pair.cycle) es) (filter (λ x. nat_le n x.pair.cycle) es))) h

  pub from_low : (n : ℕ) (e : Entry U) (es : List (Entry U)) → n ≤ e.pair.cycle → entries_from n (e ∷ es) ≡ entry_from n e ∷ entries_from n es
  from_low n e es h = from_by n e es true (le-leb n e.pair.cycle h)

  from_high : (n : ℕ) (e : Entry U) (es : List (Entry U)) → e.pair.cycle < n → entries_from n (e ∷ es) ≡ entries_from n es
  from_high n e es h = from_by n e es false (lt-leb n e.pair.cycle h)

  -- a cycle that is counted anew
  abbrev pub at_cycle : Entry U → ℕ → Entry U
  at_cycle e c = record { pair = record { unit = e.pair.unit; cycle = c }; line = e.line; class = e.class }

  twice : (n m : ℕ) (e : Entry U) → entry_from n (entry_from m e) ≡ entry_from (n + m) e
  twice n m e = let time : e.pair.cycle - m - n ≡ e.pair.cycle - (n + m) = omega arith in ap (at_cycle e) time

  pub from-from : (n m : ℕ) (es : List (Entry U)) → entries_from n (entries_from m es) ≡ entries_from (n + m) es
  from-from n m [] = refl
  from-from n m (e ∷ es) = ⊎_elim
      (λ (high : e.pair.cycle < m). ap (entries_from n) (from_high m e es high) ∙ from-from n m es ∙ sym (from_high (n + m) e es (omega arith)))
      (λ (low : m ≤ e.pair.cycle). ap (entries_from n) (from_low m e es low) ∙ ⊎_elim
      (λ (over : e.pair.cycle - m < n). from_high n (entry_from m e) (entries_from m es) over ∙ from-from n m es ∙ sym (from_high (n + m) e es (omega arith)))
      (λ (under : n ≤ e.pair.cycle - m).
      from_low n (entry_from m e) (entries_from m es) under
      ∙ ap (λ (x : Entry U). x ∷ entries_from n (entries_from m es)) (twice n m e)
      ∙ ap (λ (xs : List (Entry U)). entry_from (n + m) e ∷ xs) (from-from n m es)
      ∙ sym (from_low (n + m) e es (omega arith)))
      (cases_lt (e.pair.cycle - m) n))
      (cases_lt e.pair.cycle m)

  pub from_past : (n : ℕ) (es : List (Entry U)) → ((e : Entry U) → Contains es e → e.pair.cycle < n) → entries_from n es ≡ []
  from_past n [] h = refl
  from_past n (e ∷ es) h = from_high n e es (h e (Contains-head e es)) ∙ from_past n es (λ x is. h x (Contains-tail e x es is))

  from_placed : (now line class : ℕ) (ps : List (Pair U)) → entries_from now (entries_of line class (placed now ps)) ≡ entries_of line class ps
  from_placed now line class [] = refl
  from_placed now line class (p ∷ ps) =
      let first : Entry U = record { pair = record { unit = p.unit; cycle = now + p.cycle }; line = line; class = class } in
      let time : now + p.cycle - now ≡ p.cycle = omega arith in
      from_low now first (entries_of line class (placed now ps)) (omega arith)
      ∙ ap (λ (c : ℕ). at_cycle first c ∷ entries_from now (entries_of line class (placed now ps))) time
      ∙ ap (λ (xs : List (Entry U)). at_cycle first p.cycle ∷ xs) (from_placed now line class ps)

  from_zero : (es : List (Entry U)) → entries_from 0 es ≡ es
  from_zero [] = refl
  from_zero (e ∷ es) =
      let time : e.pair.cycle - 0 ≡ e.pair.cycle = omega arith in
      from_low 0 e es (omega arith)
      ∙ ap (λ (c : ℕ). at_cycle e c ∷ entries_from 0 es) time
      ∙ ap (λ (xs : List (Entry U)). e ∷ xs) (from_zero es)

no_items : {X : Type 0} (xs : List X) → ((x : X) → Contains xs x → ⊥) → xs ≡ []
no_items [] h = refl
no_items (x ∷ xs) h = absurd (h x (Contains-head x xs))

-- ---- one event more

module _ (m : Pipeline UnitPlace) where
  -- an event that takes nothing
  entries_idle : (e : Event) → ((c : ℕ) (lines choices : List ℕ) → entries m c (e ∷ []) lines choices ≡ []) → (now : ℕ) (t : List Event) (lines choices : List ℕ) → entries m now (t ++ e ∷ []) lines choices ≡ entries m now t lines choices
  entries_idle e idle now [] lines choices = idle now lines choices
  entries_idle e idle now (advance n ∷ t) lines choices = entries_idle e idle (n + now) t (drop 1 lines) choices
  entries_idle e idle now (ask a u ∷ t) lines choices = entries_idle e idle now t (drop 1 lines) choices
  entries_idle e idle now (issue k ∷ t) lines [] = refl
  entries_idle e idle now (issue k ∷ t) lines (i ∷ choices) = ap (λ (es : List (Entry UnitPlace)). entries_of (slice_index lines 0) k (placed now (chosen m k i)) ++ es) (entries_idle e idle now t (drop 1 lines) choices)

  -- an issue
  abbrev taken_by : (k i line now : ℕ) → List (Entry UnitPlace)
  taken_by k i line now = entries_of line k (placed now (chosen m k i))

  entries_issue : (k i now : ℕ) (t : List Event) (lines choices : List ℕ) → length choices ≡ issues_of t → entries m now (t ++ issue k ∷ []) lines (choices ++ i ∷ []) ≡ entries m now t lines choices ++ taken_by k i (slice_index lines (length t)) (cycles_of t + now)
  entries_issue k i now [] lines [] h =
      let time : now ≡ 0 + now = omega arith in
      append-nil (taken_by k i (slice_index lines 0) now) ∙ ap (taken_by k i (slice_index lines 0)) time
  entries_issue k i now [] lines (c ∷ cs) h = absurd (omega arith)
  entries_issue k i now (advance n ∷ t) lines choices h =
      let time : cycles_of t + (n + now) ≡ n + cycles_of t + now = omega arith in
      entries_issue k i (n + now) t (drop 1 lines) choices h
      ∙ ap (λ (l : ℕ). entries m (n + now) t (drop 1 lines) choices ++ taken_by k i l (cycles_of t + (n + now))) (drop_index lines (length t))
      ∙ ap (λ (c : ℕ). entries m (n + now) t (drop 1 lines) choices ++ taken_by k i (slice_index lines (suc (length t))) c) time
  entries_issue k i now (ask a u ∷ t) lines choices h =
      entries_issue k i now t (drop 1 lines) choices h
      ∙ ap (λ (l : ℕ). entries m now t (drop 1 lines) choices ++ taken_by k i l (cycles_of t + now)) (drop_index lines (length t))
  entries_issue k i now (issue j ∷ t) lines [] h = absurd (omega arith)
  entries_issue k i now (issue j ∷ t) lines (c ∷ cs) h =
      ap (λ (es : List (Entry UnitPlace)). taken_by j c (slice_index lines 0) now ++ es) (entries_issue k i now t (drop 1 lines) cs (omega arith)
      ∙ ap (λ (l : ℕ). entries m now t (drop 1 lines) cs ++ taken_by k i l (cycles_of t + now)) (drop_index lines (length t)))
      ∙ sym (append_assoc (taken_by j c (slice_index lines 0) now) (entries m now t (drop 1 lines) cs) (taken_by k i (slice_index lines (suc (length t))) (cycles_of t + now)))

  -- ---- issues that go on

  passed_by : (n : ℕ) (h : Holder) → IsHolder m h → n ≤ h.left → held_by m (older n h) ≡ entries_from n (held_by m h)
  passed_by n h is low =
      let order = is.order in
      let time : h.last - (h.left - n) ≡ n + (h.last - h.left) = omega arith in
      ap (λ (a : ℕ). entries_from a (entries_of h.line h.class (chosen m h.class h.number))) time
      ∙ sym (from-from n (h.last - h.left) (entries_of h.line h.class (chosen m h.class h.number)))

  past_by : (n : ℕ) (h : Holder) → IsHolder m h → h.left < n → entries_from n (held_by m h) ≡ []
  past_by n h is high =
      from-from n (h.last - h.left) (entries_of h.line h.class (chosen m h.class h.number))
      ∙ from_past (n + (h.last - h.left)) (entries_of h.line h.class (chosen m h.class h.number)) (λ e there.
      let found = Contains-from_map _ (chosen m h.class h.number) e there in
      let within = is.within found.0 found.1 in
      let order = is.order in
      let time : found.0.cycle < n + (h.last - h.left) = omega arith in
      subst (λ (x : Entry UnitPlace). x.pair.cycle < n + (h.last - h.left)) found.2 time)

  abbrev keeps : ℕ → Holder → Bool
  keeps n h = nat_le n h.left

  kept_by : (n : ℕ) (h : Holder) (hs : List Holder) (b : Bool) → nat_le n h.left ≡ b → map (older n) (filter (keeps n) (h ∷ hs)) ≡ map (older n) (cond b (h ∷ filter (keeps n) hs) (filter (keeps n) hs))
  kept_by n h hs b e = ap (λ (c : Bool). map (older n) (cond c (h ∷ filter (keeps n) hs) (filter (keeps n) hs))) e

  passed_all : (n : ℕ) (hs : List Holder) → ((h : Holder) → Contains hs h → IsHolder m h) → flat_map (held_by m) (map (older n) (filter (keeps n) hs)) ≡ entries_from n (flat_map (held_by m) hs)
  passed_all n [] each = refl
  passed_all n (h ∷ hs) each =
      let is = each h (Contains-head h hs) in
      let rest = passed_all n hs (λ x there. each x (Contains-tail h x hs there)) in
      ⊎_elim
      (λ (high : h.left < n).
      ap (flat_map (held_by m)) (kept_by n h hs false (lt-leb n h.left high)) ∙ rest
      ∙ sym (from-append n (held_by m h) (flat_map (held_by m) hs) ∙ ap (λ (es : List (Entry UnitPlace)). es ++ entries_from n (flat_map (held_by m) hs)) (past_by n h is high)))
      (λ (low : n ≤ h.left).
      ap (flat_map (held_by m)) (kept_by n h hs true (le-leb n h.left low))
      ∙ ap (λ (es : List (Entry UnitPlace)). es ++ flat_map (held_by m) (map (older n) (filter (keeps n) hs))) (passed_by n h is low)
      ∙ ap (λ (es : List (Entry UnitPlace)). entries_from n (held_by m h) ++ es) rest
      ∙ sym (from-append n (held_by m h) (flat_map (held_by m) hs)))
      (cases_lt h.left n)

  older_is : (n : ℕ) (h : Holder) → IsHolder m h → IsHolder m (older n h)
  older_is n h is = let order = is.order in record { order = omega arith; within = is.within; reached = is.reached }

  older_began : (n now later : ℕ) (h : Holder) → age_of h ≤ now → later ≡ n + now → age_of (older n h) ≤ later
  older_began n now later h began is = omega arith

  module _ (t : List Event) (lines choices : List ℕ) (issues : List Holder) (are : AreHolders m t lines choices issues) where
    holders_advance : (n : ℕ) → AreHolders m (t ++ advance n ∷ []) lines choices (map (older n) (filter (λ h. nat_le n h.left) issues))
    holders_advance n =
        let sum = cycles_of-append t (advance n ∷ []) in
        let time : n + cycles_of t ≡ cycles_of (t ++ advance n ∷ []) = omega arith in
        record {
          each = λ h there.
              let found = Contains-from_map (older n) (filter (keeps n) issues) h there in
              let kept = Contains-from_filter (keeps n) found.0 issues found.1 in
              subst (λ (x : Holder). IsHolder m x) found.2 (older_is n found.0 (are.each found.0 kept.0));
          early = λ h there.
              let found = Contains-from_map (older n) (filter (keeps n) issues) h there in
              let kept = Contains-from_filter (keeps n) found.0 issues found.1 in
              let began = are.early found.0 kept.0 in
              subst (λ (x : Holder). age_of x ≤ cycles_of (t ++ advance n ∷ [])) found.2 (older_began n (cycles_of t) (cycles_of (t ++ advance n ∷ [])) found.0 began (sym time));
          all =
              passed_all n issues are.each ∙ ap (entries_from n) are.all ∙ from-from n (cycles_of t) (entries m 0 t lines choices)
              ∙ ap (λ (c : ℕ). entries_from c (entries m 0 t lines choices)) time
              ∙ ap (entries_from (cycles_of (t ++ advance n ∷ []))) (sym (entries_idle (advance n) (λ c ls cs. refl) 0 t lines choices));
          ways =
              ap (λ (c : ℕ). map (way_of c) (map (older n) (filter (keeps n) issues))) (sym time)
              ∙ ways_advance m n (cycles_of t) (ways 0 t lines choices) issues are.each are.early are.ways
              ∙ ap (λ (c : ℕ). filter (still_holds m c) (ways 0 t lines choices)) time
              ∙ ap (filter (still_holds m (cycles_of (t ++ advance n ∷ [])))) (sym (ways_idle (advance n) (λ c ls cs. refl) 0 t lines choices));
        }

    pub after_advance : (n : ℕ) (new : List Holder) → new ≡ map (older n) (filter (λ h. nat_le n h.left) issues) → AreHolders m (t ++ advance n ∷ []) lines choices new
    after_advance n new is = subst (λ (hs : List Holder). AreHolders m (t ++ advance n ∷ []) lines choices hs) (sym is) (holders_advance n)

    pub holders_ask : (a u : ℕ) → AreHolders m (t ++ ask a u ∷ []) lines choices issues
    holders_ask a u =
        let sum = cycles_of-append t (ask a u ∷ []) in
        let time : cycles_of t ≡ cycles_of (t ++ ask a u ∷ []) = omega arith in
        record {
          each = are.each;
          early = λ h there. let began = are.early h there in omega arith;
          all = are.all
              ∙ ap (λ (c : ℕ). entries_from c (entries m 0 t lines choices)) time
              ∙ ap (entries_from (cycles_of (t ++ ask a u ∷ []))) (sym (entries_idle (ask a u) (λ c ls cs. refl) 0 t lines choices));
          ways =
              ap (λ (c : ℕ). map (way_of c) issues) (sym time) ∙ are.ways
              ∙ ap (λ (c : ℕ). filter (still_holds m c) (ways 0 t lines choices)) time
              ∙ ap (filter (still_holds m (cycles_of (t ++ ask a u ∷ [])))) (sym (ways_idle (ask a u) (λ c ls cs. refl) 0 t lines choices));
        }

    -- what stands reserved after an issue
    beyond : (k i line : ℕ) → length choices ≡ issues_of t → slice_index lines (length t) ≡ line
        → entries_from (cycles_of (t ++ issue k ∷ [])) (entries m 0 (t ++ issue k ∷ []) lines (choices ++ i ∷ [])) ≡ flat_map (held_by m) issues ++ entries_of line k (chosen m k i)
    beyond k i line count there =
        let sum = cycles_of-append t (issue k ∷ []) in
        let time : cycles_of (t ++ issue k ∷ []) ≡ cycles_of t = omega arith in
        let here : cycles_of t + 0 ≡ cycles_of t = omega arith in
        ap (λ (c : ℕ). entries_from c (entries m 0 (t ++ issue k ∷ []) lines (choices ++ i ∷ []))) time
        ∙ ap (entries_from (cycles_of t)) (entries_issue k i 0 t lines choices count)
        ∙ ap (λ (l : ℕ). entries_from (cycles_of t) (entries m 0 t lines choices ++ taken_by k i l (cycles_of t + 0))) there
        ∙ ap (λ (c : ℕ). entries_from (cycles_of t) (entries m 0 t lines choices ++ taken_by k i line c)) here
        ∙ from-append (cycles_of t) (entries m 0 t lines choices) (taken_by k i line (cycles_of t))
        ∙ ap (λ (es : List (Entry UnitPlace)). es ++ entries_from (cycles_of t) (taken_by k i line (cycles_of t))) (sym are.all)
        ∙ ap (λ (es : List (Entry UnitPlace)). flat_map (held_by m) issues ++ es) (from_placed (cycles_of t) line k (chosen m k i))

    pub holders_issue : (k i line last : ℕ) → length choices ≡ issues_of t → slice_index lines (length t) ≡ line
        → IsHolder m (record { line = line; class = k; number = i; last = last; left = last })
        → AreHolders m (t ++ issue k ∷ []) lines (choices ++ i ∷ []) (issues ++ record { line = line; class = k; number = i; last = last; left = last } ∷ [])
    holders_issue k i line last count there is =
        let h : Holder = record { line = line; class = k; number = i; last = last; left = last } in
        let now : last - last ≡ 0 = omega arith in
        let sum = cycles_of-append t (issue k ∷ []) in
        let time : cycles_of (t ++ issue k ∷ []) ≡ cycles_of t = omega arith in
        record {
          each = λ x among. ⊎_elim
              (λ old. are.each x old)
              (λ new. ⊎_elim (λ same. subst (λ (y : Holder). IsHolder m y) same is) (λ none. absurd (Contains-nil x none)) (Contains-cons_cases h x [] new))
              (Contains-append_cases issues (h ∷ []) x among);
          early = λ x among. ⊎_elim
              (λ old. let began = are.early x old in omega arith)
              (λ new. ⊎_elim (λ same. subst (λ (y : Holder). age_of y ≤ cycles_of (t ++ issue k ∷ [])) same (omega arith)) (λ none. absurd (Contains-nil x none)) (Contains-cons_cases h x [] new))
              (Contains-append_cases issues (h ∷ []) x among);
          all =
              flat_map-append (held_by m) issues (h ∷ [])
              ∙ ap (λ (es : List (Entry UnitPlace)). flat_map (held_by m) issues ++ es) (append-nil (held_by m h)
              ∙ ap (λ (a : ℕ). entries_from a (entries_of line k (chosen m k i))) now ∙ from_zero (entries_of line k (chosen m k i)))
              ∙ sym (beyond k i line count there);
          ways = ways_some m t lines choices issues are.ways k i line count there is.reached.0 is.reached.1 last;
        }

    pub holders_none : (k i line : ℕ) → length choices ≡ issues_of t → slice_index lines (length t) ≡ line
        → ((p : Pair UnitPlace) → Contains (chosen m k i) p → ⊥) → AreHolders m (t ++ issue k ∷ []) lines (choices ++ i ∷ []) issues
    holders_none k i line count there none =
        let sum = cycles_of-append t (issue k ∷ []) in
        let time : cycles_of (t ++ issue k ∷ []) ≡ cycles_of t = omega arith in
        record {
          each = are.each;
          early = λ x among. let began = are.early x among in omega arith;
          all =
              sym (beyond k i line count there
              ∙ ap (λ (ps : List (Pair UnitPlace)). flat_map (held_by m) issues ++ entries_of line k ps) (no_items (chosen m k i) none)
              ∙ append-nil (flat_map (held_by m) issues));
          ways = ways_same m t lines choices issues are.ways k i line count there none;
        }

pub holders_at_start : (m : Pipeline UnitPlace) (lines : List ℕ) (issues : List Holder) → issues ≡ [] → AreHolders m [] lines [] issues
holders_at_start m lines issues none = subst (λ (hs : List Holder). AreHolders m [] lines [] hs) (sym none) (record {
  each = λ h there. absurd (Contains-nil h there);
  early = λ h there. absurd (Contains-nil h there);
  all = refl;
  ways = refl;
})

-- ---- the last cycle of pairs

pub within_most : {X : Type 0} (number : X → ℕ) (xs : List X) (x : X) → Contains xs x → number x ≤ most number xs
within_most number [] x h = absurd (Contains-nil x h)
within_most number (y ∷ xs) x h = ⊎_elim
    (λ (e : y ≡ x). let same = ap number e in omega arith)
    (λ there. let rest = within_most number xs x there in omega arith)
    (Contains-cons_cases y x xs h)

reached_from : (p : Place) (ps : List Place) → (q : Place) × Contains (p ∷ ps) q × (q.cycle ≡ last_of (p ∷ ps))
reached_from p [] = (p, Contains-head p [], omega arith)
reached_from p (r ∷ rs) =
    let (q, there, e) = reached_from r rs in
    ⊎_elim
    (λ (low : p.cycle < last_of (r ∷ rs)). (q, Contains-tail p q (r ∷ rs) there, omega arith))
    (λ (high : last_of (r ∷ rs) ≤ p.cycle). (p, Contains-head p (r ∷ rs), omega arith))
    (cases_lt p.cycle (last_of (r ∷ rs)))

reached_last : (ps : List Place) → 0 < length ps → (q : Place) × Contains ps q × (q.cycle ≡ last_of ps)
reached_last [] some = absurd (omega arith)
reached_last (p ∷ ps) some = reached_from p ps

-- ---- who holds a pair

-- the entry is of the unit and the cycle
abbrev is_at : UnitPlace → ℕ → Entry UnitPlace → Bool
is_at u c e = same_place e.pair.unit u && e.pair.cycle == c

abbrev with_pair : Pair UnitPlace → Entry UnitPlace → Entry UnitPlace
with_pair p e = record { pair = p; line = e.line; class = e.class }

same_time : (n c d : ℕ) → n ≤ d → (d - n == c) ≡ (d == n + c)
same_time n c d low = both_ways _ _ (λ h. let e = eqb-true (d - n) c h in eq-eqb d (n + c) (omega arith)) (λ h. let e = eqb-true d (n + c) h in eq-eqb (d - n) c (omega arith))

found_from : (n : ℕ) (u : UnitPlace) (c : ℕ) (es : List (Entry UnitPlace)) → find (is_at u c) (entries_from n es) ≡ option_map (entry_from n) (find (is_at u (n + c)) es)
found_from n u c [] = refl
found_from n u c (e ∷ es) = ⊎_elim
    (λ (high : e.pair.cycle < n).
    ap (find (is_at u c)) (from_high n e es high) ∙ found_from n u c es
    ∙ sym (ap (λ (b : Bool). option_map (entry_from n) (cond b (Some e) (find (is_at u (n + c)) es))) (and_right (same_place e.pair.unit u) (e.pair.cycle == n + c) (ne_eqb e.pair.cycle (n + c) (λ q. absurd (omega arith))))))
    (λ (low : n ≤ e.pair.cycle).
    ap (find (is_at u c)) (from_low n e es low)
    ∙ by_test (is_at u (n + c) e) (ap (λ (b : Bool). same_place e.pair.unit u && b) (same_time n c e.pair.cycle low)) (found_from n u c es))
    (cases_lt e.pair.cycle n)
  where
    by_test : (b : Bool) → is_at u c (entry_from n e) ≡ b → find (is_at u c) (entries_from n es) ≡ option_map (entry_from n) (find (is_at u (n + c)) es) → find (is_at u c) (entry_from n e ∷ entries_from n es) ≡ option_map (entry_from n) (cond b (Some e) (find (is_at u (n + c)) es))
    by_test true h rest = ap (λ (b : Bool). cond b (Some (entry_from n e)) (find (is_at u c) (entries_from n es))) h
    by_test false h rest = ap (λ (b : Bool). cond b (Some (entry_from n e)) (find (is_at u c) (entries_from n es))) h ∙ rest

entry_is : (p : Pair UnitPlace) (e : Entry UnitPlace) → is_at p.unit p.cycle e ≡ true → with_pair p e ≡ e
entry_is p e h =
    let parts = and_parts (same_place e.pair.unit p.unit) (e.pair.cycle == p.cycle) h in
    sym (ap (λ (u : UnitPlace). with_pair (record { unit = u; cycle = e.pair.cycle }) e) ((places_tell e.pair.unit p.unit).0 parts.0)
    ∙ ap (λ (c : ℕ). with_pair (record { unit = p.unit; cycle = c }) e) (eqb-true e.pair.cycle p.cycle parts.1))

-- an entry that is found is of the pair
found_same : (p : Pair UnitPlace) (es : List (Entry UnitPlace)) → option_map (with_pair p) (find (is_at p.unit p.cycle) es) ≡ find (is_at p.unit p.cycle) es
found_same p [] = refl
found_same p (e ∷ es) = by_test (is_at p.unit p.cycle e) refl (found_same p es)
  where
    by_test : (b : Bool) → is_at p.unit p.cycle e ≡ b → option_map (with_pair p) (find (is_at p.unit p.cycle) es) ≡ find (is_at p.unit p.cycle) es
        → option_map (with_pair p) (cond b (Some e) (find (is_at p.unit p.cycle) es)) ≡ cond b (Some e) (find (is_at p.unit p.cycle) es)
    by_test true h rest = ap (λ (x : Entry UnitPlace). Some x) (entry_is p e h)
    by_test false h rest = rest

moved_same : (p : Pair UnitPlace) (n : ℕ) (o : Option (Entry UnitPlace)) → option_map (with_pair p) (option_map (entry_from n) o) ≡ option_map (with_pair p) o
moved_same p n None = refl
moved_same p n (Some e) = refl

-- of entries of one issue
found_in : (p : Pair UnitPlace) (line class : ℕ) (t : Entry UnitPlace → Bool) (es : List (Entry UnitPlace)) → ((e : Entry UnitPlace) → Contains es e → (e.line ≡ line) × (e.class ≡ class))
    → option_map (with_pair p) (find t es) ≡ cond (list_any t es) (Some (record { pair = p; line = line; class = class })) None
found_in p line class t [] of = refl
found_in p line class t (e ∷ es) of = by_test (t e) (found_in p line class t es (λ x is. of x (Contains-tail e x es is)))
  where
    first : (with_pair p e) ≡ record { pair = p; line = line; class = class }
    first =
        let same = of e (Contains-head e es) in
        ap (λ (l : ℕ). let x : Entry UnitPlace = record { pair = p; line = l; class = e.class } in x) same.0 ∙ ap (λ (k : ℕ). let x : Entry UnitPlace = record { pair = p; line = line; class = k } in x) same.1

    by_test : (b : Bool) → option_map (with_pair p) (find t es) ≡ cond (list_any t es) (Some (record { pair = p; line = line; class = class })) None
        → option_map (with_pair p) (cond b (Some e) (find t es)) ≡ cond (b || list_any t es) (Some (record { pair = p; line = line; class = class })) None
    by_test true rest = ap (λ (x : Entry UnitPlace). Some x) first
    by_test false rest = rest

mapped_or : {A B : Type 0} (f : A → B) (o q : Option A) → option_map f (option_or o q) ≡ option_or (option_map f o) (option_map f q)
mapped_or f None q = refl
mapped_or f (Some x) q = refl

or_cond : {A B : Type 0} (f : A → B) (b : Bool) (x : A) (o : Option A) → option_or (cond b (Some (f x)) None) (option_map f o) ≡ option_map f (cond b (Some x) o)
or_cond f true x o = refl
or_cond f false x o = refl

module _ (m : Pipeline UnitPlace) where
  entries_of_issue : (h : Holder) (e : Entry UnitPlace) → Contains (held_by m h) e → (e.line ≡ h.line) × (e.class ≡ h.class)
  entries_of_issue h e there =
      let moved = Contains-from_map (entry_from (age_of h)) _ e there in
      let kept = Contains-from_filter _ moved.0 _ moved.1 in
      let found = Contains-from_map _ (chosen m h.class h.number) moved.0 kept.0 in
      (sym (ap (λ (x : Entry UnitPlace). x.line) (ap (entry_from (age_of h)) found.2 ∙ moved.2)), sym (ap (λ (x : Entry UnitPlace). x.class) (ap (entry_from (age_of h)) found.2 ∙ moved.2)))

  first_held : (p : Pair UnitPlace) (t : Entry UnitPlace → Bool) (hs : List Holder) → option_map (with_pair p) (find t (flat_map (held_by m) hs)) ≡ option_map (entry_with p) (find (λ h. list_any t (held_by m h)) hs)
  first_held p t [] = refl
  first_held p t (h ∷ hs) =
      ap (option_map (with_pair p)) (find-append t (held_by m h) (flat_map (held_by m) hs))
      ∙ mapped_or (with_pair p) (find t (held_by m h)) (find t (flat_map (held_by m) hs))
      ∙ ap (λ (o : Option (Entry UnitPlace)). option_or o (option_map (with_pair p) (find t (flat_map (held_by m) hs)))) (found_in p h.line h.class t (held_by m h) (entries_of_issue h))
      ∙ ap (option_or (cond (list_any t (held_by m h)) (Some (entry_with p h)) None)) (first_held p t hs)
      ∙ or_cond (entry_with p) (list_any t (held_by m h)) h (find (λ x. list_any t (held_by m x)) hs)

  any_entries : (line class : ℕ) (u : UnitPlace) (c : ℕ) (ps : List (Pair UnitPlace)) → list_any (is_at u c) (entries_of line class ps) ≡ has same_place ps (record { unit = u; cycle = c })
  any_entries line class u c [] = refl
  any_entries line class u c (p ∷ ps) = ap (λ (b : Bool). (same_place p.unit u && p.cycle == c) || b) (any_entries line class u c ps)

  held_test : (h : Holder) (u : UnitPlace) (c : ℕ) → list_any (is_at u c) (held_by m h) ≡ has same_place (chosen m h.class h.number) (record { unit = u; cycle = age_of h + c })
  held_test h u c =
      let all = entries_of h.line h.class (chosen m h.class h.number) in
      sym (is_some-find (is_at u c) (held_by m h)) ∙ ap is_some (found_from (age_of h) u c all) ∙ is_some-map (entry_from (age_of h)) (find (is_at u (age_of h + c)) all)
      ∙ is_some-find (is_at u (age_of h + c)) all ∙ any_entries h.line h.class u (age_of h + c) (chosen m h.class h.number)

  pub within_alternatives : (all : List (Alternative UnitPlace)) (i : ℕ) (p : Pair UnitPlace) → Contains (pairs_at (slice_get all i)) p → i < length all
  within_alternatives all i p h = ⊎_elim
      (λ (low : i < length all). low)
      (λ (high : length all ≤ i). absurd (Contains-nil p (subst (λ (o : Option (Alternative UnitPlace)). Contains (pairs_at o) p) (slice_get_past all i high) h)))
      (cases_lt i (length all))

  module _ (plan : Plan) (is : IsPlanOf m plan) where
    -- the pairs of the alternative that the issue took
    abbrev taken : Holder → List (Pair UnitPlace)
    taken h = chosen m h.class h.number

    abbrev parts : Holder → List (List (Pair ℕ))
    parts h = parts_at (choices_at plan h.class) h.number

    test_past : (h : Holder) → IsHolder m h → (u : UnitPlace) (c : ℕ) → h.left < c → has same_place (taken h) (record { unit = u; cycle = age_of h + c }) ≡ is_holder_of plan u c h
    test_past h of u c high =
        let order = of.order in
        let none = λ (e : has same_place (taken h) (record { unit = u; cycle = age_of h + c }) ≡ true).
        let there = (has_decides same_place places_tell (taken h) (record { unit = u; cycle = age_of h + c })).0 e in
        let within = of.within _ there in
        absurd (omega arith) in
        false_from_ne_true _ none ∙ sym (ap (λ (b : Bool). b && is_held (parts h) (h.last - (h.left - c)) u) (lt-leb c h.left high))

    test_left : (h : Holder) → IsHolder m h → (u : UnitPlace) → u.automaton < length plan.rules.items → (c : ℕ) → c ≤ h.left → has same_place (taken h) (record { unit = u; cycle = age_of h + c }) ≡ is_holder_of plan u c h
    test_left h of u low c under =
        let order = of.order in
        let count = is.numbers h.class in
        let there = within_alternatives (alternatives_at m h.class) h.number of.reached.0 of.reached.1 in
        let lt : h.number < length (choices_at plan h.class) = omega arith in
        let time : h.last - (h.left - c) ≡ age_of h + c = omega arith in
        let part = is.parts h.class h.number u.automaton u.unit (h.last - (h.left - c)) lt low in
        let at_time = λ (d : ℕ). Contains (taken h) (in_automaton u.automaton u.unit d) in
        held_alike (parts h) (taken h) u (h.last - (h.left - c)) (age_of h + c) (λ x. subst at_time time (part.0 x), λ x. part.1 (subst at_time (sym time) x))
        ∙ sym (ap (λ (b : Bool). b && is_held (parts h) (h.last - (h.left - c)) u) (le-leb c h.left under))

    test_of : (h : Holder) → IsHolder m h → (u : UnitPlace) → u.automaton < length plan.rules.items → (c : ℕ) → list_any (is_at u c) (held_by m h) ≡ is_holder_of plan u c h
    test_of h of u low c = held_test h u c ∙ ⊎_elim (test_past h of u c) (test_left h of u low c) (cases_lt h.left c)

    module _ (t : List Event) (lines choices : List ℕ) (issues : List Holder) (are : AreHolders m t lines choices issues) (u : UnitPlace) (low : u.automaton < length plan.rules.items) (c : ℕ) where
      abbrev all : List (Entry UnitPlace)
      all = entries m 0 t lines choices

      found_of : (p : Pair UnitPlace) → option_map (entry_with p) (find (is_holder_of plan u c) issues) ≡ option_map (with_pair p) (find (is_at u c) (entries_from (cycles_of t) all))
      found_of p =
          sym (ap (option_map (entry_with p)) (find_alike (λ h. list_any (is_at u c) (held_by m h)) (is_holder_of plan u c) issues (λ h there. test_of h (are.each h there) u low c)))
          ∙ sym (first_held p (is_at u c) issues)
          ∙ ap (λ (es : List (Entry UnitPlace)). option_map (with_pair p) (find (is_at u c) es)) are.all

      -- with cycles counted from the start, and from the present one
      pub holder_in_all : option_map (entry_with (record { unit = u; cycle = cycles_of t + c })) (find (is_holder_of plan u c) issues) ≡ entry_at same_place all (record { unit = u; cycle = cycles_of t + c })
      holder_in_all =
          let p : Pair UnitPlace = record { unit = u; cycle = cycles_of t + c } in
          found_of p ∙ ap (option_map (with_pair p)) (found_from (cycles_of t) u c all)
          ∙ moved_same p (cycles_of t) (find (is_at u (cycles_of t + c)) all) ∙ found_same p all

      pub holder_from_now : option_map (entry_with (record { unit = u; cycle = c })) (find (is_holder_of plan u c) issues) ≡ entry_at same_place (entries_from (cycles_of t) all) (record { unit = u; cycle = c })
      holder_from_now = let p : Pair UnitPlace = record { unit = u; cycle = c } in found_of p ∙ found_same p (entries_from (cycles_of t) all)

    -- ---- the last cycle of an alternative

    pub listed_pair : (k i : ℕ) → i < length (choices_at plan k) → (p : Pair UnitPlace) → Contains (chosen m k i) p → (q : Place) × Contains (plans.pairs_at (choices_at plan k) i) q × (place_of q ≡ p)
    listed_pair k i lt p h = Contains-from_map place_of (plans.pairs_at (choices_at plan k) i) p
        (subst (λ (ps : List (Pair UnitPlace)). Contains ps p) (sym (is.listed k i lt)) ((same_ascending (chosen m k i) p).1 h))

    unlisted_pair : (k i : ℕ) → i < length (choices_at plan k) → (q : Place) → Contains (plans.pairs_at (choices_at plan k) i) q → Contains (chosen m k i) (place_of q)
    unlisted_pair k i lt q h = (same_ascending (chosen m k i) (place_of q)).0
        (subst (λ (ps : List (Pair UnitPlace)). Contains ps (place_of q)) (is.listed k i lt) (Contains-map place_of (plans.pairs_at (choices_at plan k) i) q h))

    pub holder_of : (k i line : ℕ) → i < length (choices_at plan k) → (pairs : List Place) → plans.pairs_at (choices_at plan k) i ≡ pairs → 0 < length pairs → (last : ℕ) → last ≡ last_of pairs → IsHolder m (record { line = line; class = k; number = i; last = last; left = last })
    holder_of k i line lt pairs same some last is_last = record {
      order = omega arith;
      within = λ p h.
          let (q, there, e) = listed_pair k i lt p h in
          let within = within_most (λ (r : Place). r.cycle) pairs q (subst (λ (qs : List Place). Contains qs q) same there) in
          subst (λ (r : Pair UnitPlace). r.cycle ≤ last) e (omega arith);
      reached =
          let (q, there, e) = reached_last pairs some in
          (place_of q, unlisted_pair k i lt q (subst (λ (qs : List Place). Contains qs q) (sym same) there), e ∙ sym is_last);
    }

    pub nothing_of : (k i : ℕ) → i < length (choices_at plan k) → plans.pairs_at (choices_at plan k) i ≡ [] → (p : Pair UnitPlace) → Contains (chosen m k i) p → ⊥
    nothing_of k i lt none p h = let found = listed_pair k i lt p h in Contains-nil found.0 (subst (λ (qs : List Place). Contains qs found.0) none found.1)

-- ---- a list of which one item more is changed

set_next : {X : Type 0} (f : X → X) (xs : List X) (i : ℕ) (d : X) → i < length xs → slice_set (map f (take i xs) ++ drop i xs) i (f (get_or (map f (take i xs) ++ drop i xs) i d)) ≡ map f (take (suc i) xs) ++ drop (suc i) xs
set_next f [] i d lt = absurd (omega arith)
set_next f (y ∷ ys) zero d lt = refl
set_next {X} f (y ∷ ys) (suc i) d lt = ap (λ (zs : List X). f y ∷ zs) (set_next f ys i d (omega arith))

pub changed_next : {X : Type 0} (f : X → X) (xs now : List X) (i : ℕ) (d : X) → i < length xs → now ≡ map f (take i xs) ++ drop i xs → slice_set now i (f (get_or now i d)) ≡ map f (take (i + 1) xs) ++ drop (i + 1) xs
changed_next {X} f xs now i d lt come =
    ap (λ (ys : List X). slice_set ys i (f (get_or ys i d))) come ∙ set_next f xs i d lt
    ∙ ap (λ (n : ℕ). map f (take n xs) ++ drop n xs) (sym (add-one i))

pub no_length : {X : Type 0} (xs : List X) → length xs ≡ 0 → xs ≡ []
no_length [] h = refl
no_length (x ∷ xs) h = absurd (omega arith)
