-- Entries are the calendar, and each pair has one holder.
use Rattle.std.proofs.Common.{◌≡◌, ℕ, suc, ◌+◌, ◌<◌, ⊎_elim, List, [], ◌∷◌, ◌++◌, drop, length, slice_index, Contains, refl, sym, ap, ◌∙◌, subst, arith}
use Rattle.std.proofs.lemmas.List.{drop_more}
use Rattle.std.proofs.lemmas.List.Elements.{Contains-append_left, Contains-append_right, Contains-append_cases}
use Rattle.hz_base_model.specs.Pairs.{Pair, placed}
use Rattle.hz_base_model.proofs.Elements.{Contains-nil, Contains-from_map}
use Rattle.hz_pipeline_model.specs.Accepting.Events.{Event, issue, advance, ask, issues_of, cycles_of}
use Rattle.hz_pipeline_model.specs.Accepting.Replay.{Pipeline, chosen, calendar, IsChoice}
use Rattle.hz_pipeline_model.proofs.Accepting.ReplayLaws.{issues_of-append, calendar-append, same_first, same_rest}
use Rattle.hz_why_model.specs.Holders.{Entry, entries_of, entries, pairs_in}

module _ {U : Type 0} where
  pairs_in_entries_of : (line class : ℕ) (pairs : List (Pair U)) → pairs_in (entries_of line class pairs) ≡ pairs
  pairs_in_entries_of line class [] = refl
  pairs_in_entries_of line class (p ∷ ps) = ap (λ (qs : List (Pair U)). p ∷ qs) (pairs_in_entries_of line class ps)

  pairs_in-append : (xs ys : List (Entry U)) → pairs_in (xs ++ ys) ≡ pairs_in xs ++ pairs_in ys
  pairs_in-append [] ys = refl
  pairs_in-append (x ∷ xs) ys = ap (λ (qs : List (Pair U)). x.pair ∷ qs) (pairs_in-append xs ys)

  pub calendar_in : (m : Pipeline U) (now : ℕ) (t : List Event) (lines choices : List ℕ) → pairs_in (entries m now t lines choices) ≡ calendar m now t choices
  calendar_in m now [] lines choices = refl
  calendar_in m now (advance n ∷ t) lines choices = calendar_in m (n + now) t (drop 1 lines) choices
  calendar_in m now (ask a u ∷ t) lines choices = calendar_in m now t (drop 1 lines) choices
  calendar_in m now (issue k ∷ t) lines [] = refl
  calendar_in m now (issue k ∷ t) lines (i ∷ choices) =
      pairs_in-append (entries_of _ k (placed now (chosen m k i))) (entries m now t (drop 1 lines) choices)
      ∙ (ap (λ (qs : List (Pair U)). qs ++ pairs_in (entries m now t (drop 1 lines) choices)) (pairs_in_entries_of _ k (placed now (chosen m k i)))
      ∙ ap (λ (qs : List (Pair U)). placed now (chosen m k i) ++ qs) (calendar_in m now t (drop 1 lines) choices))

-- ---- who took an entry

-- An issue among the events that took the pair of an entry.
record Took {U : Type 0} (m : Pipeline U) (now : ℕ) (t : List Event) (lines choices : List ℕ) (e : Entry U) : Type 0 where
  before : List Event
  after : List Event
  parts : t ≡ before ++ issue e.class ∷ after
  takes : Contains (placed (cycles_of before + now) (chosen m e.class (slice_index choices (issues_of before)))) e.pair
  line : e.line ≡ slice_index lines (length before)

drop_index : (lines : List ℕ) (n : ℕ) → slice_index (drop 1 lines) n ≡ slice_index lines (suc n)
drop_index [] n = refl
drop_index (x ∷ xs) n = refl

module _ {U : Type 0} (m : Pipeline U) where
  -- an event before the others
  took_later : (first : Event) (now then : ℕ) (t : List Event) (lines choices more : List ℕ) (e : Entry U)
      → ((es : List Event) → cycles_of (first ∷ es) + now ≡ cycles_of es + then) → ((es : List Event) → slice_index more (issues_of (first ∷ es)) ≡ slice_index choices (issues_of es))
      → Took m then t (drop 1 lines) choices e → Took m now (first ∷ t) lines more e
  took_later first now then t lines choices more e time same h = record {
    before = first ∷ h.before;
    after = h.after;
    parts = ap (λ (es : List Event). first ∷ es) h.parts;
    takes = rw (time h.before, same h.before) h.takes;
    line = h.line ∙ drop_index lines (length h.before);
  }

  took_here : (now : ℕ) (t : List Event) (lines choices : List ℕ) (k i : ℕ) (e : Entry U) → Contains (entries_of (slice_index lines 0) k (placed now (chosen m k i))) e → Took m now (issue k ∷ t) lines (i ∷ choices) e
  took_here now t lines choices k i e h =
      let found = Contains-from_map _ (placed now (chosen m k i)) e h in
      let time : now ≡ 0 + now = omega arith in
      subst (λ (x : Entry U). Took m now (issue k ∷ t) lines (i ∷ choices) x) found.2
      (record { before = []; after = t; parts = refl; takes = subst (λ (c : ℕ). Contains (placed c (chosen m k i)) found.0) time found.1; line = refl })

  took : (now : ℕ) (t : List Event) (lines choices : List ℕ) (e : Entry U) → Contains (entries m now t lines choices) e → Took m now t lines choices e
  took now [] lines choices e h = absurd (Contains-nil e h)
  took now (advance n ∷ t) lines choices e h = took_later (advance n) now (n + now) t lines choices choices e (λ es. omega arith) (λ es. refl) (took (n + now) t (drop 1 lines) choices e h)
  took now (ask a u ∷ t) lines choices e h = took_later (ask a u) now now t lines choices choices e (λ es. refl) (λ es. refl) (took now t (drop 1 lines) choices e h)
  took now (issue k ∷ t) lines [] e h = absurd (Contains-nil e h)
  took now (issue k ∷ t) lines (i ∷ choices) e h = ⊎_elim
      (λ here. took_here now t lines choices k i e here)
      (λ there. took_later (issue k) now now t lines choices (i ∷ choices) e (λ es. refl) (λ es. refl) (took now t (drop 1 lines) choices e there))
      (Contains-append_cases _ _ e h)

-- ---- one holder

-- Of two events of a list one stands before the other, or both are one.
data Order (b c : List Event) (d e : Event) : Type 0 where
  one : b ≡ c → d ≡ e → Order b c d e
  first : (middle : List Event) → c ≡ b ++ d ∷ middle → Order b c d e
  second : (middle : List Event) → b ≡ c ++ e ∷ middle → Order b c d e

more_order : (x : Event) (b c : List Event) (d e : Event) → Order b c d e → Order (x ∷ b) (x ∷ c) d e
more_order x b c d e (one p q) = one (ap (λ (es : List Event). x ∷ es) p) q
more_order x b c d e (first middle p) = first middle (ap (λ (es : List Event). x ∷ es) p)
more_order x b c d e (second middle p) = second middle (ap (λ (es : List Event). x ∷ es) p)

order_of : (b c u v : List Event) (d e : Event) → b ++ d ∷ u ≡ c ++ e ∷ v → Order b c d e
order_of [] [] u v d e h = one refl (same_first _ _ _ _ h)
order_of [] (y ∷ c) u v d e h = first c (ap (λ (z : Event). z ∷ c) (sym (same_first _ _ _ _ h)))
order_of (x ∷ b) [] u v d e h = second b (ap (λ (z : Event). z ∷ b) (same_first _ _ _ _ h))
order_of (x ∷ b) (y ∷ c) u v d e h =
    subst (λ (z : Event). Order (x ∷ b) (z ∷ c) d e) (same_first _ _ _ _ h) (more_order x b c d e (order_of b c u v d e (same_rest _ _ _ _ h)))

same_class : (j k : ℕ) → issue j ≡ issue k → j ≡ k
same_class j k h = cc

module _ {U : Type 0} (m : Pipeline U) (t : List Event) (lines choices : List ℕ) (is : IsChoice m t choices) where
  -- what an earlier issue took stands reserved
  earlier : (b middle after : List Event) (k : ℕ) (p : Pair U) → t ≡ (b ++ issue k ∷ middle) ++ after → Contains (placed (cycles_of b + 0) (chosen m k (slice_index choices (issues_of b)))) p → Contains (calendar m 0 (b ++ issue k ∷ middle) choices) p
  earlier b middle after k p parts h =
      let within : issues_of b < length choices = omega (arith, is.each, ap issues_of parts, issues_of-append (b ++ issue k ∷ middle) after, issues_of-append b (issue k ∷ middle)) in
      let next = drop_more choices (issues_of b) 0 within in
      rw (calendar-append m 0 b (issue k ∷ middle) choices, next)
      (Contains-append_right (calendar m 0 b choices) _ p (Contains-append_left (placed (cycles_of b + 0) (chosen m k (slice_index choices (issues_of b)))) _ p h))

  -- so a later issue does not take it
  apart : (b middle after : List Event) (j k : ℕ) (p : Pair U) → t ≡ (b ++ issue j ∷ middle) ++ issue k ∷ after
      → Contains (placed (cycles_of b + 0) (chosen m j (slice_index choices (issues_of b)))) p
      → Contains (placed (cycles_of (b ++ issue j ∷ middle) + 0) (chosen m k (slice_index choices (issues_of (b ++ issue j ∷ middle))))) p → ⊥
  apart b middle after j k p parts here there =
      let may = is.may (b ++ issue j ∷ middle) after k parts in
      let time : cycles_of (b ++ issue j ∷ middle) + 0 ≡ cycles_of (b ++ issue j ∷ middle) = omega arith in
      may.fits.1.apart p (earlier b middle (issue k ∷ after) j p parts here) (rw time at there)

  abbrev Same : Entry U → Entry U → Type 0
  Same e f = (e.line ≡ f.line) × (e.class ≡ f.class)

  by_order : (e f : Entry U) → e.pair ≡ f.pair → (p : Took m 0 t lines choices e) (q : Took m 0 t lines choices f) → Order p.before q.before (issue e.class) (issue f.class) → Same e f
  by_order e f same p q (one b k) = (p.line ∙ (ap (λ (es : List Event). slice_index lines (length es)) b ∙ sym q.line), same_class _ _ k)
  by_order e f same p q (first middle b) =
      let there = subst (λ (es : List Event). Contains (placed (cycles_of es + 0) (chosen m f.class (slice_index choices (issues_of es)))) f.pair) b q.takes in
      let here = subst (λ (r : Pair U). Contains (placed (cycles_of p.before + 0) (chosen m e.class (slice_index choices (issues_of p.before)))) r) same p.takes in
      absurd (apart p.before middle q.after e.class f.class f.pair (q.parts ∙ ap (λ (es : List Event). es ++ issue f.class ∷ q.after) b) here there)
  by_order e f same p q (second middle b) =
      let there = subst (λ (es : List Event). Contains (placed (cycles_of es + 0) (chosen m e.class (slice_index choices (issues_of es)))) e.pair) b p.takes in
      let here = subst (λ (r : Pair U). Contains (placed (cycles_of q.before + 0) (chosen m f.class (slice_index choices (issues_of q.before)))) r) (sym same) q.takes in
      absurd (apart q.before middle p.after f.class e.class e.pair (p.parts ∙ ap (λ (es : List Event). es ++ issue e.class ∷ p.after) b) here there)

  pub one_holder : (e f : Entry U) → Contains (entries m 0 t lines choices) e → Contains (entries m 0 t lines choices) f → e.pair ≡ f.pair → (e.line ≡ f.line) × (e.class ≡ f.class)
  one_holder e f x y same =
      let p = took m 0 t lines choices e x in
      let q = took m 0 t lines choices f y in
      by_order e f same p q (order_of p.before q.before p.after q.after (issue e.class) (issue f.class) (sym p.parts ∙ q.parts))
