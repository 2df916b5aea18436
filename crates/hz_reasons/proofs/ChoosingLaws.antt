-- Choices grow by one with each issue that is taken.
use Rattle.std.proofs.Common.{◌≡◌, ℕ, zero, suc, ◌+◌, ◌<◌, ◌≤◌, List, [], ◌∷◌, ◌++◌, length, drop, slice_index, Some, refl, sym, ap, ◌∙◌, subst, arith}
use Rattle.std.proofs.lemmas.List.{append-nil, length-append}
use Rattle.hz_base_model.specs.Pairs.{Pair, placed}
use Rattle.hz_description_model.specs.Reservations.Automata.{UnitPlace}
use Rattle.hz_pipeline_model.specs.Accepting.Events.{Event, issue, advance, ask, issues_of, cycles_of}
use Rattle.hz_pipeline_model.specs.Accepting.Replay.{Pipeline, State, start, MayTake, IsChoice, calendar, chosen, left_by}
use Rattle.hz_pipeline_model.proofs.Accepting.ReplayLaws.{issues_of-append, cycles_of-append, calendar-append, same_first, same_rest, none_last}
use Rattle.hz_why_model.specs.Waits.{after}
use Rattle.hz_reasons.specs.Plans.{Stands, after_issue, Issues}
use Rattle.hz_reasons.specs.Choosing.{HasChosen}

-- an item at a place of a list that grew, and the new one
pub index_before : (xs ys : List ℕ) (n : ℕ) → n < length xs → slice_index (xs ++ ys) n ≡ slice_index xs n
index_before [] ys n h = absurd (omega arith)
index_before (x ∷ xs) ys zero h = refl
index_before (x ∷ xs) ys (suc n) h = index_before xs ys n (omega arith)

pub index_last : (xs : List ℕ) (y : ℕ) → slice_index (xs ++ y ∷ []) (length xs) ≡ y
index_last [] y = refl
index_last (x ∷ xs) y = index_last xs y

drop_front : (xs ys : List ℕ) → drop (length xs) (xs ++ ys) ≡ ys
drop_front [] ys = refl
drop_front (x ∷ xs) ys = drop_front xs ys

-- Where an event of a list that grew by one stands: among the others, or last.
data Place (t before after : List Event) (last e : Event) : Type 0 where
  among : (rest : List Event) → t ≡ before ++ e ∷ rest → Place t before after last e
  at_end : t ≡ before → last ≡ e → Place t before after last e

place_more : (x : Event) (t before after : List Event) (last e : Event) → Place t before after last e → Place (x ∷ t) (x ∷ before) after last e
place_more x t before after last e (among rest h) = among rest (ap (λ (es : List Event). x ∷ es) h)
place_more x t before after last e (at_end h is) = at_end (ap (λ (es : List Event). x ∷ es) h) is

place_of : (t before after : List Event) (last e : Event) → t ++ last ∷ [] ≡ before ++ e ∷ after → Place t before after last e
place_of [] [] after last e h = at_end refl (same_first _ _ _ _ h)
place_of [] (y ∷ before) after last e h = absurd (let n = ap length h in let sum = length-append before (e ∷ after) in omega arith)
place_of (x ∷ t) [] after last e h = among t (ap (λ (z : Event). z ∷ t) (same_first _ _ _ _ h))
place_of (x ∷ t) (y ∷ before) after last e h =
    subst (λ (z : Event). Place (x ∷ t) (z ∷ before) after last e) (same_first _ _ _ _ h) (place_more x t before after last e (place_of t before after last e (same_rest _ _ _ _ h)))

same_class : (j k : ℕ) → issue j ≡ issue k → j ≡ k
same_class j k h = cc

no_advance : (n k : ℕ) → advance n ≡ issue k → ⊥
no_advance n k h = cc

no_ask : (a u k : ℕ) → ask a u ≡ issue k → ⊥
no_ask a u k h = cc

module _ (m : Pipeline UnitPlace) where
  -- choices after those of the issues change no calendar
  pub calendar_more : (now : ℕ) (t : List Event) (choices more : List ℕ) → issues_of t ≤ length choices → calendar m now t (choices ++ more) ≡ calendar m now t choices
  calendar_more now [] choices more h = refl
  calendar_more now (advance n ∷ t) choices more h = calendar_more (n + now) t choices more h
  calendar_more now (ask a u ∷ t) choices more h = calendar_more now t choices more h
  calendar_more now (issue k ∷ t) [] more h = absurd (omega arith)
  calendar_more now (issue k ∷ t) (i ∷ choices) more h = ap (λ (ps : List (Pair UnitPlace)). placed now (chosen m k i) ++ ps) (calendar_more now t choices more (omega arith))

  module _ (t : List Event) (choices : List ℕ) (is : IsChoice m t choices) where
    -- ---- an event that takes nothing

    module _ (e : Event) (other : (k : ℕ) → e ≡ issue k → ⊥) (none : issues_of (e ∷ []) ≡ 0) where
      idle_choice : IsChoice m (t ++ e ∷ []) choices
      idle_choice = record { each = is.each ∙ (let sum = issues_of-append t (e ∷ []) in omega arith); may = may }
        where
          by_place : (before after : List Event) (k : ℕ) → Place t before after e (issue k) → MayTake m (left_by m before choices) k (slice_index choices (issues_of before))
          by_place before after k (among rest h) = is.may before rest k h
          by_place before after k (at_end h same) = absurd (other k same)

          may : (before after : List Event) (k : ℕ) → t ++ e ∷ [] ≡ before ++ issue k ∷ after → MayTake m (left_by m before choices) k (slice_index choices (issues_of before))
          may before after k h = by_place before after k (place_of t before after e (issue k) h)

    -- ---- an issue that is taken

    module _ (k i : ℕ) (may : MayTake m (left_by m t choices) k i) where
      abbrev more : List ℕ
      more = choices ++ i ∷ []

      left_before : (before : List Event) → issues_of before ≤ length choices → left_by m before more ≡ left_by m before choices
      left_before before h = ap (λ (ps : List (Pair UnitPlace)). let s : State UnitPlace = record { reserved = ps; now = cycles_of before } in s) (calendar_more 0 before choices (i ∷ []) h)

      -- an issue before the last one
      may_among : (before rest : List Event) (j : ℕ) → t ≡ before ++ issue j ∷ rest → MayTake m (left_by m before more) j (slice_index more (issues_of before))
      may_among before rest j h =
          let within : issues_of before < length choices = omega (arith, is.each, ap issues_of h, issues_of-append before (issue j ∷ rest)) in
          let same = sym (left_before before (omega arith)) in
          let number = sym (index_before choices (i ∷ []) (issues_of before) within) in
          subst (λ (s : State UnitPlace). MayTake m s j (slice_index more (issues_of before))) same
          (subst (λ (n : ℕ). MayTake m (left_by m before choices) j n) number (is.may before rest j h))

      may_last : MayTake m (left_by m t more) k (slice_index more (issues_of t))
      may_last =
          let same = sym (left_before t (omega (arith, is.each))) in
          let number : i ≡ slice_index more (issues_of t) = sym (index_last choices i) ∙ ap (slice_index more) is.each in
          subst (λ (s : State UnitPlace). MayTake m s k (slice_index more (issues_of t))) same (subst (λ (n : ℕ). MayTake m (left_by m t choices) k n) number may)

      by_place : (before after : List Event) (j : ℕ) → Place t before after (issue k) (issue j) → MayTake m (left_by m before more) j (slice_index more (issues_of before))
      by_place before after j (among rest h) = may_among before rest j h
      by_place before after j (at_end h same) =
          subst (λ (es : List Event). MayTake m (left_by m es more) j (slice_index more (issues_of es))) h
          (subst (λ (l : ℕ). MayTake m (left_by m t more) l (slice_index more (issues_of t))) (same_class k j same) may_last)

      pub choice_more : IsChoice m (t ++ issue k ∷ []) more
      choice_more = record {
        each = omega (arith, is.each, length-append choices (i ∷ []), issues_of-append t (issue k ∷ []));
        may = λ before after j h. by_place before after j (place_of t before after (issue k) (issue j) h);
      }

      -- what it leaves
      pub left_more : left_by m (t ++ issue k ∷ []) more ≡ after_issue m (left_by m t choices) k i
      left_more =
          let sum = cycles_of-append t (issue k ∷ []) in
          let time : cycles_of (t ++ issue k ∷ []) ≡ cycles_of t = omega arith in
          let here : cycles_of t + 0 ≡ cycles_of t = omega arith in
          let rest : drop (issues_of t) more ≡ i ∷ [] = ap (λ (n : ℕ). drop n more) (sym is.each) ∙ drop_front choices (i ∷ []) in
          let before = calendar_more 0 t choices (i ∷ []) (omega (arith, is.each)) in
          let pairs = calendar-append m 0 t (issue k ∷ []) more in
          rw (time, pairs, before, rest, here) (ap (λ (ps : List (Pair UnitPlace)). let s : State UnitPlace = record { reserved = calendar m 0 t choices ++ ps; now = cycles_of t } in s) (append-nil (placed (cycles_of t) (chosen m k i))))

-- ---- what is chosen, event by event

module _ (m : Pipeline UnitPlace) where
  pub chosen_at_start : (choices : List ℕ) (grids : List (List (Pair ℕ))) → choices ≡ [] → Stands m grids start → HasChosen m [] choices grids
  chosen_at_start choices grids is stands = subst (λ (cs : List ℕ). HasChosen m [] cs grids) (sym is) (record {
    choice = record { each = refl; may = λ before after k e. absurd (none_last before after k e) };
    stands = stands;
  })

  module _ (t : List Event) (choices : List ℕ) (grids : List (List (Pair ℕ))) (has : HasChosen m t choices grids) where
    left_idle : (e : Event) (n : ℕ) → ((c : ℕ) → calendar m c (e ∷ []) (drop (issues_of t) choices) ≡ []) → cycles_of (e ∷ []) ≡ n → left_by m (t ++ e ∷ []) choices ≡ after n (left_by m t choices)
    left_idle e n nothing cycles =
        let sum = cycles_of-append t (e ∷ []) in
        let time : cycles_of (t ++ e ∷ []) ≡ n + cycles_of t = omega arith in
        let pairs = calendar-append m 0 t (e ∷ []) choices in
        rw (time, pairs, nothing (cycles_of t + 0), append-nil (calendar m 0 t choices)) refl

    pub chosen_advance : (n : ℕ) (new : List (List (Pair ℕ))) → Stands m new (after n (left_by m t choices)) → HasChosen m (t ++ advance n ∷ []) choices new
    chosen_advance n new stands =
        let left = left_idle (advance n) n (λ c. refl) (omega arith) in
        record {
          choice = idle_choice m t choices has.choice (advance n) (λ k. no_advance n k) refl;
          stands = subst (λ (s : State UnitPlace). Stands m new s) (sym left) stands;
        }

    pub chosen_ask : (a u : ℕ) → HasChosen m (t ++ ask a u ∷ []) choices grids
    chosen_ask a u =
        let left = left_idle (ask a u) 0 (λ c. refl) refl in
        let idle : after 0 (left_by m t choices) ≡ left_by m t choices = ap (λ (c : ℕ). let s : State UnitPlace = record { reserved = calendar m 0 t choices; now = c } in s) (let zero_more : 0 + cycles_of t ≡ cycles_of t = omega arith in zero_more) in
        record {
          choice = idle_choice m t choices has.choice (ask a u) (λ k. no_ask a u k) refl;
          stands = subst (λ (s : State UnitPlace). Stands m grids s) (sym (left ∙ idle)) has.stands;
        }

    pub chosen_issue : (k i : ℕ) (new : List (List (Pair ℕ))) → Issues m (left_by m t choices) k (Some i) new → HasChosen m (t ++ issue k ∷ []) (choices ++ i ∷ []) new
    chosen_issue k i new (may, stands) = record {
      choice = choice_more m t choices has.choice k i may;
      stands = subst (λ (s : State UnitPlace). Stands m new s) (sym (left_more m t choices has.choice k i may)) stands;
    }
