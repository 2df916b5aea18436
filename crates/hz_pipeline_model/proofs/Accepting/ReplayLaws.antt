-- What is accepted is what can be run, and what choices leave is what runs leave.
use Rattle.std.proofs.Common.{◌≡◌, ℕ, suc, ◌+◌, ◌<◌, List, [], ◌∷◌, ◌++◌, length, drop, refl, sym, ap, ◌∙◌, subst, append_assoc, slice_index, arith, zero-add, add-zero}
use Rattle.std.proofs.lemmas.List.{append-nil, drop_more, length-append}
use Rattle.hz_base_model.specs.Pairs.{Pair, placed}
use Rattle.hz_pipeline_model.specs.Accepting.Replay.{Pipeline, State, Step, Plays, IsPlayable, MayTake, IsChoice, Accepted, start, calendar, chosen, left_by}
use Rattle.hz_pipeline_model.specs.Accepting.Events.{Event, issue, advance, ask, issues_of, cycles_of}

-- a run through two lists of events passes a state between them
pub run_split : {U : Type 0} (m : Pipeline U) (old new : State U) (xs ys : List Event) → Plays m old (xs ++ ys) new → (middle : State U) × Plays m old xs middle × Plays m middle ys new
run_split m old new [] ys r = (old, refl, r)
run_split m old new (e ∷ xs) ys r =
    let later = run_split m r.0 new xs ys r.2 in
    (later.0, (r.0, r.1, later.1), later.2)

pub run_join : {U : Type 0} (m : Pipeline U) (old middle new : State U) (xs ys : List Event) → Plays m old xs middle → Plays m middle ys new → Plays m old (xs ++ ys) new
run_join {U} m old middle new [] ys first second = subst (λ (s : State U). Plays m s ys new) first second
run_join m old middle new (e ∷ xs) ys first second = (first.0, first.1, run_join m first.0 middle new xs ys first.2 second)

-- one more step
pub run_more : {U : Type 0} (m : Pipeline U) (old middle new : State U) (xs : List Event) (e : Event) → Plays m old xs middle → Step m middle e new → Plays m old (xs ++ e ∷ []) new
run_more m old middle new xs e run step = run_join m old middle new xs (e ∷ []) run (new, step, refl)

-- counts of events side by side
pub issues_of-append : (xs ys : List Event) → issues_of (xs ++ ys) ≡ issues_of xs + issues_of ys
issues_of-append [] ys = omega arith
issues_of-append (issue k ∷ xs) ys = omega (arith, issues_of-append xs ys)
issues_of-append (advance n ∷ xs) ys = issues_of-append xs ys
issues_of-append (ask a u ∷ xs) ys = issues_of-append xs ys

pub cycles_of-append : (xs ys : List Event) → cycles_of (xs ++ ys) ≡ cycles_of xs + cycles_of ys
cycles_of-append [] ys = omega arith
cycles_of-append (issue k ∷ xs) ys = cycles_of-append xs ys
cycles_of-append (advance n ∷ xs) ys = omega (arith, cycles_of-append xs ys)
cycles_of-append (ask a u ∷ xs) ys = cycles_of-append xs ys

-- no choices reserve nothing
calendar_none : {U : Type 0} (m : Pipeline U) (now : ℕ) (t : List Event) → calendar m now t [] ≡ []
calendar_none m now [] = refl
calendar_none m now (advance n ∷ t) = calendar_none m (n + now) t
calendar_none m now (issue k ∷ t) = refl
calendar_none m now (ask a u ∷ t) = calendar_none m now t

-- the calendar of events side by side
pub calendar-append : {U : Type 0} (m : Pipeline U) (now : ℕ) (xs ys : List Event) (choices : List ℕ) → calendar m now (xs ++ ys) choices ≡ calendar m now xs choices ++ calendar m (cycles_of xs + now) ys (drop (issues_of xs) choices)
calendar-append m now [] ys choices = rw zero-add refl
calendar-append m now (advance n ∷ xs) ys choices =
    let at : cycles_of xs + (n + now) ≡ n + cycles_of xs + now = omega arith in
    calendar-append m (n + now) xs ys choices ∙ ap (λ (c : ℕ). calendar m (n + now) xs choices ++ calendar m c ys (drop (issues_of xs) choices)) at
calendar-append m now (ask a u ∷ xs) ys choices = calendar-append m now xs ys choices
calendar-append m now (issue k ∷ xs) ys [] = sym (calendar_none m (cycles_of xs + now) ys)
calendar-append m now (issue k ∷ xs) ys (i ∷ choices) =
    ap (λ (ps : List (Pair _)). placed now (chosen m k i) ++ ps) (calendar-append m now xs ys choices)
    ∙ sym (append_assoc (placed now (chosen m k i)) (calendar m now xs choices) (calendar m (cycles_of xs + now) ys (drop (issues_of xs) choices)))

-- what one more event leaves
left_by_advance : {U : Type 0} (m : Pipeline U) (done : List Event) (n : ℕ) (choices : List ℕ) → left_by m (done ++ advance n ∷ []) choices ≡ record { reserved = calendar m 0 done choices; now = n + cycles_of done }
left_by_advance m done n choices =
    let time : cycles_of (done ++ advance n ∷ []) ≡ n + cycles_of done = omega (arith, cycles_of-append done (advance n ∷ [])) in
    let pairs = calendar-append m 0 done (advance n ∷ []) choices ∙ append-nil (calendar m 0 done choices) in
    rw (time, pairs) refl

left_by_issue : {U : Type 0} (m : Pipeline U) (done : List Event) (k : ℕ) (choices : List ℕ) → issues_of done < length choices → left_by m (done ++ issue k ∷ []) choices ≡ record { reserved = calendar m 0 done choices ++ placed (cycles_of done) (chosen m k (slice_index choices (issues_of done))); now = cycles_of done }
left_by_issue m done k choices within =
    let time : cycles_of (done ++ issue k ∷ []) ≡ cycles_of done = omega (arith, cycles_of-append done (issue k ∷ [])) in
    let here : cycles_of done + 0 ≡ cycles_of done = omega arith in
    let next = drop_more choices (issues_of done) 0 within in
    let pairs = calendar-append m 0 done (issue k ∷ []) choices in
    let first : calendar m (cycles_of done) (issue k ∷ []) (drop (issues_of done) choices) ≡ placed (cycles_of done) (chosen m k (slice_index choices (issues_of done))) = ap (calendar m (cycles_of done) (issue k ∷ [])) next ∙ append-nil _ in
    rw (time, pairs, here, first) refl

left_by_ask : {U : Type 0} (m : Pipeline U) (done : List Event) (a u : ℕ) (choices : List ℕ) → left_by m (done ++ ask a u ∷ []) choices ≡ left_by m done choices
left_by_ask m done a u choices =
    let time : cycles_of (done ++ ask a u ∷ []) ≡ cycles_of done = omega (arith, cycles_of-append done (ask a u ∷ [])) in
    let pairs = calendar-append m 0 done (ask a u ∷ []) choices ∙ append-nil (calendar m 0 done choices) in
    rw (time, pairs) refl

-- what is accepted can be run, to what the choices leave
run_through : {U : Type 0} (m : Pipeline U) (t : List Event) (choices : List ℕ) → IsChoice m t choices → (done todo : List Event) → t ≡ done ++ todo → Plays m start done (left_by m done choices) → Plays m start t (left_by m t choices)
run_through m t choices is done [] all run =
    let same : done ≡ t = sym (all ∙ append-nil done) in
    subst (λ (d : List Event). Plays m start d (left_by m d choices)) same run
run_through m t choices is done (advance n ∷ todo) all run =
    run_through m t choices is (done ++ advance n ∷ []) todo (all ∙ sym (append_assoc done (advance n ∷ []) todo))
    (run_more m start (left_by m done choices) (left_by m (done ++ advance n ∷ []) choices) done (advance n) run (left_by_advance m done n choices))
run_through m t choices is done (ask a u ∷ todo) all run =
    run_through m t choices is (done ++ ask a u ∷ []) todo (all ∙ sym (append_assoc done (ask a u ∷ []) todo))
    (run_more m start (left_by m done choices) (left_by m (done ++ ask a u ∷ []) choices) done (ask a u) run (left_by_ask m done a u choices))
run_through m t choices is done (issue k ∷ todo) all run =
    let within : issues_of done < length choices = omega (arith, is.each, ap issues_of all, issues_of-append done (issue k ∷ todo)) in
    run_through m t choices is (done ++ issue k ∷ []) todo (all ∙ sym (append_assoc done (issue k ∷ []) todo))
    (run_more m start (left_by m done choices) (left_by m (done ++ issue k ∷ []) choices) done (issue k) run
    (slice_index choices (issues_of done), is.may done todo k all, left_by_issue m done k choices within))

-- what choices leave from a state on
abbrev left_from : {U : Type 0} → Pipeline U → State U → List Event → List ℕ → State U
left_from m s t choices = record { reserved = s.reserved ++ calendar m s.now t choices; now = cycles_of t + s.now }

-- choices from a state on, each of which may be taken, and what they leave
record ChoosesTo {U : Type 0} (m : Pipeline U) (s : State U) (t : List Event) (new : State U) : Type 0 where
  choices : List ℕ
  each : length choices ≡ issues_of t
  may : (before after : List Event) (k : ℕ) → t ≡ before ++ issue k ∷ after → MayTake m (left_from m s before choices) k (slice_index choices (issues_of before))
  leaves : new ≡ left_from m s t choices

pub none_last : (before after : List Event) (k : ℕ) → [] ≡ before ++ issue k ∷ after → ⊥
none_last before after k e = let n = ap length e in let sum = length-append before (issue k ∷ after) in omega arith

-- lists of events that are equal begin and go on alike
pub same_first : (d e : Event) (xs ys : List Event) → d ∷ xs ≡ e ∷ ys → d ≡ e
same_first d e xs ys h = cc

pub same_rest : (d e : Event) (xs ys : List Event) → d ∷ xs ≡ e ∷ ys → xs ≡ ys
same_rest d e xs ys h = cc

pub no_advance : (n k : ℕ) → advance n ≡ issue k → ⊥
no_advance n k h = cc

no_ask : (n a u : ℕ) → advance n ≡ ask a u → ⊥
no_ask n a u h = cc

issue_no_ask : (k a u : ℕ) → issue k ≡ ask a u → ⊥
issue_no_ask k a u h = cc

pub ask_no_issue : (k a u : ℕ) → ask a u ≡ issue k → ⊥
ask_no_issue k a u h = cc

pub ask_no_advance : (n a u : ℕ) → ask a u ≡ advance n → ⊥
ask_no_advance n a u h = cc

same_issue : (j k : ℕ) → issue j ≡ issue k → j ≡ k
same_issue j k h = cc

same_advance : (j k : ℕ) → advance j ≡ advance k → j ≡ k
same_advance j k h = cc

-- an advance before the others
may_later : {U : Type 0} (m : Pipeline U) (s new : State U) (n : ℕ) (t : List Event) (is : ChoosesTo m (record { reserved = s.reserved; now = n + s.now }) t new) → (before after : List Event) (k : ℕ) → advance n ∷ t ≡ before ++ issue k ∷ after → MayTake m (left_from m s before is.choices) k (slice_index is.choices (issues_of before))
may_later m s new n t is [] after k e = absurd (no_advance n k (same_first _ _ _ _ e))
may_later m s new n t is (issue j ∷ before) after k e = absurd (no_advance n j (same_first _ _ _ _ e))
may_later m s new n t is (ask a u ∷ before) after k e = absurd (no_ask n a u (same_first _ _ _ _ e))
may_later m s new n t is (advance j ∷ before) after k e =
    let same = same_advance n j (same_first _ _ _ _ e) in
    let tail = same_rest _ _ _ _ e in
    let time : cycles_of before + (n + s.now) ≡ n + cycles_of before + s.now = omega arith in
    subst (λ (i : ℕ). MayTake m (left_from m s (advance i ∷ before) is.choices) k (slice_index is.choices (issues_of before))) same
    (subst (λ (c : ℕ). MayTake m (record { reserved = s.reserved ++ calendar m (n + s.now) before is.choices; now = c }) k (slice_index is.choices (issues_of before))) time (is.may before after k tail))

after_advance : {U : Type 0} (m : Pipeline U) (s new : State U) (n : ℕ) (t : List Event) → ChoosesTo m (record { reserved = s.reserved; now = n + s.now }) t new → ChoosesTo m s (advance n ∷ t) new
after_advance {U} m s new n t is =
    let time : cycles_of t + (n + s.now) ≡ n + cycles_of t + s.now = omega arith in
    record {
      choices = is.choices;
      each = is.each;
      may = may_later m s new n t is;
      leaves = is.leaves ∙ ap (λ (c : ℕ). let q : State U = record { reserved = s.reserved ++ calendar m (n + s.now) t is.choices; now = c } in q) time;
    }

-- an issue before the others
may_now : {U : Type 0} (m : Pipeline U) (s new : State U) (k i : ℕ) (t : List Event) → MayTake m s k i → (is : ChoosesTo m (record { reserved = s.reserved ++ placed s.now (chosen m k i); now = s.now }) t new) → (before after : List Event) (j : ℕ) → issue k ∷ t ≡ before ++ issue j ∷ after → MayTake m (left_from m s before (i ∷ is.choices)) j (slice_index (i ∷ is.choices) (issues_of before))
may_now m s new k i t may is [] after j e =
    let same = same_issue k j (same_first _ _ _ _ e) in
    subst (λ (l : ℕ). MayTake m (left_from m s [] (i ∷ is.choices)) l i) same
    (rw (append-nil s.reserved, zero-add s.now) may)
may_now m s new k i t may is (advance n ∷ before) after j e = absurd (no_advance n k (sym (same_first _ _ _ _ e)))
may_now m s new k i t may is (ask a u ∷ before) after j e = absurd (issue_no_ask k a u (same_first _ _ _ _ e))
may_now {U} m s new k i t may is (issue l ∷ before) after j e =
    let same = same_issue k l (same_first _ _ _ _ e) in
    let tail = same_rest _ _ _ _ e in
    let regrouped = append_assoc s.reserved (placed s.now (chosen m k i)) (calendar m s.now before is.choices) in
    subst (λ (h : ℕ). MayTake m (left_from m s (issue h ∷ before) (i ∷ is.choices)) j (slice_index is.choices (issues_of before))) same
    (subst (λ (ps : List (Pair U)). MayTake m (record { reserved = ps; now = cycles_of before + s.now }) j (slice_index is.choices (issues_of before))) regrouped (is.may before after j tail))

after_issue : {U : Type 0} (m : Pipeline U) (s new : State U) (k i : ℕ) (t : List Event) → MayTake m s k i → ChoosesTo m (record { reserved = s.reserved ++ placed s.now (chosen m k i); now = s.now }) t new → ChoosesTo m s (issue k ∷ t) new
after_issue {U} m s new k i t may is = record {
  choices = i ∷ is.choices;
  each = ap suc is.each;
  may = may_now m s new k i t may is;
  leaves = is.leaves ∙ ap (λ (ps : List (Pair U)). let q : State U = record { reserved = ps; now = cycles_of t + s.now } in q) (append_assoc s.reserved (placed s.now (chosen m k i)) (calendar m s.now t is.choices));
}

-- an ask before the others
may_asked : {U : Type 0} (m : Pipeline U) (s new : State U) (a u : ℕ) (t : List Event) (is : ChoosesTo m s t new) → (before after : List Event) (k : ℕ) → ask a u ∷ t ≡ before ++ issue k ∷ after → MayTake m (left_from m s before is.choices) k (slice_index is.choices (issues_of before))
may_asked m s new a u t is [] after k e = absurd (ask_no_issue k a u (same_first _ _ _ _ e))
may_asked m s new a u t is (issue j ∷ before) after k e = absurd (ask_no_issue j a u (same_first _ _ _ _ e))
may_asked m s new a u t is (advance j ∷ before) after k e = absurd (ask_no_advance j a u (same_first _ _ _ _ e))
may_asked m s new a u t is (ask b v ∷ before) after k e = is.may before after k (same_rest _ _ _ _ e)

after_ask : {U : Type 0} (m : Pipeline U) (s new : State U) (a u : ℕ) (t : List Event) → ChoosesTo m s t new → ChoosesTo m s (ask a u ∷ t) new
after_ask m s new a u t is = record { choices = is.choices; each = is.each; may = may_asked m s new a u t is; leaves = is.leaves }

-- the choices of a run
choices_of : {U : Type 0} (m : Pipeline U) (s new : State U) (t : List Event) → Plays m s t new → ChoosesTo m s t new
choices_of {U} m s new [] run = record {
  choices = [];
  each = refl;
  may = λ before after k e. absurd (none_last before after k e);
  leaves = run ∙ rw (append-nil s.reserved, zero-add s.now) refl;
}
choices_of {U} m s new (advance n ∷ t) (middle, step, run) =
    after_advance m s new n t (subst (λ (q : State U). ChoosesTo m q t new) step (choices_of m middle new t run))
choices_of {U} m s new (ask a u ∷ t) (middle, step, run) =
    after_ask m s new a u t (subst (λ (q : State U). ChoosesTo m q t new) step (choices_of m middle new t run))
choices_of {U} m s new (issue k ∷ t) (middle, (i, may, step), run) =
    after_issue m s new k i t may (subst (λ (q : State U). ChoosesTo m q t new) step (choices_of m middle new t run))

-- a run from the start is one of choices
pub chosen_run : {U : Type 0} (m : Pipeline U) (t : List Event) (new : State U) → Plays m start t new → (choices : List ℕ) × IsChoice m t choices × (new ≡ left_by m t choices)
chosen_run {U} m t new run =
    let is = choices_of m start new t run in
    let at_start : cycles_of t + 0 ≡ cycles_of t = omega arith in (
      is.choices,
      record {
        each = is.each;
        may = λ before after k e.
            subst (λ (c : ℕ). MayTake m (record { reserved = calendar m 0 before is.choices; now = c }) k (slice_index is.choices (issues_of before))) (add-zero (cycles_of before)) (is.may before after k e);
      },
      is.leaves ∙ ap (λ (c : ℕ). let q : State U = record { reserved = calendar m 0 t is.choices; now = c } in q) at_start,
    )

-- the two readings of acceptance agree
pub run_of_choices : {U : Type 0} (m : Pipeline U) (t : List Event) (choices : List ℕ) → IsChoice m t choices → Plays m start t (left_by m t choices)
run_of_choices m t choices is = run_through m t choices is [] t refl refl

pub runs_from_accepted : {U : Type 0} (m : Pipeline U) (t : List Event) → Accepted m t → IsPlayable m t
runs_from_accepted m t (choices, is) = (left_by m t choices, run_of_choices m t choices is)

pub accepted_from_runs : {U : Type 0} (m : Pipeline U) (t : List Event) → IsPlayable m t → Accepted m t
accepted_from_runs m t (new, run) = let found = chosen_run m t new run in (found.0, found.1)
