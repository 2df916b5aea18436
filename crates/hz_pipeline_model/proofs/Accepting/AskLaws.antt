-- Asks change nothing, and what they are answered is decided.
use Rattle.std.proofs.Common.{◌≡◌, ℕ, zero, suc, ◌+◌, ◌<◌, ◌⊎◌, inl, inr, Bool, true, false, List, [], ◌∷◌, ◌++◌, length, take, slice_index, Contains, Some, refl, sym, ap, ◌∙◌, subst, arith, add-one}
use Rattle.std.specs.Prelude.{◌↔◌, slice_get}
use Rattle.std.proofs.lemmas.Bool.{both_ways}
use Rattle.hz_base_model.specs.Pairs.{Pair, placed}
use Rattle.hz_pipeline_model.specs.Accepting.Events.{Event, issue, advance, ask, issues_of, cycles_of}
use Rattle.hz_pipeline_model.specs.Accepting.Replay.{Pipeline, Treatment, first_fit, State, start, Plays, Accepted, IsChoice, ChoiceFirst, FirstRefused, MayTake, calendar, chosen, left_by}
use Rattle.hz_pipeline_model.specs.Accepting.Asking.{IsHeld, issues_and_advances}
use Rattle.hz_pipeline_model.specs.Accepting.Plays.{Tells, has, accepts}
use Rattle.hz_pipeline_model.proofs.Accepting.ReplayLaws.{none_last, same_first, same_rest, no_advance, ask_no_issue, chosen_run, runs_from_accepted, accepted_from_runs}
use Rattle.hz_pipeline_model.proofs.Accepting.ChoiceLaws.{one_choice}
use Rattle.hz_pipeline_model.proofs.Accepting.AcceptanceLaws.{refused_issue}
use Rattle.hz_pipeline_model.proofs.Accepting.PlayLaws.{accepts_decides, has_decides}

-- ---- without the asks

pub cycles_without : (t : List Event) → cycles_of (issues_and_advances t) ≡ cycles_of t
cycles_without [] = refl
cycles_without (issue k ∷ t) = cycles_without t
cycles_without (advance n ∷ t) = ap (λ (c : ℕ). n + c) (cycles_without t)
cycles_without (ask a u ∷ t) = cycles_without t

pub issues_without : (t : List Event) → issues_of (issues_and_advances t) ≡ issues_of t
issues_without [] = refl
issues_without (issue k ∷ t) = ap suc (issues_without t)
issues_without (advance n ∷ t) = issues_without t
issues_without (ask a u ∷ t) = issues_without t

module _ {U : Type 0} (m : Pipeline U) where
  pub calendar_without : (now : ℕ) (t : List Event) (choices : List ℕ) → calendar m now (issues_and_advances t) choices ≡ calendar m now t choices
  calendar_without now [] choices = refl
  calendar_without now (advance n ∷ t) choices = calendar_without (n + now) t choices
  calendar_without now (ask a u ∷ t) choices = calendar_without now t choices
  calendar_without now (issue k ∷ t) [] = refl
  calendar_without now (issue k ∷ t) (i ∷ choices) = ap (λ (ps : List (Pair U)). placed now (chosen m k i) ++ ps) (calendar_without now t choices)

  run_without : (t : List Event) (s q : State U) → Plays m s t q → Plays m s (issues_and_advances t) q
  run_without [] s q run = run
  run_without (issue k ∷ t) s q (middle, step, run) = (middle, step, run_without t middle q run)
  run_without (advance n ∷ t) s q (middle, step, run) = (middle, step, run_without t middle q run)
  run_without (ask a u ∷ t) s q (middle, step, run) = run_without t s q (subst (λ (p : State U). Plays m p t q) step run)

  run_with : (t : List Event) (s q : State U) → Plays m s (issues_and_advances t) q → Plays m s t q
  run_with [] s q run = run
  run_with (issue k ∷ t) s q (middle, step, run) = (middle, step, run_with t middle q run)
  run_with (advance n ∷ t) s q (middle, step, run) = (middle, step, run_with t middle q run)
  run_with (ask a u ∷ t) s q run = (s, refl, run_with t s q run)

  pub runs_without : (t : List Event) (s q : State U) → Plays m s t q ↔ Plays m s (issues_and_advances t) q
  runs_without t s q = (run_without t s q, run_with t s q)

  pub accepted_without : (t : List Event) → Accepted m t ↔ Accepted m (issues_and_advances t)
  accepted_without t = (
    λ h. let run = runs_from_accepted m t h in accepted_from_runs m (issues_and_advances t) (run.0, run_without t start run.0 run.1),
    λ h. let run = runs_from_accepted m (issues_and_advances t) h in accepted_from_runs m t (run.0, run_with t start run.0 run.1),
  )

-- ---- the same choices

pub without-append : (xs ys : List Event) → issues_and_advances (xs ++ ys) ≡ issues_and_advances xs ++ issues_and_advances ys
without-append [] ys = refl
without-append (issue k ∷ xs) ys = ap (λ (es : List Event). issue k ∷ es) (without-append xs ys)
without-append (advance n ∷ xs) ys = ap (λ (es : List Event). advance n ∷ es) (without-append xs ys)
without-append (ask a u ∷ xs) ys = without-append xs ys

-- the place of an issue among all events, by that among the others
record Among (t before after : List Event) (k : ℕ) : Type 0 where
  front : List Event
  rest : List Event
  parts : t ≡ front ++ issue k ∷ rest
  bare : issues_and_advances front ≡ before

after_event : (e : Event) (t before after : List Event) (k : ℕ) → ((es : List Event) → issues_and_advances (e ∷ es) ≡ e ∷ issues_and_advances es) → Among t before after k → Among (e ∷ t) (e ∷ before) after k
after_event e t before after k stays a = record {
  front = e ∷ a.front;
  rest = a.rest;
  parts = ap (λ (es : List Event). e ∷ es) a.parts;
  bare = stays a.front ∙ ap (λ (es : List Event). e ∷ es) a.bare;
}

after_ask : (a u : ℕ) (t before after : List Event) (k : ℕ) → Among t before after k → Among (ask a u ∷ t) before after k
after_ask a u t before after k there = record { front = ask a u ∷ there.front; rest = there.rest; parts = ap (λ (es : List Event). ask a u ∷ es) there.parts; bare = there.bare }

among : (t before after : List Event) (k : ℕ) → issues_and_advances t ≡ before ++ issue k ∷ after → Among t before after k
among [] before after k e = absurd (none_last before after k e)
among (ask a u ∷ t) before after k e = after_ask a u t before after k (among t before after k e)
among (issue l ∷ t) [] after k e = record { front = []; rest = t; parts = ap (λ (f : Event). f ∷ t) (same_first _ _ _ _ e); bare = refl }
among (issue l ∷ t) (f ∷ before) after k e =
    subst (λ (g : Event). Among (issue l ∷ t) (g ∷ before) after k) (same_first _ _ _ _ e)
    (after_event (issue l) t before after k (λ es. refl) (among t before after k (same_rest _ _ _ _ e)))
among (advance n ∷ t) [] after k e = absurd (no_advance n k (same_first _ _ _ _ e))
among (advance n ∷ t) (f ∷ before) after k e =
    subst (λ (g : Event). Among (advance n ∷ t) (g ∷ before) after k) (same_first _ _ _ _ e)
    (after_event (advance n) t before after k (λ es. refl) (among t before after k (same_rest _ _ _ _ e)))

module _ {U : Type 0} (m : Pipeline U) where
  left_without : (t : List Event) (choices : List ℕ) → left_by m (issues_and_advances t) choices ≡ left_by m t choices
  left_without t choices =
      let pairs = calendar_without m 0 t choices in
      let time = cycles_without t in
      rw (pairs, time) refl

  abbrev MayAt : List Event → List ℕ → ℕ → Type 0
  MayAt before choices k = MayTake m (left_by m before choices) k (slice_index choices (issues_of before))

  may_without : (before : List Event) (choices : List ℕ) (k : ℕ) → MayAt before choices k → MayAt (issues_and_advances before) choices k
  may_without before choices k may =
      subst (λ (n : ℕ). MayTake m (left_by m (issues_and_advances before) choices) k (slice_index choices n)) (sym (issues_without before))
      (subst (λ (s : State U). MayTake m s k (slice_index choices (issues_of before))) (sym (left_without before choices)) may)

  may_with : (before : List Event) (choices : List ℕ) (k : ℕ) → MayAt (issues_and_advances before) choices k → MayAt before choices k
  may_with before choices k may =
      subst (λ (n : ℕ). MayTake m (left_by m before choices) k (slice_index choices n)) (issues_without before)
      (subst (λ (s : State U). MayTake m s k (slice_index choices (issues_of (issues_and_advances before)))) (left_without before choices) may)

  pub choice_without : (t : List Event) (choices : List ℕ) → IsChoice m t choices ↔ IsChoice m (issues_and_advances t) choices
  choice_without t choices = (
    λ is. record {
      each = is.each ∙ sym (issues_without t);
      may = λ before after k e.
          let a = among t before after k e in
          subst (λ (es : List Event). MayAt es choices k) a.bare (may_without a.front choices k (is.may a.front a.rest k a.parts));
    },
    λ is. record {
      each = is.each ∙ issues_without t;
      may = λ before after k e. may_with before choices k (is.may (issues_and_advances before) (issues_and_advances after) k (ap issues_and_advances e ∙ without-append before (issue k ∷ after)));
    },
  )

-- ---- the first refused event

-- A place among all events and the place among the others that stand for the same event.
record Meets (t : List Event) (i j : ℕ) : Type 0 where
  within : i < length t
  there : j < length (issues_and_advances t)
  number : j ≡ length (issues_and_advances (take i t))
  before : take j (issues_and_advances t) ≡ issues_and_advances (take i t)
  after : take (suc j) (issues_and_advances t) ≡ issues_and_advances (take (suc i) t)

meets_next : (e : Event) (t : List Event) (i j : ℕ) → ((es : List Event) → issues_and_advances (e ∷ es) ≡ e ∷ issues_and_advances es) → Meets t i j → Meets (e ∷ t) (suc i) (suc j)
meets_next e t i j stays h =
    let within = h.within in
    let there = h.there in
    let onto = λ (es : List Event). e ∷ es in
    record {
      within = omega arith;
      there = rw (stays t) (omega (arith, there));
      number = ap suc h.number ∙ ap length (sym (stays (take i t)));
      before = rw (stays t) (ap onto h.before ∙ sym (stays (take i t)));
      after = rw (stays t) (ap onto h.after ∙ sym (stays (take (suc i) t)));
    }

meets_ask : (a u : ℕ) (t : List Event) (i j : ℕ) → Meets t i j → Meets (ask a u ∷ t) (suc i) j
meets_ask a u t i j h = record { within = (let within = h.within in omega arith); there = h.there; number = h.number; before = h.before; after = h.after }

meets_here : (e : Event) (t : List Event) → ((es : List Event) → issues_and_advances (e ∷ es) ≡ e ∷ issues_and_advances es) → Meets (e ∷ t) 0 0
meets_here e t stays = record {
  within = omega arith;
  there = rw (stays t) (omega arith);
  number = refl;
  before = refl;
  after = rw (stays t) (sym (stays []));
}

-- the place of an issue
from_issue : (t : List Event) (i k : ℕ) → slice_get t i ≡ Some (issue k) → (j : ℕ) × Meets t i j
from_issue [] i k is = absurd (cc)
from_issue (issue l ∷ t) zero k is = (0, meets_here (issue l) t (λ es. refl))
from_issue (advance n ∷ t) zero k is = (0, meets_here (advance n) t (λ es. refl))
from_issue (ask a u ∷ t) zero k is = let same : ask a u ≡ issue k = cc in absurd (ask_no_issue k a u same)
from_issue (issue l ∷ t) (suc i) k is = let rest = from_issue t i k is in (suc rest.0, meets_next (issue l) t i rest.0 (λ es. refl) rest.1)
from_issue (advance n ∷ t) (suc i) k is = let rest = from_issue t i k is in (suc rest.0, meets_next (advance n) t i rest.0 (λ es. refl) rest.1)
from_issue (ask a u ∷ t) (suc i) k is = let rest = from_issue t i k is in (rest.0, meets_ask a u t i rest.0 rest.1)

-- the place of an event that is no ask
from_other : (t : List Event) (j : ℕ) → j < length (issues_and_advances t) → (i : ℕ) × Meets t i j
from_other [] j h = absurd (omega (arith, h))
from_other (issue l ∷ t) zero h = (0, meets_here (issue l) t (λ es. refl))
from_other (advance n ∷ t) zero h = (0, meets_here (advance n) t (λ es. refl))
from_other (issue l ∷ t) (suc j) h = let rest = from_other t j (omega (arith, h)) in (suc rest.0, meets_next (issue l) t rest.0 j (λ es. refl) rest.1)
from_other (advance n ∷ t) (suc j) h = let rest = from_other t j (omega (arith, h)) in (suc rest.0, meets_next (advance n) t rest.0 j (λ es. refl) rest.1)
from_other (ask a u ∷ t) j h = let rest = from_other t j h in (suc rest.0, meets_ask a u t rest.0 j rest.1)

module _ {U : Type 0} (m : Pipeline U) where
  refused_there : (t : List Event) (i j : ℕ) → Meets t i j → FirstRefused m t i → FirstRefused m (issues_and_advances t) j
  refused_there t i j is h = record {
    within = is.there;
    before = subst (Accepted m) (sym is.before) ((accepted_without m (take i t)).0 h.before);
    refused = λ accepted.
        h.refused (rw (add-one i) ((accepted_without m (take (suc i) t)).1 (subst (Accepted m) is.after (rw (add-one j) at accepted))));
  }

  refused_back : (t : List Event) (i j : ℕ) → Meets t i j → FirstRefused m (issues_and_advances t) j → FirstRefused m t i
  refused_back t i j is h = record {
    within = is.within;
    before = (accepted_without m (take i t)).1 (subst (Accepted m) is.before h.before);
    refused = λ accepted.
        h.refused (rw (add-one j) (subst (Accepted m) (sym is.after) ((accepted_without m (take (suc i) t)).0 (rw (add-one i) at accepted))));
  }

  pub refused_without : (t : List Event) (j : ℕ) → FirstRefused m (issues_and_advances t) j ↔ ((i : ℕ) × FirstRefused m t i × (j ≡ length (issues_and_advances (take i t))))
  refused_without t j = (
    λ h. let at = from_other t j h.within in (at.0, refused_back t at.0 j at.1 h, at.1.number),
    λ (i, h, number).
        let issued = refused_issue m t i h in
        let at = from_issue t i issued.0 issued.1 in
        subst (FirstRefused m (issues_and_advances t)) (at.1.number ∙ sym number) (refused_there t i at.0 at.1 h),
  )

-- ---- what is held

-- In the first treatment a pipeline is the one of its first choice.
pub first_of : {U : Type 0} (m : Pipeline U) → m.treatment ≡ first_fit → record m { treatment = first_fit } ≡ m
first_of m e = ap (λ (treatment : Treatment). record m { treatment = treatment }) (sym e)

pub by_first : {U : Type 0} (m : Pipeline U) → m.treatment ≡ first_fit → (t : List Event) (choices : List ℕ) → ChoiceFirst m t choices ↔ IsChoice m t choices
by_first {U} m first t choices = (
  subst (λ (o : Pipeline U). IsChoice o t choices) (first_of m first),
  subst (λ (o : Pipeline U). IsChoice o t choices) (sym (first_of m first)),
)

module _ {U : Type 0} (m : Pipeline U) where
  abbrev now_of : List Event → U → Pair U
  now_of t unit = record { unit = unit; cycle = cycles_of t }

  -- by the one choice there is
  pub held_by_choice : (t : List Event) (choices : List ℕ) → ChoiceFirst m t choices → (unit : U) → IsHeld m t unit ↔ Contains (calendar m 0 t choices) (now_of t unit)
  held_by_choice t choices is unit = (
    λ (others, by, held). subst (λ (cs : List ℕ). Contains (calendar m 0 t cs) (now_of t unit)) (one_choice (record m { treatment = first_fit }) refl t others choices by is) held,
    λ held. (choices, is, held),
  )

  -- by what a run leaves
  pub held_by_run : m.treatment ≡ first_fit → (t : List Event) (s : State U) → Plays m start t s → (unit : U) → IsHeld m t unit ↔ Contains s.reserved (record { unit = unit; cycle = s.now })
  held_by_run first t s run unit =
      let (choices, is, led) = chosen_run m t s run in
      let both = held_by_choice t choices ((by_first m first t choices).1 is) unit in
      subst (λ (q : State U). IsHeld m t unit ↔ Contains q.reserved (record { unit = unit; cycle = q.now })) (sym led) both

  pub held_without : (t : List Event) (unit : U) → IsHeld m t unit ↔ IsHeld m (issues_and_advances t) unit
  held_without t unit = (
    λ (choices, is, held).
        (choices, (choice_without (record m { treatment = first_fit }) t choices).0 is, rw (calendar_without m 0 t choices, cycles_without t) held),
    λ (choices, is, held).
        (choices, (choice_without (record m { treatment = first_fit }) t choices).1 is, rw (calendar_without m 0 t choices, cycles_without t) at held),
  )

  module _ (same : U → U → Bool) (tells : Tells same) where
    pub held_or_free : (t : List Event) (unit : U) → IsHeld m t unit ⊎ (IsHeld m t unit → ⊥)
    held_or_free t unit = by_test (accepts same (record m { treatment = first_fit }) t) refl
      where
        by_pair : (choices : List ℕ) → ChoiceFirst m t choices → (b : Bool) → has same (calendar m 0 t choices) (now_of t unit) ≡ b → IsHeld m t unit ⊎ (IsHeld m t unit → ⊥)
        by_pair choices is true e = inl (choices, is, (has_decides same tells (calendar m 0 t choices) (now_of t unit)).0 e)
        by_pair choices is false e =
            inr (λ held. both_ways _ e ((has_decides same tells (calendar m 0 t choices) (now_of t unit)).1 ((held_by_choice t choices is unit).0 held)))

        by_test : (b : Bool) → accepts same (record m { treatment = first_fit }) t ≡ b → IsHeld m t unit ⊎ (IsHeld m t unit → ⊥)
        by_test true e = let (choices, is) = (accepts_decides same tells (record m { treatment = first_fit }) t).0 e in by_pair choices is (has same (calendar m 0 t choices) (now_of t unit)) refl
        by_test false e = inr (λ held. both_ways _ e ((accepts_decides same tells (record m { treatment = first_fit }) t).1 (held.0, held.1)))
