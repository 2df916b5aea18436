-- Runs of a pipeline whose classes factor: what it accepts, refuses and holds.
use Rattle.std.proofs.Common.{◌≡◌, ℕ, zero, suc, ◌+◌, ◌<◌, ◌⊎◌, inl, inr, ⊎_elim, Bool, true, false, List, [], ◌∷◌, ◌++◌, take, Contains, refl, sym, ap, ◌∙◌, subst, arith}
use Rattle.std.specs.Prelude.{◌==◌, ◌↔◌}
use Rattle.std.proofs.lemmas.Bool.{cases_lt, both_ways}
use Rattle.std.proofs.lemmas.Bool.Decides.{Decides-eqb}
use Rattle.hz_base_model.specs.Pairs.{Pair, placed}
use Rattle.hz_description_model.specs.Reservations.Automata.{UnitPlace, cut, inside, list_in}
use Rattle.hz_pipeline_model.specs.Accepting.Events.{Event, issue, advance, ask}
use Rattle.hz_pipeline_model.specs.Accepting.Plays.{accepts}
use Rattle.hz_pipeline_model.specs.Accepting.Replay.{Pipeline, State, start, first_fit, Step, Plays, MayTake, Accepted, FirstRefused, chosen}
use Rattle.hz_pipeline_model.specs.Accepting.Asking.{IsHeld}
use Rattle.hz_pipeline_model.specs.Accepting.Restricted.{restricted}
use Rattle.hz_description_model.proofs.Reservations.ListInLaws.{Contains-list_in, Contains-from_list_in}
use Rattle.hz_pipeline_model.proofs.Accepting.AskLaws.{held_by_run}
use Rattle.hz_pipeline_model.proofs.Accepting.PlayLaws.{accepts_decides}
use Rattle.hz_pipeline_model.proofs.Accepting.ReplayLaws.{runs_from_accepted, accepted_from_runs}
use Rattle.hz_pipeline_model.specs.Pipelines.Factored.{IsUnion, state_in}
use Rattle.hz_pipeline_model.proofs.Pipelines.Choices.{Alt, At, there, Joined, Factors}
use Rattle.hz_pipeline_model.proofs.Accepting.InsideFits.{at_inside, IsSeen, seen_nil, seen_append, seen_placed, seen_cut, seen_same, alike_cut}
use Rattle.hz_pipeline_model.proofs.Pipelines.SideBySide.{settle, at_contained, may_same, IsJoint, chosen_low, taken_whole, taken_part}

-- ---- unions of grids

-- pairs of so many automata are the union of their grids
pub union_of : (count : ℕ) (grids : ℕ → List (Pair ℕ)) (pairs : List (Pair UnitPlace)) → ((p : Pair UnitPlace) → Contains pairs p → p.unit.automaton < count) → ((a : ℕ) → a < count → cut a pairs ≡ grids a) → IsUnion count grids pairs
union_of count grids pairs low cuts = λ p.
    let a = p.unit.automaton in
    let back = at_inside a p refl in (
      λ h. (low p h, subst (λ (g : List (Pair ℕ)). Contains g (inside p)) (cuts a (low p h)) (((seen_cut a pairs).same (inside p)).1 (subst (λ (q : Pair UnitPlace). Contains pairs q) (sym back) h))),
      λ h. subst (λ (q : Pair UnitPlace). Contains pairs q) back (((seen_cut a pairs).same (inside p)).0 (subst (λ (g : List (Pair ℕ)). Contains g (inside p)) (sym (cuts a h.0)) h.1)),
    )

module _ (count : ℕ) (some : 0 < count) (xs : List Alt) (low : (x : Alt) → Contains xs x → (p : Pair UnitPlace) → Contains x.pairs p → p.unit.automaton < count) where
  -- one grid from each list is an alternative
  pub union_there : Factors count xs → (grids : ℕ → List (Pair ℕ)) → ((a : ℕ) → a < count → Contains (list_in a xs) (grids a)) → (x : Alt) × Contains xs x × IsUnion count grids x.pairs
  union_there factors grids there_in = (
    (joined.at).item,
    there xs joined.at,
    union_of count grids (((joined.at).item).pairs) (low ((joined.at).item) (there xs joined.at))
        (λ a lt. alike_cut a (((joined.at).item).pairs) (((items a).item).pairs) (joined.joins a lt) ∙ (settled a).1 lt),
  )
    where
      found : (a : ℕ) → a < count → (x : At xs) × (cut a ((x.item).pairs) ≡ grids a)
      found a lt =
          let from = Contains-from_list_in a xs (grids a) (there_in a lt) in
          let at = at_contained xs from.0 from.1 in
          (at.0, ap (λ (x : Alt). cut a x.pairs) at.1 ∙ from.2)

      settled : (a : ℕ) → (x : At xs) × (a < count → cut a ((x.item).pairs) ≡ grids a)
      settled = settle (λ a x. cut a ((x.item).pairs) ≡ grids a) count ((found 0 some).0) found

      items : ℕ → At xs
      items a = (settled a).0

      joined : Joined count xs items
      joined = factors.join items

  -- each alternative is the union of its grids
  pub union_only : (x : Alt) → Contains xs x → ((a : ℕ) → Contains (list_in a xs) (cut a x.pairs)) × IsUnion count (λ a. cut a x.pairs) x.pairs
  union_only x h = (λ a. Contains-list_in a xs x h, union_of count (λ a. cut a x.pairs) x.pairs (low x h) (λ a lt. refl))

-- ---- runs

-- what stands reserved in the automaton
pub record Follows (a : ℕ) (s : State UnitPlace) (r : State ℕ) : Type 0 where
  pub now : r.now ≡ s.now
  pub seen : IsSeen a s.reserved r.reserved

pub follows_start : (a : ℕ) → Follows a start start
follows_start a = record { now = refl; seen = seen_nil a }

follows_advance : (a n : ℕ) (s : State UnitPlace) (r : State ℕ) → Follows a s r → Follows a (record { reserved = s.reserved; now = n + s.now }) (record { reserved = r.reserved; now = n + r.now })
follows_advance a n s r f = record { now = ap (λ (c : ℕ). n + c) f.now; seen = f.seen }

follows_issue : (a : ℕ) (s : State UnitPlace) (r : State ℕ) (pairs : List (Pair UnitPlace)) (grid : List (Pair ℕ)) → Follows a s r → grid ≡ cut a pairs
    → Follows a (record { reserved = s.reserved ++ placed s.now pairs; now = s.now }) (record { reserved = r.reserved ++ placed r.now grid; now = r.now })
follows_issue a s r pairs grid f e = record {
  now = f.now;
  seen = subst (λ (n : ℕ). IsSeen a (s.reserved ++ placed s.now pairs) (r.reserved ++ placed n grid)) (sym f.now)
      (seen_append a s.reserved (placed s.now pairs) r.reserved (placed s.now grid) f.seen
      (seen_placed a s.now pairs grid (subst (λ (g : List (Pair ℕ)). IsSeen a pairs g) (sym e) (seen_cut a pairs))));
}

module _ (count : ℕ) (m : Pipeline UnitPlace) (joint : IsJoint count m) where
  abbrev into_state : (a : ℕ) (s : State UnitPlace) (r : State ℕ) → Follows a s r → (k j : ℕ) → MayTake (restricted a m) r k j → MayTake (restricted a m) (state_in a s) k j
  into_state a s r f k j may = may_same (restricted a m) r (state_in a s) (seen_same a s.reserved r.reserved (cut a s.reserved) f.seen (seen_cut a s.reserved)) f.now k j may

  from_state : (a : ℕ) (s : State UnitPlace) (r : State ℕ) → Follows a s r → (k j : ℕ) → MayTake (restricted a m) (state_in a s) k j → MayTake (restricted a m) r k j
  from_state a s r f k j may = may_same (restricted a m) (state_in a s) r (seen_same a s.reserved (cut a s.reserved) r.reserved (seen_cut a s.reserved) f.seen) (sym f.now) k j may

  -- what all take together is the union of what each takes
  pub taken_together : (s : State UnitPlace) (k : ℕ) (choices : ℕ → ℕ) → ((a : ℕ) → a < count → MayTake (restricted a m) (state_in a s) k (choices a))
      → (i : ℕ) × MayTake m s k i × ((a : ℕ) → a < count → chosen (restricted a m) k (choices a) ≡ cut a (chosen m k i)) × IsUnion count (λ a. chosen (restricted a m) k (choices a)) (chosen m k i)
  taken_together s k choices may =
      let all = taken_whole count m joint s k choices may in
      (all.0, all.1, all.2, union_of count (λ a. chosen (restricted a m) k (choices a)) (chosen m k all.0) (chosen_low count m joint k all.0) (λ a lt. sym (all.2 a lt)))

  -- a run is one of each automaton
  module _ (a : ℕ) (lt : a < count) where
    step_in : (e : Event) (s s' : State UnitPlace) (r : State ℕ) → Follows a s r → Step m s e s' → (r' : State ℕ) × Step (restricted a m) r e r' × Follows a s' r'
    step_in (advance n) s s' r f step = (
      record { reserved = r.reserved; now = n + r.now },
      refl,
      subst (λ (q : State UnitPlace). Follows a q (record { reserved = r.reserved; now = n + r.now })) (sym step) (follows_advance a n s r f),
    )
    step_in (ask b u) s s' r f step = (r, refl, subst (λ (q : State UnitPlace). Follows a q r) (sym step) f)
    step_in (issue k) s s' r f (i, may, step) =
        let part = taken_part count m joint s k i may a lt in
        let next : State ℕ = record { reserved = r.reserved ++ placed r.now (chosen (restricted a m) k part.0); now = r.now } in (
          next,
          (part.0, from_state a s r f k part.0 part.1, refl),
          subst (λ (q : State UnitPlace). Follows a q next) (sym step) (follows_issue a s r (chosen m k i) (chosen (restricted a m) k part.0) f part.2),
        )

    pub runs_in : (t : List Event) (s s' : State UnitPlace) (r : State ℕ) → Follows a s r → Plays m s t s' → (r' : State ℕ) × Plays (restricted a m) r t r' × Follows a s' r'
    runs_in [] s s' r f run = (r, refl, subst (λ (q : State UnitPlace). Follows a q r) (sym run) f)
    runs_in (e ∷ t) s s' r f (middle, step, run) =
        let one = step_in e s middle r f step in
        let rest = runs_in t middle s' one.0 one.2 run in
        (rest.0, (one.0, one.1, rest.1), rest.2)

  -- a run of each automaton is one of all
  abbrev Running : List Event → ℕ → State ℕ → Type 0
  Running t a r = (r' : State ℕ) × Plays (restricted a m) r t r'

  abbrev Issued : List Event → ℕ → State ℕ → ℕ → ℕ → Type 0
  Issued t k r a j = MayTake (restricted a m) r k j × Running t a (record { reserved = r.reserved ++ placed r.now (chosen (restricted a m) k j); now = r.now })

  issued : (t : List Event) (k a : ℕ) (r : State ℕ) → Running (issue k ∷ t) a r → (j : ℕ) × Issued t k r a j
  issued t k a r (r', (middle, (j, may, step), run)) = (j, (may, (r', subst (λ (q : State ℕ). Plays (restricted a m) q t r') step run)))

  advanced : (t : List Event) (n a : ℕ) (r : State ℕ) → Running (advance n ∷ t) a r → Running t a (record { reserved = r.reserved; now = n + r.now })
  advanced t n a r (r', (middle, step, run)) = (r', subst (λ (q : State ℕ). Plays (restricted a m) q t r') step run)

  asked : (t : List Event) (b u a : ℕ) (r : State ℕ) → Running (ask b u ∷ t) a r → Running t a r
  asked t b u a r (r', (middle, step, run)) = (r', subst (λ (q : State ℕ). Plays (restricted a m) q t r') step run)

  runs_out : (t : List Event) (s : State UnitPlace) (r : ℕ → State ℕ) → ((a : ℕ) → a < count → Follows a s (r a)) → ((a : ℕ) → a < count → Running t a (r a)) → (s' : State UnitPlace) × Plays m s t s'
  runs_out [] s r f runs = (s, refl)
  runs_out (advance n ∷ t) s r f runs =
      let rest = runs_out t (record { reserved = s.reserved; now = n + s.now }) (λ a. record { reserved = (r a).reserved; now = n + (r a).now })
      (λ a lt. follows_advance a n s (r a) (f a lt)) (λ a lt. advanced t n a (r a) (runs a lt)) in
      (rest.0, (record { reserved = s.reserved; now = n + s.now }, refl, rest.1))
  runs_out (ask b u ∷ t) s r f runs =
      let rest = runs_out t s r f (λ a lt. asked t b u a (r a) (runs a lt)) in
      (rest.0, (s, refl, rest.1))
  runs_out (issue k ∷ t) s r f runs =
      let choices = settle (λ a j. Issued t k (r a) a j) count 0 (λ a lt. issued t k a (r a) (runs a lt)) in
      let may = λ (a : ℕ) (lt : a < count). ((choices a).1 lt).0 in
      let all = taken_whole count m joint s k (λ a. (choices a).0) (λ a lt. into_state a s (r a) (f a lt) k ((choices a).0) (may a lt)) in
      let next : State UnitPlace = record { reserved = s.reserved ++ placed s.now (chosen m k all.0); now = s.now } in
      let rest = runs_out t next (λ a. record { reserved = (r a).reserved ++ placed (r a).now (chosen (restricted a m) k ((choices a).0)); now = (r a).now })
      (λ a lt. follows_issue a s (r a) (chosen m k all.0) (chosen (restricted a m) k ((choices a).0)) (f a lt) (all.2 a lt))
      (λ a lt. ((choices a).1 lt).1) in
      (rest.0, (next, (all.0, all.1, refl), rest.1))

  -- ---- what is accepted

  abbrev pub EachAccepts : List Event → Type 0
  EachAccepts t = (a : ℕ) → a < count → Accepted (restricted a m) t

  pub each_accepts : (t : List Event) → Accepted m t → EachAccepts t
  each_accepts t accepted a lt =
      let run = runs_from_accepted m t accepted in
      accepted_from_runs (restricted a m) t (let alone = runs_in a lt t start run.0 start (follows_start a) run.1 in (alone.0, alone.1))

  pub all_accept : (t : List Event) → EachAccepts t → Accepted m t
  all_accept t each = accepted_from_runs m t (runs_out t start (λ a. start) (λ a lt. follows_start a) (λ a lt. runs_from_accepted (restricted a m) t (each a lt)))

  -- ---- what is held

  -- in the first treatment a unit is held in all together where it is held in its automaton
  pub held_in_one : (a : ℕ) → a < count → m.treatment ≡ first_fit → (t : List Event) → Accepted m t → (u : ℕ) → IsHeld m t (record { automaton = a; unit = u }) ↔ IsHeld (restricted a m) t u
  held_in_one a lt first t accepted u =
      let run = runs_from_accepted m t accepted in
      let alone = runs_in a lt t start run.0 start (follows_start a) run.1 in
      let all = held_by_run m first t run.0 run.1 (record { automaton = a; unit = u }) in
      let one = held_by_run (restricted a m) first t alone.0 alone.1 u in
      let same : (alone.0).now ≡ (run.0).now = (alone.2).now in
      let seen = (alone.2).seen.same (record { unit = u; cycle = (run.0).now }) in (
        λ h. one.1 (rw same (seen.1 (all.0 h))),
        λ h. all.1 (seen.0 (rw same at (one.0 h))),
      )

  -- each automaton accepts, or one does not
  some_refuses : (t : List Event) (n : ℕ) → ((a : ℕ) → a < n → Accepted (restricted a m) t) ⊎ ((a : ℕ) × (a < n) × (Accepted (restricted a m) t → ⊥))
  some_refuses t zero = inl (λ a lt. absurd (omega arith))
  some_refuses t (suc n) = ⊎_elim
      (λ (each : (a : ℕ) → a < n → Accepted (restricted a m) t). by_test each (accepts (λ x y. x == y) (restricted n m) t) refl)
      (λ (one : (a : ℕ) × (a < n) × (Accepted (restricted a m) t → ⊥)). inr (one.0, (let lt = one.1 in omega arith), one.2))
      (some_refuses t n)
    where
      last : ((a : ℕ) → a < n → Accepted (restricted a m) t) → Accepted (restricted n m) t → (a : ℕ) → a < suc n → Accepted (restricted a m) t
      last each accepted a lt = ⊎_elim (λ (low : a < n). each a low) (λ (ge : _). let same : n ≡ a = omega arith in subst (λ (b : ℕ). Accepted (restricted b m) t) same accepted) (cases_lt a n)

      by_test : ((a : ℕ) → a < n → Accepted (restricted a m) t) → (b : Bool) → accepts (λ x y. x == y) (restricted n m) t ≡ b
          → ((a : ℕ) → a < suc n → Accepted (restricted a m) t) ⊎ ((a : ℕ) × (a < suc n) × (Accepted (restricted a m) t → ⊥))
      by_test each true e = inl (last each ((accepts_decides (λ x y. x == y) Decides-eqb (restricted n m) t).0 e))
      by_test each false e = inr (n, omega arith, λ h. both_ways (accepts (λ x y. x == y) (restricted n m) t) e ((accepts_decides (λ x y. x == y) Decides-eqb (restricted n m) t).1 h))

  pub one_refuses : (t : List Event) (i : ℕ) → FirstRefused m t i → ((a : ℕ) × (a < count) × FirstRefused (restricted a m) t i) × EachAccepts (take i t)
  one_refuses t i h = (
    ⊎_elim
        (λ (each : EachAccepts (take (i + 1) t)). absurd (h.refused (all_accept (take (i + 1) t) each)))
        (λ (one : (a : ℕ) × (a < count) × (Accepted (restricted a m) (take (i + 1) t) → ⊥)).
        (one.0, one.1, record { within = h.within; before = each_accepts (take i t) h.before one.0 one.1; refused = one.2 }))
        (some_refuses (take (i + 1) t) count),
    each_accepts (take i t) h.before,
  )

  pub all_refuse : (t : List Event) (i : ℕ) → ((a : ℕ) × (a < count) × FirstRefused (restricted a m) t i) × EachAccepts (take i t) → FirstRefused m t i
  all_refuse t i ((a, lt, h), before) = record { within = h.within; before = all_accept (take i t) before; refused = λ accepted. h.refused (each_accepts (take (i + 1) t) accepted a lt) }
