-- A machine with the units of one automaton alone accepts as its restriction to that automaton does.
use Rattle.std.proofs.Common.{◌≡◌, ℕ, ◌+◌, ◌<◌, List, [], ◌∷◌, ◌++◌, length, take, map, Contains, Option, Some, None, refl, sym, ap, ◌∙◌, subst, arith, ⊎_elim, slice_get}
use Rattle.std.specs.Prelude.{◌↔◌}
use Rattle.std.specs.Option.{option_map}
use Rattle.std.proofs.lemmas.Option.{slice_get-map, slice_get_within, slice_get-get_or}
use Rattle.std.proofs.lemmas.List.{length-map, map-append}
use Rattle.std.proofs.lemmas.List.Elements.{Contains-append_left, Contains-append_right, Contains-append_cases}
use Rattle.hz_base_model.specs.Pairs.{Pair, later, placed, grid_eq}
use Rattle.hz_description_model.specs.Reservations.Alternatives.{Alternative}
use Rattle.hz_description_model.specs.Reservations.Automata.{UnitPlace, cut, list_in, without_repeats}
use Rattle.hz_description_model.specs.Reservations.Sets.{Statement, Fits}
use Rattle.hz_description_model.specs.Reservations.Inside.{IsStatementOf}
use Rattle.hz_pipeline_model.specs.Accepting.Restricted.{of_pairs, class_in, restricted, IsOf}
use Rattle.hz_pipeline_model.specs.Accepting.Replay.{Class, Pipeline, State, start, Step, Plays, FitsAt, MayTake, Accepted, FirstRefused, alternatives_at, of_class, chosen, pairs_at, first_fit}
use Rattle.hz_pipeline_model.specs.Accepting.Events.{Event, issue, advance, ask}
use Rattle.hz_base_model.proofs.Elements.{Contains-nil, Contains-head, Contains-map, Contains-from_map}
use Rattle.hz_description_model.proofs.Reservations.FirstPlaces.{numbered, number_after, in_front, front_number, before_map, still_first, was_first}
use Rattle.hz_pipeline_model.proofs.Accepting.ReplayLaws.{runs_from_accepted, accepted_from_runs}
use Rattle.hz_pipeline_model.proofs.Accepting.InsideFits.{IsSeen, seen_nil, seen_append, seen_placed, seen_cut, restricted_statements, fits_inside, allowed_outside, apart_outside}
use Rattle.hz_base_model.proofs.PairOrder.{grid_eq-Decides}

module _ (automaton : ℕ) where
  -- pairs of the automaton's units alone, and the same by the units' numbers
  pub record IsWhole (all : List (Pair UnitPlace)) (pairs : List (Pair ℕ)) : Type 0 where
    pub here : (p : Pair UnitPlace) → Contains all p → p.unit.automaton ≡ automaton
    pub seen : IsSeen automaton all pairs

  whole_nil : IsWhole [] []
  whole_nil = record { here = λ p h. absurd (Contains-nil p h); seen = seen_nil automaton }

  whole_append : (all more : List (Pair UnitPlace)) (pairs others : List (Pair ℕ)) → IsWhole all pairs → IsWhole more others → IsWhole (all ++ more) (pairs ++ others)
  whole_append all more pairs others a b = record {
    here = λ p h. ⊎_elim (a.here p) (b.here p) (Contains-append_cases all more p h);
    seen = seen_append automaton all more pairs others a.seen b.seen;
  }

  whole_placed : (n : ℕ) (all : List (Pair UnitPlace)) (pairs : List (Pair ℕ)) → IsWhole all pairs → IsWhole (placed n all) (placed n pairs)
  whole_placed n all pairs whole = record {
    here = λ p h. let found = Contains-from_map (later n) all p h in ap (λ (q : Pair UnitPlace). q.unit.automaton) (sym found.2) ∙ whole.here found.0 found.1;
    seen = seen_placed automaton n all pairs whole.seen;
  }

  whole_cut : (all : List (Pair UnitPlace)) → ((p : Pair UnitPlace) → Contains all p → p.unit.automaton ≡ automaton) → IsWhole all (cut automaton all)
  whole_cut all here = record { here = here; seen = seen_cut automaton all }

  module _ (statements : List (Statement UnitPlace)) (are : (s : Statement UnitPlace) → Contains statements s → IsStatementOf automaton s) where
    module _ (all added : List (Pair UnitPlace)) (pairs others : List (Pair ℕ)) (now : ℕ) (first : IsWhole all pairs) (second : IsWhole added others) where
      whole_inside : Fits statements all added now → Fits (restricted_statements automaton statements) pairs others now
      whole_inside h = fits_inside automaton statements all added pairs others now first.seen second.seen h

      whole_outside : Fits (restricted_statements automaton statements) pairs others now → Fits statements all added now
      whole_outside h = record {
        apart = λ p x y. apart_outside automaton statements all added pairs others now first.seen second.seen h p (first.here p x) x y;
        allowed = λ s is cycle. allowed_outside automaton statements all added pairs others now first.seen second.seen h s is (are s is) cycle;
      }

-- An issue's choice by what stands before it: of these lists of pairs it takes this one.
pub record TakesFrom {U : Type 0} (m : Pipeline U) (s : State U) (lists : List (List (Pair U))) (i : ℕ) (pairs : List (Pair U)) : Type 0 where
  pub before : List (List (Pair U))
  pub after : List (List (Pair U))
  pub parts : lists ≡ before ++ pairs ∷ after
  pub count : length before ≡ i
  pub fits : Fits m.statements s.reserved pairs s.now
  pub first : m.treatment ≡ first_fit → (other : List (Pair U)) → Contains before other → Fits m.statements s.reserved other s.now → ⊥

module _ {U : Type 0} (m : Pipeline U) (s : State U) (k : ℕ) where
  abbrev pub lists_at : List (List (Pair U))
  lists_at = map (λ a. a.pairs) (alternatives_at m k)

  pub at_number : (i : ℕ) (pairs : List (Pair U)) → slice_get lists_at i ≡ Some pairs → chosen m k i ≡ pairs
  at_number i pairs is = by_item (slice_get (alternatives_at m k) i) (sym (slice_get-map (λ (a : Alternative U). a.pairs) (alternatives_at m k) i) ∙ is)
    where
      by_item : (o : Option (Alternative U)) → option_map (λ (a : Alternative U). a.pairs) o ≡ Some pairs → pairs_at o ≡ pairs
      by_item None e = absurd (cc)
      by_item (Some a) e = cc

  pub within_lists : (i : ℕ) → i < length (alternatives_at m k) → i < length lists_at
  within_lists i lt = omega (arith, length-map (alternatives_at m k) (λ (a : Alternative U). a.pairs))

  fits_at : (i : ℕ) (pairs : List (Pair U)) → slice_get lists_at i ≡ Some pairs → Fits m.statements s.reserved pairs s.now → FitsAt m s k i
  fits_at i pairs is fits =
      let within = slice_get_within lists_at i pairs is in
      (omega (arith, within, length-map (alternatives_at m k) (λ (a : Alternative U). a.pairs)), subst (λ (ps : List (Pair U)). Fits m.statements s.reserved ps s.now) (sym (at_number i pairs is)) fits)

  taken_from : (i : ℕ) → MayTake m s k i → TakesFrom m s lists_at i (chosen m k i)
  taken_from i may =
      let at = numbered lists_at i (within_lists i (may.fits).0) in
      let same = at_number i at.item at.is in
      record {
        before = at.before;
        after = at.after;
        parts = at.parts ∙ ap (λ (ps : List (Pair U)). at.before ++ ps ∷ at.after) (sym same);
        count = at.count;
        fits = (may.fits).1;
        first = λ t other there fits.
            let found = front_number at.before (at.item ∷ at.after) other there in
            may.first t found.0 (omega (arith, found.1, at.count)) (fits_at found.0 other (ap (λ (ls : List (List (Pair U))). slice_get ls found.0) at.parts ∙ found.2) fits);
      }

  may_take : (i : ℕ) (pairs : List (Pair U)) → TakesFrom m s lists_at i pairs → MayTake m s k i × (chosen m k i ≡ pairs)
  may_take i pairs t =
      let is : slice_get lists_at i ≡ Some pairs = ap (λ (ls : List (List (Pair U))). slice_get ls i) t.parts ∙ (ap (slice_get (t.before ++ pairs ∷ t.after)) (sym t.count) ∙ number_after t.before pairs t.after) in (
        record {
          fits = fits_at i pairs is t.fits;
          first = λ f j lt fits.
              let found = in_front t.before (pairs ∷ t.after) j (omega (arith, lt, t.count)) in
              let there : slice_get lists_at j ≡ Some found.0 = ap (λ (ls : List (List (Pair U))). slice_get ls j) t.parts ∙ found.1 in
              t.first f found.0 found.2 (subst (λ (ps : List (Pair U)). Fits m.statements s.reserved ps s.now) (at_number j found.0 there) fits.1);
        },
        at_number i pairs is,
      )

-- the pairs of alternatives made of pairs
pub pairs_back : (ls : List (List (Pair ℕ))) → map (λ (a : Alternative ℕ). a.pairs) (map of_pairs ls) ≡ ls
pairs_back [] = refl
pairs_back (l ∷ ls) = ap (λ (ms : List (List (Pair ℕ))). l ∷ ms) (pairs_back ls)

cuts_of_pairs : (automaton : ℕ) (alternatives : List (Alternative UnitPlace)) → map (λ (a : Alternative UnitPlace). cut automaton a.pairs) alternatives ≡ map (cut automaton) (map (λ (a : Alternative UnitPlace). a.pairs) alternatives)
cuts_of_pairs automaton [] = refl
cuts_of_pairs automaton (a ∷ alternatives) = ap (λ (ms : List (List (Pair ℕ))). cut automaton a.pairs ∷ ms) (cuts_of_pairs automaton alternatives)

-- an item that is contained, by its number
slice_get_at : {A : Type 0} (xs : List A) (x : A) → (h : Contains xs x) → slice_get xs h.0 ≡ Some x
slice_get_at xs x h = slice_get-get_or xs h.0 x h.1 ∙ ap Some h.2

module _ (automaton : ℕ) (m : Pipeline UnitPlace) (is : IsOf automaton m) where
  abbrev o : Pipeline ℕ
  o = restricted automaton m

  -- the lists of a class, cut down, each later equal one dropped
  lists_restricted : (s : State UnitPlace) (r : State ℕ) (k : ℕ) → lists_at o r k ≡ without_repeats grid_eq (map (cut automaton) (lists_at m s k))
  lists_restricted s r k = ap (λ (c : Option (Class ℕ)). map (λ (a : Alternative ℕ). a.pairs) (of_class c)) (slice_get-map (class_in automaton) m.classes k) ∙ by_class (slice_get m.classes k)
    where
      by_class : (c : Option (Class UnitPlace)) → map (λ (a : Alternative ℕ). a.pairs) (of_class (option_map (class_in automaton) c)) ≡ without_repeats grid_eq (map (cut automaton) (map (λ (a : Alternative UnitPlace). a.pairs) (of_class c)))
      by_class None = refl
      by_class (Some c) = pairs_back (list_in automaton c.alternatives) ∙ ap (without_repeats grid_eq) (cuts_of_pairs automaton c.alternatives)

  pub record Follows (s : State UnitPlace) (r : State ℕ) : Type 0 where
    pub now : r.now ≡ s.now
    pub whole : IsWhole automaton s.reserved r.reserved

  module _ (s : State UnitPlace) (r : State ℕ) (follows : Follows s r) where
    fits_in : (pairs : List (Pair UnitPlace)) → ((p : Pair UnitPlace) → Contains pairs p → p.unit.automaton ≡ automaton) → Fits m.statements s.reserved pairs s.now → Fits o.statements r.reserved (cut automaton pairs) r.now
    fits_in pairs here h = rw follows.now (whole_inside automaton m.statements is.statements s.reserved pairs r.reserved (cut automaton pairs) s.now follows.whole (whole_cut automaton pairs here) h)

    fits_out : (pairs : List (Pair UnitPlace)) → ((p : Pair UnitPlace) → Contains pairs p → p.unit.automaton ≡ automaton) → Fits o.statements r.reserved (cut automaton pairs) r.now → Fits m.statements s.reserved pairs s.now
    fits_out pairs here h = whole_outside automaton m.statements is.statements s.reserved pairs r.reserved (cut automaton pairs) s.now follows.whole (whole_cut automaton pairs here) (rw follows.now at h)

    here_at : (k : ℕ) (pairs : List (Pair UnitPlace)) → Contains (lists_at m s k) pairs → (p : Pair UnitPlace) → Contains pairs p → p.unit.automaton ≡ automaton
    here_at k pairs there p h = is.pairs k there.0 p (subst (λ (ps : List (Pair UnitPlace)). Contains ps p) (sym (at_number m s k there.0 pairs (slice_get_at (lists_at m s k) pairs there))) h)

    -- a choice of the machine is one of its restriction
    takes_in : (k i : ℕ) (pairs : List (Pair UnitPlace)) → TakesFrom m s (lists_at m s k) i pairs → (j : ℕ) × TakesFrom o r (lists_at o r k) j (cut automaton pairs)
    takes_in k i pairs t =
        let lists = lists_at m s k in
        let cuts : map (cut automaton) lists ≡ map (cut automaton) t.before ++ cut automaton pairs ∷ map (cut automaton) t.after = ap (map (cut automaton)) t.parts ∙ map-append (cut automaton) t.before (pairs ∷ t.after) in
        let kept = still_first grid_eq grid_eq-Decides (map (cut automaton) t.before) (cut automaton pairs) (map (cut automaton) t.after) in (
          length kept.before,
          record {
            before = kept.before;
            after = kept.after;
            parts = lists_restricted s r k ∙ (ap (without_repeats grid_eq) cuts ∙ kept.parts);
            count = refl;
            fits = fits_in pairs (here_at k pairs (subst (λ (ls : List (List (Pair UnitPlace))). Contains ls pairs) (sym t.parts) (Contains-append_right t.before (pairs ∷ t.after) pairs (Contains-head pairs t.after)))) t.fits;
            first = λ f other there fits.
                let found = Contains-from_map (cut automaton) t.before other (kept.within other there) in
                t.first f found.0 found.1 (fits_out found.0 (here_at k found.0 (subst (λ (ls : List (List (Pair UnitPlace))). Contains ls found.0) (sym t.parts) (Contains-append_left t.before (pairs ∷ t.after) found.0 found.1))) (subst (λ (ps : List (Pair ℕ)). Fits o.statements r.reserved ps r.now) (sym found.2) fits));
          },
        )

    -- a choice of the restriction is one of the machine
    pub record Back (k : ℕ) (pairs : List (Pair ℕ)) : Type 0 where
      pub number : ℕ
      pub whole : List (Pair UnitPlace)
      pub takes : TakesFrom m s (lists_at m s k) number whole
      pub there : Contains (lists_at m s k) whole
      pub same : cut automaton whole ≡ pairs

    takes_out : (k j : ℕ) (pairs : List (Pair ℕ)) → TakesFrom o r (lists_at o r k) j pairs → Back k pairs
    takes_out k j pairs t =
        let lists = lists_at m s k in
        let first = was_first grid_eq grid_eq-Decides (map (cut automaton) lists) t.before pairs t.after (sym (lists_restricted s r k) ∙ t.parts) in
        let split = before_map (cut automaton) lists first.before pairs first.after first.parts in
        let whole_there = subst (λ (ls : List (List (Pair UnitPlace))). Contains ls split.item) (sym split.parts) (Contains-append_right split.before (split.item ∷ split.after) split.item (Contains-head split.item split.after)) in
        record {
          number = length split.before;
          whole = split.item;
          there = whole_there;
          same = split.is;
          takes = record {
            before = split.before;
            after = split.after;
            parts = split.parts;
            count = refl;
            fits = fits_out split.item (here_at k split.item whole_there) (subst (λ (ps : List (Pair ℕ)). Fits o.statements r.reserved ps r.now) (sym split.is) t.fits);
            first = λ f other in_front fits.
                let here = here_at k other (subst (λ (ls : List (List (Pair UnitPlace))). Contains ls other) (sym split.parts) (Contains-append_left split.before (split.item ∷ split.after) other in_front)) in
                t.first f (cut automaton other) (first.within (cut automaton other) (subst (λ (ps : List (List (Pair ℕ))). Contains ps (cut automaton other)) split.mapped (Contains-map (cut automaton) split.before other in_front))) (fits_in other here fits);
          };
        }

    follows_issue : (pairs : List (Pair UnitPlace)) → ((p : Pair UnitPlace) → Contains pairs p → p.unit.automaton ≡ automaton)
        → Follows (record { reserved = s.reserved ++ placed s.now pairs; now = s.now }) (record { reserved = r.reserved ++ placed r.now (cut automaton pairs); now = r.now })
    follows_issue pairs here = record {
      now = follows.now;
      whole = rw follows.now (whole_append automaton s.reserved (placed s.now pairs) r.reserved (placed s.now (cut automaton pairs)) follows.whole (whole_placed automaton s.now pairs (cut automaton pairs) (whole_cut automaton pairs here)));
    }

    step_in : (e : Event) (s' : State UnitPlace) → Step m s e s' → (r' : State ℕ) × Step o r e r' × Follows s' r'
    step_in (advance n) s' step = (
      record { reserved = r.reserved; now = n + r.now },
      refl,
      subst (λ (q : State UnitPlace). Follows q (record { reserved = r.reserved; now = n + r.now })) (sym step) (record { now = ap (λ (c : ℕ). n + c) follows.now; whole = follows.whole }),
    )
    step_in (ask a u) s' step = (r, refl, subst (λ (q : State UnitPlace). Follows q r) (sym step) follows)
    step_in (issue k) s' (i, may, step) =
        let pairs = chosen m k i in
        let taken = taken_from m s k i may in
        let there = subst (λ (ls : List (List (Pair UnitPlace))). Contains ls pairs) (sym taken.parts) (Contains-append_right taken.before (pairs ∷ taken.after) pairs (Contains-head pairs taken.after)) in
        let found = takes_in k i pairs taken in
        let choice = may_take o r k found.0 (cut automaton pairs) found.1 in (
          record { reserved = r.reserved ++ placed r.now (cut automaton pairs); now = r.now },
          (found.0, choice.0, ap (λ (ps : List (Pair ℕ)). record { reserved = r.reserved ++ placed r.now ps; now = r.now }) (sym choice.1)),
          subst (λ (q : State UnitPlace). Follows q (record { reserved = r.reserved ++ placed r.now (cut automaton pairs); now = r.now })) (sym step) (follows_issue pairs (here_at k pairs there)),
        )

    step_out : (e : Event) (r' : State ℕ) → Step o r e r' → (s' : State UnitPlace) × Step m s e s' × Follows s' r'
    step_out (advance n) r' step = (
      record { reserved = s.reserved; now = n + s.now },
      refl,
      subst (λ (q : State ℕ). Follows (record { reserved = s.reserved; now = n + s.now }) q) (sym step) (record { now = ap (λ (c : ℕ). n + c) follows.now; whole = follows.whole }),
    )
    step_out (ask a u) r' step = (s, refl, subst (λ (q : State ℕ). Follows s q) (sym step) follows)
    step_out (issue k) r' (j, may, step) =
        let back = takes_out k j (chosen o k j) (taken_from o r k j may) in
        let choice = may_take m s k back.number back.whole back.takes in (
          record { reserved = s.reserved ++ placed s.now back.whole; now = s.now },
          (back.number, choice.0, ap (λ (ps : List (Pair UnitPlace)). record { reserved = s.reserved ++ placed s.now ps; now = s.now }) (sym choice.1)),
          subst (λ (q : State ℕ). Follows (record { reserved = s.reserved ++ placed s.now back.whole; now = s.now }) q)
              (ap (λ (ps : List (Pair ℕ)). record { reserved = r.reserved ++ placed r.now ps; now = r.now }) back.same ∙ sym step) (follows_issue back.whole (here_at k back.whole back.there)),
        )

  runs_in : (t : List Event) (s s' : State UnitPlace) (r : State ℕ) → Follows s r → Plays m s t s' → (r' : State ℕ) × Plays o r t r'
  runs_in [] s s' r follows run = (r, refl)
  runs_in (e ∷ t) s s' r follows (middle, step, run) =
      let one = step_in s r follows e middle step in
      let rest = runs_in t middle s' one.0 one.2 run in
      (rest.0, (one.0, one.1, rest.1))

  runs_out : (t : List Event) (s : State UnitPlace) (r r' : State ℕ) → Follows s r → Plays o r t r' → (s' : State UnitPlace) × Plays m s t s'
  runs_out [] s r r' follows run = (s, refl)
  runs_out (e ∷ t) s r r' follows (middle, step, run) =
      let one = step_out s r follows e middle step in
      let rest = runs_out t one.0 middle r' one.2 run in
      (rest.0, (one.0, one.1, rest.1))

  follows_start : Follows start start
  follows_start = record { now = refl; whole = whole_nil automaton }

  -- both accept alike
  pub accepted_restricted : (t : List Event) → Accepted m t ↔ Accepted o t
  accepted_restricted t = (
    λ a. let run = runs_from_accepted m t a in accepted_from_runs o t (runs_in t start run.0 start follows_start run.1),
    λ a. let run = runs_from_accepted o t a in accepted_from_runs m t (runs_out t start start run.0 follows_start run.1),
  )

  -- and refuse alike
  pub refused_restricted : (t : List Event) (i : ℕ) → FirstRefused m t i ↔ FirstRefused o t i
  refused_restricted t i = (
    λ h. record { within = h.within; before = (accepted_restricted (take i t)).0 h.before; refused = λ a. h.refused ((accepted_restricted (take (i + 1) t)).1 a) },
    λ h. record { within = h.within; before = (accepted_restricted (take i t)).1 h.before; refused = λ a. h.refused ((accepted_restricted (take (i + 1) t)).0 a) },
  )
