-- What a machine walks after the trace of slots.
use Rattle.std.proofs.Common.{◌≡◌, ℕ, ◌+◌, ◌-◌, ◌≤◌, Bool, true, false, cond, List, [], ◌∷◌, ◌++◌, replicate, Option, Some, None, refl, sym, ap, ◌∙◌, append_assoc, arith}
use Rattle.std.specs.Prelude.{nat_lt, IsSome, option_and_then}
use Rattle.std.proofs.lemmas.Bool.{ltb-false}
use Rattle.std.proofs.lemmas.List.{replicate-append-replicate, append-nil}
use Rattle.hz_pipeline_model.specs.Accepting.Events.{Event, advance}
use Rattle.hz_pipeline_model.specs.Tables.Tables.{walk}
use Rattle.hz_pipeline_model.specs.Tables.Machines.{advance_of, Part, Machine, word_of, part_walk, parts_walk, machine_walk, starts_of, onto_states}
use Rattle.hz_pipeline_model.proofs.Tables.MachineLaws.{word_of-append, parts_walk-append}
use Rattle.hz_block_model.specs.Scheduling.Schedules.{advance_to}

-- ---- words

-- events with the same columns
abbrev pub SameWords : List Event → List Event → Type 0
SameWords s t = (part : Part) → word_of part s ≡ word_of part t

beyond : (t s u : List Event) → SameWords s u → SameWords (t ++ s) (t ++ u)
beyond t s u same part = word_of-append part t s ∙ (ap (λ (w : List ℕ). word_of part t ++ w) (same part) ∙ sym (word_of-append part t u))

pub adds : (n k : ℕ) (u : List Event) → SameWords (advance n ∷ advance k ∷ u) (advance (n + k) ∷ u)
adds n k u part =
    sym (append_assoc (replicate n (advance_of part)) (replicate k (advance_of part)) (word_of part u))
    ∙ ap (λ (w : List ℕ). w ++ word_of part u) (replicate-append-replicate n k (advance_of part))

pub advances : (cycle later : ℕ) (u : List Event) → cycle ≤ later → SameWords (advance_to cycle later ++ u) (advance (later - cycle) ∷ u)
advances cycle later u le part = go (nat_lt cycle later) refl
  where
    go : (b : Bool) → nat_lt cycle later ≡ b → word_of part (cond b (advance (later - cycle) ∷ []) [] ++ u) ≡ replicate (later - cycle) (advance_of part) ++ word_of part u
    go true h = refl
    go false h =
        let none : 0 ≡ later - cycle = let above = ltb-false cycle later h in omega arith in
        ap (λ (n : ℕ). replicate n (advance_of part) ++ word_of part u) none

parts_same : (parts : List Part) (states : List ℕ) (s t : List Event) → SameWords s t → parts_walk parts states s ≡ parts_walk parts states t
parts_same [] states s t same = refl
parts_same (part ∷ parts) [] s t same = refl
parts_same (part ∷ parts) (x ∷ states) s t same =
    ap (λ (w : List ℕ). onto_states (walk part.rows (Some x) w) (parts_walk parts states s)) (same part)
    ∙ ap (onto_states (part_walk part x t)) (parts_same parts states s t same)

module _ (m : Machine) where
  pub walk_same : (s t : List Event) → SameWords s t → machine_walk m s ≡ machine_walk m t
  walk_same s t same = parts_same m.parts (starts_of m) s t same

  -- a walk goes on from where it has come
  pub walk_on : (s t : List Event) (states : List ℕ) → machine_walk m s ≡ Some states → machine_walk m (s ++ t) ≡ parts_walk m.parts states t
  walk_on s t states h = parts_walk-append m.parts (starts_of m) s t ∙ ap (option_and_then (λ next. parts_walk m.parts next t)) h

  -- a front of what is walked is walked
  pub front_walked : (s t : List Event) (states : List ℕ) → machine_walk m (s ++ t) ≡ Some states → IsSome (machine_walk m s)
  front_walked s t states h = go (machine_walk m s) (sym (parts_walk-append m.parts (starts_of m) s t) ∙ h)
    where
      go : (o : Option (List ℕ)) → option_and_then (λ next. parts_walk m.parts next t) o ≡ Some states → IsSome o
      go None e = absurd (cc)
      go (Some next) e = refl

  module _ (t : List Event) (n : ℕ) (states : List ℕ) (walked : machine_walk m (t ++ advance n ∷ []) ≡ Some states) where
    -- more events after an advance
    pub walk_after : (u : List Event) → machine_walk m (t ++ advance n ∷ u) ≡ parts_walk m.parts states u
    walk_after u = ap (machine_walk m) (sym (append_assoc t (advance n ∷ []) u)) ∙ walk_on (t ++ advance n ∷ []) u states walked

    pub one_more : (next : List ℕ) → parts_walk m.parts states (advance 1 ∷ []) ≡ Some next → machine_walk m (t ++ advance (n + 1) ∷ []) ≡ Some next
    one_more next step = sym (walk_same (t ++ advance n ∷ advance 1 ∷ []) (t ++ advance (n + 1) ∷ []) (beyond t (advance n ∷ advance 1 ∷ []) (advance (n + 1) ∷ []) (adds n 1 []))) ∙ (walk_after (advance 1 ∷ []) ∙ step)

  -- the advance to a cycle, and events after it
  pub walk_to : (t u : List Event) (cycle later : ℕ) → cycle ≤ later → machine_walk m (t ++ (advance_to cycle later ++ u)) ≡ machine_walk m (t ++ advance (later - cycle) ∷ u)
  walk_to t u cycle later le = walk_same (t ++ (advance_to cycle later ++ u)) (t ++ advance (later - cycle) ∷ u) (beyond t (advance_to cycle later ++ u) (advance (later - cycle) ∷ u) (advances cycle later u le))

  pub walk_split : (t u : List Event) (n k : ℕ) → machine_walk m (t ++ advance n ∷ advance k ∷ u) ≡ machine_walk m (t ++ advance (n + k) ∷ u)
  walk_split t u n k = walk_same (t ++ advance n ∷ advance k ∷ u) (t ++ advance (n + k) ∷ u) (beyond t (advance n ∷ advance k ∷ u) (advance (n + k) ∷ u) (adds n k u))

  pub no_advance : (t : List Event) → machine_walk m (t ++ advance 0 ∷ []) ≡ machine_walk m t
  no_advance t = walk_same (t ++ advance 0 ∷ []) t (λ part. word_of-append part t (advance 0 ∷ []) ∙ append-nil (word_of part t))
