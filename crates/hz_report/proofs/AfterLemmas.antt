-- One part of a machine, walked by itself.
use Rattle.std.proofs.Common.{◌≡◌, ℕ, zero, suc, ◌+◌, ◌-◌, ◌<◌, ◌≤◌, List, [], ◌∷◌, ◌++◌, length, take, drop, get_or, slice_range, Option, Some, None, IsSome, All, replicate, set, get_or-set_same, get_or-set_other, refl, sym, ap, ◌∙◌, subst, arith, ⊎_elim, ◌≢◌}
use Rattle.std.specs.Option.{unwrap_or, option_and_then}
use Rattle.std.proofs.Math.ListN.{replicate-append-replicate}
use Rattle.std.proofs.Math.Seq.{take-add}
use Rattle.std.proofs.lemmas.Bool.{cases_eq}
use Rattle.std.proofs.lemmas.List.{map_more, map-append, take-append-drop, take-map, length-map, append_assoc, append-nil, get_or-replicate}
use Rattle.std.specs.List.{drop-map}
use Rattle.std.proofs.lemmas.List.Elements.{All-get_or, All-take, All-drop}
use Rattle.std.proofs.lemmas.Option.{slice_get-get_or, same_Some}
use Rattle.hz_answer_model.proofs.TableLaws.{prefix_walked}
use Rattle.hz_pipeline_model.specs.Accepting.Events as accepting
use Rattle.hz_pipeline_model.specs.Accepting.Events.{advance}
use Rattle.hz_pipeline_model.specs.Tables.Tables.{walk}
use Rattle.hz_pipeline_model.specs.Tables.Machines.{Part, Machine, IsMachine, IsPart, advance_of, machine_walk, next_of, no_part, onto_states, part_at, part_walk, parts_walk, starts_of, word_of}
use Rattle.hz_pipeline_model.proofs.Tables.TableLaws.{walk-append, walk_stays}
use Rattle.hz_pipeline_model.proofs.Tables.MachineLaws.{advance_alone, machine_walk-each, machine_walk-part, parts_walk-append, word_of-append}
use Rattle.hz_replay.specs.Lines.{event_of}
use Rattle.hz_replay.specs.Replaying.{IsOutcome}
use Rattle.hz_replay.specs.Traces.{events_in}
use Rattle.hz_replay.specs.declared.event.Event.{Event}
use Rattle.hz_replay.specs.declared.outcome.Outcome.{Outcome}
use Rattle.hz_replay.specs.declared.outcome.Outcome.TheVariants.{Accepted, Refused}
use Rattle.hz_report.specs.PartsAfter.{AreAfter, IsAfter, start}
use Rattle.hz_report.specs.Replays.{no_event, states_from, taken}
use Rattle.hz_report.specs.declared.parts_after.PartAfter.{PartAfter}
use Rattle.hz_report.proofs.ReplayLemmas.{states_more}
use Rattle.hz_tables.specs.Machines.{machine_of}
use Rattle.hz_tables.specs.Parts.{part_of}
use Rattle.hz_tables.specs.declared.machine.Machine as tables

-- the event at a place
abbrev pub there : List Event → ℕ → accepting.Event
there events i = event_of (get_or events i no_event).what

events_more : (events : List Event) (i : ℕ) → i < length events → events_in (take (i + 1) events) ≡ events_in (take i events) ++ there events i ∷ []
events_more events i low = map_more (λ (e : Event). event_of e.what) events i no_event low

module _ (part : Part) (state : ℕ) where
  walk_on : (s t : List accepting.Event) → part_walk part state (s ++ t) ≡ walk part.rows (part_walk part state s) (word_of part t)
  walk_on s t = ap (walk part.rows (Some state)) (word_of-append part s t) ∙ walk-append part.rows (Some state) (word_of part s) (word_of part t)

  -- one more event
  pub one_more : (events : List Event) (i present : ℕ) → i < length events → part_walk part state (events_in (take i events)) ≡ Some present
      → part_walk part state (events_in (take (i + 1) events)) ≡ part_walk part present (there events i ∷ [])
  one_more events i present low stands =
      ap (part_walk part state) (events_more events i low)
      ∙ (walk_on (events_in (take i events)) (there events i ∷ []) ∙ ap (λ (o : Option ℕ). walk part.rows o (word_of part (there events i ∷ []))) stands)

  -- what is not walked has no state after it
  pub gone : (events : List Event) (n : ℕ) → part_walk part state (events_in (take n events)) ≡ None → part_walk part state (events_in events) ≡ None
  gone events n none =
      ap (λ (es : List Event). part_walk part state (events_in es)) (sym (take-append-drop n events))
      ∙ (ap (part_walk part state) (map-append (λ (e : Event). event_of e.what) (take n events) (drop n events))
      ∙ (walk_on (events_in (take n events)) (events_in (drop n events)) ∙ ap (λ (o : Option ℕ). walk part.rows o (word_of part (events_in (drop n events)))) none))

  advances_on : (k n : ℕ) → part_walk part state (advance (k + n) ∷ []) ≡ walk part.rows (part_walk part state (advance k ∷ [])) (replicate n (advance_of part) ++ [])
  advances_on k n =
      let a = advance_of part in
      ap (λ (w : List ℕ). walk part.rows (Some state) (w ++ [])) (sym (replicate-append-replicate k n a))
      ∙ (ap (walk part.rows (Some state)) (append_assoc (replicate k a) (replicate n a) [] ∙ ap (λ (w : List ℕ). w ++ (replicate n a ++ [])) (sym (append-nil (replicate k a))))
      ∙ walk-append part.rows (Some state) (replicate k a ++ []) (replicate n a ++ []))

  -- one more cycle
  pub cycle_more : (k present : ℕ) → part_walk part state (advance k ∷ []) ≡ Some present → part_walk part state (advance (k + 1) ∷ []) ≡ next_of part present None
  cycle_more k present stands = advances_on k 1 ∙ (ap (λ (o : Option ℕ). walk part.rows o (replicate 1 (advance_of part) ++ [])) stands ∙ advance_alone part present)

  pub cycle_gone : (k n : ℕ) → k ≤ n → part_walk part state (advance k ∷ []) ≡ None → part_walk part state (advance n ∷ []) ≡ None
  cycle_gone k n few none =
      let whole : k + (n - k) ≡ n = omega arith in
      ap (λ (m : ℕ). part_walk part state (advance m ∷ [])) (sym whole) ∙ (advances_on k (n - k) ∙ ap (λ (o : Option ℕ). walk part.rows o (replicate (n - k) (advance_of part) ++ [])) none)

take_range : {A : Type 0} (k n : ℕ) (xs : List A) → k ≤ n → take n xs ≡ take k xs ++ slice_range xs k n
take_range k n xs few = let whole : k + (n - k) ≡ n = omega arith in ap (λ (m : ℕ). take m xs) (sym whole) ∙ take-add k (n - k) xs

-- a part is a part of its machine
pub is_part : (m : Machine) → IsMachine m → (part : ℕ) → part < length m.parts → IsPart (length m.classes) (part_at m part)
is_part m is part low = All-get_or (IsPart (length m.classes)) m.parts part no_part low is.parts

-- a part that a machine keeps, by its number
pub part_below : (machine : tables.Machine) (part : ℕ) → part < length machine.parts.items → part < length (machine_of machine).parts
part_below machine part low = omega (arith, low, length-map machine.parts.items part_of)

pub parts_few : (machine : tables.Machine) → length (machine_of machine).parts ≤ 16
parts_few machine = machine.kept.few

-- what is walked from a state ends in a state
pub stays_within : (m : Machine) → IsMachine m → (part : ℕ) → part < length m.parts → (state next : ℕ) (t : List accepting.Event) → state < length (part_at m part).rows
    → part_walk (part_at m part) state t ≡ Some next → next < length (part_at m part).rows
stays_within m is part low state next t within walked =
    let p = part_at m part in
    walk_stays p.rows (advance_of p) (is_part m is part low).table (Some state) (λ s e. let same : state ≡ s = cc in subst (λ (n : ℕ). n < length p.rows) same within) next (word_of p t) walked

pub start_within : (m : Machine) → IsMachine m → (part : ℕ) → part < length m.parts → 0 < length (part_at m part).rows
start_within m is part low = (is_part m is part low).table.start

module _ (m : Machine) (trace : List Event) (all : IsSome (machine_walk m (events_in trace))) where
  some_is : {A : Type 0} (o : Option A) (d : A) → IsSome o → o ≡ Some (unwrap_or o d)
  some_is None d h = absurd (cc)
  some_is (Some x) d h = refl

  -- what is walked is walked up to each place
  pub walked_to : (n : ℕ) → IsSome (machine_walk m (events_in (take n trace)))
  walked_to n =
      prefix_walked m (events_in (take n trace)) (events_in (drop n trace))
      (subst (λ (t : List accepting.Event). IsSome (machine_walk m t)) (ap events_in (sym (take-append-drop n trace)) ∙ map-append (λ (e : Event). event_of e.what) (take n trace) (drop n trace)) all)

  start_walked : machine_walk m [] ≡ Some (starts_of m)
  start_walked = nothing m.parts
    where
      nothing : (parts : List Part) → parts_walk parts (replicate (length parts) 0) [] ≡ Some (replicate (length parts) 0)
      nothing [] = refl
      nothing (part ∷ parts) = ap (onto_states (Some 0)) (nothing parts)

  -- the states after the first events are those that the machine walks to
  states_walked : (n : ℕ) → n ≤ length trace → machine_walk m (events_in (take n trace)) ≡ Some (states_from m (starts_of m) (take n trace))
  states_walked zero few = start_walked
  states_walked (suc n) few =
      let before = states_from m (starts_of m) (take n trace) in
      let e = there trace n in
      let next : machine_walk m (events_in (take (n + 1) trace)) ≡ parts_walk m.parts before (e ∷ []) =
      ap (machine_walk m) (events_more trace n (omega arith))
      ∙ (parts_walk-append m.parts (starts_of m) (events_in (take n trace)) (e ∷ []) ∙ ap (option_and_then (λ (s : List ℕ). parts_walk m.parts s (e ∷ []))) (states_walked n (omega arith))) in
      let one : n + 1 ≡ suc n = omega arith in
      subst (λ (k : ℕ). machine_walk m (events_in (take k trace)) ≡ Some (states_from m (starts_of m) (take k trace))) one
      (next
      ∙ (some_is (parts_walk m.parts before (e ∷ [])) before (subst IsSome next (walked_to (n + 1)))
      ∙ ap Some (sym (states_more m (starts_of m) trace n no_event (omega arith)))))

  -- so each part stands in its state of these
  pub part_stands : (n part : ℕ) → n ≤ length trace → part < length m.parts → part_walk (part_at m part) 0 (events_in (take n trace)) ≡ Some (get_or (states_from m (starts_of m) (take n trace)) part 0)
  part_stands n part few low =
      let states = states_from m (starts_of m) (take n trace) in
      let t = events_in (take n trace) in
      let walked = states_walked n few in
      sym (machine_walk-part m t states walked part (part_at m part) (slice_get-get_or m.parts part no_part low))
      ∙ slice_get-get_or states part 0 (let each = machine_walk-each m t states walked in omega (arith, each, low))

  -- a part that is walked on from where it stands
  pub walked_on : (n part : ℕ) → n ≤ length trace → part < length m.parts → (b : PartAfter) → IsAfter (part_at m part) trace n b
      → part_walk (part_at m part) b.state (events_in (slice_range trace b.events n)) ≡ Some (get_or (states_from m (starts_of m) (take n trace)) part 0)
  walked_on n part few low b is =
      let p = part_at m part in
      let between = events_in (slice_range trace b.events n) in
      let whole : take n trace ≡ take b.events trace ++ slice_range trace b.events n = take_range b.events n trace (is.within) in
      sym (ap (λ (o : Option ℕ). walk p.rows o (word_of p between)) (is.stands))
      ∙ (sym (walk_on p 0 (events_in (take b.events trace)) between)
      ∙ (ap (part_walk p 0) (sym (map-append (λ (e : Event). event_of e.what) (take b.events trace) (slice_range trace b.events n)) ∙ ap events_in (sym whole)) ∙ part_stands n part few low))

  -- and is in its state there
  pub present_is : (n part : ℕ) → n ≤ length trace → part < length m.parts → (b : PartAfter) → IsAfter (part_at m part) trace n b → (present : ℕ) → part_walk (part_at m part) b.state (events_in (slice_range trace b.events n)) ≡ Some present
      → present ≡ get_or (states_from m (starts_of m) (take n trace)) part 0
  present_is n part few low b is present walked = same_Some _ _ (sym walked ∙ walked_on n part few low b is)

  pub stands_there : (n part : ℕ) → n ≤ length trace → part < length m.parts → (present : ℕ) → present ≡ get_or (states_from m (starts_of m) (take n trace)) part 0 → IsAfter (part_at m part) trace n (record { state = present; events = n })
  stands_there n part few low present same = record { within = omega arith; stands = part_stands n part few low ∙ ap Some (sym same) }

-- all parts in their start
pub all_start : (m : Machine) (trace : List Event) → length m.parts ≤ 16 → (parts : List PartAfter) → parts ≡ replicate 16 start → AreAfter m trace 0 parts
all_start m trace few parts same = subst (AreAfter m trace 0) (sym same)
    (λ part low. subst (IsAfter (part_at m part) trace 0) (sym (get_or-replicate 16 part start start (omega (arith, few, low)))) (record { within = omega arith; stands = refl }))

-- they come after no more than later events
pub later : (m : Machine) (trace : List Event) (n : ℕ) (parts : List PartAfter) → AreAfter m trace n parts → AreAfter m trace (n + 1) parts
later m trace n parts are part low = let is = are part low in record { within = let few = is.within in omega (arith, few); stands = is.stands }

-- one part walked on
pub one_on : (m : Machine) (trace : List Event) (n : ℕ) (parts : List PartAfter) (part : ℕ) (b : PartAfter) → part < length parts → AreAfter m trace n parts → IsAfter (part_at m part) trace n b → AreAfter m trace n (set parts part b)
one_on m trace n parts part b there are is i below = ⊎_elim
    (λ (e : i ≡ part). subst (λ (k : ℕ). IsAfter (part_at m k) trace n (get_or (set parts part b) k start)) (sym e)
    (subst (IsAfter (part_at m part) trace n) (sym (get_or-set_same parts part b start there)) is))
    (λ (ne : i ≢ part). subst (IsAfter (part_at m i) trace n) (sym (get_or-set_other parts part i b start ne)) (are i below))
    (cases_eq i part)

-- what holds of all events holds of those between two places
pub all_between : (P : accepting.Event → Type 0) (events : List Event) (a n : ℕ) → All P (events_in events) → All P (events_in (slice_range events a n))
all_between P events a n all =
    let event = λ (e : Event). event_of e.what in
    subst (All P) (ap (take (n - a)) (drop-map event a events) ∙ take-map event (n - a) (drop a events)) (All-take P (n - a) (drop a (events_in events)) (All-drop P a (events_in events) all))

-- the events before the one that is refused, or all, are walked
pub taken_walked : (m : Machine) (events : List Event) (outcome : Outcome) → IsOutcome m (events_in events) outcome → IsSome (machine_walk m (events_in (taken outcome events)))
taken_walked m events (Accepted issues cycles) is = is.0
taken_walked m events (Refused event) is = subst (λ (t : List accepting.Event). IsSome (machine_walk m t)) (take-map (λ (e : Event). event_of e.what) event events) is.before
