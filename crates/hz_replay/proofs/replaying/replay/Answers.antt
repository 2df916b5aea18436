use Rattle.std.proofs.Common.{◌≡◌, ◌<◌, ◌≤◌, ◌+◌, ◌*◌, ℕ, List, Some, None, [], ◌∷◌, length, take, refl, sym, ap, ◌∙◌, subst, arith}
use Rattle.std.proofs.lemmas.Bool.{OnTrue_at, OnFalse_at}
use Rattle.std.proofs.lemmas.List.{length-map, get_or-map, take_all}
use Rattle.std.proofs.lemmas.List.Elements.{All-get_or}
use Rattle.hz_pipeline_model.specs.Accepting.Events.{IsOfClass, issues_of, cycles_of}
use Rattle.hz_pipeline_model.specs.Tables.Machines.{Machine, parts_walk, machine_walk, starts_of}
use Rattle.hz_pipeline_model.proofs.Tables.MachineLaws.{machine_walk-each}
use Rattle.hz_tables.specs.Machines.{machine_of}
use Rattle.hz_tables.specs.Parts.{part_of}
use Rattle.hz_replay.specs.Lines.{event_of}
use Rattle.hz_replay.specs.Traces.{events_in}
use Rattle.hz_replay.specs.Replaying.{Standing, issues_in, cycles_of_one}
use Rattle.hz_replay.specs.declared.event.Event.{Event}
use Rattle.hz_replay.proofs.EventLemmas.{no_event, event_at, nothing_walked, walked_more, unwalked_first, some_walk, issues_more, cycles_more, issues_front, cycles_front, one_issue, steps_more, steps_within}
use Rattle.hz_replay.proofs.ReplayerLemmas.{zeros}
use Rattle.hz_replay.proofs.replaying.replay.Goals as goal

pub loop-place-init : goal.loop-place-init
loop-place-init g c =
    let m = machine_of c.args.machine.now in
    record {
      machine = ap (λ (r : Standing). r.machine) c.start-replayer.ensures;
      walked = none_walked m ∙ ap Some (sym (ap (λ (r : Standing). r.states) c.start-replayer.ensures));
      issues = refl;
      cycles = refl;
      few = omega arith;
      cost = omega arith;
    }
  where
    none_walked : (m : Machine) → machine_walk m [] ≡ Some (starts_of m)
    none_walked m = nothing_walked m.parts (starts_of m) (zeros (length m.parts))

pub play-requires-clause-class : goal.play-requires-clause-class
play-requires-clause-class g c =
    let es = c.args.events.now in
    let i = c.loop-place.place in
    let inside = c.loop-place-test.true in
    let long = length-map es (λ (e : Event). event_of e.what) in
    let m = machine_of c.args.machine.now in
    subst (λ (x : Machine). IsOfClass (length x.classes) (event_at es i)) (sym c.loop-place.invariant.machine)
    (subst (IsOfClass (length m.classes)) (get_or-map (λ (e : Event). event_of e.what) es i no_event (event_of no_event.what) inside)
    (All-get_or (IsOfClass (length m.classes)) (events_in es) i (event_of no_event.what) (omega (arith, inside, long)) c.requires.classes))

pub play-requires-clause-each : goal.play-requires-clause-each
play-requires-clause-each g c =
    let m = machine_of c.args.machine.now in
    machine_walk-each m (events_in (take c.loop-place.place c.args.events.now)) c.loop-place.replayer.states c.loop-place.invariant.walked
    ∙ ap (λ (x : Machine). length x.parts) (sym c.loop-place.invariant.machine)

-- the steps after one more event
stepped : (m : Machine) (parts : ℕ) (es : List Event) (i issues cycles from now next : ℕ) → length m.parts ≡ parts → i < length es
    → issues ≡ issues_of (events_in (take i es)) → cycles ≡ cycles_of (events_in (take i es)) → now ≤ from + 4 * parts * (issues + cycles)
    → next ≤ now + 4 * length m.parts * (issues_in (event_at es i) + cycles_of_one (event_at es i))
    → next ≤ from + 4 * parts * (issues_of (events_in (take (i + 1) es)) + cycles_of (events_in (take (i + 1) es)))
stepped m parts es i issues cycles from now next long low counted advanced cost more =
    let sum : issues_of (events_in (take (i + 1) es)) + cycles_of (events_in (take (i + 1) es)) ≡ issues + cycles + (issues_in (event_at es i) + cycles_of_one (event_at es i)) =
    omega (arith, counted, advanced, issues_more es i low, cycles_more es i low) in
    steps_more parts (issues + cycles) (issues_in (event_at es i) + cycles_of_one (event_at es i)) (issues_of (events_in (take (i + 1) es)) + cycles_of (events_in (take (i + 1) es))) from now next sum cost
    (subst (λ (n : ℕ). next ≤ now + 4 * n * (issues_in (event_at es i) + cycles_of_one (event_at es i))) long more)

pub returns-then-not-play-clause-outcome : goal.returns-then-not-play-clause-outcome
returns-then-not-play-clause-outcome g c =
    let m = machine_of c.args.machine.now in
    let stops = subst (λ (x : Machine). parts_walk x.parts c.loop-place.replayer.states (event_at c.args.events.now c.loop-place.place ∷ []) ≡ None) c.loop-place.invariant.machine (OnFalse_at c.if-not-play.true c.play.ensures.refused) in
    unwalked_first m c.args.events.now c.loop-place.place c.loop-place.replayer.states c.loop-place-test.true c.loop-place.invariant.walked stops (OnFalse_at c.if-not-play.true c.play.ensures.issue)

pub returns-then-not-play-clause-cost : goal.returns-then-not-play-clause-cost
returns-then-not-play-clause-cost g c =
    let m = machine_of c.args.machine.now in
    let es = c.args.events.now in
    let i = c.loop-place.place in
    let parts = length c.args.machine.now.parts.items in
    let more = subst (λ (x : Machine). c.play.new.steps ≤ c.loop-place.steps + 4 * length x.parts * (issues_in (event_at es i) + cycles_of_one (event_at es i))) c.loop-place.invariant.machine c.play.ensures.cost in
    let far = stepped m parts es i c.loop-place.issues c.loop-place.cycles c.args.steps.now c.loop-place.steps c.play.new.steps (length-map c.args.machine.now.parts.items part_of) c.loop-place-test.true
    c.loop-place.invariant.issues c.loop-place.invariant.cycles c.loop-place.invariant.cost more in
    steps_within parts (issues_of (events_in (take (i + 1) es)) + cycles_of (events_in (take (i + 1) es))) (issues_of (events_in es) + cycles_of (events_in es)) c.args.steps.now c.play.new.steps
    (omega (arith, issues_front es (i + 1), cycles_front es (i + 1))) far

pub overflow_add-issues : goal.overflow_add-issues
overflow_add-issues g c =
    let one = one_issue (event_at c.args.events.now c.loop-place.place) in
    omega (arith, c.issues_at-issues.ensures, c.loop-place.invariant.few, c.requires.few)

pub overflow_add-cycles : goal.overflow_add-cycles
overflow_add-cycles g c =
    let es = c.args.events.now in
    let i = c.loop-place.place in
    let more = cycles_more es i c.loop-place-test.true in
    let front = cycles_front es (i + 1) in
    omega (arith, c.cycles_at-cycles.ensures, c.loop-place.invariant.cycles, c.requires.short)

pub loop-place-preserved : goal.loop-place-preserved
loop-place-preserved g c =
    let m = machine_of c.args.machine.now in
    let es = c.args.events.now in
    let i = c.loop-place.place in
    let parts = length c.args.machine.now.parts.items in
    let issues : c.loop-place.issues + c.issues_at-issues.result ≡ issues_of (events_in (take (i + 1) es)) = omega (arith, c.issues_at-issues.ensures, c.loop-place.invariant.issues, issues_more es i c.loop-place-test.true) in
    let cycles : c.loop-place.cycles + c.cycles_at-cycles.result ≡ cycles_of (events_in (take (i + 1) es)) = omega (arith, c.cycles_at-cycles.ensures, c.loop-place.invariant.cycles, cycles_more es i c.loop-place-test.true) in
    let more = subst (λ (x : Machine). c.play.new.steps ≤ c.loop-place.steps + 4 * length x.parts * (issues_in (event_at es i) + cycles_of_one (event_at es i))) c.loop-place.invariant.machine c.play.ensures.cost in
    let far = stepped m parts es i c.loop-place.issues c.loop-place.cycles c.args.steps.now c.loop-place.steps c.play.new.steps (length-map c.args.machine.now.parts.items part_of) c.loop-place-test.true
    c.loop-place.invariant.issues c.loop-place.invariant.cycles c.loop-place.invariant.cost more in
    let taken = subst (λ (x : Machine). parts_walk x.parts c.loop-place.replayer.states (event_at c.args.events.now c.loop-place.place ∷ []) ≡ Some c.play.new.replayer.states) c.loop-place.invariant.machine (OnTrue_at c.if-not-play.false c.play.ensures.taken) in
    record {
      machine = c.play.ensures.machine ∙ c.loop-place.invariant.machine;
      walked = walked_more m c.args.events.now c.loop-place.place c.loop-place.replayer.states (Some c.play.new.replayer.states) c.loop-place-test.true c.loop-place.invariant.walked taken;
      issues = issues;
      cycles = cycles;
      few = omega (arith, c.issues_at-issues.ensures, c.loop-place.invariant.few, one_issue (event_at es i));
      cost = subst (λ (n : ℕ). c.play.new.steps ≤ c.args.steps.now + 4 * parts * n) (omega (arith, issues, cycles)) far;
    }

pub returns-clause-outcome : goal.returns-clause-outcome
returns-clause-outcome g c =
    let m = machine_of c.args.machine.now in
    let es = c.args.events.now in
    let all = take_all c.loop-place.place es (omega arith) in (
      some_walk (machine_walk m (events_in es)) c.loop-place.replayer.states (subst (λ (xs : List Event). machine_walk m (events_in xs) ≡ Some c.loop-place.replayer.states) all c.loop-place.invariant.walked),
      c.loop-place.invariant.issues ∙ ap (λ (xs : List Event). issues_of (events_in xs)) all,
      c.loop-place.invariant.cycles ∙ ap (λ (xs : List Event). cycles_of (events_in xs)) all,
    )

pub returns-clause-cost : goal.returns-clause-cost
returns-clause-cost g c =
    let es = c.args.events.now in
    let all = take_all c.loop-place.place es (omega arith) in
    let issues = c.loop-place.invariant.issues ∙ ap (λ (xs : List Event). issues_of (events_in xs)) all in
    let cycles = c.loop-place.invariant.cycles ∙ ap (λ (xs : List Event). cycles_of (events_in xs)) all in
    subst (λ (n : ℕ). c.loop-place.steps ≤ c.args.steps.now + 4 * length c.args.machine.now.parts.items * n) (omega (arith, issues, cycles)) c.loop-place.invariant.cost
