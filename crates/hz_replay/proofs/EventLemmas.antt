-- Events of a list, one by one, and what a machine walks of them.
use Rattle.std.proofs.Common.{◌≡◌, ℕ, suc, ◌+◌, ◌*◌, ◌<◌, ◌≤◌, List, [], ◌∷◌, ◌++◌, length, take, drop, get_or, Option, Some, None, replicate, refl, sym, ap, ◌∙◌, arith}
use Rattle.std.specs.Prelude.{IsSome, option_and_then}
use Rattle.std.proofs.Math.Nat.{mul-add, mul-le-mul_left}
use Rattle.std.proofs.lemmas.List.{map_more, length-map, take-append-drop, map-append, take-map, append-nil}
use Rattle.std.proofs.lemmas.Grind.{replicate_next}
use Rattle.std.proofs.lemmas.Option.{slice_get-get_or, slice_get-map}
use Rattle.std.specs.Option.{option_map}
use Rattle.hz_pipeline_model.specs.Accepting.Events as model
use Rattle.hz_pipeline_model.specs.Accepting.Events.{issues_of, cycles_of}
use Rattle.hz_pipeline_model.proofs.Accepting.ReplayLaws.{issues_of-append, cycles_of-append}
use Rattle.hz_pipeline_model.specs.Tables.Tables.{walk}
use Rattle.hz_pipeline_model.specs.Tables.Machines.{Part, Machine, advance_of, word_of, part_walk, parts_walk, machine_walk, starts_of, onto_states}
use Rattle.hz_pipeline_model.proofs.Tables.MachineLaws.{parts_walk-append}
use Rattle.hz_replay.specs.Lines.{event_of}
use Rattle.hz_replay.specs.Traces.{events_in}
use Rattle.hz_replay.specs.Replaying.{FirstUnwalked, IsIssue, issues_in, cycles_of_one}
use Rattle.hz_replay.specs.declared.event.Event.{Event}
use Rattle.hz_replay.specs.declared.event.What.TheVariants.{Issue}

abbrev pub no_event : Event
no_event = record { line = 0; what = Issue 0 }

-- the event at a place of the program's list
abbrev pub event_at : List Event → ℕ → model.Event
event_at es i = event_of (get_or es i no_event).what

pub events_more : (es : List Event) (i : ℕ) → i < length es → events_in (take (i + 1) es) ≡ events_in (take i es) ++ event_at es i ∷ []
events_more es i h = map_more (λ (e : Event). event_of e.what) es i no_event h

issues_of_push : (xs : List model.Event) (e : model.Event) → issues_of (xs ++ e ∷ []) ≡ issues_of xs + issues_in e
issues_of_push xs (model.issue k) = issues_of-append xs (model.issue k ∷ [])
issues_of_push xs (model.advance n) = issues_of-append xs (model.advance n ∷ [])
issues_of_push xs (model.ask a u) = issues_of-append xs (model.ask a u ∷ [])

cycles_of_push : (xs : List model.Event) (e : model.Event) → cycles_of (xs ++ e ∷ []) ≡ cycles_of xs + cycles_of_one e
cycles_of_push xs (model.issue k) = cycles_of-append xs (model.issue k ∷ [])
cycles_of_push xs (model.advance n) = omega (arith, cycles_of-append xs (model.advance n ∷ []))
cycles_of_push xs (model.ask a u) = cycles_of-append xs (model.ask a u ∷ [])

-- one more event is counted
pub issues_more : (es : List Event) (i : ℕ) → i < length es → issues_of (events_in (take (i + 1) es)) ≡ issues_of (events_in (take i es)) + issues_in (event_at es i)
issues_more es i h = ap issues_of (events_more es i h) ∙ issues_of_push (events_in (take i es)) (event_at es i)

pub cycles_more : (es : List Event) (i : ℕ) → i < length es → cycles_of (events_in (take (i + 1) es)) ≡ cycles_of (events_in (take i es)) + cycles_of_one (event_at es i)
cycles_more es i h = ap cycles_of (events_more es i h) ∙ cycles_of_push (events_in (take i es)) (event_at es i)

-- a front has at most the cycles of all
pub cycles_front : (es : List Event) (i : ℕ) → cycles_of (events_in (take i es)) ≤ cycles_of (events_in es)
cycles_front es i =
    let parts = ap events_in (sym (take-append-drop i es)) ∙ map-append (λ (e : Event). event_of e.what) (take i es) (drop i es) in
    omega (arith, ap cycles_of parts, cycles_of-append (events_in (take i es)) (events_in (drop i es)))

pub issues_front : (es : List Event) (i : ℕ) → issues_of (events_in (take i es)) ≤ issues_of (events_in es)
issues_front es i =
    let parts = ap events_in (sym (take-append-drop i es)) ∙ map-append (λ (e : Event). event_of e.what) (take i es) (drop i es) in
    omega (arith, ap issues_of parts, issues_of-append (events_in (take i es)) (events_in (drop i es)))

pub one_issue : (e : model.Event) → issues_in e ≤ 1
one_issue (model.issue k) = omega arith
one_issue (model.advance n) = omega arith
one_issue (model.ask a u) = omega arith

-- Steps: at most four for each part and each issue or cycle.
pub steps_more : (parts before more all from now next : ℕ) → all ≡ before + more → now ≤ from + 4 * parts * before → next ≤ now + 4 * parts * more → next ≤ from + 4 * parts * all
steps_more parts before more all from now next sum h k =
    let split = mul-add (4 * parts) before more in
    let same = ap (λ n. 4 * parts * n) sum in
    omega (arith, split, same, h, k)

pub steps_once : (parts now next : ℕ) → next ≤ now + 4 * parts → next ≤ now + 4 * parts * 1
steps_once parts now next h = omega (arith, h)

pub steps_within : (parts some all from now : ℕ) → some ≤ all → now ≤ from + 4 * parts * some → now ≤ from + 4 * parts * all
steps_within parts some all from now within h =
    let most = mul-le-mul_left {m = some} {n = all} (4 * parts) within in
    omega (arith, most, h)

-- Advances of parts.

-- no cycle leaves all where they are
pub none_advanced : (parts : List Part) (states : List ℕ) → length states ≡ length parts → parts_walk parts states (model.advance 0 ∷ []) ≡ Some states
none_advanced [] [] each = refl
none_advanced [] (s ∷ states) each = absurd (omega (arith, each))
none_advanced (part ∷ parts) [] each = absurd (omega (arith, each))
none_advanced (part ∷ parts) (s ∷ states) each = ap (onto_states (Some s)) (none_advanced parts states (omega (arith, each)))

-- no event leaves all where they are
pub nothing_walked : (parts : List Part) (states : List ℕ) → length states ≡ length parts → parts_walk parts states [] ≡ Some states
nothing_walked [] [] each = refl
nothing_walked [] (s ∷ states) each = absurd (omega (arith, each))
nothing_walked (part ∷ parts) [] each = absurd (omega (arith, each))
nothing_walked (part ∷ parts) (s ∷ states) each = ap (onto_states (Some s)) (nothing_walked parts states (omega (arith, each)))

-- an ask leaves all where they are
pub ask_walked : (parts : List Part) (states : List ℕ) (a u : ℕ) → length states ≡ length parts → parts_walk parts states (model.ask a u ∷ []) ≡ Some states
ask_walked [] [] a u each = refl
ask_walked [] (s ∷ states) a u each = absurd (omega (arith, each))
ask_walked (part ∷ parts) [] a u each = absurd (omega (arith, each))
ask_walked (part ∷ parts) (s ∷ states) a u each = ap (onto_states (Some s)) (ask_walked parts states a u (omega (arith, each)))

word_more : (part : Part) (a : ℕ) → word_of part (model.advance (a + 1) ∷ []) ≡ word_of part (model.advance a ∷ model.advance 1 ∷ [])
word_more part a = append-nil (replicate (a + 1) (advance_of part)) ∙ replicate_next a (advance_of part)

parts_more : (parts : List Part) (states : List ℕ) (a : ℕ) → parts_walk parts states (model.advance (a + 1) ∷ []) ≡ parts_walk parts states (model.advance a ∷ model.advance 1 ∷ [])
parts_more [] states a = refl
parts_more (part ∷ parts) [] a = refl
parts_more (part ∷ parts) (s ∷ states) a =
    ap (λ w. onto_states (walk part.rows (Some s) w) (parts_walk parts states (model.advance (a + 1) ∷ []))) (word_more part a)
    ∙ ap (onto_states (part_walk part s (model.advance a ∷ model.advance 1 ∷ []))) (parts_more parts states a)

pub one_cycle_more : (parts : List Part) (states middle last : List ℕ) (a : ℕ) → parts_walk parts states (model.advance a ∷ []) ≡ Some middle → parts_walk parts middle (model.advance 1 ∷ []) ≡ Some last → parts_walk parts states (model.advance (a + 1) ∷ []) ≡ Some last
one_cycle_more parts states middle last a first then =
    parts_more parts states a ∙ (parts_walk-append parts states (model.advance a ∷ []) (model.advance 1 ∷ []) ∙ (ap (option_and_then (λ next. parts_walk parts next (model.advance 1 ∷ []))) first ∙ then))

-- Events of a machine, one more at a time.
pub walked_more : (m : Machine) (es : List Event) (i : ℕ) (states : List ℕ) (next : Option (List ℕ)) → i < length es → machine_walk m (events_in (take i es)) ≡ Some states → parts_walk m.parts states (event_at es i ∷ []) ≡ next → machine_walk m (events_in (take (i + 1) es)) ≡ next
walked_more m es i states next low before step =
    ap (machine_walk m) (events_more es i low) ∙ (parts_walk-append m.parts (starts_of m) (events_in (take i es)) (event_at es i ∷ []) ∙ (ap (option_and_then (λ s. parts_walk m.parts s (event_at es i ∷ []))) before ∙ step))

pub some_walk : {A : Type 0} (o : Option A) (x : A) → o ≡ Some x → IsSome o
some_walk None x h = absurd (cc)
some_walk (Some y) x h = refl

pub unwalked_first : (m : Machine) (es : List Event) (i : ℕ) (states : List ℕ) → i < length es → machine_walk m (events_in (take i es)) ≡ Some states → parts_walk m.parts states (event_at es i ∷ []) ≡ None → IsIssue (event_at es i) → FirstUnwalked m (events_in es) i
unwalked_first m es i states low before stops issue =
    let long = length-map es (λ (e : Event). event_of e.what) in
    let one : i + 1 ≡ suc i = omega arith in
    record {
      within = omega (arith, low, long);
      before = some_walk (machine_walk m (take i (events_in es))) states (ap (machine_walk m) (take-map (λ (e : Event). event_of e.what) i es) ∙ before);
      stops = ap (machine_walk m) (take-map (λ (e : Event). event_of e.what) (suc i) es) ∙ (ap (λ n. machine_walk m (events_in (take n es))) (sym one) ∙ walked_more m es i states None low before stops);
      class = issue.0;
      issue = slice_get-map (λ (e : Event). event_of e.what) es i ∙ (ap (option_map (λ (e : Event). event_of e.what)) (slice_get-get_or es i no_event low) ∙ ap Some issue.1);
    }
