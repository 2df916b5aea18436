-- Replaying over tables: the states of a machine's parts, and what a replay answers.
use Rattle.std.specs.Prelude.{◌≡◌, ◌<◌, ℕ, suc, List, Option, Some, None, length, take, slice_get, slice_index, IsSome}
use Rattle.hz_pipeline_model.specs.Accepting.Events as events
use Rattle.hz_pipeline_model.specs.Tables.Machines.{Machine, part_at, machine_walk}
use Rattle.hz_replay.specs.declared.outcome.Outcome.{Outcome}
use Rattle.hz_replay.specs.declared.outcome.Outcome.TheVariants.{Accepted, Refused}

-- A machine and a state for each of its parts.
pub record Standing : Type 0 where
  pub machine : Machine
  pub states : List ℕ

-- each part has its state
pub record AreStates (machine : Machine) (states : List ℕ) : Type 0 where
  pub each : length states ≡ length machine.parts
  pub within : (i : ℕ) → i < length machine.parts → slice_index states i < length (part_at machine i).rows

-- one event: an issue of the class, or the advance of one cycle where there is no class
abbrev pub event_for : Option ℕ → events.Event
event_for (Some class) = events.issue class
event_for None = events.advance 1

-- The first event that the machine does not walk, an issue: it walks all before it.
pub record FirstUnwalked (m : Machine) (t : List events.Event) (i : ℕ) : Type 0 where
  pub within : i < length t
  pub before : IsSome (machine_walk m (take i t))
  pub stops : machine_walk m (take (suc i) t) ≡ None
  pub class : ℕ
  pub issue : slice_get t i ≡ Some (events.issue class)

-- what a replay answers: all events are walked, with their counts, or the first that is not
abbrev pub IsOutcome : Machine → List events.Event → Outcome → Type 0
IsOutcome m t (Accepted issues cycles) = IsSome (machine_walk m t) × (issues ≡ events.issues_of t) × (cycles ≡ events.cycles_of t)
IsOutcome m t (Refused event) = FirstUnwalked m t event

-- the event is an issue
abbrev pub IsIssue : events.Event → Type 0
IsIssue e = (class : ℕ) × (e ≡ events.issue class)

-- 1 for an issue, and 0 for advances and asks
abbrev pub issues_in : events.Event → ℕ
issues_in (events.issue class) = 1
issues_in (events.advance cycles) = 0
issues_in (events.ask automaton query) = 0

-- the cycles that one event advances
abbrev pub cycles_of_one : events.Event → ℕ
cycles_of_one (events.issue class) = 0
cycles_of_one (events.advance cycles) = cycles
cycles_of_one (events.ask automaton query) = 0
