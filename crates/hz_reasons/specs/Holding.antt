-- Which issues hold what stands reserved from the present cycle on.
use Rattle.std.specs.Prelude.{◌&&◌, Bool, nat_le, ◌≡◌, ℕ, ◌+◌, ◌-◌, ◌≤◌, max, List, [], ◌∷◌, Contains, map}
use Rattle.std.specs.List.{flat_map}
use Rattle.std.specs.declared.alloc.Global.{Global}
use Rattle.std.specs.declared.vec.Vec.{Vec}
use Rattle.hz_base_model.specs.Pairs.{Pair}
use Rattle.hz_description_model.specs.Reservations.Automata.{UnitPlace}
use Rattle.hz_pipeline_model.specs.Accepting.Events.{Event, cycles_of}
use Rattle.hz_pipeline_model.specs.Accepting.Replay.{Pipeline, chosen}
use Rattle.hz_why_model.specs.Holders.{Entry, entries_of, entries, entries_from}
use Rattle.hz_why_model.specs.Ways.{Way, ways_left}
use Rattle.hz_reasons.specs.Calendars.{parts_at}
use Rattle.hz_reasons.specs.Plans.{choices_at, unit_of}
use Rattle.hz_reasons.specs.Taken.{is_held}
use Rattle.hz_reasons.specs.declared.holders.Holder.{Holder}
use Rattle.hz_reasons.specs.declared.plan.AutomatonUnit.{AutomatonUnit}
use Rattle.hz_reasons.specs.declared.plan.Choice.{Choice}
use Rattle.hz_reasons.specs.declared.plan.Place.{Place}
use Rattle.hz_reasons.specs.declared.plan.Plan.{Plan}

-- the greatest of the numbers of items; 0 if there is none
abbrev pub most : {A : Type 0} → (A → ℕ) → List A → ℕ
most number [] = 0
most number (x ∷ xs) = max (number x) (most number xs)

-- the last cycle of pairs; 0 if there is none
abbrev pub last_of : List Place → ℕ
last_of pairs = most (λ p. p.cycle) pairs

-- the last cycle of alternatives; 0 if there is none
abbrev pub last_of_choices : List Choice → ℕ
last_of_choices choices = most (λ choice. last_of choice.pairs.items) choices

-- the last cycle of the alternatives of classes; 0 if there is none
abbrev pub last_of_classes : List (Vec Choice Global) → ℕ
last_of_classes classes = most (λ choices. last_of_choices choices.items) classes

-- how many cycles ago the issue was
abbrev pub age_of : Holder → ℕ
age_of h = h.last - h.left

-- what the issue holds from the present cycle on, with cycles counted from it
abbrev pub held_by : Pipeline UnitPlace → Holder → List (Entry UnitPlace)
held_by m h = entries_from (age_of h) (entries_of h.line h.class (chosen m h.class h.number))

-- The issue took an alternative of its class, whose last cycle is not past.
pub record IsHolder (m : Pipeline UnitPlace) (h : Holder) : Type 0 where
  pub order : h.left ≤ h.last
  pub within : (p : Pair UnitPlace) → Contains (chosen m h.class h.number) p → p.cycle ≤ h.last
  pub reached : (p : Pair UnitPlace) × Contains (chosen m h.class h.number) p × (p.cycle ≡ h.last)

-- the issue as it was, where the present cycle is `now`
abbrev pub way_of : (now : ℕ) → Holder → Way
way_of now h = record { line = h.line; class = h.class; number = h.number; cycle = now - age_of h }

-- What stands reserved from the present cycle on after events that stand on these lines is what the issues hold, each something. They
-- are the issues of the events that still hold something, each with the alternative that it took and the cycle in which it was.
pub record AreHolders (m : Pipeline UnitPlace) (t : List Event) (lines choices : List ℕ) (issues : List Holder) : Type 0 where
  pub each : (h : Holder) → Contains issues h → IsHolder m h
  pub early : (h : Holder) → Contains issues h → age_of h ≤ cycles_of t
  pub all : flat_map (held_by m) issues ≡ entries_from (cycles_of t) (entries m 0 t lines choices)
  pub ways : map (way_of (cycles_of t)) issues ≡ ways_left m t lines choices

-- the issue so many cycles later
abbrev pub older : (cycles : ℕ) → Holder → Holder
older cycles h = record h { left = h.left - cycles }

-- whether the issue holds the unit in a cycle that is counted from the present one
abbrev pub is_holder_of : Plan → UnitPlace → (cycle : ℕ) → Holder → Bool
is_holder_of plan u cycle h = nat_le cycle h.left && is_held (parts_at (choices_at plan h.class) h.number) (h.last - (h.left - cycle)) u

-- the unit in a cycle that is counted from the present one, `now`
abbrev pub pair_in : (now : ℕ) → AutomatonUnit → (cycle : ℕ) → Pair UnitPlace
pair_in now unit cycle = record { unit = unit_of unit; cycle = now + cycle }

-- the entry of a pair that the issue holds
abbrev pub entry_with : Pair UnitPlace → Holder → Entry UnitPlace
entry_with p h = record { pair = p; line = h.line; class = h.class }
