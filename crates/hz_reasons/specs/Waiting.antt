-- How far the search for a wait has come.
use Rattle.std.specs.Prelude.{◌≡◌, ◌↔◌, ℕ, ◌+◌, ◌<◌, ◌≤◌, Bool, true, false, List, All, Contains, Option, Some, None, length}
use Rattle.hz_base_model.specs.Pairs.{Pair}
use Rattle.hz_description_model.specs.Reservations.Automata.{UnitPlace}
use Rattle.hz_description_model.specs.Reservations.Sets.{Statement}
use Rattle.hz_pipeline_model.specs.Accepting.Replay.{Pipeline, State}
use Rattle.hz_why_model.specs.Waits.{FitsLater}
use Rattle.hz_reasons.specs.Calendars.{at, AreUnbroken, IsFirstOf, AreLaterBy, parts_at}
use Rattle.hz_reasons.specs.Frontiers.{Grids}
use Rattle.hz_reasons.specs.Plans.{choices_at, IsPlanOf, Stands}
use Rattle.hz_reasons.specs.declared.plan.Choice.{Choice}
use Rattle.hz_reasons.specs.declared.plan.Plan.{Plan}

-- ---- what is tried again

-- all pairs are before this cycle
abbrev pub EndBefore : (cycles : ℕ) → Grids → Type 0
EndBefore cycles grids = (a : ℕ) (p : Pair ℕ) → Contains (at grids a) p → p.cycle < cycles

-- the same of all that the alternatives take
abbrev pub AreWithin : (cycles : ℕ) → List Choice → Type 0
AreWithin cycles choices = (i : ℕ) → EndBefore cycles (parts_at choices i)

-- in each of so many cycles the same units are held as in the next
abbrev pub IsSteady : (cycles : ℕ) → List (Pair ℕ) → Type 0
IsSteady cycles grid = (unit cycle : ℕ) → cycle < cycles → Contains grid (record { unit = unit; cycle = cycle }) ↔ Contains grid (record { unit = unit; cycle = cycle + 1 })

abbrev pub AreSteady : (cycles : ℕ) → Grids → Type 0
AreSteady cycles grids = (a : ℕ) → a < length grids → IsSteady cycles (at grids a)

module _ (rules : List (List (Statement ℕ))) (choices : List Choice) where
  -- some alternative fits, or none does
  abbrev pub FitsSome : Grids → Bool → Type 0
  FitsSome grids true = (i : ℕ) × IsFirstOf rules grids choices (Some i)
  FitsSome grids false = IsFirstOf rules grids choices None

  -- some alternative fits in some entry, or none does in any
  abbrev pub FitsAny : List Grids → Bool → Type 0
  FitsAny entries true = (grids : Grids) × Contains entries grids × FitsSome grids true
  FitsAny entries false = All (λ grids. FitsSome grids false) entries

  -- The new grids are a cycle later, and no alternative fits.
  pub record IsNext (old new : Grids) : Type 0 where
    pub moves : AreLaterBy 1 old new
    pub none : IsFirstOf rules new choices None

  -- the same of the entries up to a place, and from it on they are as they were
  pub record AreNextUpTo (place : ℕ) (old new : List Grids) : Type 0 where
    pub each : length new ≡ length old
    pub done : (i : ℕ) → i < place → IsNext (at old i) (at new i)
    pub left : (i : ℕ) → place ≤ i → at new i ≡ at old i

  -- A cycle later some alternative fits in some entry; or it is a cycle later, and none fits in any.
  abbrev pub GoesOn : (old new : List Grids) → Bool → Type 0
  GoesOn old new true = (grids next : Grids) × Contains old grids × AreLaterBy 1 grids next × FitsSome next true
  GoesOn old new false = AreNextUpTo (length old) old new

-- ---- what it means

module _ (plan : Plan) (class : ℕ) where
  -- the class fits so many cycles later than the grids
  abbrev pub FitsThen : Grids → (cycles : ℕ) → Type 0
  FitsThen grids n = (m : Pipeline UnitPlace) (s : State UnitPlace) → IsPlanOf m plan → Stands m grids s → FitsLater m s class n

  -- it fits in none of so many cycles
  abbrev pub FitsNotBefore : Grids → (cycles : ℕ) → Type 0
  FitsNotBefore grids n = (m : Pipeline UnitPlace) (s : State UnitPlace) → IsPlanOf m plan → Stands m grids s → (j : ℕ) → j < n → FitsLater m s class j → ⊥

  -- The least number of cycles after which the class fits in some entry; none where it fits in no cycle.
  abbrev pub IsLeastOf : List Grids → Option ℕ → Type 0
  IsLeastOf entries (Some n) = ((grids : Grids) × Contains entries grids × FitsThen grids n) × ((grids : Grids) → Contains entries grids → FitsNotBefore grids n)
  IsLeastOf entries None = (grids : Grids) → Contains entries grids → (n : ℕ) → FitsNotBefore grids n

  -- The grids are so many cycles later, and the class fits neither then nor in a cycle before.
  pub record HasWaited (cycles : ℕ) (old new : Grids) : Type 0 where
    pub moves : AreLaterBy cycles old new
    pub unbroken : AreUnbroken plan.rules.items new
    pub none : IsFirstOf plan.rules.items new (choices_at plan class) None
    pub before : FitsNotBefore old cycles

  -- the same of all entries
  pub record HaveWaited (cycles : ℕ) (old new : List Grids) : Type 0 where
    pub each : length new ≡ length old
    pub waited : (i : ℕ) → i < length old → HasWaited cycles (at old i) (at new i)
