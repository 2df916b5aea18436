-- Acceptance of events. GCC Internals, 'Specifying processor pipeline description', on `|` and on `ndfa`.
use Rattle.std.specs.Prelude.{◌≡◌, ℕ, ◌+◌, ◌<◌, List, [], ◌∷◌, ◌++◌, Option, Some, None, length, take, slice_get, slice_index}
use Rattle.hz_base_model.specs.Pairs.{Pair, SamePairs, placed}
use Rattle.hz_description_model.specs.Reservations.Alternatives.{Alternative}
use Rattle.hz_description_model.specs.Reservations.Sets.{Statement, Fits}
use Rattle.hz_pipeline_model.specs.Accepting.Events.{Event, issue, advance, ask, issues_of, cycles_of}

-- How an issue takes an alternative: the first that fits, or under `ndfa` any that fits.
pub data Treatment : Type 0 where
  first_fit : Treatment
  any_fit : Treatment

-- an instruction reservation: its name and its alternatives
pub record Class (U : Type 0) : Type 0 where
  pub name : List ℕ
  pub alternatives : List (Alternative U)

-- what a description means to a replay
pub record Pipeline (U : Type 0) : Type 0 where
  pub classes : List (Class U)
  pub statements : List (Statement U)
  pub treatment : Treatment

-- the alternatives of a class, none where there is no such class
abbrev pub of_class : {U : Type 0} → Option (Class U) → List (Alternative U)
of_class None = []
of_class (Some c) = c.alternatives

-- the alternatives of the class of this number
abbrev pub alternatives_at : {U : Type 0} → Pipeline U → ℕ → List (Alternative U)
alternatives_at m k = of_class (slice_get m.classes k)

-- the pairs of an alternative, none where there is no such alternative
abbrev pub pairs_at : {U : Type 0} → Option (Alternative U) → List (Pair U)
pairs_at None = []
pairs_at (Some a) = a.pairs

-- the pairs of the class's alternative of this number
abbrev pub chosen : {U : Type 0} → Pipeline U → ℕ → ℕ → List (Pair U)
chosen m k i = pairs_at (slice_get (alternatives_at m k) i)

-- The same statements and treatment, as many alternatives of each class, and in each the same set of pairs.
pub record SamePipeline {U : Type 0} (m o : Pipeline U) : Type 0 where
  pub statements : m.statements ≡ o.statements
  pub treatment : m.treatment ≡ o.treatment
  pub numbers : (k : ℕ) → length (alternatives_at m k) ≡ length (alternatives_at o k)
  pub pairs : (k i : ℕ) → SamePairs (chosen m k i) (chosen o k i)

-- What stands reserved, in absolute cycles, and the present cycle.
pub record State (U : Type 0) : Type 0 where
  pub reserved : List (Pair U)
  pub now : ℕ

-- nothing reserved, in cycle 0
abbrev pub start : {U : Type 0} → State U
start = record { reserved = []; now = 0 }

-- the class's alternative of this number exists and fits
abbrev pub FitsAt : {U : Type 0} → Pipeline U → State U → ℕ → ℕ → Type 0
FitsAt m s k i = (i < length (alternatives_at m k)) × Fits m.statements s.reserved (chosen m k i) s.now

-- An issue of class k may take its alternative of number i: it fits, and in the first treatment none before it does.
pub record MayTake {U : Type 0} (m : Pipeline U) (s : State U) (k i : ℕ) : Type 0 where
  pub fits : FitsAt m s k i
  pub first : m.treatment ≡ first_fit → (j : ℕ) → j < i → FitsAt m s k j → ⊥

-- The calendar of events whose issues take the alternatives of these numbers, from cycle `now` on: all pairs that
-- they reserve. Cycles are absolute, and what is past stays.
abbrev pub calendar : {U : Type 0} → Pipeline U → ℕ → List Event → List ℕ → List (Pair U)
calendar m now [] choices = []
calendar m now (advance n ∷ t) choices = calendar m (n + now) t choices
calendar m now (ask a u ∷ t) choices = calendar m now t choices
calendar m now (issue k ∷ t) [] = []
calendar m now (issue k ∷ t) (i ∷ choices) = placed now (chosen m k i) ++ calendar m now t choices

-- what events leave whose issues take the alternatives of these numbers
abbrev pub left_by : {U : Type 0} → Pipeline U → List Event → List ℕ → State U
left_by m t choices = record { reserved = calendar m 0 t choices; now = cycles_of t }

-- A choice for each issue, each of which it may take where the issues before it have left the calendar.
-- In the first treatment there is at most one such list.
pub record IsChoice {U : Type 0} (m : Pipeline U) (t : List Event) (choices : List ℕ) : Type 0 where
  pub each : length choices ≡ issues_of t
  pub may : (before after : List Event) (k : ℕ) → t ≡ before ++ issue k ∷ after → MayTake m (left_by m before choices) k (slice_index choices (issues_of before))

-- The choice of the first treatment: each issue takes the first alternative that fits in its turn.
abbrev pub ChoiceFirst : {U : Type 0} → Pipeline U → List Event → List ℕ → Type 0
ChoiceFirst m t choices = IsChoice (record m { treatment = first_fit }) t choices

-- some choices make every issue fit in its turn
abbrev pub Accepted : {U : Type 0} → Pipeline U → List Event → Type 0
Accepted m t = (choices : List ℕ) × IsChoice m t choices

-- the place of the last event of the shortest prefix that is not accepted
pub record FirstRefused {U : Type 0} (m : Pipeline U) (t : List Event) (i : ℕ) : Type 0 where
  pub within : i < length t
  pub before : Accepted m (take i t)
  pub refused : Accepted m (take (i + 1) t) → ⊥

-- One event from one state to the next.
abbrev pub Step : {U : Type 0} → Pipeline U → State U → Event → State U → Type 0
Step m old (advance n) new = new ≡ record { reserved = old.reserved; now = n + old.now }
Step m old (ask a u) new = new ≡ old
Step m old (issue k) new = (i : ℕ) × MayTake m old k i × (new ≡ record { reserved = old.reserved ++ placed old.now (chosen m k i); now = old.now })

-- events from one state to another
abbrev pub Plays : {U : Type 0} → Pipeline U → State U → List Event → State U → Type 0
Plays m old [] new = new ≡ old
Plays {U} m old (e ∷ t) new = (middle : State U) × Step m old e middle × Plays m middle t new

-- events that can be run from the start
abbrev pub IsPlayable : {U : Type 0} → Pipeline U → List Event → Type 0
IsPlayable {U} m t = (s : State U) × Plays m start t s
