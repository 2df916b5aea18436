-- What is kept of each unit while the pairs of a class are gone through. These words are only to prove with.
use Rattle.std.specs.Prelude.{◌≡◌, ℕ, ◌+◌, ◌-◌, ◌<◌, ◌≤◌, ◌*◌, ◌==◌, min, cond, List, [], ◌∷◌, length, map, Some, None, slice_index_or}
use Rattle.hz_base_model.specs.Pairs.{Pair}
use Rattle.hz_grid.specs.Rows.{HasUnit}
use Rattle.hz_measure_model.specs.Bounds.Loads.{cycles_at, ways_in}
use Rattle.hz_bound.specs.declared.tallies.Tally.{Tally}
use Rattle.hz_bound.specs.Ranges.{has, range_of, joined, all_cycles}

-- the tally of a unit before any alternative
abbrev pub no_tally : Tally
no_tally = record { last = 0; before = 65535; here = 65535; range = None }

-- the tally of the unit at a place
abbrev pub tally_at : List Tally → ℕ → Tally
tally_at tallies u = slice_index_or tallies u no_tally

-- the least count before the alternative of this number: 0 if one before it does without the unit
abbrev pub before_of : ℕ → Tally → ℕ
before_of number t = cond (t.last == number - 1) (min t.before t.here) 0

-- one cycle more in which the alternative of this number takes the unit
abbrev pub with_cycle : ℕ → ℕ → Tally → Tally
with_cycle number cycle t = cond (t.last == number)
    (record { last = number; before = t.before; here = min (t.here + 1) 65535; range = joined t.range (Some (record { first = cycle; last = cycle })) })
    (record { last = number; before = before_of number t; here = 1; range = joined t.range (Some (record { first = cycle; last = cycle })) })

-- these cycles more
abbrev pub with_cycles : ℕ → List ℕ → Tally → Tally
with_cycles number [] t = t
with_cycles number (c ∷ cs) t = with_cycles number cs (with_cycle number c t)

-- the least of numbers and of 65,535
abbrev pub top : List ℕ → ℕ
top [] = 65535
top (n ∷ ns) = min n (top ns)

-- the least count of so many alternatives by a tally
abbrev pub forced : ℕ → Tally → ℕ
forced count t = cond (count == 0) 0 (cond (t.last == count) (min t.before t.here) 0)

-- What a tally says of alternatives that take the unit in these cycles.
pub record Says (ws : List (List ℕ)) (t : Tally) : Type 0 where
  pub last : t.last ≤ length ws
  pub full : t.last ≡ length ws → min t.before t.here ≡ top (map length ws)
  pub gap : t.last < length ws → top (map length ws) ≡ 0
  pub range : t.range ≡ range_of (all_cycles ws)

-- Of the units from one number up to another those that the grid has in a cycle are reported it. Others stay.
pub record IsStepped (grid : List (Pair ℕ)) (number cycle first end : ℕ) (old new : List Tally) : Type 0 where
  pub long : length new ≡ length old
  pub inside : (u : ℕ) → first ≤ u → u < end → u < length old → tally_at new u ≡ cond (has grid u cycle) (with_cycle number cycle (tally_at old u)) (tally_at old u)
  pub before : (u : ℕ) → u < first → tally_at new u ≡ tally_at old u
  pub beyond : (u : ℕ) → end ≤ u → tally_at new u ≡ tally_at old u

-- Each unit is reported the cycles in which the grid has it, which are few.
pub record IsAdded (grid : List (Pair ℕ)) (number : ℕ) (old new : List Tally) : Type 0 where
  pub long : length new ≡ length old
  pub each : (u : ℕ) → u < length old → tally_at new u ≡ with_cycles number (cycles_at u grid) (tally_at old u)
  pub few : (u : ℕ) → length (cycles_at u grid) ≤ 512

-- What tallies say of the grids of a list, which take each unit in few cycles.
pub record AreTallies (list : List (List (Pair ℕ))) (count : ℕ) (tallies : List Tally) : Type 0 where
  pub long : length tallies ≡ count
  pub each : (u : ℕ) → u < count → Says (ways_in u list) (tally_at tallies u)
  pub few : (u : ℕ) → 0 < length list → top (map length (ways_in u list)) ≤ 512

-- No alternative is counted yet.
pub record AreNone (tallies : List Tally) : Type 0 where
  pub each : (u : ℕ) → tally_at tallies u ≡ no_tally

-- a mask has the units of a block of sixteen
abbrev pub IsMask : ℕ → ℕ → Type 0
IsMask first mask = (u : ℕ) → first ≤ u → u < first + 16 → HasUnit mask u

-- Masks of the blocks, from the first on.
pub record AreMasks (masks : List ℕ) : Type 0 where
  pub each : (b d : ℕ) → b < length masks → IsMask (16 * b) (slice_index_or masks b d)
