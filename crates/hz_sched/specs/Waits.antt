-- What instructions wait for. These words are only to prove with.
use Rattle.std.specs.Prelude.{ℕ, ◌+◌, ◌==◌, ◌&&◌, not, is_some, if◌then◌else◌, max, List, [], ◌∷◌, Option, Some, None}
use Rattle.hz_block_model.specs.Dependences.Graphs.{Edge}
use Rattle.hz_block_model.specs.Scheduling.Schedules.{Slot}

-- the cycle in which an instruction is issued, if it is
abbrev pub issued_at : List Slot → ℕ → Option ℕ
issued_at [] j = None
issued_at (x ∷ slots) j = if x.place == j then Some x.cycle else issued_at slots j

-- one more issue
abbrev pub and_issued : (ℕ → Option ℕ) → ℕ → ℕ → ℕ → Option ℕ
and_issued at i cycle j = if j == i then Some cycle else at j

-- how many of these edges lead to an instruction from one that isn't issued
abbrev pub missing : (ℕ → Option ℕ) → ℕ → List Edge → ℕ
missing at j [] = 0
missing at j (e ∷ edges) = (if (e.to == j) && not (is_some (at e.from)) then 1 else 0) + missing at j edges

-- the cycle from which on an issue has been waited for
abbrev pub waited : Option ℕ → ℕ → ℕ
waited None cost = 0
waited (Some cycle) cost = cycle + cost

-- the first cycle at which all issues have been waited for from which these edges lead to an instruction
abbrev pub ripe : (ℕ → Option ℕ) → ℕ → List Edge → ℕ
ripe at j [] = 0
ripe at j (e ∷ edges) = max (if e.to == j then waited (at e.from) e.cost else 0) (ripe at j edges)

-- how many of these edges lead to an instruction
abbrev pub leading : ℕ → List Edge → ℕ
leading j [] = 0
leading j (e ∷ edges) = (if e.to == j then 1 else 0) + leading j edges

-- the first cycle at which these edges have been waited for, all from an issue in one cycle
abbrev pub ripe_from : ℕ → ℕ → List Edge → ℕ
ripe_from cycle j [] = 0
ripe_from cycle j (e ∷ edges) = max (if e.to == j then cycle + e.cost else 0) (ripe_from cycle j edges)
