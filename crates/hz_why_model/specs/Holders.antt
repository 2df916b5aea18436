-- Who holds what stands reserved. This profile, docs/RULES.md, 'Reasons'.
use Rattle.std.specs.Prelude.{ℕ, ◌+◌, ◌-◌, ◌==◌, ◌&&◌, Bool, nat_le, List, [], ◌∷◌, ◌++◌, Option, drop, map, filter, slice_index}
use Rattle.std.specs.List.{find}
use Rattle.hz_base_model.specs.Pairs.{Pair, placed}
use Rattle.hz_pipeline_model.specs.Accepting.Events.{Event, issue, advance, ask}
use Rattle.hz_pipeline_model.specs.Accepting.Replay.{Pipeline, chosen}

-- A pair that stands reserved, with the line and the class of the issue that took it.
pub record Entry (U : Type 0) : Type 0 where
  pub pair : Pair U
  pub line : ℕ
  pub class : ℕ

-- the pairs as entries of an issue
abbrev pub entries_of : {U : Type 0} → (line class : ℕ) → List (Pair U) → List (Entry U)
entries_of line class pairs = map (λ p. record { pair = p; line = line; class = class }) pairs

-- The calendar of events that stand on these lines, from cycle `now` on, with who took each pair.
abbrev pub entries : {U : Type 0} → Pipeline U → ℕ → List Event → (lines choices : List ℕ) → List (Entry U)
entries m now [] lines choices = []
entries m now (advance n ∷ t) lines choices = entries m (n + now) t (drop 1 lines) choices
entries m now (ask a u ∷ t) lines choices = entries m now t (drop 1 lines) choices
entries m now (issue k ∷ t) lines [] = []
entries m now (issue k ∷ t) lines (i ∷ choices) = entries_of (slice_index lines 0) k (placed now (chosen m k i)) ++ entries m now t (drop 1 lines) choices

-- the pairs of entries
abbrev pub pairs_in : {U : Type 0} → List (Entry U) → List (Pair U)
pairs_in held = map (λ e. e.pair) held

-- the entry of a pair, if it stands reserved
abbrev pub entry_at : {U : Type 0} → (U → U → Bool) → List (Entry U) → Pair U → Option (Entry U)
entry_at same held p = find (λ e. same e.pair.unit p.unit && e.pair.cycle == p.cycle) held

-- the pair, with its cycle counted from the present one
abbrev pub counted_from : {U : Type 0} → ℕ → Pair U → Pair U
counted_from now p = record { unit = p.unit; cycle = p.cycle - now }

-- the entry, with its cycle counted from the present one
abbrev pub entry_from : {U : Type 0} → ℕ → Entry U → Entry U
entry_from now e = record { pair = counted_from now e.pair; line = e.line; class = e.class }

-- what stands reserved from the present cycle on, with cycles counted from it
abbrev pub entries_from : {U : Type 0} → ℕ → List (Entry U) → List (Entry U)
entries_from now held = map (entry_from now) (filter (λ e. nat_le now e.pair.cycle) held)
