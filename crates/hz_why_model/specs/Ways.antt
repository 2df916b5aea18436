-- Which issues still hold something, and which alternative each took. This profile, docs/RULES.md, 'Reasons'.
use Rattle.std.specs.Prelude.{ℕ, zero, suc, ◌+◌, ◌-◌, Bool, nat_le, nat_lt, List, [], ◌∷◌, ◌++◌, codes, decimal, drop, length, filter, slice_index, if◌then◌else◌}
use Rattle.std.specs.List.{concat, flat_map, list_any}
use Rattle.hz_pipeline_model.specs.Accepting.Events.{Event, issue, advance, ask, cycles_of}
use Rattle.hz_pipeline_model.specs.Accepting.Replay.{Pipeline, chosen}
use Rattle.hz_why_model.specs.Lists.{narrow}

-- An issue: its line, its class, the number of the alternative that it took, and the cycle in which it was.
pub record Way : Type 0 where
  pub line : ℕ
  pub class : ℕ
  pub number : ℕ
  pub cycle : ℕ

-- the issues of events that are on these lines, from cycle `now` on
abbrev pub ways : ℕ → List Event → (lines choices : List ℕ) → List Way
ways now [] lines choices = []
ways now (advance n ∷ t) lines choices = ways (n + now) t (drop 1 lines) choices
ways now (ask a u ∷ t) lines choices = ways now t (drop 1 lines) choices
ways now (issue k ∷ t) lines [] = []
ways now (issue k ∷ t) lines (i ∷ choices) = record { line = slice_index lines 0; class = k; number = i; cycle = now } ∷ ways now t (drop 1 lines) choices

-- whether the issue holds something in cycle `now` or later
abbrev pub still_holds : {U : Type 0} → Pipeline U → (now : ℕ) → Way → Bool
still_holds m now way = list_any (λ p. nat_le now (way.cycle + p.cycle)) (chosen m way.class way.number)

-- the issues of events that still hold something after them
abbrev pub ways_left : {U : Type 0} → Pipeline U → List Event → (lines choices : List ℕ) → List Way
ways_left m t lines choices = filter (still_holds m (cycles_of t)) (ways 0 t lines choices)

-- how many issues are written, at most
abbrev pub ways_limit : ℕ
ways_limit = 64

-- so many cycles ago, as a cycle that is counted from the present one
abbrev pub ago_text : ℕ → List ℕ
ago_text zero = codes "0"
ago_text (suc n) = codes "-" ++ decimal (suc n)

module _ (class_name : ℕ → List ℕ) (now : ℕ) where
  -- the line of an issue
  abbrev pub way_line : Way → List ℕ
  way_line way = narrow (concat (codes "line " ∷ decimal way.line ∷ codes " " ∷ class_name way.class ∷ codes " in cycle " ∷ ago_text (now - way.cycle) ∷ codes " took alternative " ∷ decimal (suc way.number) ∷ [])) ++ codes "\n"

  -- the line that says how many issues come before those that are written, if any does
  abbrev pub before_line : (issues : ℕ) → List ℕ
  before_line issues = if nat_lt ways_limit issues then concat (codes "more issues before: " ∷ decimal (issues - ways_limit) ∷ codes "\n" ∷ []) else []

  -- the last of these issues
  abbrev pub way_lines : List Way → List ℕ
  way_lines issues = before_line (length issues) ++ flat_map way_line (drop (length issues - ways_limit) issues)
