-- Pipelines of two units, `a` and `b`, as data, and by how much each unit is moved. This profile, docs/GCC.md.
use Rattle.std.specs.Prelude.{ℕ, zero, suc, List, [], ◌∷◌, codes}
use Rattle.hz_description_model.specs.Reservations.Alternatives.{Expression, named, nothing, sequence, repeat}
use Rattle.hz_description_model.specs.Reservations.Sets.{Statement, excludes, presence}
use Rattle.hz_pipeline_model.specs.Accepting.Replay.{Pipeline, first_fit}
use Rattle.hz_pipeline_model.specs.Accepting.Examples.{two, class, choice_units}

-- the units, in their only cycle
abbrev pub a : Expression
a = named (codes "a")

abbrev pub b : Expression
b = named (codes "b")

-- an expression some cycles later
abbrev pub after : ℕ → Expression → Expression
after cycles expression = sequence (two (repeat nothing cycles) expression)

-- the classes 0 `x` and 1 `y`
abbrev pub classes_of : (x y : Expression) → List (Statement ℕ) → Pipeline ℕ
classes_of x y statements = record { classes = class choice_units (codes "x") x ∷ class choice_units (codes "y") y ∷ []; statements = statements; treatment = first_fit }

-- both units by the same number of cycles
abbrev pub together : ℕ → ℕ → ℕ
together cycles unit = cycles

-- `a` by so many cycles, `b` by so many
abbrev pub apart : (of_a of_b : ℕ) → ℕ → ℕ
apart of_a of_b zero = of_a
apart of_a of_b (suc unit) = of_b

-- `exclusion_set "a" "b"`
abbrev pub excluded : Statement ℕ
excluded = excludes (0 ∷ []) (1 ∷ [])

-- `presence_set "a" "b"`
abbrev pub present : Statement ℕ
present = record { kind = presence; units = 0 ∷ []; patterns = (1 ∷ []) ∷ [] }

-- `nothing*2, a` and `nothing, b`, which exclude each other
abbrev pub both_later : Pipeline ℕ
both_later = classes_of (after 2 a) (after 1 b) (excluded ∷ [])

-- `nothing, a` and `b`, which exclude each other
abbrev pub one_later : Pipeline ℕ
one_later = classes_of (after 1 a) b (excluded ∷ [])

-- `nothing, a` and `nothing*2, b`, where `a` needs `b`
abbrev pub one_needed : Pipeline ℕ
one_needed = classes_of (after 1 a) (after 2 b) (present ∷ [])

-- `a`, and `a` one cycle later
abbrev pub at_once : Pipeline ℕ
at_once = classes_of a (after 1 a) []
