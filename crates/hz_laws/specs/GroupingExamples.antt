-- Pipelines of four units as data, `a0` and `a1` in one group, `b0` and `b1` in another. This profile, docs/GCC.md.
use Rattle.std.specs.Prelude.{ℕ, zero, suc, List, [], ◌∷◌, codes}
use Rattle.hz_description_model.specs.Reservations.Alternatives.{Expression, Parts, named, one_of, all_of, more}
use Rattle.hz_description_model.specs.Reservations.Sets.{Statement, excludes}
use Rattle.hz_pipeline_model.specs.Accepting.Replay.{Pipeline, first_fit}
use Rattle.hz_pipeline_model.specs.Accepting.Examples.{two, class, stage_units}

-- the group of a unit, by its place in `stage_units`
abbrev pub halves : ℕ → ℕ
halves zero = 0
halves (suc zero) = 0
halves (suc (suc unit)) = 1

-- a unit of each group
abbrev pub both : (a b : List ℕ) → Expression
both a b = all_of (two (named a) (named b))

-- four parts
abbrev pub four : (a b c d : Expression) → Parts
four a b c d = more a (more b (two c d))

-- the classes 0 `x` of this expression, 1 `y` of `b0` and 2 `z` of `a1`
abbrev pub with_classes : Expression → List (Statement ℕ) → Pipeline ℕ
with_classes x statements = record {
  classes = class stage_units (codes "x") x ∷ class stage_units (codes "y") (named (codes "b0")) ∷ class stage_units (codes "z") (named (codes "a1")) ∷ [];
  statements = statements;
  treatment = first_fit;
}

-- `a0`
abbrev pub first_alone : Expression
first_alone = named (codes "a0")

-- `(a0|a1)+(b0|b1)`, written out: the first group's list counts most
abbrev pub first_counts : Expression
first_counts = one_of (four (both (codes "a0") (codes "b0")) (both (codes "a0") (codes "b1")) (both (codes "a1") (codes "b0")) (both (codes "a1") (codes "b1")))

-- `(b0|b1)+(a0|a1)`, written out: the second group's list counts most
abbrev pub second_counts : Expression
second_counts = one_of (four (both (codes "a0") (codes "b0")) (both (codes "a1") (codes "b0")) (both (codes "a0") (codes "b1")) (both (codes "a1") (codes "b1")))

-- all four, and none of the lists counts most
abbrev pub in_no_order : Expression
in_no_order = one_of (four (both (codes "a0") (codes "b0")) (both (codes "a1") (codes "b1")) (both (codes "a0") (codes "b1")) (both (codes "a1") (codes "b0")))

-- two of the four
abbrev pub in_step : Expression
in_step = one_of (two (both (codes "a0") (codes "b0")) (both (codes "a1") (codes "b1")))

-- `exclusion_set "a0" "b0"`, which names units of both groups
abbrev pub across : Statement ℕ
across = excludes (0 ∷ []) (2 ∷ [])
