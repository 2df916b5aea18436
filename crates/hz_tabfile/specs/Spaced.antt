-- Fields of lines, each after a space.
use Rattle.std.specs.Prelude.{ℕ, List, [], ◌∷◌, if◌then◌else◌, slice_index_or}
use Rattle.std.specs.List.{flat_map}
use Rattle.hz_base_model.specs.Pairs.{Pair}
use Rattle.hz_grid.specs.Rows.{has_unit}
use Rattle.hz_tabtext_model.specs.Texts.{pair_field}
use Rattle.hz_tabtext_model.specs.Said.{named_grid}

-- a field after a space
abbrev pub spaced : List ℕ → List ℕ
spaced field = 32 ∷ field

-- the pairs of a grid with the names of these units, each after a space
abbrev pub pairs_text : (units : List (List ℕ)) → List (Pair ℕ) → List ℕ
pairs_text units grid = flat_map (λ pair. spaced (pair_field pair)) (named_grid units grid)

-- a unit of this number in a cycle after a space, where the row has it
abbrev pub unit_text : (units : List (List ℕ)) (cycle row unit : ℕ) → List ℕ
unit_text units cycle row unit = if has_unit row unit then spaced (pair_field (cycle, slice_index_or units unit [])) else []
