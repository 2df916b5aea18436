-- Lists of grids are equal where they have the same grids in one order.
use Rattle.std.specs.Prelude.{◌≡◌, ℕ, List, refl}
use Rattle.std.specs.Bool.{Decides}
use Rattle.std.specs.Cmp.{IsEquivalence}
use Rattle.std.specs.Cmp.Lexicographic.{pointwise, lists_equiv}
use Rattle.std.proofs.lemmas.Slice.Eq.{slice_eq-Decides}
use Rattle.hz_base_model.specs.Pairs.{Pair, grid_eq}
use Rattle.hz_grid.specs.Grids.{grid_eq-laws}
use Rattle.hz_grid.specs.Hashes.{grid_eq-Decides}

pub lists_eq-laws : IsEquivalence (pointwise grid_eq)
lists_eq-laws = lists_equiv grid_eq-laws

-- `==` on lists of grids decides `≡`
pub lists_eq-Decides : (first second : List (List (Pair ℕ))) → Decides (pointwise grid_eq first second) (first ≡ second)
lists_eq-Decides first second = slice_eq-Decides grid_eq-Decides first second _ refl
