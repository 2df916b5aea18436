-- The marks that are computed are those of units of the present cycle.
use Rattle.std.proofs.Common.{◌≡◌, ℕ, List, [], ◌∷◌, map, subst}
use Rattle.std.specs.Prelude.{nat_eq, slice_index}
use Rattle.std.specs.Bool.{Decides}
use Rattle.std.proofs.lemmas.Bool.Decides.{Decides-eqb}
use Rattle.hz_base_model.specs.Pairs.{Pair}
use Rattle.hz_pipeline_model.proofs.Accepting.PlayLaws.{has_decides}
use Rattle.hz_pipeline_model.specs.Reaching.Built.{grid_at, set_at}
use Rattle.hz_pipeline_model.specs.Reaching.Present.{HasPresent, MarksPresent, has_present, one_grid, marks_of}

pub present_decides : (grid : List (Pair ℕ)) (unit : ℕ) → Decides (has_present grid unit) (HasPresent grid unit)
present_decides grid unit = has_decides nat_eq Decides-eqb grid (record { unit = unit; cycle = 0 })

pub first_of_one : (grids : List (List (Pair ℕ))) (set : List ℕ) (grid : List (Pair ℕ)) → map (grid_at grids) set ≡ grid ∷ [] → grid_at grids (slice_index set 0) ≡ grid
first_of_one grids [] grid e = absurd (cc)
first_of_one grids (number ∷ set) grid e = cc

pub marks_present : (grids : List (List (Pair ℕ))) (sets : List (List ℕ)) (queries : List ℕ) → MarksPresent grids sets queries (marks_of grids sets queries)
marks_present grids sets queries = record {
  present = λ state query grid within lt one.
      subst (λ (g : List (Pair ℕ)). Decides (marks_of grids sets queries state query) (HasPresent g (slice_index queries query)))
      (first_of_one grids (set_at sets state) grid one)
      (present_decides (one_grid grids sets state) (slice_index queries query));
}
