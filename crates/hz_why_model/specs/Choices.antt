-- Which choices are reported of. GCC Internals, 'Specifying processor pipeline description', on `ndfa`; the order is this profile's,
-- docs/RULES.md, 'Reasons'.
use Rattle.std.specs.Prelude.{◌≡◌, ℕ, List}
use Rattle.std.specs.Ordering.{nat_cmp}
use Rattle.std.specs.Cmp.Lexicographic.{slice_cmp}
use Rattle.std.specs.declared.cmp.Ordering.TheVariants.{Greater}
use Rattle.hz_pipeline_model.specs.Accepting.Events.{Event}
use Rattle.hz_pipeline_model.specs.Accepting.Replay.{Pipeline, IsChoice}

-- The choices accept the events, and no others that do come before them: the first place decides at which two lists differ. In the
-- first treatment there are no others.
pub record IsFirstChoice {U : Type 0} (m : Pipeline U) (t : List Event) (choices : List ℕ) : Type 0 where
  pub choice : IsChoice m t choices
  pub first : (others : List ℕ) → IsChoice m t others → slice_cmp nat_cmp choices others ≡ Greater → ⊥
