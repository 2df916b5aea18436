-- The extents that the code holds, as those of the definitions, and what becomes of them.
use Rattle.std.specs.Prelude.{ℕ, ◌+◌, ◌*◌, ◌^◌, min, max}
use Rattle.hz_altern.specs.declared.extents.measure.Extent.{Extent}
use Rattle.hz_altern.specs.declared.mark.Mark.{Mark}
use Rattle.hz_altern.specs.declared.mark.Mark.TheVariants.{Comma, Bar, Plus}
use Rattle.hz_description_model.specs.Reservations.AlternativeLists as model
use Rattle.hz_base_model.specs.Limits.{cycle_limit}
use Rattle.hz_description_model.specs.Reservations.Limits.{alternative_limit}

-- what an extent says
abbrev pub reported : Extent → model.Extent
reported extent = record { count = extent.count; longest = extent.longest }

-- the extent of so many alternatives, of which the longest runs for so many cycles
abbrev pub cut_extent : (count longest : ℕ) → model.Extent
cut_extent count longest = record { count = min count (alternative_limit + 1); longest = min longest (cycle_limit + 1) }

-- the extent of two parts with this mark between them
abbrev pub joined_extents : Mark → (a b : model.Extent) → model.Extent
joined_extents Comma a b = cut_extent (a.count * b.count) (a.longest + b.longest)
joined_extents Bar a b = cut_extent (a.count + b.count) (max a.longest b.longest)
joined_extents Plus a b = cut_extent (a.count * b.count) (max a.longest b.longest)

-- the extent of so many copies one after another
abbrev pub repeated_extent : ℕ → model.Extent → model.Extent
repeated_extent times a = cut_extent (a.count ^ times) (a.longest * times)
