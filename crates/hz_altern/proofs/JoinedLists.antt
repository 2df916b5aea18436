-- The alternatives of two lists of alternatives, with a mark between them.
use Rattle.std.specs.Prelude.{List, ◌++◌}
use Rattle.hz_altern.specs.declared.mark.Mark.{Mark}
use Rattle.hz_altern.specs.declared.mark.Mark.TheVariants.{Comma, Bar, Plus}
use Rattle.hz_description_model.specs.Reservations.Alternatives.{Alternative, followed_by, beside, each_choice}
use Rattle.hz_description_model.specs.Reservations.Automata.{UnitPlace}

-- the alternatives of two parts with this mark between them
abbrev pub joined_lists : Mark → List (Alternative UnitPlace) → List (Alternative UnitPlace) → List (Alternative UnitPlace)
joined_lists Comma xs ys = each_choice followed_by xs ys
joined_lists Bar xs ys = xs ++ ys
joined_lists Plus xs ys = each_choice beside xs ys
