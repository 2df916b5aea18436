-- Names that are defined again.
use Rattle.std.specs.Prelude.{ℕ, Bool, false, ◌||◌, nat_lt, List, [], ◌∷◌, if◌then◌else◌}
use Rattle.std.specs.Option.{option_map_or}
use Rattle.std.specs.Str.{bytes_eq}
use Rattle.hz_description_model.specs.Check.Sites.{Site}
use Rattle.hz_check.specs.declared.names.by_name.ByName.{ByName}
use Rattle.hz_check.specs.Names.Held.{held}

-- a form before that of the site is held for its name
abbrev pub is_given : ByName ℕ → Site → Bool
is_given forms s = option_map_or (λ form. nat_lt form s.form) (held forms s.name) false

-- the name was seen, or is this one
abbrev pub seen_with : List ℕ → (List ℕ → Bool) → List ℕ → Bool
seen_with name seen other = bytes_eq name other || seen other

-- the sites whose name was seen before them, or is given
abbrev pub repeated_by : (Site → Bool) → (List ℕ → Bool) → List Site → List Site
repeated_by given seen [] = []
repeated_by given seen (s ∷ sites) =
    if seen s.name || given s then s ∷ repeated_by given (seen_with s.name seen) sites else repeated_by given (seen_with s.name seen) sites

-- no name
abbrev pub unseen : List ℕ → Bool
unseen name = false
