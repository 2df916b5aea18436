-- Names where they stand in a file, and which of several wrong ones is reported. This profile, docs/RULES.md, 'Faults of a description'.
use Rattle.std.specs.Prelude.{ℕ, Bool, ◌&&◌, ◌||◌, nat_lt, nat_le, List, [], ◌∷◌, Option, Some, None, is_some, if◌then◌else◌}
use Rattle.std.specs.List.{list_any}
use Rattle.std.specs.Str.{bytes_eq}
use Rattle.hz_base_model.specs.Lines.{place_of}

-- a name in a form, by the line of the form and its number in the file, from 0
pub record Site : Type 0 where
  pub line : ℕ
  pub form : ℕ
  pub name : List ℕ

-- the name is one of these
abbrev pub is_among : List ℕ → List (List ℕ) → Bool
is_among name names = is_some (place_of name names)

-- the site of the earlier form, the first one where both stand in one form
abbrev pub earlier : Option Site → Option Site → Option Site
earlier None other = other
earlier (Some s) None = Some s
earlier (Some s) (Some t) = if nat_le s.form t.form then Some s else Some t

-- Of sites that stand from left to right where they are of one form, the first of the first form.
abbrev pub earliest : List Site → Option Site
earliest [] = None
earliest (s ∷ sites) = earlier (Some s) (earliest sites)

-- an earlier form gives the name to one of the others
abbrev pub is_preceded : List Site → Site → Bool
is_preceded others s = list_any (λ o. bytes_eq o.name s.name && nat_lt o.form s.form) others

-- the sites whose name is among the names before them, or was given to one of the others by an earlier form
abbrev pub repeated : List Site → List (List ℕ) → List Site → List Site
repeated others before [] = []
repeated others before (s ∷ sites) =
    if is_among s.name before || is_preceded others s then s ∷ repeated others (s.name ∷ before) sites else repeated others (s.name ∷ before) sites
