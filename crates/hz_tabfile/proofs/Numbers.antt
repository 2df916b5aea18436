-- A number by what the reader finds of its digits.
use Rattle.std.proofs.Common.{◌≡◌, ℕ, List, [], ◌∷◌, refl}
use Rattle.std.specs.Prelude.{◌&&◌}
use Rattle.std.specs.Char.{is_ascii_digit}
use Rattle.std.specs.List.{list_all}
use Rattle.hz_tabtext_model.specs.Fields.{is_decimal}
use Rattle.hz_tabfile.specs.Numbers.{begins_right}

pub number_by : (field : List ℕ) → is_decimal field ≡ (list_all is_ascii_digit field && begins_right field)
number_by [] = refl
number_by (b ∷ bs) = refl
