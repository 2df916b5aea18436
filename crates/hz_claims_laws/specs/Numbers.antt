-- Which bypasses give a pair of classes two numbers: this profile, docs/RULES.md, 'Faults of a description'. Law:
-- `second_numbers_are_between_bypasses_without_the_guard`.
use Rattle.std.specs.Prelude.{◌≡◌, ◌≢◌, ℕ, false, List, ◌∷◌, ◌++◌}
use Rattle.std.specs.List.{Contains}
use Rattle.hz_description_model.specs.Reading.Descriptions.{Description, BypassItem}
use Rattle.hz_description_model.specs.Check.Sites.{Site}

-- Of two bypasses of the file neither has the guard, and they give two numbers to a pair of classes that both list. The site is that of the
-- later one, with the name of the producing class.
pub record GiveTwoNumbers (d : Description) (s : Site) : Type 0 where
  pub before : List BypassItem
  pub earlier : BypassItem
  pub between : List BypassItem
  pub later : BypassItem
  pub rest : List BypassItem
  pub file : d.bypasses ≡ before ++ earlier ∷ (between ++ later ∷ rest)
  pub earlier_free : earlier.guard ≡ false
  pub later_free : later.guard ≡ false
  pub consumer : List ℕ
  pub from_earlier : Contains earlier.outs s.name
  pub to_earlier : Contains earlier.ins consumer
  pub from_later : Contains later.outs s.name
  pub to_later : Contains later.ins consumer
  pub other : earlier.number ≢ later.number
  pub line : s.line ≡ later.line
  pub form : s.form ≡ later.form
