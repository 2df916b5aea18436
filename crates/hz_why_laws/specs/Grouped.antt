-- Groups of items that are alike, and runs of numbers. This profile, docs/RULES.md, 'Reasons'.
use Rattle.std.specs.Prelude.{◌≡◌, ⊤, ℕ, suc, ◌-◌, ◌<◌, ◌==◌, Bool, true, List, [], ◌∷◌, filter, length, slice_get, slice_index, Some}
use Rattle.std.specs.List.{Contains, range_with_len}
use Rattle.std.specs.Option.{option_map_or}
use Rattle.hz_why_model.specs.Groups.{leaders, led_by}
use Rattle.hz_why_model.specs.Lists.{Run}

module _ {A : Type 0} (alike : A → A → Bool) (items : List A) where
  -- the place leads a group: it is its own leader
  abbrev pub Leads : ℕ → Type 0
  Leads place = (place < length items) × (slice_index (leaders alike items) place ≡ place)

  -- the numbers of the group that the place leads, which begin with 1
  abbrev pub group_at : ℕ → List ℕ
  group_at place = led_by place 1 (leaders alike items)

  -- the number is that of an item that is alike to this one
  abbrev pub IsNumberOf : A → ℕ → Type 0
  IsNumberOf first number = (i : ℕ) × (item : A) × (slice_get items i ≡ Some item) × (alike first item ≡ true) × (number ≡ suc i)

  -- the number is in the group that the place leads, and in no other
  abbrev pub IsTheGroupOf : ℕ → ℕ → Type 0
  IsTheGroupOf number place = Leads place × Contains (group_at place) number × ((other : ℕ) → Leads other → Contains (group_at other) number → other ≡ place)

  -- the places that lead groups, in their order
  abbrev pub leading : List ℕ
  leading = filter (λ place. slice_index (leaders alike items) place == place) (range_with_len 0 (length items))

  -- the text of the group that the place leads, by its numbers and its first item
  abbrev pub text_at : (List ℕ → A → List ℕ) → ℕ → List ℕ
  text_at text place = option_map_or (λ first. text (group_at place) first) (slice_get items place) []

-- the numbers of a run
abbrev pub numbers_of : Run → List ℕ
numbers_of r = range_with_len r.first (suc r.last - r.first)

-- no run goes on with the next one
abbrev pub AreApart : List Run → Type 0
AreApart [] = ⊤
AreApart (r ∷ []) = ⊤
AreApart (r ∷ q ∷ rs) = (suc r.last ≡ q.first → ⊥) × AreApart (q ∷ rs)
