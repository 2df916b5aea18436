-- Items that are alike, as groups. This profile, docs/RULES.md, 'Reasons'.
use Rattle.std.specs.Prelude.{ℕ, suc, ◌==◌, Bool, List, [], ◌∷◌, ◌++◌, map, slice_index, if◌then◌else◌}

-- how many items come before the first of which the test holds
abbrev pub first_place : {A : Type 0} → (A → Bool) → List A → ℕ
first_place test [] = 0
first_place test (x ∷ xs) = if test x then 0 else suc (first_place test xs)

-- for each item the place of the first that is alike
abbrev pub leaders : {A : Type 0} → (A → A → Bool) → List A → List ℕ
leaders alike items = map (λ x. first_place (alike x) items) items

-- the numbers of those that this place leads, where the first has this number
abbrev pub led_by : (place number : ℕ) → (leaders : List ℕ) → List ℕ
led_by place number [] = []
led_by place number (leader ∷ leaders) = if leader == place then number ∷ led_by place (suc number) leaders else led_by place (suc number) leaders

-- A text for each group, in the order of its first item: by the numbers of all that are alike, which begin with 1, and the first.
abbrev pub groups_from : {A : Type 0} → (text : List ℕ → A → List ℕ) → (leaders : List ℕ) → (place : ℕ) → List A → List ℕ
groups_from text leaders place [] = []
groups_from text leaders place (x ∷ xs) = (if slice_index leaders place == place then text (led_by place 1 leaders) x else []) ++ groups_from text leaders (suc place) xs

abbrev pub group_texts : {A : Type 0} → (alike : A → A → Bool) → (text : List ℕ → A → List ℕ) → List A → List ℕ
group_texts alike text items = groups_from text (leaders alike items) 0 items
