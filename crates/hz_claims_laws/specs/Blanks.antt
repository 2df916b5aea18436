-- Texts of lists with any white space: this profile, docs/FORMATS.md, 'Descriptions'. Each is said by cases on the text, and not by the
-- readers' definitions. Laws of `blank_laws`.
use Rattle.std.specs.Prelude.{◌≡◌, ℕ, ◌==◌, Bool, true, false, ◌||◌, List, [], ◌∷◌, ◌++◌, codes, All, IsTrue}
use Rattle.hz_base_model.specs.Names.{is_name}
use Rattle.hz_description_model.specs.Reading.Descriptions.{Condition, matches, Options}

-- white space: space, tab, line feed, form feed, carriage return
abbrev pub is_blank : ℕ → Bool
is_blank b = b == 32 || b == 9 || b == 10 || b == 12 || b == 13

-- nothing but white space, or nothing at all
abbrev pub AreBlank : List ℕ → Type 0
AreBlank bytes = All (λ b. IsTrue (is_blank b)) bytes

-- a name; white space may come before and after it
pub data WritesName : List ℕ → List ℕ → Type 0 where
  a_name : (before name after : List ℕ) → AreBlank before → IsTrue (is_name name) → AreBlank after → WritesName (before ++ (name ++ after)) name

-- names with white space between each two; it may come before the first and after the last
pub data WritesPattern : List ℕ → List (List ℕ) → Type 0 where
  one_name : {text name : List ℕ} → WritesName text name → WritesPattern text (name ∷ [])
  and_names : (before name : List ℕ) (blank : ℕ) (text : List ℕ) (names : List (List ℕ)) → AreBlank before → IsTrue (is_name name) → IsTrue (is_blank blank) → WritesPattern text names
      → WritesPattern (before ++ (name ++ blank ∷ text)) (name ∷ names)

-- items with a comma between each two, each written so
pub data Lists {A : Type 0} (Writes : List ℕ → A → Type 0) : List ℕ → List A → Type 0 where
  the_last : (text : List ℕ) (item : A) → Writes text item → Lists Writes text (item ∷ [])
  and_more : (piece : List ℕ) (item : A) (text : List ℕ) (items : List A) → Writes piece item → Lists Writes text items → Lists Writes (piece ++ 44 ∷ text) (item ∷ items)

-- names with a comma between each two
abbrev pub ListsNames : List ℕ → List (List ℕ) → Type 0
ListsNames = Lists WritesName

-- patterns with a comma between each two
abbrev pub ListsPatterns : List ℕ → List (List (List ℕ)) → Type 0
ListsPatterns = Lists WritesPattern

-- the first name does not begin with `!`
abbrev pub IsUnmarked : List (List ℕ) → Type 0
IsUnmarked ((b ∷ name) ∷ names) = b ≡ 33 → ⊥
IsUnmarked _ = ⊥

-- the second string of `eq_attr`: names, and before them `!` or nothing; white space may come before and after the `!`
pub data WritesTest (attribute : List ℕ) : List ℕ → Condition → Type 0 where
  has_one : (text : List ℕ) (values : List (List ℕ)) → ListsNames text values → IsUnmarked values → WritesTest attribute text (matches attribute values false)
  has_none : (before text : List ℕ) (values : List (List ℕ)) → AreBlank before → ListsNames text values → WritesTest attribute (before ++ 33 ∷ text) (matches attribute values true)

-- an option and the options with it; the last three change nothing
pub data GivesOption : List ℕ → Options → Options → Type 0 where
  ndfa : (o : Options) → GivesOption (codes "ndfa") o (record o { ndfa = true })
  no_minimization : (o : Options) → GivesOption (codes "no-minimization") o (record o { no_minimization = true })
  stats : (o : Options) → GivesOption (codes "stats") o (record o { stats = true })
  verbose : (o : Options) → GivesOption (codes "v") o (record o { verbose = true })
  no_comb_vect : (o : Options) → GivesOption (codes "no-comb-vect") o (record o { no_comb_vect = true })
  time : (o : Options) → GivesOption (codes "time") o o
  progress : (o : Options) → GivesOption (codes "progress") o o
  warnings : (o : Options) → GivesOption (codes "w") o o

-- options one after another
pub data GiveOptions : List (List ℕ) → Options → Options → Type 0 where
  no_option : (o : Options) → GiveOptions [] o o
  one_option : (word : List ℕ) (words : List (List ℕ)) (o p q : Options) → GivesOption word o p → GiveOptions words p q → GiveOptions (word ∷ words) o q
