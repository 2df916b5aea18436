-- Looking for a row of the table.
use Rattle.std.proofs.Common.{◌≡◌, ◌∙◌, ℕ, Bool, true, false, refl, ap, List, [], ◌∷◌, Option, Some, None, map, cond, Bor}
use Rattle.std.specs.Option.{option_map}
use Rattle.std.specs.List.{find}
use Rattle.std.specs.Str.{bytes_eq}
use Rattle.hz_words_model.specs.Words as model
use Rattle.hz_tool_words.specs.Shape.{command_in}
use Rattle.hz_tool_words.specs.declared.table.Row.{Row}

-- the first image that is found is the image of the first that is found
find-map : {A B : Type 0} (test : B → Bool) (f : A → B) (xs : List A) → option_map f (find (λ x. test (f x)) xs) ≡ find test (map f xs)
find-map test f [] = refl
find-map test f (x ∷ xs) =
    elim (test (f x)) as (λ b. option_map f (cond b (Some x) (find (λ y. test (f y)) xs)) ≡ cond b (Some (f x)) (find test (map f xs))) [ true ↦ refl | false ↦ find-map test f xs ]

seen : (row : Option (Bor Row)) → option_map (λ r. command_in r.now) row ≡ option_map command_in (option_map (λ r. r.now) row)
seen None = refl
seen (Some row) = refl

-- what is found in the table by its name is the command of that name
pub row_is_command : (name : List ℕ) (row : Option (Bor Row)) (rows : List Row) → option_map (λ r. r.now) row ≡ find (λ r. bytes_eq r.name.now name) rows → map command_in rows ≡ model.commands
    → option_map (λ r. command_in r.now) row ≡ model.command_named name
row_is_command name row rows found are =
    seen row ∙ ap (option_map command_in) found ∙ find-map (λ c. bytes_eq c.name name) command_in rows ∙ ap (find (λ c. bytes_eq c.name name)) are
