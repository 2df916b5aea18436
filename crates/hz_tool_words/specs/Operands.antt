-- The operands after a command, as `clap` reads them.
use Rattle.std.specs.Prelude.{◌≡◌, ◌≢◌, ℕ, zero, suc, true, List, [], ◌∷◌, Option, Some, None, Result, Ok, Err, codes}
use Rattle.std.specs.Option.{option_map, option_and_then, option_zip}
use Rattle.clap.specs.Words.{App, HasMatchesOf, Rule, fault_of, first_value, found_of, is_simple_and_free, new_app, new_rule, takes, with_rule}
use Rattle.clap.specs.declared.error.kind.ErrorKind.{ErrorKind}
use Rattle.clap.specs.declared.error.kind.ErrorKind.TheVariants.{OutOfMemory}
use Rattle.clap.specs.declared.parser.matches.ArgMatches.{ArgMatches}
use Rattle.hz_tool_words.specs.Shape.{operand_in}
use Rattle.hz_tool_words.specs.declared.table.Operand.{Operand}
use Rattle.hz_words_model.specs.Words as model

-- what `clap` calls the operand at a place
abbrev pub id_at : ℕ → List ℕ
id_at zero = codes "first"
id_at (suc zero) = codes "second"
id_at _ = codes "third"

-- an operand, which is required
abbrev pub operand : List ℕ → Rule
operand id = record (new_rule id) { required = true }

-- a command with so many operands
abbrev pub app_with : (name : List ℕ) → (operands : ℕ) → App
app_with name zero = new_app name
app_with name (suc n) = with_rule (app_with name n) (operand (id_at n))

-- what `clap` found for the operand at a place
abbrev pub value_of : ArgMatches → ℕ → Option (List ℕ)
value_of matches place = first_value (found_of matches) (id_at place)

-- the arguments for operands from a place on, of which the values are found
abbrev pub arguments_at : (value : ℕ → Option (List ℕ)) → (place : ℕ) → List Operand → Option (List model.Argument)
arguments_at value place [] = Some []
arguments_at value place (o ∷ os) =
    option_map (λ given. given.0 ∷ given.1) (option_zip (option_and_then (model.argument_of (operand_in o)) (value place)) (arguments_at value (suc place) os))

-- what `clap` finds in the words: nothing where it doesn't take them, and its matches where nothing is wrong with them
abbrev pub Finds : App → List (List ℕ) → Option ArgMatches → Type 0
Finds app words None = takes app words ≢ true
Finds app words (Some matches) = (is_simple_and_free app ≡ true → fault_of app words ≡ []) × HasMatchesOf app words matches

-- what is reported of words that `clap` refuses for this reason: nothing is found in them, but where memory ran out
abbrev pub IsRefusal : {Found E : Type 0} → ErrorKind → Result (Option Found) E → Type 0
IsRefusal reason (Ok found) = (found ≡ None) × (reason ≢ OutOfMemory)
IsRefusal reason (Err refused) = reason ≡ OutOfMemory
