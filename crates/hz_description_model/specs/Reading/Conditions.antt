-- What a condition means for an instruction. GCC Internals, 'Instruction Attributes' and 'Attribute Expressions'.
use Rattle.std.specs.Prelude.{ℕ, ◌==◌, ℤ, pos, negsuc, Bool, true, false, ◌&&◌, ◌||◌, not, if◌then◌else◌, List, Option}
use Rattle.std.specs.List.{find, list_any}
use Rattle.std.specs.Option.{option_map, option_map_or, option_or}
use Rattle.std.specs.Str.{bytes_eq}
use Rattle.hz_description_model.specs.Reading.Descriptions.{Condition, Conditions, constant, matches, negation, conjunction, disjunction, none, more}

-- the value of the first entry of an attribute
abbrev pub value_in : List (List ℕ × List ℕ) → List ℕ → Option (List ℕ)
value_in entries attribute = option_map (λ entry. entry.1) (find (λ entry. bytes_eq entry.0 attribute) entries)

-- the value that is given for an attribute, else its default
abbrev pub value_of : (given defaults : List (List ℕ × List ℕ)) → List ℕ → Option (List ℕ)
value_of given defaults attribute = option_or (value_in given attribute) (value_in defaults attribute)

-- the value is one of these
abbrev pub is_one_of : List (List ℕ) → List ℕ → Bool
is_one_of values value = list_any (λ v. bytes_eq v value) values

abbrev pub is_zero : ℤ → Bool
is_zero (pos n) = n == 0
is_zero (negsuc n) = false

-- Whether a condition holds where attributes have these values. A test of an attribute that has none is false, with `!` too.
abbrev mutual
  pub holds : (List ℕ → Option (List ℕ)) → Condition → Bool
  holds value (constant number) = not (is_zero number)
  holds value (matches attribute values negated) = option_map_or (λ v. if negated then not (is_one_of values v) else is_one_of values v) (value attribute) false
  holds value (negation test) = not (holds value test)
  holds value (conjunction tests) = all_hold value tests
  holds value (disjunction tests) = some_holds value tests

  -- each of them holds
  pub all_hold : (List ℕ → Option (List ℕ)) → Conditions → Bool
  all_hold value none = true
  all_hold value (more first others) = holds value first && all_hold value others

  -- one of them holds
  pub some_holds : (List ℕ → Option (List ℕ)) → Conditions → Bool
  some_holds value none = false
  some_holds value (more first others) = holds value first || some_holds value others
