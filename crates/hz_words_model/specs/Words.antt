-- The words of the command line: this profile, docs/FORMATS.md, 'Words'.
use Rattle.std.specs.Prelude.{ℕ, ◌==◌, Bool, false, List, [], ◌∷◌, ◌++◌, length, map, Option, Some, None, nat_le, nat_lt, codes, if◌then◌else◌}
use Rattle.std.specs.List.{concat, find, flat_map, list_any}
use Rattle.std.specs.Option.{option_map, option_and_then, option_zip}
use Rattle.std.specs.Str.{bytes_eq}
use Rattle.hz_base_model.specs.Lines.{number_of}

-- what the program is asked to do, with the words of its files and its numbers
pub data Order : Type 0 where
  compile : (description : List ℕ) → Order
  replay : (description trace : List ℕ) → Order
  walk : (tables trace : List ℕ) → Order
  schedule : (description block : List ℕ) → Order
  eval : (block state : List ℕ) → Order
  drill : (description : List ℕ) → (number turns : ℕ) → Order
  timed : (description block state : List ℕ) → Order
  bound : (description block : List ℕ) → Order
  duo : (description first second : List ℕ) → Order
  modulo : (description block : List ℕ) → Order

-- The kinds of operands. The first five are files.
pub data Operand : Type 0 where
  description trace tables block state number turns : Operand

-- the word of an operand in the usage line
abbrev pub operand_word : Operand → List ℕ
operand_word description = codes "DESC"
operand_word trace = codes "TRACE"
operand_word tables = codes "TABLES"
operand_word block = codes "BLOCK"
operand_word state = codes "STATE"
operand_word number = codes "NUMBER"
operand_word turns = codes "COUNT"

-- the greatest number that a drill draws from
abbrev pub number_limit : ℕ
number_limit = 2147483647

-- the turns of a drill, at most
abbrev pub turn_limit : ℕ
turn_limit = 1000000

-- the digits of a number among the words, at most
abbrev pub digit_limit : ℕ
digit_limit = 10

-- the number, where it is at most so much
abbrev pub at_most : (most n : ℕ) → Option ℕ
at_most most n = if nat_le n most then Some n else None

-- the number of a word of 1 to 10 decimal digits, leading zeros among them, where it is at most so much
abbrev pub number_in : (most : ℕ) → (word : List ℕ) → Option ℕ
number_in most word = if nat_lt digit_limit (length word) then None else option_and_then (at_most most) (number_of word)

-- what is given for an operand: the name of a file, or a number
pub data Argument : Type 0 where
  file : (name : List ℕ) → Argument
  value : (n : ℕ) → Argument

-- the argument that a word is for an operand: any word names a file
abbrev pub argument_of : Operand → (word : List ℕ) → Option Argument
argument_of number word = option_map value (number_in number_limit word)
argument_of turns word = option_map value (number_in turn_limit word)
argument_of _ word = Some (file word)

-- the arguments that words are for as many operands
abbrev pub arguments_of : List Operand → (words : List (List ℕ)) → Option (List Argument)
arguments_of [] [] = Some []
arguments_of (o ∷ os) (w ∷ ws) = option_map (λ given. given.0 ∷ given.1) (option_zip (argument_of o w) (arguments_of os ws))
arguments_of _ _ = None

-- the name of one file
abbrev pub one_file : List Argument → Option (List ℕ)
one_file (file a ∷ []) = Some a
one_file _ = None

-- the names of two files
abbrev pub two_files : List Argument → Option (List ℕ × List ℕ)
two_files (file a ∷ file b ∷ []) = Some (a, b)
two_files _ = None

-- the names of three files
abbrev pub three_files : List Argument → Option (List ℕ × List ℕ × List ℕ)
three_files (file a ∷ file b ∷ file c ∷ []) = Some (a, b, c)
three_files _ = None

-- the name of a file, and two numbers
abbrev pub file_and_numbers : List Argument → Option (List ℕ × ℕ × ℕ)
file_and_numbers (file a ∷ value m ∷ value n ∷ []) = Some (a, m, n)
file_and_numbers _ = None

-- what is asked on one file
abbrev pub on_one : (List ℕ → Order) → List Argument → Option Order
on_one make given = option_map make (one_file given)

-- on two files
abbrev pub on_two : (List ℕ → List ℕ → Order) → List Argument → Option Order
on_two make given = option_map (λ files. make files.0 files.1) (two_files given)

-- on three files
abbrev pub on_three : (List ℕ → List ℕ → List ℕ → Order) → List Argument → Option Order
on_three make given = option_map (λ files. make files.0 files.1 files.2) (three_files given)

-- on a file, with two numbers
abbrev pub with_numbers : (List ℕ → ℕ → ℕ → Order) → List Argument → Option Order
with_numbers make given = option_map (λ g. make g.0 g.1 g.2) (file_and_numbers given)

-- a command: its name, its operands in their order, and what it asks for with its arguments
pub record Command : Type 0 where
  pub name : List ℕ
  pub operands : List Operand
  pub make : List Argument → Option Order

-- the commands, in the order of the usage line
abbrev pub commands : List Command
commands =
    record { name = codes "compile"; operands = description ∷ []; make = on_one compile }
    ∷ record { name = codes "replay"; operands = description ∷ trace ∷ []; make = on_two replay }
    ∷ record { name = codes "walk"; operands = tables ∷ trace ∷ []; make = on_two walk }
    ∷ record { name = codes "schedule"; operands = description ∷ block ∷ []; make = on_two schedule }
    ∷ record { name = codes "eval"; operands = block ∷ state ∷ []; make = on_two eval }
    ∷ record { name = codes "drill"; operands = description ∷ number ∷ turns ∷ []; make = with_numbers drill }
    ∷ record { name = codes "timed"; operands = description ∷ block ∷ state ∷ []; make = on_three timed }
    ∷ record { name = codes "bound"; operands = description ∷ block ∷ []; make = on_two bound }
    ∷ record { name = codes "duo"; operands = description ∷ block ∷ block ∷ []; make = on_three duo }
    ∷ record { name = codes "modulo"; operands = description ∷ block ∷ []; make = on_two modulo }
    ∷ []

-- the command of this name
abbrev pub command_named : List ℕ → Option Command
command_named name = find (λ command. bytes_eq command.name name) commands

-- the word begins with `-`
abbrev pub begins_with_dash : List ℕ → Bool
begins_with_dash [] = false
begins_with_dash (b ∷ bs) = b == 45

-- one of the words begins with `-`
abbrev pub has_option : List (List ℕ) → Bool
has_option words = list_any begins_with_dash words

-- what a command asks for with these words
abbrev pub asked_by : (given : List (List ℕ)) → Command → Option Order
asked_by given command = option_and_then command.make (arguments_of command.operands given)

-- what words ask for: a command and the words of its operands, of which none begins with `-`
abbrev pub order_of : List (List ℕ) → Option Order
order_of [] = None
order_of (command ∷ given) = if has_option given then None else option_and_then (asked_by given) (command_named command)

-- a command in the usage line: its name and the words of its operands
abbrev pub usage_of : Command → List ℕ
usage_of command = command.name ++ flat_map (λ operand. codes " " ++ operand_word operand) command.operands

-- texts one after another, with one between each two
abbrev pub joined : (between : List ℕ) → List (List ℕ) → List ℕ
joined between [] = []
joined between (t ∷ []) = t
joined between (t ∷ ts) = t ++ (between ++ joined between ts)

-- the line that answers words which are no command
unfoldable pub usage_line : List ℕ
usage_line = concat (codes "usage: hz " ∷ joined (codes " | ") (map usage_of commands) ∷ codes "\n" ∷ [])
