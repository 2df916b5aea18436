-- The forms of a description: what each adds, what can be wrong with it, and what a list of forms says. GCC Internals,
-- 'Specifying processor pipeline description' and 'Defining Attributes and their Values'; the faults are this profile's,
-- docs/FORMATS.md.
use Rattle.std.specs.Prelude.{◌≡◌, ℕ, ◌+◌, ◌==◌, pos, negsuc, Bool, true, false, ◌&&◌, ◌||◌, not, nat_lt, nat_le, if◌then◌else◌, List, [], ◌∷◌, ◌++◌, length, map, filter, drop, codes, Option, Some, None, Result, Ok, Err, MatchResult}
use Rattle.std.specs.Char.{is_ascii_whitespace}
use Rattle.std.specs.List.{slice_split, prefix_len}
use Rattle.std.specs.Option.{option_map, option_map_or, option_and_then, ok_or}
use Rattle.std.specs.Str.{bytes_eq}
use Rattle.hz_description_model.specs.Reservations.Alternatives.{Expression}
use Rattle.hz_description_model.specs.Grammar.ExpressionTexts.{ExpressionFault, expression_word}
use Rattle.hz_description_model.specs.Grammar.ExpressionTexts as expression
use Rattle.hz_description_model.specs.Reading.Limits as limits
use Rattle.hz_base_model.specs.Lines.{separated}
use Rattle.hz_base_model.specs.Names.{is_name}
use Rattle.hz_description_model.specs.Reservations.Sets.{SetKind, exclusion, presence, final_presence, absence, final_absence}
use Rattle.hz_base_model.specs.Forms.Trees.{Tree, Trees, list, vector, atom, quoted, number, none, more, line_of}
use Rattle.hz_description_model.specs.Reading.Descriptions.{Condition, Conditions, constant, matches, negation, conjunction, disjunction, AutomatonItem, UnitItem, ReservationItem, ClassItem, BypassItem, SetItem, AttributeItem, Options, Description, no_options, no_items}
use Rattle.hz_description_model.specs.Reading.Descriptions as model
use Rattle.hz_description_model.specs.Reading.DescriptionShape.{FormKind, define_automaton, define_cpu_unit, define_reservation, define_insn_reservation, define_bypass, automata_option, define_attr, set_form, are_names, are_patterns, are_several}

-- What can be wrong with a form. An expression has a fault of its own, at a byte of its string.
pub data DescriptionFault : Type 0 where
  unknown_form bad_shape bad_condition unknown_option latency_limit unknown_guard : DescriptionFault
  bad_expression : (fault : ExpressionFault) (at : ℕ) → DescriptionFault

-- the word by which a fault is reported: docs/FORMATS.md, 'Answers'
abbrev pub description_word : DescriptionFault → List ℕ
description_word unknown_form = codes "UnknownForm"
description_word bad_shape = codes "BadShape"
description_word bad_condition = codes "BadCondition"
description_word unknown_option = codes "UnknownOption"
description_word latency_limit = codes "LatencyLimit"
description_word unknown_guard = codes "UnknownGuard"
description_word (bad_expression fault at) = codes "BadExpression"

-- of an expression's fault its own word, and the byte of its string
abbrev pub description_at : DescriptionFault → Option (List ℕ × ℕ)
description_at (bad_expression fault at) = Some (expression_word fault, at)
description_at _ = None

-- a good value leads on, and what is wrong stays: of several the first
abbrev pub and_then : {A B E : Type 0} → Result A E → (A → Result B E) → Result B E
and_then (Ok value) next = next value
and_then (Err fault) next = Err fault

-- the value, if it passes
abbrev pub kept : {A : Type 0} → Bool → A → Option A
kept good value = if good then Some value else None

-- a value that is there, and else operands that are wrong
abbrev pub shaped : {A : Type 0} → Option A → Result A DescriptionFault
shaped found = ok_or found bad_shape

-- Operands.

-- the word that a list begins with, and its operands
abbrev pub headed : Tree → Option (List ℕ × Trees)
headed (list _ (more (atom _ word) operands)) = Some (word, operands)
headed _ = None

-- the bytes of a quoted string
abbrev pub quoted_bytes : Tree → Option (List ℕ)
quoted_bytes (quoted _ bytes) = Some bytes
quoted_bytes _ = None

-- a string that is one name
abbrev pub name_in : Tree → Option (List ℕ)
name_in operand = option_and_then (λ bytes. kept (is_name bytes) bytes) (quoted_bytes operand)

-- the names of a list: they stand between commas, and white space round each is dropped
abbrev pub names_of : List ℕ → Option (List (List ℕ))
names_of bytes = kept (are_names (separated bytes)) (separated bytes)

-- a string that is a list of names
abbrev pub names_in : Tree → Option (List (List ℕ))
names_in operand = option_and_then names_of (quoted_bytes operand)

abbrev pub is_empty : List ℕ → Bool
is_empty [] = true
is_empty (b ∷ bytes) = false

-- the words between white space
abbrev pub words : List ℕ → List (List ℕ)
words bytes = filter (λ part. not (is_empty part)) (slice_split is_ascii_whitespace bytes)

-- the patterns of a string: they stand between commas, and each is one name or more
abbrev pub patterns_of : List ℕ → List (List (List ℕ))
patterns_of bytes = map words (slice_split (λ b. b == 44) bytes)

-- a string of patterns
abbrev pub patterns_in : Tree → Option (List (List (List ℕ)))
patterns_in operand = option_and_then (λ bytes. kept (are_patterns (patterns_of bytes)) (patterns_of bytes)) (quoted_bytes operand)

-- each name as a pattern by itself
abbrev pub single_patterns : List (List ℕ) → List (List (List ℕ))
single_patterns names = map (λ name. name ∷ []) names

-- the second string of a set form: patterns; of an exclusion a list of names
abbrev pub set_patterns : SetKind → Tree → Option (List (List (List ℕ)))
set_patterns exclusion operand = option_map single_patterns (names_in operand)
set_patterns _ operand = patterns_in operand

-- a number from 0 to the limit of latencies
abbrev pub limited_number : Tree → Result ℕ DescriptionFault
limited_number (number _ (pos n)) = if nat_le n limits.latency_limit then Ok n else Err latency_limit
limited_number (number _ (negsuc n)) = Err latency_limit
limited_number _ = Err bad_shape

-- `"value"` after `const_string`
abbrev pub string_in : Trees → Option (List ℕ)
string_in (more value none) = name_in value
string_in _ = None

-- the default of an attribute: `(const_string "value")`
abbrev pub fallback_in : Tree → Option (List ℕ)
fallback_in operand = option_and_then (λ parts. if bytes_eq parts.0 (codes "const_string") then string_in parts.1 else None) (headed operand)

-- Conditions.

-- without the white space at the front
abbrev pub without_blanks : List ℕ → List ℕ
without_blanks bytes = drop (prefix_len is_ascii_whitespace bytes) bytes

-- what follows a `!` at the front, if one stands there
abbrev pub after_mark : List ℕ → Option (List ℕ)
after_mark [] = None
after_mark (b ∷ bytes) = if b == 33 then Some bytes else None

-- the test of an attribute against the values of a list, or against all others
abbrev pub test_after : List ℕ → Bool → List ℕ → Option Condition
test_after attribute negated bytes = option_map (λ values. matches attribute values negated) (names_of bytes)

-- the same, where a `!` before the list says against all others
abbrev pub test_of : List ℕ → List ℕ → Option Condition
test_of attribute bytes = option_map_or (test_after attribute true) (after_mark (without_blanks bytes)) (test_after attribute false bytes)

abbrev pub constant_of : Tree → Option Condition
constant_of (number _ value) = Some (constant value)
constant_of _ = None

-- `(const_int i)`
abbrev pub constant_in : Trees → Option Condition
constant_in (more value none) = constant_of value
constant_in _ = None

-- `(eq_attr "name" "value")`
abbrev pub test_in : Trees → Option Condition
test_in (more attribute (more values none)) = option_and_then (λ name. option_and_then (test_of name) (quoted_bytes values)) (name_in attribute)
test_in _ = None

-- `(not t)`
abbrev pub negated : Conditions → Option Condition
negated (model.more test model.none) = Some (negation test)
negated _ = None

-- `(and t t ..)` or `(ior t t ..)`
abbrev pub several : (Conditions → Condition) → Conditions → Option Condition
several join tests = kept (are_several tests) (join tests)

-- tests after a word that joins them
abbrev pub joined : List ℕ → Conditions → Option Condition
joined word tests =
    if bytes_eq word (codes "not") then negated tests
    else if bytes_eq word (codes "and") then several conjunction tests
    else if bytes_eq word (codes "ior") then several disjunction tests
    else None

-- The condition that an operand is.
abbrev mutual
  pub condition_in : Tree → Option Condition
  condition_in (list _ (more (atom _ word) operands)) =
      if bytes_eq word (codes "const_int") then constant_in operands
      else if bytes_eq word (codes "eq_attr") then test_in operands
      else option_and_then (joined word) (conditions_in operands)
  condition_in _ = None

  -- operands that are conditions
  pub conditions_in : Trees → Option Conditions
  conditions_in none = Some model.none
  conditions_in (more first others) = option_and_then (λ test. option_map (model.more test) (conditions_in others)) (condition_in first)

-- Options.

-- options that change nothing
abbrev pub is_silent : List ℕ → Bool
is_silent word = bytes_eq word (codes "time") || bytes_eq word (codes "progress") || bytes_eq word (codes "w")

-- the options with one more
abbrev pub with_option : Options → List ℕ → Option Options
with_option o word =
    if bytes_eq word (codes "ndfa") then Some (record o { ndfa = true })
    else if bytes_eq word (codes "no-minimization") then Some (record o { no_minimization = true })
    else if bytes_eq word (codes "stats") then Some (record o { stats = true })
    else if bytes_eq word (codes "v") then Some (record o { verbose = true })
    else if bytes_eq word (codes "no-comb-vect") then Some (record o { no_comb_vect = true })
    else kept (is_silent word) o

-- the options with all of these
abbrev pub with_options : Options → List (List ℕ) → Option Options
with_options o [] = Some o
with_options o (word ∷ others) = option_and_then (λ p. with_options p others) (with_option o word)

-- the options that stand in one of two
abbrev pub all_options : Options → Options → Options
all_options a b = record {
  ndfa = a.ndfa || b.ndfa;
  no_minimization = a.no_minimization || b.no_minimization;
  stats = a.stats || b.stats;
  verbose = a.verbose || b.verbose;
  no_comb_vect = a.no_comb_vect || b.no_comb_vect;
}

-- Expressions.

-- what a text says as an expression, or what is wrong with it and where
abbrev pub Said : Type 0
Said = Result Expression (ExpressionFault × ℕ)

-- `read` tells of each text what it says as an expression
abbrev pub IsReading : (List ℕ → Said) → Type 0
IsReading read = (text : List ℕ) → MatchResult (read text) (expression.Reads text) (λ wrong. expression.FaultAt text wrong.0 wrong.1)

-- the expression, or its fault as a fault of the form
abbrev pub expression_of : Said → Result Expression DescriptionFault
expression_of (Ok value) = Ok value
expression_of (Err wrong) = Err (bad_expression wrong.0 wrong.1)

-- a string that is an expression
abbrev pub expression_in : (List ℕ → Said) → Tree → Result Expression DescriptionFault
expression_in read operand = and_then (shaped (quoted_bytes operand)) (λ bytes. expression_of (read bytes))

-- Forms.

-- What a form adds to a description.
pub data Addition : Type 0 where
  automata : (items : List AutomatonItem) → Addition
  units : (items : List UnitItem) → Addition
  reservation : (item : ReservationItem) → Addition
  class : (item : ClassItem) → Addition
  bypass : (item : BypassItem) → Addition
  set : (item : SetItem) → Addition
  options : (options : Options) → Addition
  attribute : (item : AttributeItem) → Addition

-- the set form that begins with a word
abbrev pub set_of : List ℕ → Option SetKind
set_of word =
    if bytes_eq word (codes "exclusion_set") then Some exclusion
    else if bytes_eq word (codes "presence_set") then Some presence
    else if bytes_eq word (codes "final_presence_set") then Some final_presence
    else if bytes_eq word (codes "absence_set") then Some absence
    else if bytes_eq word (codes "final_absence_set") then Some final_absence
    else None

-- the kind of the forms that begin with a word
abbrev pub kind_of : List ℕ → Option FormKind
kind_of word =
    if bytes_eq word (codes "define_automaton") then Some define_automaton
    else if bytes_eq word (codes "define_cpu_unit") then Some (define_cpu_unit false)
    else if bytes_eq word (codes "define_query_cpu_unit") then Some (define_cpu_unit true)
    else if bytes_eq word (codes "define_reservation") then Some define_reservation
    else if bytes_eq word (codes "define_insn_reservation") then Some define_insn_reservation
    else if bytes_eq word (codes "define_bypass") then Some define_bypass
    else if bytes_eq word (codes "automata_option") then Some automata_option
    else if bytes_eq word (codes "define_attr") then Some define_attr
    else option_map set_form (set_of word)

-- Forms by their operands: first their number decides, then each from left to right.

-- `(automata_option "options")`: they stand between commas, and white space round each is dropped
abbrev pub options_form : Trees → Result Addition DescriptionFault
options_form (more words none) =
    and_then (shaped (quoted_bytes words)) (λ bytes.
    and_then (ok_or (with_options no_options (separated bytes)) unknown_option) (λ o.
    Ok (options o)))
options_form _ = Err bad_shape

-- whether a string says the guard of stores; of no string nothing
abbrev pub guard_in : Tree → Option Bool
guard_in operand = option_map (λ bytes. bytes_eq bytes (codes "store_data_bypass_p")) (quoted_bytes operand)

-- a string that says another guard comes after three operands
abbrev pub has_other_guard : Trees → Bool
has_other_guard (more _ (more _ (more _ (more guard _)))) = option_map_or not (guard_in guard) false
has_other_guard _ = false

-- Those with items, of a line and a number in the file.
module _ (line form : ℕ) where
  -- automata of these names
  abbrev pub automaton_items : List (List ℕ) → List AutomatonItem
  automaton_items names = map (λ name. record { line = line; form = form; name = name }) names

  -- units of these names, each with this automaton or with none; all of them are query units, or none is
  abbrev pub unit_items : (query : Bool) → Option (List ℕ) → List (List ℕ) → List UnitItem
  unit_items query automaton names = map (λ name. record { line = line; form = form; name = name; automaton = automaton; query = query }) names

  -- `(define_automaton "names")`
  abbrev pub automata_form : Trees → Result Addition DescriptionFault
  automata_form (more names none) =
      and_then (shaped (names_in names)) (λ names.
      Ok (automata (automaton_items names)))
  automata_form _ = Err bad_shape

  -- `(define_cpu_unit "names")` and `(define_cpu_unit "names" "automaton")`, and the same of `define_query_cpu_unit`
  abbrev pub units_form : (query : Bool) → Trees → Result Addition DescriptionFault
  units_form query (more names none) =
      and_then (shaped (names_in names)) (λ names.
      Ok (units (unit_items query None names)))
  units_form query (more names (more automaton none)) =
      and_then (shaped (names_in names)) (λ names.
      and_then (shaped (name_in automaton)) (λ automaton.
      Ok (units (unit_items query (Some automaton) names))))
  units_form query _ = Err bad_shape

  -- `(define_reservation "name" "regexp")`
  abbrev pub reservation_form : (List ℕ → Said) → Trees → Result Addition DescriptionFault
  reservation_form read (more name (more regexp none)) =
      and_then (shaped (name_in name)) (λ name.
      and_then (expression_in read regexp) (λ value.
      Ok (reservation (record { line = line; form = form; name = name; expression = value }))))
  reservation_form read _ = Err bad_shape

  -- `(define_insn_reservation "name" latency condition "regexp")`
  abbrev pub class_form : (List ℕ → Said) → Trees → Result Addition DescriptionFault
  class_form read (more name (more latency (more condition (more regexp none)))) =
      and_then (shaped (name_in name)) (λ name.
      and_then (limited_number latency) (λ latency.
      and_then (ok_or (condition_in condition) bad_condition) (λ condition.
      and_then (expression_in read regexp) (λ value.
      Ok (class (record { line = line; form = form; name = name; latency = latency; condition = condition; expression = value }))))))
  class_form read _ = Err bad_shape

  -- a bypass between classes, with the guard or without it
  abbrev pub bypass_with : (latency outs ins : Tree) → (guard : Result Bool DescriptionFault) → Result Addition DescriptionFault
  bypass_with latency outs ins guard =
      and_then (limited_number latency) (λ latency.
      and_then (shaped (names_in outs)) (λ outs.
      and_then (shaped (names_in ins)) (λ ins.
      and_then guard (λ guard.
      Ok (bypass (record { line = line; form = form; number = latency; outs = outs; ins = ins; guard = guard }))))))

  -- a bypass by its operands, where no string after three of them says another guard
  abbrev pub bypass_of : Trees → Result Addition DescriptionFault
  bypass_of (more latency (more outs (more ins none))) = bypass_with latency outs ins (Ok false)
  bypass_of (more latency (more outs (more ins (more guard none)))) = bypass_with latency outs ins (shaped (guard_in guard))
  bypass_of _ = Err bad_shape

  -- `(define_bypass number "outs" "ins")` and `(define_bypass number "outs" "ins" "store_data_bypass_p")`; another guard is reported
  -- with the number of the operands, before any of them is judged
  abbrev pub bypass_form : Trees → Result Addition DescriptionFault
  bypass_form operands = if has_other_guard operands then Err unknown_guard else bypass_of operands

  -- `(exclusion_set "units" "units")`, and the four others with patterns as the second string
  abbrev pub set_form_of : SetKind → Trees → Result Addition DescriptionFault
  set_form_of kind (more names (more patterns none)) =
      and_then (shaped (names_in names)) (λ names.
      and_then (shaped (set_patterns kind patterns)) (λ patterns.
      Ok (set (record { line = line; form = form; kind = kind; units = names; patterns = patterns }))))
  set_form_of kind _ = Err bad_shape

  -- `(define_attr "name" "values" (const_string "value"))`
  abbrev pub attribute_form : Trees → Result Addition DescriptionFault
  attribute_form (more name (more values (more fallback none))) =
      and_then (shaped (name_in name)) (λ name.
      and_then (shaped (names_in values)) (λ values.
      and_then (shaped (fallback_in fallback)) (λ fallback.
      Ok (attribute (record { line = line; form = form; name = name; values = values; fallback = fallback })))))
  attribute_form _ = Err bad_shape

  -- what operands of a form of this kind say
  abbrev pub form_of_kind : (List ℕ → Said) → FormKind → Trees → Result Addition DescriptionFault
  form_of_kind read define_automaton operands = automata_form operands
  form_of_kind read (define_cpu_unit query) operands = units_form query operands
  form_of_kind read define_reservation operands = reservation_form read operands
  form_of_kind read define_insn_reservation operands = class_form read operands
  form_of_kind read define_bypass operands = bypass_form operands
  form_of_kind read (set_form kind) operands = set_form_of kind operands
  form_of_kind read automata_option operands = options_form operands
  form_of_kind read define_attr operands = attribute_form operands

-- what the form of a number says: what it adds, or what is wrong with it
abbrev pub form_says : (List ℕ → Said) → ℕ → Tree → Result Addition DescriptionFault
form_says read n form =
    and_then (ok_or (headed form) unknown_form) (λ parts.
    and_then (ok_or (kind_of parts.0) unknown_form) (λ kind.
    form_of_kind (line_of form) n read kind parts.1))

-- the description with what a form adds
abbrev pub with_addition : Description → Addition → Description
with_addition d (automata items) = record d { automata = d.automata ++ items }
with_addition d (units items) = record d { units = d.units ++ items }
with_addition d (reservation item) = record d { reservations = d.reservations ++ item ∷ [] }
with_addition d (class item) = record d { classes = d.classes ++ item ∷ [] }
with_addition d (bypass item) = record d { bypasses = d.bypasses ++ item ∷ [] }
with_addition d (set item) = record d { sets = d.sets ++ item ∷ [] }
with_addition d (options o) = record d { options = all_options d.options o }
with_addition d (attribute item) = record d { attributes = d.attributes ++ item ∷ [] }

-- what is wrong, with its line
abbrev pub at_line : {A : Type 0} → ℕ → Result A DescriptionFault → Result A (DescriptionFault × ℕ)
at_line line (Ok value) = Ok value
at_line line (Err fault) = Err (fault, line)

-- A description with what forms add, one after the other, of which the first has this number; the first that is wrong decides.
abbrev pub forms_say : (List ℕ → Said) → ℕ → Description → Trees → Result Description (DescriptionFault × ℕ)
forms_say read n d none = Ok d
forms_say read n d (more first others) =
    and_then (at_line (line_of first) (form_says read n first)) (λ addition. forms_say read (n + 1) (with_addition d addition) others)

-- Forms say this description.
pub record Reads (forms : Trees) (d : Description) : Type 0 where
  pub read : List ℕ → Said
  pub reading : IsReading read
  pub says : forms_say read 0 no_items forms ≡ Ok d

-- The first wrong form has this fault and this line.
pub record FaultAt (forms : Trees) (fault : DescriptionFault) (line : ℕ) : Type 0 where
  pub read : List ℕ → Said
  pub reading : IsReading read
  pub says : forms_say read 0 no_items forms ≡ Err (fault, line)

-- how many forms stand side by side
abbrev pub form_count : Trees → ℕ
form_count none = 0
form_count (more first others) = form_count others + 1

-- Each quoted string, at every depth, has fewer bytes.
abbrev mutual
  pub strings_below : ℕ → Trees → Bool
  strings_below size none = true
  strings_below size (more first others) = string_below size first && strings_below size others

  -- the same in one form
  pub string_below : ℕ → Tree → Bool
  string_below size (list _ forms) = strings_below size forms
  string_below size (vector _ forms) = strings_below size forms
  string_below size (quoted _ bytes) = nat_lt (length bytes) size
  string_below size _ = true
