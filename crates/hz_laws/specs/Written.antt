-- The forms of a description as they are written, operand by operand: GCC Internals, 'Specifying processor pipeline description',
-- 'Defining Attributes and their Values' and 'Attribute Expressions'. Laws: `forms_say_what_is_written`,
-- `conditions_say_what_is_written`.
use Rattle.std.specs.Prelude.{◌≡◌, ℕ, ◌≤◌, ℤ, pos, Bool, true, false, List, [], ◌∷◌, Some, None, codes, map, Ok, IsTrue}
use Rattle.std.specs.List.{join_with_byte}
use Rattle.hz_base_model.specs.Forms.Trees.{Tree, Trees, list, atom, quoted, number, none, more}
use Rattle.hz_base_model.specs.Names.{is_name}
use Rattle.hz_description_model.specs.Reading.DescriptionForms.{Said, Addition, automata, units, reservation, class, bypass, set, options, attribute, automaton_items, unit_items}
use Rattle.hz_description_model.specs.Reading.DescriptionShape.{are_names, are_patterns}
use Rattle.hz_description_model.specs.Reading.Descriptions.{Condition, Conditions, constant, matches, negation, conjunction, disjunction, Options, no_options}
use Rattle.hz_description_model.specs.Reading.Descriptions as items
use Rattle.hz_description_model.specs.Reading.Limits as limits
use Rattle.hz_description_model.specs.Reservations.Alternatives.{Expression}
use Rattle.hz_description_model.specs.Reservations.Sets.{SetKind, exclusion, presence, final_presence, absence, final_absence}

-- names with a comma between each two
abbrev pub listed : List (List ℕ) → List ℕ
listed names = join_with_byte 44 names

-- patterns with a comma between each two; the names of each have a space between them
abbrev pub patterned : List (List (List ℕ)) → List ℕ
patterned patterns = listed (map (join_with_byte 32) patterns)

-- operands in their order
abbrev pub operands : List Tree → Trees
operands [] = none
operands (first ∷ others) = more first (operands others)

-- a form of a word and operands
abbrev pub form_of : ℕ → List ℕ → List Tree → Tree
form_of line word trees = list line (more (atom line word) (operands trees))

-- the text does not begin with `!`
abbrev pub IsUnmarked : List ℕ → Type 0
IsUnmarked [] = ⊥
IsUnmarked (b ∷ bytes) = b ≡ 33 → ⊥

-- Conditions: `(const_int i)`, `(eq_attr "name" "values")` and with `!` before the values, `(not t)`, `(and t ..)` and `(ior t ..)`
-- with two tests or more.
mutual
  pub data WritesCondition : Tree → Condition → Type 0 where
    a_constant : (line : ℕ) (value : ℤ) → WritesCondition (form_of line (codes "const_int") (number line value ∷ [])) (constant value)
    a_match : (line : ℕ) (name : List ℕ) (values : List (List ℕ)) → IsTrue (is_name name) → IsTrue (are_names values) → IsUnmarked (listed values)
        → WritesCondition (form_of line (codes "eq_attr") (quoted line name ∷ quoted line (listed values) ∷ [])) (matches name values false)
    no_match : (line : ℕ) (name : List ℕ) (values : List (List ℕ)) → IsTrue (is_name name) → IsTrue (are_names values)
        → WritesCondition (form_of line (codes "eq_attr") (quoted line name ∷ quoted line (33 ∷ listed values) ∷ [])) (matches name values true)
    a_negation : (line : ℕ) (tree : Tree) (test : Condition) → WritesCondition tree test → WritesCondition (form_of line (codes "not") (tree ∷ [])) (negation test)
    a_conjunction : (line : ℕ) (trees : Trees) (first second : Condition) (others : Conditions) → WritesConditions trees (items.more first (items.more second others))
        → WritesCondition (list line (more (atom line (codes "and")) trees)) (conjunction (items.more first (items.more second others)))
    a_disjunction : (line : ℕ) (trees : Trees) (first second : Condition) (others : Conditions) → WritesConditions trees (items.more first (items.more second others))
        → WritesCondition (list line (more (atom line (codes "ior")) trees)) (disjunction (items.more first (items.more second others)))

  -- conditions, one after another
  pub data WritesConditions : Trees → Conditions → Type 0 where
    no_condition : WritesConditions none items.none
    one_more : (tree : Tree) (test : Condition) (trees : Trees) (tests : Conditions) → WritesCondition tree test → WritesConditions trees tests
        → WritesConditions (more tree trees) (items.more test tests)

-- the word of a set form, and its second string
abbrev pub set_word : SetKind → List ℕ
set_word exclusion = codes "exclusion_set"
set_word presence = codes "presence_set"
set_word final_presence = codes "final_presence_set"
set_word absence = codes "absence_set"
set_word final_absence = codes "final_absence_set"

-- the word of a form of units, by whether they are query units
abbrev pub units_word : Bool → List ℕ
units_word false = codes "define_cpu_unit"
units_word true = codes "define_query_cpu_unit"

-- A form on a line writes what it adds to a description, as the form of some number; `read` says what a text says as an expression.
module _ (read : List ℕ → Said) (line number_of_form : ℕ) where
  pub data Writes : Tree → Addition → Type 0 where
    -- `(define_automaton "names")`
    an_automaton_form : (names : List (List ℕ)) → IsTrue (are_names names)
        → Writes (form_of line (codes "define_automaton") (quoted line (listed names) ∷ [])) (automata (automaton_items line number_of_form names))
    -- `(define_cpu_unit "names")`, and `define_query_cpu_unit`
    a_unit_form : (query : Bool) (names : List (List ℕ)) → IsTrue (are_names names)
        → Writes (form_of line (units_word query) (quoted line (listed names) ∷ [])) (units (unit_items line number_of_form query None names))
    -- `(define_cpu_unit "names" "automaton")`, and `define_query_cpu_unit`
    a_unit_form_of_an_automaton : (query : Bool) (names : List (List ℕ)) (automaton : List ℕ) → IsTrue (are_names names) → IsTrue (is_name automaton)
        → Writes (form_of line (units_word query) (quoted line (listed names) ∷ quoted line automaton ∷ [])) (units (unit_items line number_of_form query (Some automaton) names))
    -- `(define_reservation "name" "regexp")`
    a_reservation_form : (name regexp : List ℕ) (value : Expression) → IsTrue (is_name name) → read regexp ≡ Ok value
        → Writes (form_of line (codes "define_reservation") (quoted line name ∷ quoted line regexp ∷ []))
        (reservation (record { line = line; form = number_of_form; name = name; expression = value }))
    -- `(define_insn_reservation "name" latency condition "regexp")`
    a_class_form : (name : List ℕ) (latency : ℕ) (tree : Tree) (test : Condition) (regexp : List ℕ) (value : Expression)
        → IsTrue (is_name name) → latency ≤ limits.latency_limit → WritesCondition tree test → read regexp ≡ Ok value
        → Writes (form_of line (codes "define_insn_reservation") (quoted line name ∷ number line (pos latency) ∷ tree ∷ quoted line regexp ∷ []))
        (class (record { line = line; form = number_of_form; name = name; latency = latency; condition = test; expression = value }))
    -- `(define_bypass number "outs" "ins")`
    a_bypass_form : (latency : ℕ) (outs ins : List (List ℕ)) → latency ≤ limits.latency_limit → IsTrue (are_names outs) → IsTrue (are_names ins)
        → Writes (form_of line (codes "define_bypass") (number line (pos latency) ∷ quoted line (listed outs) ∷ quoted line (listed ins) ∷ []))
        (bypass (record { line = line; form = number_of_form; number = latency; outs = outs; ins = ins; guard = false }))
    -- `(define_bypass number "outs" "ins" "store_data_bypass_p")`
    a_guarded_bypass_form : (latency : ℕ) (outs ins : List (List ℕ)) → latency ≤ limits.latency_limit → IsTrue (are_names outs) → IsTrue (are_names ins)
        → Writes (form_of line (codes "define_bypass") (number line (pos latency) ∷ quoted line (listed outs) ∷ quoted line (listed ins) ∷ quoted line (codes "store_data_bypass_p") ∷ []))
        (bypass (record { line = line; form = number_of_form; number = latency; outs = outs; ins = ins; guard = true }))
    -- `(exclusion_set "units" "units")`: each unit of the second string is a pattern by itself
    an_exclusion_form : (names others : List (List ℕ)) → IsTrue (are_names names) → IsTrue (are_names others)
        → Writes (form_of line (codes "exclusion_set") (quoted line (listed names) ∷ quoted line (listed others) ∷ []))
        (set (record { line = line; form = number_of_form; kind = exclusion; units = names; patterns = map (λ name. name ∷ []) others }))
    -- `(presence_set "units" "patterns")`, and the three others
    a_set_form : (kind : SetKind) (names : List (List ℕ)) (patterns : List (List (List ℕ))) → (kind ≡ exclusion → ⊥) → IsTrue (are_names names) → IsTrue (are_patterns patterns)
        → Writes (form_of line (set_word kind) (quoted line (listed names) ∷ quoted line (patterned patterns) ∷ []))
        (set (record { line = line; form = number_of_form; kind = kind; units = names; patterns = patterns }))
    -- `(define_attr "name" "values" (const_string "value"))`
    an_attribute_form : (name : List ℕ) (values : List (List ℕ)) (fallback : List ℕ) → IsTrue (is_name name) → IsTrue (are_names values) → IsTrue (is_name fallback)
        → Writes (form_of line (codes "define_attr") (quoted line name ∷ quoted line (listed values) ∷ form_of line (codes "const_string") (quoted line fallback ∷ []) ∷ []))
        (attribute (record { line = line; form = number_of_form; name = name; values = values; fallback = fallback }))
    -- `(automata_option "ndfa")`, and the four others that have an effect
    an_ndfa_form : Writes (form_of line (codes "automata_option") (quoted line (codes "ndfa") ∷ [])) (options (record no_options { ndfa = true }))
    a_no_minimization_form : Writes (form_of line (codes "automata_option") (quoted line (codes "no-minimization") ∷ [])) (options (record no_options { no_minimization = true }))
    a_stats_form : Writes (form_of line (codes "automata_option") (quoted line (codes "stats") ∷ [])) (options (record no_options { stats = true }))
    a_v_form : Writes (form_of line (codes "automata_option") (quoted line (codes "v") ∷ [])) (options (record no_options { verbose = true }))
    a_no_comb_vect_form : Writes (form_of line (codes "automata_option") (quoted line (codes "no-comb-vect") ∷ [])) (options (record no_options { no_comb_vect = true }))
