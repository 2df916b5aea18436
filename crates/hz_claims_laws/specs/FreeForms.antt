-- The forms of a description with any white space in their strings, and with their operands on any lines: GCC Internals, 'Specifying
-- processor pipeline description', 'Defining Attributes and their Values' and 'Attribute Expressions'; the white space is this profile's,
-- docs/FORMATS.md, 'Descriptions'. Law: `forms_say_exactly_what_they_write`.
use Rattle.std.specs.Prelude.{◌≡◌, ℕ, ◌≤◌, ℤ, pos, Bool, true, false, List, [], ◌∷◌, Some, None, codes, map, Ok, IsTrue}
use Rattle.hz_base_model.specs.Forms.Trees.{Tree, Trees, list, atom, quoted, number, none, more}
use Rattle.hz_base_model.specs.Names.{is_name}
use Rattle.hz_description_model.specs.Reading.DescriptionForms.{Said, Addition, automata, units, reservation, class, bypass, set, options, attribute, automaton_items, unit_items}
use Rattle.hz_description_model.specs.Reading.Descriptions.{Condition, Conditions, constant, negation, conjunction, disjunction, Options, no_options}
use Rattle.hz_description_model.specs.Reading.Descriptions as items
use Rattle.hz_description_model.specs.Reading.Limits as limits
use Rattle.hz_description_model.specs.Reservations.Alternatives.{Expression}
use Rattle.hz_description_model.specs.Reservations.Sets.{SetKind, exclusion}
use Rattle.hz_laws.specs.Written.{operands, set_word, units_word}
use Rattle.hz_claims_laws.specs.Blanks.{ListsNames, ListsPatterns, WritesTest, GiveOptions}

-- a form of a word and operands, each on some line
abbrev pub form_at : (line word_line : ℕ) → List ℕ → List Tree → Tree
form_at line word_line word trees = list line (more (atom word_line word) (operands trees))

-- Conditions: `(const_int i)`, `(eq_attr "name" "values")`, `(not t)`, `(and t ..)` and `(ior t ..)` with two tests or more.
mutual
  pub data SaysCondition : Tree → Condition → Type 0 where
    a_constant : (line word at : ℕ) (value : ℤ) → SaysCondition (form_at line word (codes "const_int") (number at value ∷ [])) (constant value)
    a_test : (line word at there : ℕ) (name text : List ℕ) (test : Condition) → IsTrue (is_name name) → WritesTest name text test
        → SaysCondition (form_at line word (codes "eq_attr") (quoted at name ∷ quoted there text ∷ [])) test
    a_negation : (line word : ℕ) (tree : Tree) (test : Condition) → SaysCondition tree test → SaysCondition (form_at line word (codes "not") (tree ∷ [])) (negation test)
    a_conjunction : (line word : ℕ) (trees : Trees) (first second : Condition) (others : Conditions) → SayConditions trees (items.more first (items.more second others))
        → SaysCondition (list line (more (atom word (codes "and")) trees)) (conjunction (items.more first (items.more second others)))
    a_disjunction : (line word : ℕ) (trees : Trees) (first second : Condition) (others : Conditions) → SayConditions trees (items.more first (items.more second others))
        → SaysCondition (list line (more (atom word (codes "ior")) trees)) (disjunction (items.more first (items.more second others)))

  -- conditions, one after another
  pub data SayConditions : Trees → Conditions → Type 0 where
    no_condition : SayConditions none items.none
    one_more : (tree : Tree) (test : Condition) (trees : Trees) (tests : Conditions) → SaysCondition tree test → SayConditions trees tests → SayConditions (more tree trees) (items.more test tests)

-- A form writes what it adds to a description, as the form of some number; `read` says what a text says as an expression.
module _ (read : List ℕ → Said) (n : ℕ) where
  pub data WritesFreely : Tree → Addition → Type 0 where
    -- `(define_automaton "names")`
    an_automaton_form : (line word at : ℕ) (text : List ℕ) (names : List (List ℕ)) → ListsNames text names
        → WritesFreely (form_at line word (codes "define_automaton") (quoted at text ∷ [])) (automata (automaton_items line n names))
    -- `(define_cpu_unit "names")`, and `define_query_cpu_unit`
    a_unit_form : (line word at : ℕ) (query : Bool) (text : List ℕ) (names : List (List ℕ)) → ListsNames text names
        → WritesFreely (form_at line word (units_word query) (quoted at text ∷ [])) (units (unit_items line n query None names))
    -- `(define_cpu_unit "names" "automaton")`, and `define_query_cpu_unit`
    a_unit_form_of_an_automaton : (line word at there : ℕ) (query : Bool) (text : List ℕ) (names : List (List ℕ)) (automaton : List ℕ) → ListsNames text names → IsTrue (is_name automaton)
        → WritesFreely (form_at line word (units_word query) (quoted at text ∷ quoted there automaton ∷ [])) (units (unit_items line n query (Some automaton) names))
    -- `(define_reservation "name" "regexp")`
    a_reservation_form : (line word at there : ℕ) (name regexp : List ℕ) (value : Expression) → IsTrue (is_name name) → read regexp ≡ Ok value
        → WritesFreely (form_at line word (codes "define_reservation") (quoted at name ∷ quoted there regexp ∷ []))
        (reservation (record { line = line; form = n; name = name; expression = value }))
    -- `(define_insn_reservation "name" latency condition "regexp")`
    a_class_form : (line word at number_line there : ℕ) (name : List ℕ) (latency : ℕ) (tree : Tree) (test : Condition) (regexp : List ℕ) (value : Expression)
        → IsTrue (is_name name) → latency ≤ limits.latency_limit → SaysCondition tree test → read regexp ≡ Ok value
        → WritesFreely (form_at line word (codes "define_insn_reservation") (quoted at name ∷ number number_line (pos latency) ∷ tree ∷ quoted there regexp ∷ []))
        (class (record { line = line; form = n; name = name; latency = latency; condition = test; expression = value }))
    -- `(define_bypass number "outs" "ins")`
    a_bypass_form : (line word at there last : ℕ) (latency : ℕ) (out in_text : List ℕ) (outs ins : List (List ℕ)) → latency ≤ limits.latency_limit → ListsNames out outs → ListsNames in_text ins
        → WritesFreely (form_at line word (codes "define_bypass") (number at (pos latency) ∷ quoted there out ∷ quoted last in_text ∷ []))
        (bypass (record { line = line; form = n; number = latency; outs = outs; ins = ins; guard = false }))
    -- `(define_bypass number "outs" "ins" "store_data_bypass_p")`
    a_guarded_bypass_form : (line word at there last guard_line : ℕ) (latency : ℕ) (out in_text : List ℕ) (outs ins : List (List ℕ)) → latency ≤ limits.latency_limit → ListsNames out outs → ListsNames in_text ins
        → WritesFreely (form_at line word (codes "define_bypass") (number at (pos latency) ∷ quoted there out ∷ quoted last in_text ∷ quoted guard_line (codes "store_data_bypass_p") ∷ []))
        (bypass (record { line = line; form = n; number = latency; outs = outs; ins = ins; guard = true }))
    -- `(exclusion_set "units" "units")`: each unit of the second string is a pattern by itself
    an_exclusion_form : (line word at there : ℕ) (text other_text : List ℕ) (names others : List (List ℕ)) → ListsNames text names → ListsNames other_text others
        → WritesFreely (form_at line word (codes "exclusion_set") (quoted at text ∷ quoted there other_text ∷ []))
        (set (record { line = line; form = n; kind = exclusion; units = names; patterns = map (λ name. name ∷ []) others }))
    -- `(presence_set "units" "patterns")`, and the three others
    a_set_form : (line word at there : ℕ) (kind : SetKind) (text pattern_text : List ℕ) (names : List (List ℕ)) (patterns : List (List (List ℕ))) → (kind ≡ exclusion → ⊥) → ListsNames text names → ListsPatterns pattern_text patterns
        → WritesFreely (form_at line word (set_word kind) (quoted at text ∷ quoted there pattern_text ∷ []))
        (set (record { line = line; form = n; kind = kind; units = names; patterns = patterns }))
    -- `(define_attr "name" "values" (const_string "value"))`
    an_attribute_form : (line word at there inner inner_word last : ℕ) (name text : List ℕ) (values : List (List ℕ)) (fallback : List ℕ) → IsTrue (is_name name) → ListsNames text values → IsTrue (is_name fallback)
        → WritesFreely (form_at line word (codes "define_attr") (quoted at name ∷ quoted there text ∷ form_at inner inner_word (codes "const_string") (quoted last fallback ∷ []) ∷ []))
        (attribute (record { line = line; form = n; name = name; values = values; fallback = fallback }))
    -- `(automata_option "options")`
    an_option_form : (line word at : ℕ) (text : List ℕ) (words : List (List ℕ)) (o : Options) → ListsNames text words → GiveOptions words no_options o
        → WritesFreely (form_at line word (codes "automata_option") (quoted at text ∷ [])) (options o)
