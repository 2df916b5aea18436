-- What forms say is written so.
use Rattle.std.proofs.Common.{◌≡◌, ℕ, ◌≤◌, nat_le, Bool, true, false, cond, not, List, [], ◌∷◌, map, Option, Some, None, Result, Ok, Err, pos, codes, refl, sym, ap, ◌∙◌, subst}
use Rattle.std.specs.Option.{option_map, option_map_or, option_and_then, ok_or}
use Rattle.std.specs.Str.{bytes_eq}
use Rattle.std.proofs.lemmas.Bool.{leb-true}
use Rattle.std.proofs.lemmas.Slice.Eq.{bytes_eq-Decides}
use Rattle.hz_base_model.specs.Forms.Trees.{Tree, Trees, list, atom, quoted, number, none, more}
use Rattle.hz_base_model.specs.Lines.{separated}
use Rattle.hz_base_model.specs.Names.{is_name}
use Rattle.hz_description_model.specs.Reading.DescriptionForms.{DescriptionFault, bad_shape, bad_condition, latency_limit, unknown_form, unknown_guard, unknown_option, shaped, quoted_bytes, name_in, names_in, patterns_in, single_patterns, set_patterns, limited_number, string_in, fallback_in, test_of, constant_of, constant_in, test_in, negated, several, joined, condition_in, conditions_in, with_options, Said, expression_of, expression_in, Addition, automata, units, reservation, class, bypass, set, options, attribute, automaton_items, unit_items, set_of, kind_of, options_form, guard_in, has_other_guard, automata_form, units_form, reservation_form, class_form, bypass_with, bypass_of, set_form_of, attribute_form, form_of_kind, form_says}
use Rattle.hz_description_model.specs.Reading.DescriptionShape.{FormKind, define_automaton, define_cpu_unit, define_reservation, define_insn_reservation, define_bypass, automata_option, define_attr, set_form, are_several}
use Rattle.hz_description_model.specs.Reading.Descriptions.{Condition, Conditions, constant, negation, conjunction, disjunction, Options, no_options}
use Rattle.hz_description_model.specs.Reading.Descriptions as items
use Rattle.hz_description_model.specs.Reading.Limits as limits
use Rattle.hz_description_model.specs.Reservations.Alternatives.{Expression}
use Rattle.hz_description_model.specs.Reservations.Sets.{SetKind, exclusion, presence, final_presence, absence, final_absence}
use Rattle.hz_description_model.proofs.Reading.DescriptionFormed.{then_ok, or_ok, then_some, kept_some}
use Rattle.hz_laws.specs.Written.{set_word, units_word}
use Rattle.hz_claims_laws.specs.Blanks.{ListsNames, ListsPatterns}
use Rattle.hz_claims_laws.specs.FreeForms.{form_at, SaysCondition, SayConditions, a_constant, a_test, a_negation, a_conjunction, a_disjunction, no_condition, one_more, WritesFreely, an_automaton_form, a_unit_form, a_unit_form_of_an_automaton, a_reservation_form, a_class_form, a_bypass_form, a_guarded_bypass_form, an_exclusion_form, a_set_form, an_attribute_form, an_option_form}
use Rattle.hz_claims_laws.proofs.BlankLists.{names_there, patterns_there, test_there, options_there}

-- ---- words

-- what is found by a word, or by the others
by_word : {A : Type 0} (word name : List ℕ) (found others : Option A) (value : A) (G : Type 0) → ((word ≡ name) → found ≡ Some value → G) → (others ≡ Some value → G) → cond (bytes_eq word name) found others ≡ Some value → G
by_word word name found others value G this another e = of (bytes_eq word name) refl e
  where
    of : (t : Bool) → bytes_eq word name ≡ t → cond t found others ≡ Some value → G
    of true is k = this ((bytes_eq-Decides word name).0 is) k
    of false is k = another k

some_is : {A : Type 0} (x y : A) → Some x ≡ Some y → x ≡ y
some_is x y e = cc

ok_same : {A : Type 0} (x y : A) (r : Result A DescriptionFault) → r ≡ Ok x → r ≡ Ok y → x ≡ y
ok_same x y r e f = cc

map_some : {A B : Type 0} (o : Option A) (f : A → B) (y : B) → option_map f o ≡ Some y → (x : A) × (o ≡ Some x) × (f x ≡ y)
map_some None f y h = absurd (cc)
map_some (Some x) f y h = (x, refl, cc)

-- the word of the forms of a kind
abbrev kind_word : FormKind → List ℕ
kind_word define_automaton = codes "define_automaton"
kind_word (define_cpu_unit query) = units_word query
kind_word define_reservation = codes "define_reservation"
kind_word define_insn_reservation = codes "define_insn_reservation"
kind_word define_bypass = codes "define_bypass"
kind_word (set_form kind) = set_word kind
kind_word automata_option = codes "automata_option"
kind_word define_attr = codes "define_attr"

set_there : (word : List ℕ) (kind : SetKind) → set_of word ≡ Some kind → word ≡ set_word kind
set_there word kind e =
    by_word word (codes "exclusion_set") (Some exclusion) _ kind (word ≡ set_word kind) (λ is k. is ∙ ap set_word (some_is exclusion kind k)) (λ e.
    by_word word (codes "presence_set") (Some presence) _ kind (word ≡ set_word kind) (λ is k. is ∙ ap set_word (some_is presence kind k)) (λ e.
    by_word word (codes "final_presence_set") (Some final_presence) _ kind (word ≡ set_word kind) (λ is k. is ∙ ap set_word (some_is final_presence kind k)) (λ e.
    by_word word (codes "absence_set") (Some absence) _ kind (word ≡ set_word kind) (λ is k. is ∙ ap set_word (some_is absence kind k)) (λ e.
    by_word word (codes "final_absence_set") (Some final_absence) None kind (word ≡ set_word kind) (λ is k. is ∙ ap set_word (some_is final_absence kind k)) (λ e. absurd (cc)) e) e) e) e) e

kind_there : (word : List ℕ) (kind : FormKind) → kind_of word ≡ Some kind → word ≡ kind_word kind
kind_there word kind e =
    by_word word (codes "define_automaton") (Some define_automaton) _ kind (word ≡ kind_word kind) (λ is k. is ∙ ap kind_word (some_is define_automaton kind k)) (λ e.
    by_word word (codes "define_cpu_unit") (Some (define_cpu_unit false)) _ kind (word ≡ kind_word kind) (λ is k. is ∙ ap kind_word (some_is (define_cpu_unit false) kind k)) (λ e.
    by_word word (codes "define_query_cpu_unit") (Some (define_cpu_unit true)) _ kind (word ≡ kind_word kind) (λ is k. is ∙ ap kind_word (some_is (define_cpu_unit true) kind k)) (λ e.
    by_word word (codes "define_reservation") (Some define_reservation) _ kind (word ≡ kind_word kind) (λ is k. is ∙ ap kind_word (some_is define_reservation kind k)) (λ e.
    by_word word (codes "define_insn_reservation") (Some define_insn_reservation) _ kind (word ≡ kind_word kind) (λ is k. is ∙ ap kind_word (some_is define_insn_reservation kind k)) (λ e.
    by_word word (codes "define_bypass") (Some define_bypass) _ kind (word ≡ kind_word kind) (λ is k. is ∙ ap kind_word (some_is define_bypass kind k)) (λ e.
    by_word word (codes "automata_option") (Some automata_option) _ kind (word ≡ kind_word kind) (λ is k. is ∙ ap kind_word (some_is automata_option kind k)) (λ e.
    by_word word (codes "define_attr") (Some define_attr) (option_map set_form (set_of word)) kind (word ≡ kind_word kind) (λ is k. is ∙ ap kind_word (some_is define_attr kind k)) (λ e.
    let (s, is, same) = map_some (set_of word) set_form kind e in set_there word s is ∙ ap kind_word same) e) e) e) e) e) e) e) e

-- ---- operands

record IsList (operand : Tree) (names : List (List ℕ)) : Type 0 where
  at : ℕ
  text : List ℕ
  is : operand ≡ quoted at text
  lists : ListsNames text names

list_is : (operand : Tree) (names : List (List ℕ)) → names_in operand ≡ Some names → IsList operand names
list_is (quoted at text) names h = record { at = at; text = text; is = refl; lists = names_there text names h }
list_is _ names h = absurd (cc)

shaped_list : (operand : Tree) (names : List (List ℕ)) → shaped (names_in operand) ≡ Ok names → IsList operand names
shaped_list operand names h = list_is operand names (or_ok (names_in operand) bad_shape names h)

record IsPatterns (operand : Tree) (patterns : List (List (List ℕ))) : Type 0 where
  at : ℕ
  text : List ℕ
  is : operand ≡ quoted at text
  lists : ListsPatterns text patterns

patterns_are : (operand : Tree) (patterns : List (List (List ℕ))) → patterns_in operand ≡ Some patterns → IsPatterns operand patterns
patterns_are (quoted at text) patterns h = record { at = at; text = text; is = refl; lists = patterns_there at text patterns h }
patterns_are _ patterns h = absurd (cc)

record IsOneName (operand : Tree) (name : List ℕ) : Type 0 where
  at : ℕ
  is : operand ≡ quoted at name
  right : is_name name ≡ true

name_is : (operand : Tree) (name : List ℕ) → name_in operand ≡ Some name → IsOneName operand name
name_is (quoted at text) name h =
    let (good, same) = kept_some (is_name text) text name h in
    record { at = at; is = ap (quoted at) same; right = subst (λ (bytes : List ℕ). is_name bytes ≡ true) same good }
name_is _ name h = absurd (cc)

shaped_name : (operand : Tree) (name : List ℕ) → shaped (name_in operand) ≡ Ok name → IsOneName operand name
shaped_name operand name h = name_is operand name (or_ok (name_in operand) bad_shape name h)

record IsString (operand : Tree) (bytes : List ℕ) : Type 0 where
  at : ℕ
  is : operand ≡ quoted at bytes

string_is : (operand : Tree) (bytes : List ℕ) → quoted_bytes operand ≡ Some bytes → IsString operand bytes
string_is (quoted at text) bytes h = record { at = at; is = ap (quoted at) (some_is text bytes h) }
string_is _ bytes h = absurd (cc)

record IsLimited (operand : Tree) (m : ℕ) : Type 0 where
  at : ℕ
  is : operand ≡ number at (pos m)
  low : m ≤ limits.latency_limit

number_is : (operand : Tree) (m : ℕ) → limited_number operand ≡ Ok m → IsLimited operand m
number_is (number at (pos k)) m h = go (nat_le k limits.latency_limit) refl h
  where
    go : (low : Bool) → nat_le k limits.latency_limit ≡ low → cond low (Ok k) (Err latency_limit) ≡ Ok m → IsLimited (number at (pos k)) m
    go true e l = let same : k ≡ m = cc in record { at = at; is = ap (λ (j : ℕ). number at (pos j)) same; low = subst (λ (j : ℕ). j ≤ limits.latency_limit) same (leb-true k limits.latency_limit e) }
    go false e l = absurd (cc)
number_is _ m h = absurd (cc)

record IsExpression (read : List ℕ → Said) (operand : Tree) (value : Expression) : Type 0 where
  at : ℕ
  text : List ℕ
  is : operand ≡ quoted at text
  says : read text ≡ Ok value

expression_is : (read : List ℕ → Said) (operand : Tree) (value : Expression) → expression_in read operand ≡ Ok value → IsExpression read operand value
expression_is read (quoted at text) value h = go (read text) refl h
  where
    go : (said : Said) → read text ≡ said → expression_of said ≡ Ok value → IsExpression read (quoted at text) value
    go (Ok e) is k = let same : e ≡ value = cc in record { at = at; text = text; is = refl; says = is ∙ ap Ok same }
    go (Err wrong) is k = absurd (cc)
expression_is read _ value h = absurd (cc)

record IsFallback (operand : Tree) (name : List ℕ) : Type 0 where
  line : ℕ
  word_line : ℕ
  at : ℕ
  is : operand ≡ form_at line word_line (codes "const_string") (quoted at name ∷ [])
  right : is_name name ≡ true

only_string : (line word_line : ℕ) (operands : Trees) (name : List ℕ) → string_in operands ≡ Some name → IsFallback (list line (more (atom word_line (codes "const_string")) operands)) name
only_string line word_line (more value none) name h =
    let n = name_is value name h in
    record { line = line; word_line = word_line; at = n.at; is = ap (λ (t : Tree). list line (more (atom word_line (codes "const_string")) (more t none))) n.is; right = n.right }
only_string line word_line _ name h = absurd (cc)

fallback_is : (operand : Tree) (name : List ℕ) → fallback_in operand ≡ Some name → IsFallback operand name
fallback_is (list line (more (atom word_line word) operands)) name h =
    by_word word (codes "const_string") (string_in operands) None name (IsFallback (list line (more (atom word_line word) operands)) name)
    (λ is k. subst (λ (w : List ℕ). IsFallback (list line (more (atom word_line w) operands)) name) (sym is) (only_string line word_line operands name k))
    (λ k. absurd (cc)) h
fallback_is _ name h = absurd (cc)

-- ---- conditions

constant_value : (line word at : ℕ) (value : Tree) (test : Condition) → constant_of value ≡ Some test → SaysCondition (list line (more (atom word (codes "const_int")) (more value none))) test
constant_value line word at (number there m) test h = subst (SaysCondition (list line (more (atom word (codes "const_int")) (more (number there m) none)))) (some_is (constant m) test h) (a_constant line word there m)
constant_value line word at _ test h = absurd (cc)

constant_is : (line word : ℕ) (operands : Trees) (test : Condition) → constant_in operands ≡ Some test → SaysCondition (list line (more (atom word (codes "const_int")) operands)) test
constant_is line word (more value none) test h = constant_value line word 0 value test h
constant_is line word _ test h = absurd (cc)

test_is : (line word : ℕ) (operands : Trees) (test : Condition) → test_in operands ≡ Some test → SaysCondition (list line (more (atom word (codes "eq_attr")) operands)) test
test_is line word (more named_by (more values none)) test h =
    let (name, named, k) = then_some (name_in named_by) _ test h in
    let (bytes, are, made) = then_some (quoted_bytes values) (test_of name) test k in
    let n = name_is named_by name named in
    let v = string_is values bytes are in
    let form : list line (more (atom word (codes "eq_attr")) (more named_by (more values none))) ≡ list line (more (atom word (codes "eq_attr")) (more (quoted n.at name) (more (quoted v.at bytes) none))) =
    λ i. list line (more (atom word (codes "eq_attr")) (more (n.is i) (more (v.is i) none))) in
    subst (λ (t : Tree). SaysCondition t test) (sym form) (a_test line word n.at v.at name bytes test n.right (test_there name bytes test made))
test_is line word _ test h = absurd (cc)

negated_is : (line word : ℕ) (trees : Trees) (tests : Conditions) (test : Condition) → SayConditions trees tests → negated tests ≡ Some test → SaysCondition (list line (more (atom word (codes "not")) trees)) test
negated_is line word trees tests test no_condition h = absurd (cc)
negated_is line word trees tests test (one_more tree one others rest w no_condition) h = subst (SaysCondition (list line (more (atom word (codes "not")) (more tree none)))) (some_is (negation one) test h) (a_negation line word tree one w)
negated_is line word trees tests test (one_more tree one others rest w (one_more next two after more_tests v ws)) h = absurd (cc)

conjunction_is : (line word : ℕ) (trees : Trees) (tests : Conditions) → SayConditions trees tests → are_several tests ≡ true → SaysCondition (list line (more (atom word (codes "and")) trees)) (conjunction tests)
conjunction_is line word trees (items.more first (items.more second others)) says good = a_conjunction line word trees first second others says
conjunction_is line word trees (items.more first items.none) says good = absurd (cc)
conjunction_is line word trees items.none says good = absurd (cc)

disjunction_is : (line word : ℕ) (trees : Trees) (tests : Conditions) → SayConditions trees tests → are_several tests ≡ true → SaysCondition (list line (more (atom word (codes "ior")) trees)) (disjunction tests)
disjunction_is line word trees (items.more first (items.more second others)) says good = a_disjunction line word trees first second others says
disjunction_is line word trees (items.more first items.none) says good = absurd (cc)
disjunction_is line word trees items.none says good = absurd (cc)

joined_is : (line word_line : ℕ) (word : List ℕ) (trees : Trees) (tests : Conditions) (test : Condition) → SayConditions trees tests → joined word tests ≡ Some test → SaysCondition (list line (more (atom word_line word) trees)) test
joined_is line word_line word trees tests test says h =
    by_word word (codes "not") (negated tests) _ test (SaysCondition (list line (more (atom word_line word) trees)) test) (λ is k. as_word (codes "not") is (negated_is line word_line trees tests test says k)) (λ h.
    by_word word (codes "and") (several conjunction tests) _ test (SaysCondition (list line (more (atom word_line word) trees)) test) (λ is k.
    let (good, same) = kept_some (are_several tests) (conjunction tests) test k in as_word (codes "and") is (subst (SaysCondition (list line (more (atom word_line (codes "and")) trees))) same (conjunction_is line word_line trees tests says good))) (λ h.
    by_word word (codes "ior") (several disjunction tests) None test (SaysCondition (list line (more (atom word_line word) trees)) test) (λ is k.
    let (good, same) = kept_some (are_several tests) (disjunction tests) test k in as_word (codes "ior") is (subst (SaysCondition (list line (more (atom word_line (codes "ior")) trees))) same (disjunction_is line word_line trees tests says good))) (λ h. absurd (cc)) h) h) h
  where
    as_word : (name : List ℕ) → word ≡ name → SaysCondition (list line (more (atom word_line name) trees)) test → SaysCondition (list line (more (atom word_line word) trees)) test
    as_word name is w = subst (λ (bytes : List ℕ). SaysCondition (list line (more (atom word_line bytes) trees)) test) (sym is) w

-- a condition by its word, if its operands that are conditions are written so
word_is : (line word_line : ℕ) (word : List ℕ) (operands : Trees) (test : Condition) → ((tests : Conditions) → conditions_in operands ≡ Some tests → SayConditions operands tests)
    → cond (bytes_eq word (codes "const_int")) (constant_in operands) (cond (bytes_eq word (codes "eq_attr")) (test_in operands) (option_and_then (joined word) (conditions_in operands))) ≡ Some test
    → SaysCondition (list line (more (atom word_line word) operands)) test
word_is line word_line word operands test inner h =
    by_word word (codes "const_int") (constant_in operands) _ test (SaysCondition (list line (more (atom word_line word) operands)) test)
    (λ is k. subst (λ (bytes : List ℕ). SaysCondition (list line (more (atom word_line bytes) operands)) test) (sym is) (constant_is line word_line operands test k)) (λ h.
    by_word word (codes "eq_attr") (test_in operands) _ test (SaysCondition (list line (more (atom word_line word) operands)) test)
    (λ is k. subst (λ (bytes : List ℕ). SaysCondition (list line (more (atom word_line bytes) operands)) test) (sym is) (test_is line word_line operands test k)) (λ h.
    let (tests, are, made) = then_some (conditions_in operands) (joined word) test h in joined_is line word_line word operands tests test (inner tests are) made) h) h

mutual
  pub condition_there : (form : Tree) (test : Condition) → condition_in form ≡ Some test → SaysCondition form test
  condition_there (list line (more (atom word_line word) operands)) test h = word_is line word_line word operands test (λ tests are. conditions_there operands tests are) h
  condition_there _ test h = absurd (cc)

  conditions_there : (forms : Trees) (tests : Conditions) → conditions_in forms ≡ Some tests → SayConditions forms tests
  conditions_there none tests h = subst (SayConditions none) (some_is items.none tests h) no_condition
  conditions_there (more first others) tests h =
      let (test, is, k) = then_some (condition_in first) _ tests h in
      let (rest, are, same) = map_some (conditions_in others) (items.more test) tests k in
      subst (SayConditions (more first others)) same (one_more first test others rest (condition_there first test is) (conditions_there others rest are))

-- ---- forms

module _ (read : List ℕ → Said) (n : ℕ) where
  -- the same form and the same addition
  as_written : (form other : Tree) (a b : Addition) → form ≡ other → b ≡ a → WritesFreely read n other b → WritesFreely read n form a
  as_written form other a b is same w = subst (WritesFreely read n form) same (subst (λ (t : Tree). WritesFreely read n t b) (sym is) w)

  automata_is : (line word : ℕ) (operands : Trees) (a : Addition) → automata_form line n operands ≡ Ok a → WritesFreely read n (list line (more (atom word (codes "define_automaton")) operands)) a
  automata_is line word (more names none) a h =
      let (found, is, made) = then_ok (shaped (names_in names)) _ a h in
      let l = shaped_list names found is in
      as_written _ (form_at line word (codes "define_automaton") (quoted l.at l.text ∷ [])) a (automata (automaton_items line n found))
      (λ i. list line (more (atom word (codes "define_automaton")) (more (l.is i) none))) (ok_same _ a _ refl made) (an_automaton_form line word l.at l.text found l.lists)
  automata_is line word _ a h = absurd (cc)

  units_are : (line word : ℕ) (query : Bool) (operands : Trees) (a : Addition) → units_form line n query operands ≡ Ok a → WritesFreely read n (list line (more (atom word (units_word query)) operands)) a
  units_are line word query (more names none) a h =
      let (found, is, made) = then_ok (shaped (names_in names)) _ a h in
      let l = shaped_list names found is in
      as_written _ (form_at line word (units_word query) (quoted l.at l.text ∷ [])) a (units (unit_items line n query None found))
      (λ i. list line (more (atom word (units_word query)) (more (l.is i) none))) (ok_same _ a _ refl made) (a_unit_form line word l.at query l.text found l.lists)
  units_are line word query (more names (more automaton none)) a h =
      let (found, is, k) = then_ok (shaped (names_in names)) _ a h in
      let (name, named, made) = then_ok (shaped (name_in automaton)) _ a k in
      let l = shaped_list names found is in
      let m = shaped_name automaton name named in
      as_written _ (form_at line word (units_word query) (quoted l.at l.text ∷ quoted m.at name ∷ [])) a (units (unit_items line n query (Some name) found))
      (λ i. list line (more (atom word (units_word query)) (more (l.is i) (more (m.is i) none)))) (ok_same _ a _ refl made) (a_unit_form_of_an_automaton line word l.at m.at query l.text found name l.lists m.right)
  units_are line word query _ a h = absurd (cc)

  reservation_is : (line word : ℕ) (operands : Trees) (a : Addition) → reservation_form line n read operands ≡ Ok a → WritesFreely read n (list line (more (atom word (codes "define_reservation")) operands)) a
  reservation_is line word (more one (more regexp none)) a h =
      let (name, named, k) = then_ok (shaped (name_in one)) _ a h in
      let (value, said, made) = then_ok (expression_in read regexp) _ a k in
      let m = shaped_name one name named in
      let e = expression_is read regexp value said in
      as_written _ (form_at line word (codes "define_reservation") (quoted m.at name ∷ quoted e.at e.text ∷ [])) a (reservation (record { line = line; form = n; name = name; expression = value }))
      (λ i. list line (more (atom word (codes "define_reservation")) (more (m.is i) (more (e.is i) none)))) (ok_same _ a _ refl made) (a_reservation_form line word m.at e.at name e.text value m.right e.says)
  reservation_is line word _ a h = absurd (cc)

  class_is : (line word : ℕ) (operands : Trees) (a : Addition) → class_form line n read operands ≡ Ok a → WritesFreely read n (list line (more (atom word (codes "define_insn_reservation")) operands)) a
  class_is line word (more one (more cycles (more condition (more regexp none)))) a h =
      let (name, named, h1) = then_ok (shaped (name_in one)) _ a h in
      let (latency, low, h2) = then_ok (limited_number cycles) _ a h1 in
      let (test, tested, h3) = then_ok (ok_or (condition_in condition) bad_condition) _ a h2 in
      let (value, said, made) = then_ok (expression_in read regexp) _ a h3 in
      let m = shaped_name one name named in
      let l = number_is cycles latency low in
      let c = condition_there condition test (or_ok (condition_in condition) bad_condition test tested) in
      let e = expression_is read regexp value said in
      as_written _ (form_at line word (codes "define_insn_reservation") (quoted m.at name ∷ number l.at (pos latency) ∷ condition ∷ quoted e.at e.text ∷ [])) a
      (class (record { line = line; form = n; name = name; latency = latency; condition = test; expression = value }))
      (λ i. list line (more (atom word (codes "define_insn_reservation")) (more (m.is i) (more (l.is i) (more condition (more (e.is i) none)))))) (ok_same _ a _ refl made)
      (a_class_form line word m.at l.at e.at name latency condition test e.text value m.right l.low c e.says)
  class_is line word _ a h = absurd (cc)

  -- a bypass with the guard or without it
  record IsBypassOf (line : ℕ) (cycles outs ins : Tree) (guard : Result Bool DescriptionFault) (a : Addition) : Type 0 where
    latency : ℕ
    from : List (List ℕ)
    to : List (List ℕ)
    has : Bool
    limited : IsLimited cycles latency
    out_names : IsList outs from
    in_names : IsList ins to
    guarded : guard ≡ Ok has
    made : bypass (record { line = line; form = n; number = latency; outs = from; ins = to; guard = has }) ≡ a

  bypass_parts : (line : ℕ) (cycles outs ins : Tree) (guard : Result Bool DescriptionFault) (a : Addition) → bypass_with line n cycles outs ins guard ≡ Ok a → IsBypassOf line cycles outs ins guard a
  bypass_parts line cycles outs ins guard a h =
      let (latency, low, h1) = then_ok (limited_number cycles) _ a h in
      let (from, are, h2) = then_ok (shaped (names_in outs)) _ a h1 in
      let (to, also, h3) = then_ok (shaped (names_in ins)) _ a h2 in
      let (has, is, last) = then_ok guard _ a h3 in
      let same : bypass (record { line = line; form = n; number = latency; outs = from; ins = to; guard = has }) ≡ a = cc in
      record {
        latency = latency;
        from = from;
        to = to;
        has = has;
        limited = number_is cycles latency low;
        out_names = shaped_list outs from are;
        in_names = shaped_list ins to also;
        guarded = is;
        made = same;
      }

  without_guard : (line word : ℕ) (cycles outs ins : Tree) (a : Addition) → IsBypassOf line cycles outs ins (Ok false) a → WritesFreely read n (list line (more (atom word (codes "define_bypass")) (more cycles (more outs (more ins none))))) a
  without_guard line word cycles outs ins a b =
      let l = b.limited in
      let o = b.out_names in
      let m = b.in_names in
      let free : b.has ≡ false = let e = b.guarded in cc in
      as_written _ (form_at line word (codes "define_bypass") (number l.at (pos b.latency) ∷ quoted o.at o.text ∷ quoted m.at m.text ∷ [])) a
      (bypass (record { line = line; form = n; number = b.latency; outs = b.from; ins = b.to; guard = false }))
      (λ i. list line (more (atom word (codes "define_bypass")) (more (l.is i) (more (o.is i) (more (m.is i) none)))))
      (ap (λ (t : Bool). bypass (record { line = line; form = n; number = b.latency; outs = b.from; ins = b.to; guard = t })) (sym free) ∙ b.made)
      (a_bypass_form line word l.at o.at m.at b.latency o.text m.text b.from b.to l.low o.lists m.lists)

  -- the string of the guard
  guard_is : (operand : Tree) (has : Bool) → shaped (guard_in operand) ≡ Ok has → option_map_or not (guard_in operand) false ≡ false → IsString operand (codes "store_data_bypass_p")
  guard_is (quoted at text) has h other = go (bytes_eq text (codes "store_data_bypass_p")) refl other
    where
      go : (t : Bool) → bytes_eq text (codes "store_data_bypass_p") ≡ t → not t ≡ false → IsString (quoted at text) (codes "store_data_bypass_p")
      go true e k = record { at = at; is = ap (quoted at) ((bytes_eq-Decides text (codes "store_data_bypass_p")).0 e) }
      go false e k = absurd (cc)
  guard_is _ has h other = absurd (cc)

  guard_has : (operand : Tree) (has : Bool) → IsString operand (codes "store_data_bypass_p") → shaped (guard_in operand) ≡ Ok has → has ≡ true
  guard_has operand has s h = let said : shaped (guard_in (quoted s.at (codes "store_data_bypass_p"))) ≡ Ok has = subst (λ (t : Tree). shaped (guard_in t) ≡ Ok has) s.is h in let same : Ok true ≡ Ok has = said in cc

  with_guard : (line word : ℕ) (cycles outs ins guard : Tree) (a : Addition) → IsBypassOf line cycles outs ins (shaped (guard_in guard)) a → option_map_or not (guard_in guard) false ≡ false
      → WritesFreely read n (list line (more (atom word (codes "define_bypass")) (more cycles (more outs (more ins (more guard none)))))) a
  with_guard line word cycles outs ins guard a b other =
      let l = b.limited in
      let o = b.out_names in
      let m = b.in_names in
      let s = guard_is guard b.has b.guarded other in
      let guarded : b.has ≡ true = guard_has guard b.has s b.guarded in
      as_written _ (form_at line word (codes "define_bypass") (number l.at (pos b.latency) ∷ quoted o.at o.text ∷ quoted m.at m.text ∷ quoted s.at (codes "store_data_bypass_p") ∷ [])) a
      (bypass (record { line = line; form = n; number = b.latency; outs = b.from; ins = b.to; guard = true }))
      (λ i. list line (more (atom word (codes "define_bypass")) (more (l.is i) (more (o.is i) (more (m.is i) (more (s.is i) none))))))
      (ap (λ (t : Bool). bypass (record { line = line; form = n; number = b.latency; outs = b.from; ins = b.to; guard = t })) (sym guarded) ∙ b.made)
      (a_guarded_bypass_form line word l.at o.at m.at s.at b.latency o.text m.text b.from b.to l.low o.lists m.lists)

  -- no other guard is reported, and the rest is said
  not_other : (t : Bool) (r : Result Addition DescriptionFault) (a : Addition) → cond t (Err unknown_guard) r ≡ Ok a → (t ≡ false) × (r ≡ Ok a)
  not_other true r a h = absurd (cc)
  not_other false r a h = (refl, h)

  bypass_is : (line word : ℕ) (operands : Trees) (a : Addition) → has_other_guard operands ≡ false → bypass_of line n operands ≡ Ok a → WritesFreely read n (list line (more (atom word (codes "define_bypass")) operands)) a
  bypass_is line word (more cycles (more outs (more ins none))) a other h = without_guard line word cycles outs ins a (bypass_parts line cycles outs ins (Ok false) a h)
  bypass_is line word (more cycles (more outs (more ins (more guard none)))) a other h = with_guard line word cycles outs ins guard a (bypass_parts line cycles outs ins (shaped (guard_in guard)) a h) other
  bypass_is line word _ a other h = absurd (cc)

  patterned_set : (line word : ℕ) (kind : SetKind) (names second : Tree) (found : List (List ℕ)) (patterns : List (List (List ℕ))) (a : Addition) → (kind ≡ exclusion → ⊥) → IsList names found → IsPatterns second patterns
      → set (record { line = line; form = n; kind = kind; units = found; patterns = patterns }) ≡ a → WritesFreely read n (list line (more (atom word (set_word kind)) (more names (more second none)))) a
  patterned_set line word kind names second found patterns a other l p same =
      as_written _ (form_at line word (set_word kind) (quoted l.at l.text ∷ quoted p.at p.text ∷ [])) a (set (record { line = line; form = n; kind = kind; units = found; patterns = patterns }))
      (λ i. list line (more (atom word (set_word kind)) (more (l.is i) (more (p.is i) none)))) same (a_set_form line word l.at p.at kind l.text p.text found patterns other l.lists p.lists)

  second_is : (line word : ℕ) (kind : SetKind) (names second : Tree) (found : List (List ℕ)) (patterns : List (List (List ℕ))) (a : Addition) → IsList names found → set_patterns kind second ≡ Some patterns
      → set (record { line = line; form = n; kind = kind; units = found; patterns = patterns }) ≡ a → WritesFreely read n (list line (more (atom word (set_word kind)) (more names (more second none)))) a
  second_is line word exclusion names second found patterns a l h same =
      let (others, are, single) = map_some (names_in second) single_patterns patterns h in
      let o = list_is second others are in
      as_written _ (form_at line word (codes "exclusion_set") (quoted l.at l.text ∷ quoted o.at o.text ∷ [])) a (set (record { line = line; form = n; kind = exclusion; units = found; patterns = map (λ name. name ∷ []) others }))
      (λ i. list line (more (atom word (codes "exclusion_set")) (more (l.is i) (more (o.is i) none))))
      (ap (λ (ps : List (List (List ℕ))). set (record { line = line; form = n; kind = exclusion; units = found; patterns = ps })) single ∙ same)
      (an_exclusion_form line word l.at o.at l.text o.text found others l.lists o.lists)
  second_is line word presence names second found patterns a l h same = patterned_set line word presence names second found patterns a (λ e. absurd (cc)) l (patterns_are second patterns h) same
  second_is line word final_presence names second found patterns a l h same = patterned_set line word final_presence names second found patterns a (λ e. absurd (cc)) l (patterns_are second patterns h) same
  second_is line word absence names second found patterns a l h same = patterned_set line word absence names second found patterns a (λ e. absurd (cc)) l (patterns_are second patterns h) same
  second_is line word final_absence names second found patterns a l h same = patterned_set line word final_absence names second found patterns a (λ e. absurd (cc)) l (patterns_are second patterns h) same

  set_is : (line word : ℕ) (kind : SetKind) (operands : Trees) (a : Addition) → set_form_of line n kind operands ≡ Ok a → WritesFreely read n (list line (more (atom word (set_word kind)) operands)) a
  set_is line word kind (more names (more second none)) a h =
      let (found, is, k) = then_ok (shaped (names_in names)) _ a h in
      let (patterns, are, made) = then_ok (shaped (set_patterns kind second)) _ a k in
      second_is line word kind names second found patterns a (shaped_list names found is) (or_ok (set_patterns kind second) bad_shape patterns are) (ok_same _ a _ refl made)
  set_is line word kind _ a h = absurd (cc)

  attribute_is : (line word : ℕ) (operands : Trees) (a : Addition) → attribute_form line n operands ≡ Ok a → WritesFreely read n (list line (more (atom word (codes "define_attr")) operands)) a
  attribute_is line word (more one (more several_values (more last none))) a h =
      let (name, named, h1) = then_ok (shaped (name_in one)) _ a h in
      let (values, are, h2) = then_ok (shaped (names_in several_values)) _ a h1 in
      let (fallback, is, made) = then_ok (shaped (fallback_in last)) _ a h2 in
      let m = shaped_name one name named in
      let l = shaped_list several_values values are in
      let f = fallback_is last fallback (or_ok (fallback_in last) bad_shape fallback is) in
      as_written _ (form_at line word (codes "define_attr") (quoted m.at name ∷ quoted l.at l.text ∷ form_at f.line f.word_line (codes "const_string") (quoted f.at fallback ∷ []) ∷ [])) a
      (attribute (record { line = line; form = n; name = name; values = values; fallback = fallback }))
      (λ i. list line (more (atom word (codes "define_attr")) (more (m.is i) (more (l.is i) (more (f.is i) none))))) (ok_same _ a _ refl made)
      (an_attribute_form line word m.at l.at f.line f.word_line f.at name l.text values fallback m.right l.lists f.right)
  attribute_is line word _ a h = absurd (cc)

  options_are : (line word : ℕ) (operands : Trees) (a : Addition) → options_form operands ≡ Ok a → WritesFreely read n (list line (more (atom word (codes "automata_option")) operands)) a
  options_are line word (more text none) a h =
      let (bytes, is, k) = then_ok (shaped (quoted_bytes text)) _ a h in
      let (o, given, made) = then_ok (ok_or (with_options no_options (separated bytes)) unknown_option) _ a k in
      let s = string_is text bytes (or_ok (quoted_bytes text) bad_shape bytes is) in
      let g = options_there bytes o (or_ok (with_options no_options (separated bytes)) unknown_option o given) in
      as_written _ (form_at line word (codes "automata_option") (quoted s.at bytes ∷ [])) a (options o)
      (λ i. list line (more (atom word (codes "automata_option")) (more (s.is i) none))) (ok_same _ a _ refl made) (an_option_form line word s.at bytes g.0 o g.1 g.2)
  options_are line word _ a h = absurd (cc)

  kind_is : (line word : ℕ) (kind : FormKind) (operands : Trees) (a : Addition) → form_of_kind line n read kind operands ≡ Ok a → WritesFreely read n (list line (more (atom word (kind_word kind)) operands)) a
  kind_is line word define_automaton operands a h = automata_is line word operands a h
  kind_is line word (define_cpu_unit query) operands a h = units_are line word query operands a h
  kind_is line word define_reservation operands a h = reservation_is line word operands a h
  kind_is line word define_insn_reservation operands a h = class_is line word operands a h
  kind_is line word define_bypass operands a h = let (other, k) = not_other (has_other_guard operands) (bypass_of line n operands) a h in bypass_is line word operands a other k
  kind_is line word (set_form kind) operands a h = set_is line word kind operands a h
  kind_is line word automata_option operands a h = options_are line word operands a h
  kind_is line word define_attr operands a h = attribute_is line word operands a h

  pub form_there : (form : Tree) (a : Addition) → form_says read n form ≡ Ok a → WritesFreely read n form a
  form_there (list line (more (atom word_line word) operands)) a h =
      let (kind, of, made) = then_ok (ok_or (kind_of word) unknown_form) _ a h in
      let is = kind_there word kind (or_ok (kind_of word) unknown_form kind of) in
      subst (λ (bytes : List ℕ). WritesFreely read n (list line (more (atom word_line bytes) operands)) a) (sym is) (kind_is line word_line kind operands a made)
  form_there _ a h = absurd (cc)
