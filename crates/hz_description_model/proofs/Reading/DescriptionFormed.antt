-- The operands of forms are well formed.
use Rattle.std.proofs.Common.{◌≡◌, ℕ, ◌≤◌, Bool, true, false, cond, nat_le, List, [], ◌∷◌, Option, Some, None, Result, Ok, Err, refl}
use Rattle.std.specs.Prelude.{codes, pos}
use Rattle.std.specs.Str.{bytes_eq}
use Rattle.std.specs.Cmp.Derive.{both_true}
use Rattle.std.specs.List.{list_all}
use Rattle.std.specs.Option.{option_map, option_map_or, option_and_then, ok_or}
use Rattle.std.specs.Result.{MatchResult}
use Rattle.std.proofs.lemmas.Bool.{leb-true}
use Rattle.hz_description_model.specs.Reservations.Alternatives.{Expression}
use Rattle.hz_description_model.specs.Grammar.ExpressionTexts as expression
use Rattle.hz_description_model.specs.Reservations.Expressions.{is_expression}
use Rattle.hz_description_model.specs.Reading.Limits as limits
use Rattle.hz_base_model.specs.Lines.{separated}
use Rattle.hz_base_model.specs.Names.{is_name}
use Rattle.hz_description_model.specs.Reservations.Sets.{SetKind, exclusion, presence, final_presence, absence, final_absence}
use Rattle.hz_base_model.specs.Forms.Trees.{Tree, Trees, list, atom, number, none, more}
use Rattle.hz_description_model.specs.Reading.Descriptions.{Condition, Conditions, constant, negation, conjunction, disjunction, AutomatonItem, UnitItem, ReservationItem, ClassItem, BypassItem, SetItem, AttributeItem, Description, no_items}
use Rattle.hz_description_model.specs.Reading.Descriptions as model
use Rattle.hz_description_model.specs.Reading.DescriptionShape.{are_names, are_patterns, are_several, is_condition, are_conditions}
use Rattle.hz_description_model.specs.Reading.DescriptionForms.{DescriptionFault, bad_shape, latency_limit, unknown_guard, Addition, bypass, guard_in, has_other_guard, bypass_with, bypass_of, bypass_form, and_then, shaped, kept, quoted_bytes, name_in, names_of, names_in, patterns_of, patterns_in, single_patterns, set_patterns, limited_number, string_in, fallback_in, without_blanks, after_mark, test_after, test_of, constant_of, constant_in, test_in, negated, several, joined, condition_in, conditions_in, Said, IsReading, expression_of, expression_in, headed}
use Rattle.hz_description_model.proofs.Grammar.ExpressionTextsLaws.{well_formed}
use Rattle.hz_description_model.proofs.Reading.FormSizes.{first_true, second_true}

-- What a good result came from.

pub then_ok : {A B E : Type 0} (r : Result A E) (next : A → Result B E) (y : B) → and_then r next ≡ Ok y → (x : A) × (r ≡ Ok x) × (next x ≡ Ok y)
then_ok (Ok x) next y h = (x, refl, h)
then_ok (Err e) next y h = absurd (cc)

pub or_ok : {A E : Type 0} (o : Option A) (e : E) (x : A) → ok_or o e ≡ Ok x → o ≡ Some x
or_ok None e x h = absurd (cc)
or_ok (Some y) e x h = cc

pub then_some : {A B : Type 0} (o : Option A) (next : A → Option B) (y : B) → option_and_then next o ≡ Some y → (x : A) × (o ≡ Some x) × (next x ≡ Some y)
then_some None next y h = absurd (cc)
then_some (Some x) next y h = (x, refl, h)

map_some : {A B : Type 0} (o : Option A) (f : A → B) (y : B) → option_map f o ≡ Some y → (x : A) × (o ≡ Some x) × (f x ≡ y)
map_some None f y h = absurd (cc)
map_some (Some x) f y h = (x, refl, cc)

pub kept_some : {A : Type 0} (good : Bool) (x y : A) → kept good x ≡ Some y → (good ≡ true) × (x ≡ y)
kept_some true x y h = (refl, cc)
kept_some false x y h = absurd (cc)

-- Operands.

pub name_formed : (operand : Tree) (name : List ℕ) → name_in operand ≡ Some name → is_name name ≡ true
name_formed operand name h =
    let (bytes, is, k) = then_some (quoted_bytes operand) _ name h in
    let (good, same) = kept_some (is_name bytes) bytes name k in
    rw (← same) good

list_formed : (bytes : List ℕ) (names : List (List ℕ)) → names_of bytes ≡ Some names → are_names names ≡ true
list_formed bytes names h = let (good, same) = kept_some (are_names (separated bytes)) (separated bytes) names h in rw (← same) good

pub names_formed : (operand : Tree) (names : List (List ℕ)) → names_in operand ≡ Some names → are_names names ≡ true
names_formed operand names h = let (bytes, is, k) = then_some (quoted_bytes operand) names_of names h in list_formed bytes names k

patterns_formed : (operand : Tree) (patterns : List (List (List ℕ))) → patterns_in operand ≡ Some patterns → are_patterns patterns ≡ true
patterns_formed operand patterns h =
    let (bytes, is, k) = then_some (quoted_bytes operand) _ patterns h in
    let (good, same) = kept_some (are_patterns (patterns_of bytes)) (patterns_of bytes) patterns k in
    rw (← same) good

-- each name as a pattern by itself
singles : (names : List (List ℕ)) → list_all is_name names ≡ true → list_all are_names (single_patterns names) ≡ true
singles [] h = refl
singles (name ∷ names) h = both_true (both_true (first_true (is_name name) (list_all is_name names) h) refl) (singles names (second_true (is_name name) (list_all is_name names) h))

singles_formed : (names : List (List ℕ)) → are_names names ≡ true → are_patterns (single_patterns names) ≡ true
singles_formed [] h = h
singles_formed (name ∷ names) h = singles (name ∷ names) h

pub set_patterns_formed : (kind : SetKind) (operand : Tree) (patterns : List (List (List ℕ))) → set_patterns kind operand ≡ Some patterns → are_patterns patterns ≡ true
set_patterns_formed exclusion operand patterns h =
    let (names, is, same) = map_some (names_in operand) single_patterns patterns h in
    rw (← same) (singles_formed names (names_formed operand names is))
set_patterns_formed presence operand patterns h = patterns_formed operand patterns h
set_patterns_formed final_presence operand patterns h = patterns_formed operand patterns h
set_patterns_formed absence operand patterns h = patterns_formed operand patterns h
set_patterns_formed final_absence operand patterns h = patterns_formed operand patterns h

pub number_formed : (operand : Tree) (n : ℕ) → limited_number operand ≡ Ok n → n ≤ limits.latency_limit
number_formed (number line (pos m)) n h = go (nat_le m limits.latency_limit) refl h
  where
    go : (low : Bool) → nat_le m limits.latency_limit ≡ low → cond low (Ok m) (Err latency_limit) ≡ Ok n → n ≤ limits.latency_limit
    go true e k = let same : m ≡ n = cc in rw (← same) (leb-true m limits.latency_limit e)
    go false e k = absurd (cc)
number_formed _ n h = absurd (cc)

string_formed : (operands : Trees) (name : List ℕ) → string_in operands ≡ Some name → is_name name ≡ true
string_formed (more value none) name h = name_formed value name h
string_formed _ name h = absurd (cc)

pub fallback_formed : (operand : Tree) (name : List ℕ) → fallback_in operand ≡ Some name → is_name name ≡ true
fallback_formed operand name h = let (parts, is, k) = then_some (headed operand) _ name h in go parts (bytes_eq parts.0 (codes "const_string")) k
  where
    go : (parts : List ℕ × Trees) (same : Bool) → cond same (string_in parts.1) None ≡ Some name → is_name name ≡ true
    go parts true k = string_formed parts.1 name k
    go parts false k = absurd (cc)

-- Conditions.

test_after_formed : (of bytes : List ℕ) (but : Bool) (test : Condition) → is_name of ≡ true → test_after of but bytes ≡ Some test → is_condition test ≡ true
test_after_formed of bytes but test named h =
    let (values, is, same) = map_some (names_of bytes) _ test h in
    rw (← same) (both_true named (list_formed bytes values is))

test_of_formed : (of bytes : List ℕ) (test : Condition) → is_name of ≡ true → test_of of bytes ≡ Some test → is_condition test ≡ true
test_of_formed of bytes test named h = go (after_mark (without_blanks bytes)) h
  where
    go : (o : Option (List ℕ)) → option_map_or (test_after of true) o (test_after of false bytes) ≡ Some test → is_condition test ≡ true
    go None k = test_after_formed of bytes false test named k
    go (Some others) k = test_after_formed of others true test named k

test_formed : (operands : Trees) (test : Condition) → test_in operands ≡ Some test → is_condition test ≡ true
test_formed (more of (more values none)) test h =
    let (name, is, k) = then_some (name_in of) _ test h in
    let (bytes, are, made) = then_some (quoted_bytes values) (test_of name) test k in
    test_of_formed name bytes test (name_formed of name is) made
test_formed _ test h = absurd (cc)

number_condition : (operand : Tree) (test : Condition) → constant_of operand ≡ Some test → is_condition test ≡ true
number_condition (number line value) test h = let same : constant value ≡ test = cc in rw (← same) refl
number_condition _ test h = absurd (cc)

constant_formed : (operands : Trees) (test : Condition) → constant_in operands ≡ Some test → is_condition test ≡ true
constant_formed (more value none) test h = number_condition value test h
constant_formed _ test h = absurd (cc)

negated_formed : (tests : Conditions) (test : Condition) → are_conditions tests ≡ true → negated tests ≡ Some test → is_condition test ≡ true
negated_formed (model.more one model.none) test formed h = let same : negation one ≡ test = cc in rw (← same) (first_true (is_condition one) true formed)
negated_formed _ test formed h = absurd (cc)

joined_formed : (word : List ℕ) (tests : Conditions) (test : Condition) → are_conditions tests ≡ true → joined word tests ≡ Some test → is_condition test ≡ true
joined_formed word tests test formed h = go (bytes_eq word (codes "not")) (bytes_eq word (codes "and")) (bytes_eq word (codes "ior")) h
  where
    go : (x y z : Bool) → cond x (negated tests) (cond y (several conjunction tests) (cond z (several disjunction tests) None)) ≡ Some test → is_condition test ≡ true
    go true y z k = negated_formed tests test formed k
    go false true z k = let (good, same) = kept_some (are_several tests) (conjunction tests) test k in rw (← same) (both_true good formed)
    go false false true k = let (good, same) = kept_some (are_several tests) (disjunction tests) test k in rw (← same) (both_true good formed)
    go false false false k = absurd (cc)

-- a condition by its word, where its operands that are conditions are well formed
word_formed : (word : List ℕ) (operands : Trees) (test : Condition) → ((tests : Conditions) → conditions_in operands ≡ Some tests → are_conditions tests ≡ true)
    → cond (bytes_eq word (codes "const_int")) (constant_in operands) (cond (bytes_eq word (codes "eq_attr")) (test_in operands) (option_and_then (joined word) (conditions_in operands))) ≡ Some test → is_condition test ≡ true
word_formed word operands test inner h = go (bytes_eq word (codes "const_int")) (bytes_eq word (codes "eq_attr")) h
  where
    go : (x y : Bool) → cond x (constant_in operands) (cond y (test_in operands) (option_and_then (joined word) (conditions_in operands))) ≡ Some test → is_condition test ≡ true
    go true y k = constant_formed operands test k
    go false true k = test_formed operands test k
    go false false k = let (tests, are, made) = then_some (conditions_in operands) (joined word) test k in joined_formed word tests test (inner tests are) made

mutual
  pub condition_formed : (operand : Tree) (test : Condition) → condition_in operand ≡ Some test → is_condition test ≡ true
  condition_formed (list line (more (atom at word) operands)) test h = word_formed word operands test (λ tests are. conditions_formed operands tests are) h
  condition_formed _ test h = absurd (cc)

  conditions_formed : (operands : Trees) (tests : Conditions) → conditions_in operands ≡ Some tests → are_conditions tests ≡ true
  conditions_formed none tests h = let same : model.none ≡ tests = cc in rw (← same) refl
  conditions_formed (more first others) tests h =
      let (test, is, k) = then_some (condition_in first) _ tests h in
      let (rest, are, same) = map_some (conditions_in others) (model.more test) tests k in
      rw (← same) (both_true (condition_formed first test is) (conditions_formed others rest are))

-- Expressions.

pub expression_formed : (read : List ℕ → Said) (operand : Tree) (value : Expression) → IsReading read → expression_in read operand ≡ Ok value → is_expression value ≡ true
expression_formed read operand value reading h = let (bytes, is, k) = then_ok (shaped (quoted_bytes operand)) _ value h in go bytes (read bytes) (reading bytes) k
  where
    go : (bytes : List ℕ) (said : Said) → MatchResult said (expression.Reads bytes) (λ wrong. expression.FaultAt bytes wrong.0 wrong.1) → expression_of said ≡ Ok value → is_expression value ≡ true
    go bytes (Ok e) says k = let same : e ≡ value = cc in rw (← same) (well_formed bytes e says)
    go bytes (Err wrong) says k = absurd (cc)

-- Bypasses.

-- The operands that a bypass is read from, and what they say.
pub record SaysBypass (line form : ℕ) (added : Addition) : Type 0 where
  pub latency : Tree
  pub out_names : Tree
  pub in_names : Tree
  pub number : ℕ
  pub outs : List (List ℕ)
  pub ins : List (List ℕ)
  pub guard : Bool
  pub limited : limited_number latency ≡ Ok number
  pub from : names_in out_names ≡ Some outs
  pub to : names_in in_names ≡ Some ins
  pub made : bypass (record { line = line; form = form; number = number; outs = outs; ins = ins; guard = guard }) ≡ added

bypass_with_says : (line form : ℕ) (latency outs ins : Tree) (guard : Result Bool DescriptionFault) (added : Addition) → bypass_with line form latency outs ins guard ≡ Ok added → SaysBypass line form added
bypass_with_says line form latency outs ins guard added h =
    let (cycles, low, h1) = then_ok (limited_number latency) _ added h in
    let (from, are, h2) = then_ok (shaped (names_in outs)) _ added h1 in
    let (to, also, h3) = then_ok (shaped (names_in ins)) _ added h2 in
    let (has, is, made) = then_ok guard _ added h3 in
    let same : bypass (record { line = line; form = form; number = cycles; outs = from; ins = to; guard = has }) ≡ added = cc in
    record {
      latency = latency;
      out_names = outs;
      in_names = ins;
      number = cycles;
      outs = from;
      ins = to;
      guard = has;
      limited = low;
      from = or_ok (names_in outs) bad_shape from are;
      to = or_ok (names_in ins) bad_shape to also;
      made = same;
    }

bypass_of_says : (line form : ℕ) (operands : Trees) (added : Addition) → bypass_of line form operands ≡ Ok added → SaysBypass line form added
bypass_of_says line form (more latency (more outs (more ins none))) added h = bypass_with_says line form latency outs ins (Ok false) added h
bypass_of_says line form (more latency (more outs (more ins (more guard none)))) added h = bypass_with_says line form latency outs ins (shaped (guard_in guard)) added h
bypass_of_says line form _ added h = absurd (cc)

not_reported : {A E : Type 0} (b : Bool) (e : E) (r : Result A E) (y : A) → cond b (Err e) r ≡ Ok y → r ≡ Ok y
not_reported true e r y h = absurd (cc)
not_reported false e r y h = h

-- what the operands of a bypass say that is read
pub bypass_says : (line form : ℕ) (operands : Trees) (added : Addition) → bypass_form line form operands ≡ Ok added → SaysBypass line form added
bypass_says line form operands added h = bypass_of_says line form operands added (not_reported (has_other_guard operands) unknown_guard (bypass_of line form operands) added h)
