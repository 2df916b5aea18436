-- Conditions that are written are read back.
use Rattle.std.proofs.Common.{◌≡◌, ℕ, ◌≤◌, ◌++◌, true, false, List, [], ◌∷◌, Some, None, refl, sym, subst}
use Rattle.std.specs.List.{list_all}
use Rattle.std.proofs.lemmas.Bool.{and_parts, ne_eqb}
use Rattle.hz_base_model.specs.Forms.Trees.{Tree, Trees}
use Rattle.hz_base_model.specs.Names.{is_name, is_name_byte}
use Rattle.hz_description_model.specs.Reading.DescriptionForms.{after_mark, without_blanks, test_of, condition_in, conditions_in}
use Rattle.hz_description_model.specs.Reading.DescriptionShape.{are_names}
use Rattle.hz_description_model.specs.Reading.Descriptions.{Condition, Conditions, matches}
use Rattle.hz_description_model.specs.Reading.Descriptions as items
use Rattle.hz_laws.specs.Written.{listed, IsUnmarked, WritesCondition, WritesConditions, a_constant, a_match, no_match, a_negation, a_conjunction, a_disjunction, no_condition, one_more}
use Rattle.hz_laws.proofs.Written.NamesBack.{names_back, no_space, byte_low}

-- A list of names begins with a byte of a name.
record Begins (names : List (List ℕ)) : Type 0 where
  first : ℕ
  others : List ℕ
  is : listed names ≡ first ∷ others
  low : 33 ≤ first

first_low : (b : ℕ) (name : List ℕ) → is_name (b ∷ name) ≡ true → 33 ≤ b
first_low b name h = byte_low b (and_parts (is_name_byte b) (list_all is_name_byte name) h).0

begins : (names : List (List ℕ)) → are_names names ≡ true → Begins names
begins [] h = absurd (cc)
begins ([] ∷ names) h = absurd (cc)
begins ((b ∷ name) ∷ []) h = record { first = b; others = name; is = refl; low = first_low b name (and_parts (is_name (b ∷ name)) true h).0 }
begins ((b ∷ name) ∷ next ∷ names) h = record {
  first = b;
  others = name ++ 44 ∷ listed (next ∷ names);
  is = refl;
  low = first_low b name (and_parts (is_name (b ∷ name)) (list_all is_name (next ∷ names)) h).0;
}

-- a list that begins with no mark is not after one
unmarked : (b : ℕ) (bytes : List ℕ) → 33 ≤ b → IsUnmarked (b ∷ bytes) → after_mark (without_blanks (b ∷ bytes)) ≡ None
unmarked b bytes low not_mark = rw (no_space b low, ne_eqb b 33 not_mark) refl

match_back : (name : List ℕ) (values : List (List ℕ)) → are_names values ≡ true → IsUnmarked (listed values) → test_of name (listed values) ≡ Some (matches name values false)
match_back name values h not_mark =
    let b = begins values h in
    let none = unmarked b.first b.others b.low (subst IsUnmarked b.is not_mark) in
    let mark : after_mark (without_blanks (listed values)) ≡ None = subst (λ (bytes : List ℕ). after_mark (without_blanks bytes) ≡ None) (sym b.is) none in
    rw (mark, names_back values h) refl

no_match_back : (name : List ℕ) (values : List (List ℕ)) → are_names values ≡ true → test_of name (33 ∷ listed values) ≡ Some (matches name values true)
no_match_back name values h = rw (names_back values h) refl

mutual
  pub condition_back : (form : Tree) (test : Condition) → WritesCondition form test → condition_in form ≡ Some test
  condition_back form test (a_constant line value) = refl
  condition_back form test (a_match line name values h k unmarked) = rw (h, match_back name values k unmarked) refl
  condition_back form test (no_match line name values h k) = rw (h, no_match_back name values k) refl
  condition_back form test (a_negation line tree inner w) = rw (condition_back tree inner w) refl
  condition_back form test (a_conjunction line trees first second others w) = rw (conditions_back trees (items.more first (items.more second others)) w) refl
  condition_back form test (a_disjunction line trees first second others w) = rw (conditions_back trees (items.more first (items.more second others)) w) refl

  pub conditions_back : (forms : Trees) (tests : Conditions) → WritesConditions forms tests → conditions_in forms ≡ Some tests
  conditions_back forms tests no_condition = refl
  conditions_back forms tests (one_more tree test trees others w ws) = rw (condition_back tree test w, conditions_back trees others ws) refl
