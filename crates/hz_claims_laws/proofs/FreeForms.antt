-- Forms with any white space are read as what they write.
use Rattle.std.proofs.Common.{◌≡◌, ℕ, true, false, List, Some, Ok, refl}
use Rattle.std.proofs.lemmas.Bool.{le-leb}
use Rattle.hz_base_model.specs.Forms.Trees.{Tree, Trees}
use Rattle.hz_description_model.specs.Reading.DescriptionForms.{Said, Addition, condition_in, conditions_in, form_says}
use Rattle.hz_description_model.specs.Reading.Descriptions.{Condition, Conditions}
use Rattle.hz_description_model.specs.Reading.Descriptions as items
use Rattle.hz_description_model.specs.Reading.Limits as limits
use Rattle.hz_description_model.specs.Reservations.Sets.{exclusion, presence, final_presence, absence, final_absence}
use Rattle.hz_claims_laws.specs.FreeForms.{SaysCondition, SayConditions, a_constant, a_test, a_negation, a_conjunction, a_disjunction, no_condition, one_more, WritesFreely, an_automaton_form, a_unit_form, a_unit_form_of_an_automaton, a_reservation_form, a_class_form, a_bypass_form, a_guarded_bypass_form, an_exclusion_form, a_set_form, an_attribute_form, an_option_form}
use Rattle.hz_claims_laws.proofs.BlankLists.{names_back, patterns_back, test_back, options_back}

mutual
  pub condition_back : (form : Tree) (test : Condition) → SaysCondition form test → condition_in form ≡ Some test
  condition_back form test (a_constant line word at value) = refl
  condition_back form test (a_test line word at there name text inner h w) = rw (h, test_back name text inner w) refl
  condition_back form test (a_negation line word tree inner w) = rw (condition_back tree inner w) refl
  condition_back form test (a_conjunction line word trees first second others w) = rw (conditions_back trees (items.more first (items.more second others)) w) refl
  condition_back form test (a_disjunction line word trees first second others w) = rw (conditions_back trees (items.more first (items.more second others)) w) refl

  pub conditions_back : (forms : Trees) (tests : Conditions) → SayConditions forms tests → conditions_in forms ≡ Some tests
  conditions_back forms tests no_condition = refl
  conditions_back forms tests (one_more tree test trees others w ws) = rw (condition_back tree test w, conditions_back trees others ws) refl

module _ (read : List ℕ → Said) (n : ℕ) where
  pub form_back : (form : Tree) (addition : Addition) → WritesFreely read n form addition → form_says read n form ≡ Ok addition
  form_back form addition (an_automaton_form line word at text names w) = rw (names_back text names w) refl
  form_back form addition (a_unit_form line word at false text names w) = rw (names_back text names w) refl
  form_back form addition (a_unit_form line word at true text names w) = rw (names_back text names w) refl
  form_back form addition (a_unit_form_of_an_automaton line word at there false text names automaton w k) = rw (names_back text names w, k) refl
  form_back form addition (a_unit_form_of_an_automaton line word at there true text names automaton w k) = rw (names_back text names w, k) refl
  form_back form addition (a_reservation_form line word at there name regexp value h e) = rw (h, e) refl
  form_back form addition (a_class_form line word at number_line there name latency tree test regexp value h low w e) = rw (h, le-leb latency limits.latency_limit low, condition_back tree test w, e) refl
  form_back form addition (a_bypass_form line word at there last latency out in_text outs ins low w v) = rw (le-leb latency limits.latency_limit low, names_back out outs w, names_back in_text ins v) refl
  form_back form addition (a_guarded_bypass_form line word at there last guard_line latency out in_text outs ins low w v) = rw (le-leb latency limits.latency_limit low, names_back out outs w, names_back in_text ins v) refl
  form_back form addition (an_exclusion_form line word at there text other_text names others w v) = rw (names_back text names w, names_back other_text others v) refl
  form_back form addition (a_set_form line word at there exclusion text pattern_text names patterns other w v) = absurd (other refl)
  form_back form addition (a_set_form line word at there presence text pattern_text names patterns other w v) = rw (names_back text names w, patterns_back there pattern_text patterns v) refl
  form_back form addition (a_set_form line word at there final_presence text pattern_text names patterns other w v) = rw (names_back text names w, patterns_back there pattern_text patterns v) refl
  form_back form addition (a_set_form line word at there absence text pattern_text names patterns other w v) = rw (names_back text names w, patterns_back there pattern_text patterns v) refl
  form_back form addition (a_set_form line word at there final_absence text pattern_text names patterns other w v) = rw (names_back text names w, patterns_back there pattern_text patterns v) refl
  form_back form addition (an_attribute_form line word at there inner inner_word last name text values fallback h w k) = rw (h, names_back text values w, k) refl
  form_back form addition (an_option_form line word at text words o w g) = rw (options_back words o text w g) refl
