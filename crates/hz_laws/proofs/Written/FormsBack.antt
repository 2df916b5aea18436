-- Forms that are written are read back.
use Rattle.std.proofs.Common.{◌≡◌, ℕ, true, false, List, Ok, refl}
use Rattle.std.proofs.lemmas.Bool.{le-leb}
use Rattle.hz_base_model.specs.Forms.Trees.{Tree}
use Rattle.hz_description_model.specs.Reading.DescriptionForms.{Said, Addition, form_says}
use Rattle.hz_description_model.specs.Reading.Limits as limits
use Rattle.hz_description_model.specs.Reservations.Sets.{exclusion, presence, final_presence, absence, final_absence}
use Rattle.hz_laws.specs.Written.{Writes, an_automaton_form, a_unit_form, a_unit_form_of_an_automaton, a_reservation_form, a_class_form, a_bypass_form, a_guarded_bypass_form, an_exclusion_form, a_set_form, an_attribute_form, an_ndfa_form, a_no_minimization_form, a_stats_form, a_v_form, a_no_comb_vect_form}
use Rattle.hz_laws.proofs.Written.NamesBack.{names_back, patterns_back}
use Rattle.hz_laws.proofs.Written.ConditionsBack.{condition_back}

module _ (read : List ℕ → Said) (line n : ℕ) where
  pub form_back : (form : Tree) (addition : Addition) → Writes read line n form addition → form_says read n form ≡ Ok addition
  form_back form addition (an_automaton_form names h) = rw (names_back names h) refl
  form_back form addition (a_unit_form false names h) = rw (names_back names h) refl
  form_back form addition (a_unit_form true names h) = rw (names_back names h) refl
  form_back form addition (a_unit_form_of_an_automaton false names automaton h k) = rw (names_back names h, k) refl
  form_back form addition (a_unit_form_of_an_automaton true names automaton h k) = rw (names_back names h, k) refl
  form_back form addition (a_reservation_form name regexp value h e) = rw (h, e) refl
  form_back form addition (a_class_form name latency tree test regexp value h low w e) = rw (h, le-leb latency limits.latency_limit low, condition_back tree test w, e) refl
  form_back form addition (a_bypass_form latency outs ins low h k) = rw (le-leb latency limits.latency_limit low, names_back outs h, names_back ins k) refl
  form_back form addition (a_guarded_bypass_form latency outs ins low h k) = rw (le-leb latency limits.latency_limit low, names_back outs h, names_back ins k) refl
  form_back form addition (an_exclusion_form names others h k) = rw (names_back names h, names_back others k) refl
  form_back form addition (a_set_form exclusion names patterns other h k) = absurd (other refl)
  form_back form addition (a_set_form presence names patterns other h k) = rw (names_back names h, patterns_back patterns k, k) refl
  form_back form addition (a_set_form final_presence names patterns other h k) = rw (names_back names h, patterns_back patterns k, k) refl
  form_back form addition (a_set_form absence names patterns other h k) = rw (names_back names h, patterns_back patterns k, k) refl
  form_back form addition (a_set_form final_absence names patterns other h k) = rw (names_back names h, patterns_back patterns k, k) refl
  form_back form addition (an_attribute_form name values fallback h k m) = rw (h, names_back values k, m) refl
  form_back form addition an_ndfa_form = refl
  form_back form addition a_no_minimization_form = refl
  form_back form addition a_stats_form = refl
  form_back form addition a_v_form = refl
  form_back form addition a_no_comb_vect_form = refl
