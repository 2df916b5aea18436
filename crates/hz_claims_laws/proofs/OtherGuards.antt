-- Which forms have an unknown guard.
use Rattle.std.proofs.Common.{◌≡◌, ◌≢◌, ℕ, Bool, true, false, cond, pos, negsuc, List, codes, Option, Some, None, Result, Ok, Err, refl, sym, ap, ◌∙◌, subst, nat_le}
use Rattle.std.specs.Option.{option_map, ok_or}
use Rattle.std.specs.Str.{bytes_eq}
use Rattle.std.proofs.lemmas.Bool.{not-true, false_from_ne_true}
use Rattle.std.proofs.lemmas.Slice.Eq.{bytes_eq-Decides}
use Rattle.hz_base_model.specs.Forms.Trees.{Tree, Trees, list, vector, atom, quoted, number, none, more}
use Rattle.hz_base_model.specs.Lines.{separated}
use Rattle.hz_description_model.specs.Reading.DescriptionForms.{DescriptionFault, unknown_form, bad_condition, unknown_option, latency_limit, unknown_guard, and_then, shaped, quoted_bytes, name_in, names_in, set_patterns, limited_number, fallback_in, condition_in, with_options, Said, expression_of, expression_in, automata, units, reservation, class, bypass, set, options, attribute, automaton_items, unit_items, set_of, kind_of, options_form, guard_in, has_other_guard, automata_form, units_form, reservation_form, class_form, bypass_with, bypass_of, bypass_form, set_form_of, attribute_form, form_of_kind, form_says}
use Rattle.hz_description_model.specs.Reading.DescriptionShape.{FormKind, define_automaton, define_cpu_unit, define_reservation, define_insn_reservation, define_bypass, automata_option, define_attr, set_form}
use Rattle.hz_description_model.specs.Reading.Descriptions.{no_options}
use Rattle.hz_description_model.specs.Reading.Limits as limits
use Rattle.hz_description_model.specs.Reservations.Sets.{SetKind}
use Rattle.hz_claims_laws.specs.Guards.{IsWithAnotherGuard}

-- ---- each of these forms has the fault

pub each : (read : List ℕ → Said) (n : ℕ) (form : Tree) → IsWithAnotherGuard form → form_says read n form ≡ Err unknown_guard
each read n form h =
    let other = false_from_ne_true (bytes_eq h.guard (codes "store_data_bypass_p")) (λ e. h.other ((bytes_eq-Decides h.guard (codes "store_data_bypass_p")).0 e)) in
    subst (λ (t : Tree). form_says read n t ≡ Err unknown_guard) (sym h.is) (rw (other) refl)

-- ---- nothing else is

never_then : {A B : Type 0} (r : Result A DescriptionFault) (next : A → Result B DescriptionFault) → (r ≡ Err unknown_guard → ⊥) → ((a : A) → next a ≡ Err unknown_guard → ⊥) → and_then r next ≡ Err unknown_guard → ⊥
never_then (Ok value) next h k e = k value e
never_then (Err fault) next h k e = let same : fault ≡ unknown_guard = cc in h (ap Err same)

never_shaped : {A : Type 0} (o : Option A) → shaped o ≡ Err unknown_guard → ⊥
never_shaped None e = absurd (cc)
never_shaped (Some value) e = absurd (cc)

never_other : {A : Type 0} (o : Option A) (fault : DescriptionFault) → (fault ≡ unknown_guard → ⊥) → ok_or o fault ≡ Err unknown_guard → ⊥
never_other None fault h e = let same : fault ≡ unknown_guard = cc in h same
never_other (Some value) fault h e = absurd (cc)

never_number : (operand : Tree) → limited_number operand ≡ Err unknown_guard → ⊥
never_number (number line (pos m)) e = by_test (nat_le m limits.latency_limit) e
  where
    by_test : (t : Bool) → cond t (Ok m) (Err latency_limit) ≡ Err unknown_guard → ⊥
    by_test true k = absurd (cc)
    by_test false k = absurd (cc)
never_number (number line (negsuc m)) e = absurd (cc)
never_number (list line trees) e = absurd (cc)
never_number (vector line trees) e = absurd (cc)
never_number (atom line word) e = absurd (cc)
never_number (quoted line bytes) e = absurd (cc)

never_said : (said : Said) → expression_of said ≡ Err unknown_guard → ⊥
never_said (Ok value) e = absurd (cc)
never_said (Err wrong) e = absurd (cc)

never_expression : (read : List ℕ → Said) (operand : Tree) → expression_in read operand ≡ Err unknown_guard → ⊥
never_expression read operand e = never_then (shaped (quoted_bytes operand)) (λ bytes. expression_of (read bytes)) (never_shaped (quoted_bytes operand)) (λ bytes. never_said (read bytes)) e

never_options : (operands : Trees) → options_form operands ≡ Err unknown_guard → ⊥
never_options (more words none) e =
    never_then (shaped (quoted_bytes words)) (λ bytes. and_then (ok_or (with_options no_options (separated bytes)) unknown_option) (λ o. Ok (options o)))
    (never_shaped (quoted_bytes words))
    (λ bytes. never_then (ok_or (with_options no_options (separated bytes)) unknown_option) (λ o. Ok (options o)) (never_other (with_options no_options (separated bytes)) unknown_option (λ q. absurd (cc))) (λ o q. absurd (cc)))
    e
never_options none e = absurd (cc)
never_options (more words (more other others)) e = absurd (cc)

module _ (line form : ℕ) where
  never_automata : (operands : Trees) → automata_form line form operands ≡ Err unknown_guard → ⊥
  never_automata (more names none) e = never_then (shaped (names_in names)) (λ names. Ok (automata (automaton_items line form names))) (never_shaped (names_in names)) (λ names q. absurd (cc)) e
  never_automata none e = absurd (cc)
  never_automata (more names (more other others)) e = absurd (cc)

  never_units : (query : Bool) (operands : Trees) → units_form line form query operands ≡ Err unknown_guard → ⊥
  never_units query (more names none) e = never_then (shaped (names_in names)) (λ names. Ok (units (unit_items line form query None names))) (never_shaped (names_in names)) (λ names q. absurd (cc)) e
  never_units query (more names (more automaton none)) e =
      never_then (shaped (names_in names)) (λ names. and_then (shaped (name_in automaton)) (λ automaton. Ok (units (unit_items line form query (Some automaton) names))))
      (never_shaped (names_in names))
      (λ names. never_then (shaped (name_in automaton)) (λ automaton. Ok (units (unit_items line form query (Some automaton) names))) (never_shaped (name_in automaton)) (λ automaton q. absurd (cc)))
      e
  never_units query none e = absurd (cc)
  never_units query (more names (more automaton (more other others))) e = absurd (cc)

  never_reservation : (read : List ℕ → Said) (operands : Trees) → reservation_form line form read operands ≡ Err unknown_guard → ⊥
  never_reservation read (more name (more regexp none)) e =
      never_then (shaped (name_in name)) (λ name. and_then (expression_in read regexp) (λ value. Ok (reservation (record { line = line; form = form; name = name; expression = value }))))
      (never_shaped (name_in name))
      (λ name. never_then (expression_in read regexp) (λ value. Ok (reservation (record { line = line; form = form; name = name; expression = value }))) (never_expression read regexp) (λ value q. absurd (cc)))
      e
  never_reservation read none e = absurd (cc)
  never_reservation read (more name none) e = absurd (cc)
  never_reservation read (more name (more regexp (more other others))) e = absurd (cc)

  never_class : (read : List ℕ → Said) (operands : Trees) → class_form line form read operands ≡ Err unknown_guard → ⊥
  never_class read (more name (more latency (more condition (more regexp none)))) e =
      never_then (shaped (name_in name)) _ (never_shaped (name_in name))
      (λ name. never_then (limited_number latency) _ (never_number latency)
      (λ latency. never_then (ok_or (condition_in condition) bad_condition) _ (never_other (condition_in condition) bad_condition (λ q. absurd (cc)))
      (λ condition. never_then (expression_in read regexp) (λ value. Ok (class (record { line = line; form = form; name = name; latency = latency; condition = condition; expression = value }))) (never_expression read regexp) (λ value q. absurd (cc)))))
      e
  never_class read none e = absurd (cc)
  never_class read (more name none) e = absurd (cc)
  never_class read (more name (more latency none)) e = absurd (cc)
  never_class read (more name (more latency (more condition none))) e = absurd (cc)
  never_class read (more name (more latency (more condition (more regexp (more other others))))) e = absurd (cc)

  never_bypass_with : (latency outs ins : Tree) (guard : Result Bool DescriptionFault) → (guard ≡ Err unknown_guard → ⊥) → bypass_with line form latency outs ins guard ≡ Err unknown_guard → ⊥
  never_bypass_with latency outs ins guard h e =
      never_then (limited_number latency) _ (never_number latency)
      (λ latency. never_then (shaped (names_in outs)) _ (never_shaped (names_in outs))
      (λ outs. never_then (shaped (names_in ins)) _ (never_shaped (names_in ins))
      (λ ins. never_then guard (λ guard. Ok (bypass (record { line = line; form = form; number = latency; outs = outs; ins = ins; guard = guard }))) h (λ guard q. absurd (cc)))))
      e

  never_bypass : (operands : Trees) → bypass_of line form operands ≡ Err unknown_guard → ⊥
  never_bypass (more latency (more outs (more ins none))) e = never_bypass_with latency outs ins (Ok false) (λ q. absurd (cc)) e
  never_bypass (more latency (more outs (more ins (more guard none)))) e = never_bypass_with latency outs ins (shaped (guard_in guard)) (never_shaped (guard_in guard)) e
  never_bypass none e = absurd (cc)
  never_bypass (more latency none) e = absurd (cc)
  never_bypass (more latency (more outs none)) e = absurd (cc)
  never_bypass (more latency (more outs (more ins (more guard (more other others))))) e = absurd (cc)

  never_set : (kind : SetKind) (operands : Trees) → set_form_of line form kind operands ≡ Err unknown_guard → ⊥
  never_set kind (more names (more patterns none)) e =
      never_then (shaped (names_in names)) _ (never_shaped (names_in names))
      (λ names. never_then (shaped (set_patterns kind patterns)) (λ patterns. Ok (set (record { line = line; form = form; kind = kind; units = names; patterns = patterns }))) (never_shaped (set_patterns kind patterns)) (λ patterns q. absurd (cc)))
      e
  never_set kind none e = absurd (cc)
  never_set kind (more names none) e = absurd (cc)
  never_set kind (more names (more patterns (more other others))) e = absurd (cc)

  never_attribute : (operands : Trees) → attribute_form line form operands ≡ Err unknown_guard → ⊥
  never_attribute (more name (more values (more fallback none))) e =
      never_then (shaped (name_in name)) _ (never_shaped (name_in name))
      (λ name. never_then (shaped (names_in values)) _ (never_shaped (names_in values))
      (λ values. never_then (shaped (fallback_in fallback)) (λ fallback. Ok (attribute (record { line = line; form = form; name = name; values = values; fallback = fallback }))) (never_shaped (fallback_in fallback)) (λ fallback q. absurd (cc))))
      e
  never_attribute none e = absurd (cc)
  never_attribute (more name none) e = absurd (cc)
  never_attribute (more name (more values none)) e = absurd (cc)
  never_attribute (more name (more values (more fallback (more other others)))) e = absurd (cc)

-- the operands of a form with another guard
record AreWithAnotherGuard (operands : Trees) : Type 0 where
  first : Tree
  second : Tree
  third : Tree
  guard_line : ℕ
  guard : List ℕ
  others : Trees
  is : operands ≡ more first (more second (more third (more (quoted guard_line guard) others)))
  other : guard ≢ codes "store_data_bypass_p"

with_guard : (operands : Trees) → has_other_guard operands ≡ true → AreWithAnotherGuard operands
with_guard (more a (more b (more c (more (quoted line bytes) others)))) e =
    record {
      first = a;
      second = b;
      third = c;
      guard_line = line;
      guard = bytes;
      others = others;
      is = refl;
      other = λ same. let yes = (bytes_eq-Decides bytes (codes "store_data_bypass_p")).1 same in let no = not-true (bytes_eq bytes (codes "store_data_bypass_p")) e in absurd (let both : true ≡ false = sym yes ∙ no in cc);
    }
with_guard (more a (more b (more c (more (list line trees) others)))) e = absurd (cc)
with_guard (more a (more b (more c (more (vector line trees) others)))) e = absurd (cc)
with_guard (more a (more b (more c (more (atom line word) others)))) e = absurd (cc)
with_guard (more a (more b (more c (more (number line value) others)))) e = absurd (cc)
with_guard none e = absurd (cc)
with_guard (more a none) e = absurd (cc)
with_guard (more a (more b none)) e = absurd (cc)
with_guard (more a (more b (more c none))) e = absurd (cc)

in_bypass : (line form : ℕ) (operands : Trees) → bypass_form line form operands ≡ Err unknown_guard → AreWithAnotherGuard operands
in_bypass line form operands e = by_test (has_other_guard operands) refl e
  where
    by_test : (t : Bool) → has_other_guard operands ≡ t → cond t (Err unknown_guard) (bypass_of line form operands) ≡ Err unknown_guard → AreWithAnotherGuard operands
    by_test true g k = with_guard operands g
    by_test false g k = absurd (never_bypass line form operands k)

-- only a bypass has such operands
in_kind : (line form : ℕ) (read : List ℕ → Said) (kind : FormKind) (operands : Trees) → form_of_kind line form read kind operands ≡ Err unknown_guard → (kind ≡ define_bypass) × AreWithAnotherGuard operands
in_kind line form read define_automaton operands e = absurd (never_automata line form operands e)
in_kind line form read (define_cpu_unit query) operands e = absurd (never_units line form query operands e)
in_kind line form read define_reservation operands e = absurd (never_reservation line form read operands e)
in_kind line form read define_insn_reservation operands e = absurd (never_class line form read operands e)
in_kind line form read define_bypass operands e = (refl, in_bypass line form operands e)
in_kind line form read (set_form kind) operands e = absurd (never_set line form kind operands e)
in_kind line form read automata_option operands e = absurd (never_options operands e)
in_kind line form read define_attr operands e = absurd (never_attribute line form operands e)

-- the word of a bypass
word_of : (word : List ℕ) → kind_of word ≡ Some define_bypass → word ≡ codes "define_bypass"
word_of word e =
    by_tests (bytes_eq word (codes "define_automaton")) (bytes_eq word (codes "define_cpu_unit")) (bytes_eq word (codes "define_query_cpu_unit")) (bytes_eq word (codes "define_reservation")) (bytes_eq word (codes "define_insn_reservation"))
    (bytes_eq word (codes "define_bypass")) refl (bytes_eq word (codes "automata_option")) (bytes_eq word (codes "define_attr")) e
  where
    set_is_none : (o : Option SetKind) → option_map set_form o ≡ Some define_bypass → ⊥
    set_is_none None k = absurd (cc)
    set_is_none (Some kind) k = absurd (cc)

    by_tests : (a b c d f g : Bool) → bytes_eq word (codes "define_bypass") ≡ g → (h i : Bool)
        → cond a (Some define_automaton) (cond b (Some (define_cpu_unit false)) (cond c (Some (define_cpu_unit true)) (cond d (Some define_reservation) (cond f (Some define_insn_reservation) (cond g (Some define_bypass) (cond h (Some automata_option) (cond i (Some define_attr) (option_map set_form (set_of word))))))))) ≡ Some define_bypass
        → word ≡ codes "define_bypass"
    by_tests true b c d f g same h i k = absurd (cc)
    by_tests false true c d f g same h i k = absurd (cc)
    by_tests false false true d f g same h i k = absurd (cc)
    by_tests false false false true f g same h i k = absurd (cc)
    by_tests false false false false true g same h i k = absurd (cc)
    by_tests false false false false false true same h i k = (bytes_eq-Decides word (codes "define_bypass")).0 same
    by_tests false false false false false false same true i k = absurd (cc)
    by_tests false false false false false false same false true k = absurd (cc)
    by_tests false false false false false false same false false k = absurd (set_is_none (set_of word) k)

with_word : (line word_line : ℕ) (word : List ℕ) (operands : Trees) (read : List ℕ → Said) (n : ℕ) → and_then (ok_or (kind_of word) unknown_form) (λ kind. form_of_kind line n read kind operands) ≡ Err unknown_guard → IsWithAnotherGuard (list line (more (atom word_line word) operands))
with_word line word_line word operands read n e = by_kind (kind_of word) refl e
  where
    by_kind : (o : Option FormKind) → kind_of word ≡ o → and_then (ok_or o unknown_form) (λ kind. form_of_kind line n read kind operands) ≡ Err unknown_guard → IsWithAnotherGuard (list line (more (atom word_line word) operands))
    by_kind None same k = absurd (cc)
    by_kind (Some kind) same k =
        let is = in_kind line n read kind operands k in
        let named = word_of word (same ∙ ap Some is.0) in
        record {
          line = line;
          word_line = word_line;
          first = (is.1).first;
          second = (is.1).second;
          third = (is.1).third;
          guard_line = (is.1).guard_line;
          guard = (is.1).guard;
          others = (is.1).others;
          is = ap (λ (w : List ℕ). list line (more (atom word_line w) operands)) named ∙ ap (λ (ops : Trees). list line (more (atom word_line (codes "define_bypass")) ops)) (is.1).is;
          other = (is.1).other;
        }

pub only : (read : List ℕ → Said) (n : ℕ) (form : Tree) → form_says read n form ≡ Err unknown_guard → IsWithAnotherGuard form
only read n (list line (more (atom word_line word) operands)) e = with_word line word_line word operands read n e
only read n (list line none) e = absurd (cc)
only read n (list line (more (list other trees) operands)) e = absurd (cc)
only read n (list line (more (vector other trees) operands)) e = absurd (cc)
only read n (list line (more (quoted other bytes) operands)) e = absurd (cc)
only read n (list line (more (number other value) operands)) e = absurd (cc)
only read n (vector line trees) e = absurd (cc)
only read n (atom line word) e = absurd (cc)
only read n (quoted line bytes) e = absurd (cc)
only read n (number line value) e = absurd (cc)
