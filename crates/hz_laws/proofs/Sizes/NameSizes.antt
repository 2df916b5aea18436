-- The names of a description's classes, automata and units together have no more bytes than the strings of its forms.
use Rattle.std.proofs.Common.{◌≡◌, ℕ, ◌+◌, ◌-◌, ◌≤◌, ◌==◌, Bool, true, false, cond, List, [], ◌∷◌, map, take, drop, length, Some, None, Ok, refl, sym, ap, arith, length-append, length-drop, codes}
use Rattle.std.specs.Char.{is_ascii_whitespace}
use Rattle.std.specs.List.{sum_by, flat_map, slice_split, join_with_byte, prefix_len, suffix_len}
use Rattle.std.specs.Option.{ok_or}
use Rattle.std.proofs.lemmas.List.{length-take}
use Rattle.std.proofs.lemmas.List.Splits.{join_with_byte-slice_split}
use Rattle.std.proofs.lemmas.List.Sums.{sum_by-cons, sum_by-append}
use Rattle.hz_base_model.specs.Lines.{trimmed, separated}
use Rattle.hz_base_model.specs.Names.{is_name}
use Rattle.hz_description_model.specs.Reservations.Sets.{SetKind}
use Rattle.hz_base_model.specs.Forms.Trees.{Tree, Trees, list, atom, quoted, none, more, line_of}
use Rattle.hz_description_model.specs.Reading.Descriptions.{AutomatonItem, ClassItem, Description, no_options, UnitItem}
use Rattle.hz_description_model.specs.Reading.DescriptionShape.{FormKind, define_automaton, define_cpu_unit, define_reservation, define_insn_reservation, define_bypass, automata_option, define_attr, set_form, are_names}
use Rattle.hz_description_model.specs.Reading.DescriptionForms.{bad_shape, bad_condition, unknown_form, unknown_option, Said, Addition, automata, units, reservation, class, set, options, attribute, quoted_bytes, name_in, names_in, names_of, limited_number, condition_in, expression_in, set_patterns, fallback_in, shaped, headed, kind_of, with_options, automaton_items, unit_items, automata_form, units_form, reservation_form, class_form, bypass_form, set_form_of, options_form, attribute_form, form_of_kind, form_says, Reads}
use Rattle.hz_description_model.specs.Reading.AddedItems.{Add, added_automata, added_classes, added_units}
use Rattle.hz_description_model.proofs.Reading.AddedLaws.{items_added}
use Rattle.hz_description_model.proofs.Reading.DescriptionFormed.{then_ok, or_ok, then_some, kept_some, bypass_says}
use Rattle.hz_description_model.specs.Check.CheckedParts.{automaton_names}
use Rattle.hz_description_model.specs.Check.Places.{class_names}
use Rattle.hz_laws.specs.Sizes.Extents.{bytes_of_strings, bytes_of_string}

-- ---- names in strings

take_fits : (n : ℕ) (bytes : List ℕ) → length (take n bytes) ≤ length bytes
take_fits n bytes = omega (arith, length-take n bytes)

-- without white space round it a piece is no longer
trimmed_fits : (bytes : List ℕ) → length (trimmed bytes) ≤ length bytes
trimmed_fits bytes =
    let front = prefix_len is_ascii_whitespace bytes in
    let rest = drop front bytes in
    omega (arith, take_fits (length rest - suffix_len is_ascii_whitespace rest) rest, length-drop front bytes)

pieces_fit : (mark : ℕ) (pieces : List (List ℕ)) → sum_by length (map trimmed pieces) ≤ length (join_with_byte mark pieces)
pieces_fit mark [] = omega arith
pieces_fit mark (piece ∷ []) = omega (arith, trimmed_fits piece, sum_by-cons length (trimmed piece) [])
pieces_fit mark (piece ∷ other ∷ pieces) =
    let rest = pieces_fit mark (other ∷ pieces) in
    omega (arith, trimmed_fits piece, rest, sum_by-cons length (trimmed piece) (map trimmed (other ∷ pieces)), length-append piece (mark ∷ join_with_byte mark (other ∷ pieces)))

separated_fit : (bytes : List ℕ) → sum_by length (separated bytes) ≤ length bytes
separated_fit bytes = let all = pieces_fit 44 (slice_split (λ b. b == 44) bytes) in omega (arith, all, ap length (join_with_byte-slice_split 44 bytes))

quoted_fits : (operand : Tree) (bytes : List ℕ) → quoted_bytes operand ≡ Some bytes → length bytes ≡ bytes_of_string operand
quoted_fits (quoted line own) bytes h = let same : own ≡ bytes = cc in sym (ap length same)
quoted_fits _ bytes h = absurd (cc)

name_fits : (operand : Tree) (name : List ℕ) → name_in operand ≡ Some name → length name ≤ bytes_of_string operand
name_fits operand name h =
    let (bytes, is, k) = then_some (quoted_bytes operand) _ name h in
    let (good, same) = kept_some (is_name bytes) bytes name k in
    omega (arith, quoted_fits operand bytes is, ap length same)

names_fit : (operand : Tree) (names : List (List ℕ)) → names_in operand ≡ Some names → sum_by length names ≤ bytes_of_string operand
names_fit operand names h =
    let (bytes, is, k) = then_some (quoted_bytes operand) names_of names h in
    let (good, same) = kept_some (are_names (separated bytes)) (separated bytes) names k in
    omega (arith, separated_fit bytes, quoted_fits operand bytes is, ap (sum_by length) same)

-- ---- what a form adds

-- the bytes of the names that are added
abbrev named_bytes : Addition → ℕ
named_bytes added = sum_by (λ a. length a.name) (added_automata added) + sum_by (λ c. length c.name) (added_classes added) + sum_by (λ u. length u.name) (added_units added)

-- what adds no automaton, no class and no unit names none
abbrev IsOther : Addition → Type 0
IsOther added = (added_automata added ≡ []) × (added_classes added ≡ []) × (added_units added ≡ [])

-- a sum over what is made of each name
sum_of_names : {X : Type 0} (make : List ℕ → X) (size : X → ℕ) → ((name : List ℕ) → size (make name) ≡ length name) → (names : List (List ℕ)) → sum_by size (map make names) ≡ sum_by length names
sum_of_names make size same [] = refl
sum_of_names make size same (name ∷ names) = omega (arith, same name, sum_of_names make size same names, sum_by-cons size (make name) (map make names), sum_by-cons length name names)

module _ (line n : ℕ) where
  automata_fit : (operands : Trees) (added : Addition) → automata_form line n operands ≡ Ok added → named_bytes added ≤ bytes_of_strings operands
  automata_fit (more names none) added h =
      let (found, is, made) = then_ok (shaped (names_in names)) _ added h in
      let same : automata (automaton_items line n found) ≡ added = cc in
      let make : List ℕ → AutomatonItem = λ name. record { line = line; form = n; name = name } in
      rw (← same) (omega (arith, names_fit names found (or_ok (names_in names) bad_shape found is), sum_of_names make (λ a. length a.name) (λ name. refl) found))
  automata_fit _ added h = absurd (cc)

  class_fits : (read : List ℕ → Said) (operands : Trees) (added : Addition) → class_form line n read operands ≡ Ok added → named_bytes added ≤ bytes_of_strings operands
  class_fits read (more name (more latency (more condition (more regexp none)))) added h =
      let (bytes, is, h1) = then_ok (shaped (name_in name)) _ added h in
      let (cycles, low, h2) = then_ok (limited_number latency) _ added h1 in
      let (test, tested, h3) = then_ok (ok_or (condition_in condition) bad_condition) _ added h2 in
      let (value, reads, made) = then_ok (expression_in read regexp) _ added h3 in
      let item : ClassItem = record { line = line; form = n; name = bytes; latency = cycles; condition = test; expression = value } in
      let same : class item ≡ added = cc in
      rw (← same) (omega (arith, name_fits name bytes (or_ok (name_in name) bad_shape bytes is), sum_by-cons (λ c. length c.name) item []))
  class_fits read _ added h = absurd (cc)

  units_fit : (query : Bool) (operands : Trees) (added : Addition) → units_form line n query operands ≡ Ok added → named_bytes added ≤ bytes_of_strings operands
  units_fit query (more names none) added h =
      let (found, is, made) = then_ok (shaped (names_in names)) _ added h in
      let same : units (unit_items line n query None found) ≡ added = cc in
      let make : List ℕ → UnitItem = λ name. record { line = line; form = n; name = name; automaton = None; query = query } in
      rw (← same) (omega (arith, names_fit names found (or_ok (names_in names) bad_shape found is), sum_of_names make (λ u. length u.name) (λ name. refl) found))
  units_fit query (more names (more automaton none)) added h =
      let (found, is, k) = then_ok (shaped (names_in names)) _ added h in
      let (home, named, made) = then_ok (shaped (name_in automaton)) _ added k in
      let same : units (unit_items line n query (Some home) found) ≡ added = cc in
      let make : List ℕ → UnitItem = λ name. record { line = line; form = n; name = name; automaton = Some home; query = query } in
      rw (← same) (omega (arith, names_fit names found (or_ok (names_in names) bad_shape found is), sum_of_names make (λ u. length u.name) (λ name. refl) found))
  units_fit query _ added h = absurd (cc)

  reservation_other : (read : List ℕ → Said) (operands : Trees) (added : Addition) → reservation_form line n read operands ≡ Ok added → IsOther added
  reservation_other read (more name (more regexp none)) added h =
      let (bytes, is, k) = then_ok (shaped (name_in name)) _ added h in
      let (value, reads, made) = then_ok (expression_in read regexp) _ added k in
      let same : reservation (record { line = line; form = n; name = bytes; expression = value }) ≡ added = cc in
      rw (← same) (refl, refl, refl)
  reservation_other read _ added h = absurd (cc)

  bypass_other : (operands : Trees) (added : Addition) → bypass_form line n operands ≡ Ok added → IsOther added
  bypass_other operands added h = let said = bypass_says line n operands added h in rw (← said.made) (refl, refl, refl)

  set_other : (kind : SetKind) (operands : Trees) (added : Addition) → set_form_of line n kind operands ≡ Ok added → IsOther added
  set_other kind (more names (more patterns none)) added h =
      let (us, are, h1) = then_ok (shaped (names_in names)) _ added h in
      let (ps, also, made) = then_ok (shaped (set_patterns kind patterns)) _ added h1 in
      let same : set (record { line = line; form = n; kind = kind; units = us; patterns = ps }) ≡ added = cc in
      rw (← same) (refl, refl, refl)
  set_other kind _ added h = absurd (cc)

  options_other : (operands : Trees) (added : Addition) → options_form operands ≡ Ok added → IsOther added
  options_other (more words none) added h =
      let (bytes, is, k) = then_ok (shaped (quoted_bytes words)) _ added h in
      let (o, are, made) = then_ok (ok_or (with_options no_options (separated bytes)) unknown_option) _ added k in
      let same : options o ≡ added = cc in
      rw (← same) (refl, refl, refl)
  options_other _ added h = absurd (cc)

  attribute_other : (operands : Trees) (added : Addition) → attribute_form line n operands ≡ Ok added → IsOther added
  attribute_other (more name (more values (more fallback none))) added h =
      let (bytes, is, h1) = then_ok (shaped (name_in name)) _ added h in
      let (vs, are, h2) = then_ok (shaped (names_in values)) _ added h1 in
      let (f, also, made) = then_ok (shaped (fallback_in fallback)) _ added h2 in
      let same : attribute (record { line = line; form = n; name = bytes; values = vs; fallback = f }) ≡ added = cc in
      rw (← same) (refl, refl, refl)
  attribute_other _ added h = absurd (cc)

other_fits : (added : Addition) (most : ℕ) → IsOther added → named_bytes added ≤ most
other_fits added most is = omega (arith, ap (sum_by (λ (a : AutomatonItem). length a.name)) is.0, ap (sum_by (λ (c : ClassItem). length c.name)) is.1, ap (sum_by (λ (u : UnitItem). length u.name)) is.2)

kind_fits : (line n : ℕ) (read : List ℕ → Said) (kind : FormKind) (operands : Trees) (added : Addition) → form_of_kind line n read kind operands ≡ Ok added → named_bytes added ≤ bytes_of_strings operands
kind_fits line n read define_automaton operands added h = automata_fit line n operands added h
kind_fits line n read (define_cpu_unit query) operands added h = units_fit line n query operands added h
kind_fits line n read define_reservation operands added h = other_fits added (bytes_of_strings operands) (reservation_other line n read operands added h)
kind_fits line n read define_insn_reservation operands added h = class_fits line n read operands added h
kind_fits line n read define_bypass operands added h = other_fits added (bytes_of_strings operands) (bypass_other line n operands added h)
kind_fits line n read (set_form kind) operands added h = other_fits added (bytes_of_strings operands) (set_other line n kind operands added h)
kind_fits line n read automata_option operands added h = other_fits added (bytes_of_strings operands) (options_other line n operands added h)
kind_fits line n read define_attr operands added h = other_fits added (bytes_of_strings operands) (attribute_other line n operands added h)

headed_fits : (form : Tree) (parts : List ℕ × Trees) → headed form ≡ Some parts → bytes_of_strings parts.1 ≤ bytes_of_string form
headed_fits (list line (more (atom at word) operands)) parts h = let same : ◌≡◌ {A = List ℕ × Trees} (word, operands) parts = cc in omega (arith, ap (λ (p : List ℕ × Trees). bytes_of_strings p.1) same)
headed_fits _ parts h = absurd (cc)

form_fits : (read : List ℕ → Said) (n : ℕ) (form : Tree) (added : Addition) → form_says read n form ≡ Ok added → named_bytes added ≤ bytes_of_string form
form_fits read n form added h =
    let (parts, is, k) = then_ok (ok_or (headed form) unknown_form) _ added h in
    let (kind, of, made) = then_ok (ok_or (kind_of parts.0) unknown_form) _ added k in
    omega (arith, kind_fits (line_of form) n read kind parts.1 added made, headed_fits form parts (or_ok (headed form) unknown_form parts is))

-- ---- what all forms add

additions_fit : {read : List ℕ → Said} {n : ℕ} {forms : Trees} {additions : List Addition} → Add read n forms additions
    → sum_by (λ a. length a.name) (flat_map added_automata additions) + sum_by (λ c. length c.name) (flat_map added_classes additions) + sum_by (λ u. length u.name) (flat_map added_units additions) ≤ bytes_of_strings forms
additions_fit Add.nothing = omega arith
additions_fit (Add.adds {n = n} {form = form} {addition = added} {additions = additions} says rest) =
    let here = form_fits _ n form added says in
    let later = additions_fit rest in
    omega (
      arith,
      here,
      later,
      sum_by-append (λ a. length a.name) (added_automata added) (flat_map added_automata additions),
      sum_by-append (λ c. length c.name) (added_classes added) (flat_map added_classes additions),
      sum_by-append (λ u. length u.name) (added_units added) (flat_map added_units additions),
    )

pub sum_by-map : {X : Type 0} (name : X → List ℕ) (xs : List X) → sum_by length (map name xs) ≡ sum_by (λ x. length (name x)) xs
sum_by-map name [] = refl
sum_by-map name (x ∷ xs) = omega (arith, sum_by-map name xs, sum_by-cons length (name x) (map name xs), sum_by-cons (λ x. length (name x)) x xs)

automata_named : (d : Description) → sum_by length (automaton_names d) ≤ sum_by (λ a. length a.name) d.automata + 1
automata_named d = by_count (length d.automata == 0)
  where
    by_count : (none : Bool) → sum_by length (cond none (codes "-" ∷ []) (map (λ a. a.name) d.automata)) ≤ sum_by (λ a. length a.name) d.automata + 1
    by_count true = omega (arith, sum_by-cons length (codes "-") [])
    by_count false = omega (arith, sum_by-map (λ a. a.name) d.automata)

pub names_few : (forms : Trees) (d : Description) → Reads forms d → sum_by length (class_names d) + sum_by length (automaton_names d) + sum_by (λ u. length u.name) d.units ≤ bytes_of_strings forms + 1
names_few forms d reads =
    let (additions, add, has) = items_added forms d reads in
    let all = additions_fit add in
    omega (
      arith,
      all,
      automata_named d,
      sum_by-map (λ c. c.name) d.classes,
      ap (sum_by (λ (a : AutomatonItem). length a.name)) has.automata,
      ap (sum_by (λ (c : ClassItem). length c.name)) has.classes,
      ap (sum_by (λ (u : UnitItem). length u.name)) has.units,
    )
