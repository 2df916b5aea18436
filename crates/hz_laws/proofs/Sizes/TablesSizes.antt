-- How long the text is that is said of a compiled description.
use Rattle.std.proofs.Common.{◌≡◌, ℕ, suc, ◌+◌, ◌<◌, ◌≤◌, false, List, [], ◌∷◌, map, length, refl, sym, ap, ◌∙◌, arith, Bool, true, filter, if◌then◌else◌, nat_le, ◌==◌, ⊎_elim}
use Rattle.std.specs.List.{sum_by, flat_map}
use Rattle.std.proofs.lemmas.List.{length-map, get_or-map, ext_get_or}
use Rattle.hz_base_model.specs.Forms.Trees.{Trees}
use Rattle.hz_base_model.specs.Forms.Forms as texts
use Rattle.hz_description_model.specs.Reading.Descriptions.{Description, UnitItem}
use Rattle.hz_description_model.specs.Reading.DescriptionForms.{Reads}
use Rattle.hz_description_model.specs.Check.Places.{Known, class_names, automaton_number}
use Rattle.hz_description_model.specs.Check.CheckedParts.{automaton_names, automata_from, automata_of, class_parts, automaton_parts}
use Rattle.hz_pipeline_model.specs.Tables.Machines.{Machine, IsMachine, no_part, names_of}
use Rattle.hz_pipeline_model.specs.Compiling.Compiled.{Report, IsCompiled, shows_states}
use Rattle.hz_tabtext_model.specs.Texts.{spelled}
use Rattle.hz_tabtext_model.specs.Said.{tables_said}
use Rattle.hz_laws.specs.Sizes.Extents.{unnamed_limit, bytes_of_names}
use Rattle.hz_laws.proofs.Sizes.CountSizes.{lines_most}
use Rattle.hz_laws.proofs.Sizes.StringSizes.{strings_fit}
use Rattle.hz_laws.proofs.Sizes.NameSizes.{sum_by-map, names_few}
use Rattle.hz_description_model.specs.Check.CheckedShape.{ask_names, AskNothingUnderNdfa}
use Rattle.hz_description_model.proofs.Check.QueryPlaces.{asked_names}
use Rattle.hz_pipeline_model.specs.Compiling.AutomatonPipelines.{no_automaton}
use Rattle.hz_laws.proofs.Totality.MachineTotal.{same_asks}
use Rattle.std.proofs.lemmas.Bool.Decides.{nat_tests}
use Rattle.std.proofs.lemmas.Bool.{cases_lt}
use Rattle.std.proofs.lemmas.List.Sums.{sum_by-cons, sum_by-append}

module _ (d : Description) (known : Known) (m : Machine) (reports : List Report) (is : IsCompiled d.options (automata_of d) (map (class_parts d known) d.classes) m reports) where
  -- the names of the parts are those of the automata
  names_from : (n : ℕ) (names : List (List ℕ)) → map (λ a. a.name) (automata_from d n names) ≡ names
  names_from n [] = refl
  names_from n (name ∷ names) = ap (λ (others : List (List ℕ)). name ∷ others) (names_from (suc n) names)

  part_names : map (λ p. p.name) m.parts ≡ automaton_names d
  part_names =
      let each = is.each in
      let parts = length-map m.parts (λ p. p.name) in
      let automata = length-map (automata_of d) (λ a. a.name) in
      ext_get_or [] (map (λ p. p.name) m.parts) (map (λ a. a.name) (automata_of d)) (omega (arith, each, parts, automata)) (λ a low.
      let inside : a < length m.parts = omega (arith, low, parts) in
      let there : a < length (automata_of d) = omega (arith, inside, each) in
      get_or-map (λ p. p.name) m.parts a no_part [] inside ∙ ((is.parts a there).name ∙ sym (get_or-map (λ x. x.name) (automata_of d) a no_automaton [] there)))
      ∙ names_from 0 (automaton_names d)

  map_map : {X Y Z : Type 0} (f : X → Y) (g : Y → Z) (xs : List X) → map g (map f xs) ≡ map (λ x. g (f x)) xs
  map_map f g [] = refl
  map_map f g (x ∷ xs) = ap (λ (ys : List _). g (f x) ∷ ys) (map_map f g xs)

  -- the names of asks are those of query units
  ask_names_same : names_of m.parts ≡ flat_map ask_names (automata_of d)
  ask_names_same = same_asks m.parts (automata_of d) is.each (λ a low. (is.parts a low).asks)

  -- the bytes of the names of some units
  abbrev bytes : List UnitItem → ℕ
  bytes units = sum_by length (map (λ u. u.name) units)

  abbrev is_of : ℕ → UnitItem → Bool
  is_of n u = automaton_number d u.automaton == n

  -- the bytes of a unit's name, if it is of this automaton or a later one
  abbrev later_bytes : ℕ → UnitItem → ℕ
  later_bytes n u = if nat_le n (automaton_number d u.automaton) then length u.name else 0

  -- a unit is of one automaton
  shared : (k n size : ℕ) → (if nat_le (suc n) k then size else 0) + (if k == n then size else 0) ≤ (if nat_le n k then size else 0)
  shared k n size = ⊎_elim
      (λ (low : k < n).
      let later : nat_le (suc n) k ≡ false = grind (arith, nat_tests) in
      let here : (k == n) ≡ false = grind (arith, nat_tests) in
      rw (later, here) (omega arith))
      (λ (high : n ≤ k).
      let from : nat_le n k ≡ true = grind (arith, nat_tests) in
      ⊎_elim
      (λ (above : n < k).
      let here : (k == n) ≡ false = grind (arith, nat_tests) in
      rw (from, here) (at_most (nat_le (suc n) k)))
      (λ (most : k ≤ n).
      let later : nat_le (suc n) k ≡ false = grind (arith, nat_tests) in
      rw (from, later) (at_most_once (k == n)))
      (cases_lt n k))
      (cases_lt k n)
    where
      at_most : (b : Bool) → (if b then size else 0) + 0 ≤ size
      at_most true = omega arith
      at_most false = omega arith

      at_most_once : (b : Bool) → 0 + (if b then size else 0) ≤ size
      at_most_once true = omega arith
      at_most_once false = omega arith

  kept_bytes : (u : UnitItem) (b : Bool) (units : List UnitItem) → bytes (if b then u ∷ units else units) ≤ length u.name + bytes units
  kept_bytes u true units = omega (arith, sum_by-cons length u.name (map (λ v. v.name) units))
  kept_bytes u false units = omega arith

  asked_bytes : (u : UnitItem) (b : Bool) (units : List UnitItem) → bytes (filter (λ v. v.query) (if b then u ∷ units else units)) ≤ (if b then length u.name else 0) + bytes (filter (λ v. v.query) units)
  asked_bytes u true units = kept_bytes u u.query (filter (λ v. v.query) units)
  asked_bytes u false units = omega arith

  names_in_one : (n : ℕ) (units : List UnitItem) → bytes (filter (λ u. u.query) (filter (is_of n) units)) + sum_by (later_bytes (suc n)) units ≤ sum_by (later_bytes n) units
  names_in_one n [] = omega arith
  names_in_one n (u ∷ units) = omega (
    arith,
    asked_bytes u (is_of n u) (filter (is_of n) units),
    shared (automaton_number d u.automaton) n (length u.name),
    names_in_one n units,
    sum_by-cons (later_bytes (suc n)) u units,
    sum_by-cons (later_bytes n) u units,
  )

  names_from_one : (n : ℕ) (names : List (List ℕ)) → sum_by length (flat_map ask_names (automata_from d n names)) ≤ sum_by (later_bytes n) d.units
  names_from_one n [] = omega arith
  names_from_one n (name ∷ names) = omega (
    arith,
    names_in_one n d.units,
    names_from_one (suc n) names,
    sum_by-append length (ask_names (automaton_parts d n name)) (flat_map ask_names (automata_from d (suc n) names)),
    ap (sum_by length) (asked_names d n name),
  )

  all_later : (units : List UnitItem) → sum_by (later_bytes 0) units ≡ sum_by (λ u. length u.name) units
  all_later [] = refl
  all_later (u ∷ units) =
      let from : nat_le 0 (automaton_number d u.automaton) ≡ true = grind (arith, nat_tests) in
      omega (arith, all_later units, sum_by-cons (later_bytes 0) u units, sum_by-cons (λ v. length v.name) u units, ap (λ b. if b then length u.name else 0) from)

  machine_names : bytes_of_names m ≡ sum_by length (class_names d) + sum_by length (automaton_names d) + sum_by length (flat_map ask_names (automata_of d))
  machine_names = omega (
    arith,
    ap (sum_by length) (is.names ∙ map_map (class_parts d known) (λ c. c.name) d.classes),
    ap (sum_by length) part_names,
    sum_by-map (λ p. p.name) m.parts,
    ap (sum_by length) ask_names_same,
  )

  pub tables_most : (bytes : List ℕ) (read : Trees) → texts.Reads bytes read → Reads read d → AskNothingUnderNdfa d.options.ndfa (automata_of d) → IsMachine m → shows_states d.options ≡ false → length (spelled (tables_said d.options (automata_of d) reports m)) ≤ unnamed_limit + (length bytes + 1)
  tables_most bytes read forms says nothing machine hidden =
      let lines = lines_most d.options (automata_of d) (map (class_parts d known) d.classes) m reports is nothing machine hidden in
      omega (arith, lines, machine_names, names_few read d says, strings_fit bytes read forms, names_from_one 0 (automaton_names d), all_later d.units)
