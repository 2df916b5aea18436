-- An option of a description stands exactly where some form has it.
use Rattle.std.proofs.Common.{◌≡◌, ℕ, ◌+◌, ◌⊎◌, inl, inr, ⊎_elim, Bool, true, false, cond, List, [], ◌∷◌, Contains, Option, Some, None, Result, Ok, refl, sym, ap, ◌∙◌, subst}
use Rattle.std.specs.Prelude.{◌||◌, codes, IsTrue, ◌↔◌}
use Rattle.std.specs.Option.{option_map, ok_or}
use Rattle.std.specs.Str.{bytes_eq}
use Rattle.std.proofs.Math.Bool.{or-true, or-false}
use Rattle.std.proofs.lemmas.Bool.{or_cases}
use Rattle.std.proofs.lemmas.Slice.Eq.{bytes_eq-Decides}
use Rattle.hz_base_model.specs.Lines.{separated}
use Rattle.hz_base_model.proofs.Elements.{Contains-nil, Contains-head, Contains-tail, Contains-cons_cases}
use Rattle.hz_base_model.specs.Forms.Trees.{Tree, Trees, list, atom, quoted, none, more, line_of}
use Rattle.hz_description_model.specs.Reading.Descriptions.{Options, Description, no_options, no_items}
use Rattle.hz_description_model.specs.Reading.DescriptionShape.{FormKind, define_automaton, define_cpu_unit, define_reservation, define_insn_reservation, define_bypass, automata_option, define_attr, set_form}
use Rattle.hz_description_model.specs.Reservations.Sets.{SetKind}
use Rattle.hz_description_model.specs.Reading.DescriptionForms.{set_of, DescriptionFault, bad_shape, bad_condition, unknown_form, name_in, names_in, set_patterns, limited_number, fallback_in, condition_in, expression_in, unknown_option, Said, Addition, automata, units, reservation, class, bypass, set, options, attribute, at_line, headed, kind_of, form_of_kind, form_says, forms_say, with_addition, with_option, with_options, all_options, is_silent, quoted_bytes, shaped, options_form, Reads}
use Rattle.hz_description_model.specs.Reading.AddedItems.{Among, IsOption, HasOption, HasOptions}
use Rattle.hz_description_model.proofs.Reading.DescriptionFormed.{then_ok, or_ok, then_some, kept_some, bypass_says}
use Rattle.hz_description_model.proofs.Reading.AddedLaws.{line_ok}

-- what one word adds
record Gains (o p : Options) (word : List ℕ) : Type 0 where
  ndfa : p.ndfa ≡ (o.ndfa || bytes_eq word (codes "ndfa"))
  no_minimization : p.no_minimization ≡ (o.no_minimization || bytes_eq word (codes "no-minimization"))
  stats : p.stats ≡ (o.stats || bytes_eq word (codes "stats"))
  verbose : p.verbose ≡ (o.verbose || bytes_eq word (codes "v"))
  no_comb_vect : p.no_comb_vect ≡ (o.no_comb_vect || bytes_eq word (codes "no-comb-vect"))

gains_ndfa : (o p : Options) → with_option o (codes "ndfa") ≡ Some p → Gains o p (codes "ndfa")
gains_ndfa o p h =
    let same : record o { ndfa = true } ≡ p = cc in
    subst (λ x. Gains o x (codes "ndfa")) same (record { ndfa = sym (or-true o.ndfa); no_minimization = sym (or-false o.no_minimization); stats = sym (or-false o.stats); verbose = sym (or-false o.verbose); no_comb_vect = sym (or-false o.no_comb_vect) })

gains_no_minimization : (o p : Options) → with_option o (codes "no-minimization") ≡ Some p → Gains o p (codes "no-minimization")
gains_no_minimization o p h =
    let same : record o { no_minimization = true } ≡ p = cc in
    subst (λ x. Gains o x (codes "no-minimization")) same (record { ndfa = sym (or-false o.ndfa); no_minimization = sym (or-true o.no_minimization); stats = sym (or-false o.stats); verbose = sym (or-false o.verbose); no_comb_vect = sym (or-false o.no_comb_vect) })

gains_stats : (o p : Options) → with_option o (codes "stats") ≡ Some p → Gains o p (codes "stats")
gains_stats o p h =
    let same : record o { stats = true } ≡ p = cc in
    subst (λ x. Gains o x (codes "stats")) same (record { ndfa = sym (or-false o.ndfa); no_minimization = sym (or-false o.no_minimization); stats = sym (or-true o.stats); verbose = sym (or-false o.verbose); no_comb_vect = sym (or-false o.no_comb_vect) })

gains_verbose : (o p : Options) → with_option o (codes "v") ≡ Some p → Gains o p (codes "v")
gains_verbose o p h =
    let same : record o { verbose = true } ≡ p = cc in
    subst (λ x. Gains o x (codes "v")) same (record { ndfa = sym (or-false o.ndfa); no_minimization = sym (or-false o.no_minimization); stats = sym (or-false o.stats); verbose = sym (or-true o.verbose); no_comb_vect = sym (or-false o.no_comb_vect) })

gains_no_comb_vect : (o p : Options) → with_option o (codes "no-comb-vect") ≡ Some p → Gains o p (codes "no-comb-vect")
gains_no_comb_vect o p h =
    let same : record o { no_comb_vect = true } ≡ p = cc in
    subst (λ x. Gains o x (codes "no-comb-vect")) same (record { ndfa = sym (or-false o.ndfa); no_minimization = sym (or-false o.no_minimization); stats = sym (or-false o.stats); verbose = sym (or-false o.verbose); no_comb_vect = sym (or-true o.no_comb_vect) })

-- a test that fails leads to the other side
other_side : {A : Type 0} (b : Bool) (x y z : A) → b ≡ false → cond b x y ≡ z → y ≡ z
other_side true x y z e h = absurd (cc)
other_side false x y z e h = h

no_gain : (a b : Bool) → b ≡ false → a ≡ (a || b)
no_gain a true e = absurd (cc)
no_gain a false e = sym (or-false a)

-- a word that is none of the five
module _ (o p : Options) (word : List ℕ) (n : bytes_eq word (codes "ndfa") ≡ false) (m : bytes_eq word (codes "no-minimization") ≡ false) (s : bytes_eq word (codes "stats") ≡ false) (v : bytes_eq word (codes "v") ≡ false) (c : bytes_eq word (codes "no-comb-vect") ≡ false) where
  gains_nothing : with_option o word ≡ Some p → Gains o p word
  gains_nothing h =
      let h1 = other_side _ _ _ _ n h in
      let h2 = other_side _ _ _ _ m h1 in
      let h3 = other_side _ _ _ _ s h2 in
      let h4 = other_side _ _ _ _ v h3 in
      let h5 = other_side _ _ _ _ c h4 in
      let same = (kept_some (is_silent word) o p h5).1 in
      subst (λ x. Gains o x word) same (record { ndfa = no_gain o.ndfa _ n; no_minimization = no_gain o.no_minimization _ m; stats = no_gain o.stats _ s; verbose = no_gain o.verbose _ v; no_comb_vect = no_gain o.no_comb_vect _ c })

-- a word that is one of the five gains as that one does
module _ (o p : Options) (word : List ℕ) (h : with_option o word ≡ Some p) where
  by_name : (name : List ℕ) → (with_option o name ≡ Some p → Gains o p name) → bytes_eq word name ≡ true → Gains o p word
  by_name name gains e =
      let same = (bytes_eq-Decides word name).0 e in
      subst (Gains o p) (sym same) (gains (subst (λ x. with_option o x ≡ Some p) same h))

  gains : Gains o p word
  gains = at_ndfa (bytes_eq word (codes "ndfa")) refl
    where
      at_no_comb_vect : bytes_eq word (codes "ndfa") ≡ false → bytes_eq word (codes "no-minimization") ≡ false → bytes_eq word (codes "stats") ≡ false → bytes_eq word (codes "v") ≡ false → (b : Bool) → bytes_eq word (codes "no-comb-vect") ≡ b → Gains o p word
      at_no_comb_vect n m s v true e = by_name (codes "no-comb-vect") (gains_no_comb_vect o p) e
      at_no_comb_vect n m s v false e = gains_nothing o p word n m s v e h

      at_verbose : bytes_eq word (codes "ndfa") ≡ false → bytes_eq word (codes "no-minimization") ≡ false → bytes_eq word (codes "stats") ≡ false → (b : Bool) → bytes_eq word (codes "v") ≡ b → Gains o p word
      at_verbose n m s true e = by_name (codes "v") (gains_verbose o p) e
      at_verbose n m s false e = at_no_comb_vect n m s e (bytes_eq word (codes "no-comb-vect")) refl

      at_stats : bytes_eq word (codes "ndfa") ≡ false → bytes_eq word (codes "no-minimization") ≡ false → (b : Bool) → bytes_eq word (codes "stats") ≡ b → Gains o p word
      at_stats n m true e = by_name (codes "stats") (gains_stats o p) e
      at_stats n m false e = at_verbose n m e (bytes_eq word (codes "v")) refl

      at_no_minimization : bytes_eq word (codes "ndfa") ≡ false → (b : Bool) → bytes_eq word (codes "no-minimization") ≡ b → Gains o p word
      at_no_minimization n true e = by_name (codes "no-minimization") (gains_no_minimization o p) e
      at_no_minimization n false e = at_stats n e (bytes_eq word (codes "stats")) refl

      at_ndfa : (b : Bool) → bytes_eq word (codes "ndfa") ≡ b → Gains o p word
      at_ndfa true e = by_name (codes "ndfa") (gains_ndfa o p) e
      at_ndfa false e = at_no_minimization e (bytes_eq word (codes "no-minimization")) refl

-- Which forms add options.

abbrev IsNotOptions : Addition → Type 0
IsNotOptions (options o) = ⊥
IsNotOptions _ = Unit {0}

-- the last step of a form that adds something else
adds_other : (a b : Addition) → IsNotOptions a → ◌≡◌ {A = Result Addition DescriptionFault} (Ok a) (Ok b) → IsNotOptions b
adds_other a b is h = let same : a ≡ b = cc in subst IsNotOptions same is

module _ (line n : ℕ) (read : List ℕ → Said) where
  other_kind : (kind : FormKind) (operands : Trees) (a : Addition) → (kind ≡ automata_option → ⊥) → form_of_kind line n read kind operands ≡ Ok a → IsNotOptions a
  other_kind define_automaton (more names none) a not h = let (found, is, made) = then_ok (shaped (names_in names)) _ a h in adds_other _ a tt made
  other_kind define_automaton _ a not h = absurd (cc)
  other_kind (define_cpu_unit query) (more names none) a not h = let (found, is, made) = then_ok (shaped (names_in names)) _ a h in adds_other _ a tt made
  other_kind (define_cpu_unit query) (more names (more automaton none)) a not h =
      let (found, is, k) = then_ok (shaped (names_in names)) _ a h in
      let (name, named, made) = then_ok (shaped (name_in automaton)) _ a k in
      adds_other _ a tt made
  other_kind (define_cpu_unit query) _ a not h = absurd (cc)
  other_kind define_reservation (more name (more regexp none)) a not h =
      let (bytes, is, k) = then_ok (shaped (name_in name)) _ a h in
      let (value, reads, made) = then_ok (expression_in read regexp) _ a k in
      adds_other _ a tt made
  other_kind define_reservation _ a not h = absurd (cc)
  other_kind define_insn_reservation (more name (more latency (more condition (more regexp none)))) a not h =
      let (bytes, is, h1) = then_ok (shaped (name_in name)) _ a h in
      let (cycles, low, h2) = then_ok (limited_number latency) _ a h1 in
      let (test, tested, h3) = then_ok (ok_or (condition_in condition) bad_condition) _ a h2 in
      let (value, reads, made) = then_ok (expression_in read regexp) _ a h3 in
      adds_other _ a tt made
  other_kind define_insn_reservation _ a not h = absurd (cc)
  other_kind define_bypass operands a not h = let said = bypass_says line n operands a h in adds_other _ a tt (ap Ok said.made)
  other_kind (set_form kind) (more names (more patterns none)) a not h =
      let (us, are, h1) = then_ok (shaped (names_in names)) _ a h in
      let (ps, also, made) = then_ok (shaped (set_patterns kind patterns)) _ a h1 in
      adds_other _ a tt made
  other_kind (set_form kind) _ a not h = absurd (cc)
  other_kind automata_option operands a not h = absurd (not refl)
  other_kind define_attr (more name (more values (more fallback none))) a not h =
      let (bytes, is, h1) = then_ok (shaped (name_in name)) _ a h in
      let (vs, are, h2) = then_ok (shaped (names_in values)) _ a h1 in
      let (f, also, made) = then_ok (shaped (fallback_in fallback)) _ a h2 in
      adds_other _ a tt made
  other_kind define_attr _ a not h = absurd (cc)

-- the word of an option form
no_kind_of_sets : (o : Option SetKind) → option_map set_form o ≡ Some automata_option → ⊥
no_kind_of_sets None h = absurd (cc)
no_kind_of_sets (Some kind) h = absurd (cc)

abbrev is_option_kind : Option FormKind → Bool
is_option_kind (Some automata_option) = true
is_option_kind _ = false

not_option : (k : Option FormKind) → is_option_kind k ≡ false → k ≡ Some automata_option → ⊥
not_option k e h = let same : false ≡ true = sym e ∙ ap is_option_kind h in absurd (cc)

option_by : (a u q r c b o t : Bool) (sets : Option SetKind) → cond a (Some define_automaton) (cond u (Some (define_cpu_unit false)) (cond q (Some (define_cpu_unit true)) (cond r (Some define_reservation) (cond c (Some define_insn_reservation) (cond b (Some define_bypass) (cond o (Some automata_option) (cond t (Some define_attr) (option_map set_form sets)))))))) ≡ Some automata_option → o ≡ true
option_by true u q r c b o t sets h = absurd (not_option _ refl h)
option_by false true q r c b o t sets h = absurd (not_option _ refl h)
option_by false false true r c b o t sets h = absurd (not_option _ refl h)
option_by false false false true c b o t sets h = absurd (not_option _ refl h)
option_by false false false false true b o t sets h = absurd (not_option _ refl h)
option_by false false false false false true o t sets h = absurd (not_option _ refl h)
option_by false false false false false false true t sets h = refl
option_by false false false false false false false true sets h = absurd (not_option _ refl h)
option_by false false false false false false false false sets h = absurd (no_kind_of_sets sets h)

option_word : (word : List ℕ) → kind_of word ≡ Some automata_option → word ≡ codes "automata_option"
option_word word h = (bytes_eq-Decides word (codes "automata_option")).0 (option_by (bytes_eq word (codes "define_automaton")) (bytes_eq word (codes "define_cpu_unit")) (bytes_eq word (codes "define_query_cpu_unit")) (bytes_eq word (codes "define_reservation")) (bytes_eq word (codes "define_insn_reservation")) (bytes_eq word (codes "define_bypass")) (bytes_eq word (codes "automata_option")) (bytes_eq word (codes "define_attr")) (set_of word) h)

-- a list that begins with a word
record Heads (form : Tree) (word : List ℕ) (operands : Trees) : Type 0 where
  line : ℕ
  head : ℕ
  is : form ≡ list line (more (atom head word) operands)

heads : (form : Tree) (parts : List ℕ × Trees) → headed form ≡ Some parts → Heads form parts.0 parts.1
heads (list line (more (atom head word) operands)) parts h =
    let same : ◌≡◌ {A = List ℕ × Trees} (word, operands) parts = cc in
    record { line = line; head = head; is = ap (λ p. list line (more (atom head p.0) p.1)) same }
heads _ parts h = absurd (cc)

quoted_is : (operand : Tree) (bytes : List ℕ) → quoted_bytes operand ≡ Some bytes → (line : ℕ) × (operand ≡ quoted line bytes)
quoted_is (quoted line found) bytes h = let same : found ≡ bytes = cc in (line, ap (quoted line) same)
quoted_is _ bytes h = absurd (cc)

-- what an option form says
record SaysOptions (operands : Trees) (o : Options) : Type 0 where
  line : ℕ
  bytes : List ℕ
  is : operands ≡ more (quoted line bytes) none
  all : with_options no_options (separated bytes) ≡ Some o

says_options : (operands : Trees) (o : Options) → options_form operands ≡ Ok (options o) → SaysOptions operands o
says_options (more words none) o h =
    let (bytes, is, k) = then_ok (shaped (quoted_bytes words)) _ (options o) h in
    let (p, are, made) = then_ok (ok_or (with_options no_options (separated bytes)) unknown_option) _ (options o) k in
    let (line, quotes) = quoted_is words bytes (or_ok (quoted_bytes words) bad_shape bytes is) in
    let same : p ≡ o = cc in
    record { line = line; bytes = bytes; is = ap (λ w. more w none) quotes; all = subst (λ x. with_options no_options (separated bytes) ≡ Some x) same (or_ok (with_options no_options (separated bytes)) unknown_option p are) }
says_options _ o h = absurd (cc)

-- a form that adds options
record AddsOptions (form : Tree) (o : Options) : Type 0 where
  line : ℕ
  head : ℕ
  string : ℕ
  bytes : List ℕ
  is : form ≡ list line (more (atom head (codes "automata_option")) (more (quoted string bytes) none))
  all : with_options no_options (separated bytes) ≡ Some o

adds_options : (read : List ℕ → Said) (n : ℕ) (form : Tree) (o : Options) → form_says read n form ≡ Ok (options o) → AddsOptions form o
adds_options read n form o h =
    let (parts, is, k) = then_ok (ok_or (headed form) unknown_form) _ (options o) h in
    let (kind, of, made) = then_ok (ok_or (kind_of parts.0) unknown_form) _ (options o) k in
    by_kind parts (heads form parts (or_ok (headed form) unknown_form parts is)) kind (or_ok (kind_of parts.0) unknown_form kind of) made
  where
    by_kind : (parts : List ℕ × Trees) → Heads form parts.0 parts.1 → (kind : FormKind) → kind_of parts.0 ≡ Some kind → form_of_kind (line_of form) n read kind parts.1 ≡ Ok (options o) → AddsOptions form o
    by_kind parts begins automata_option of made =
        let word = option_word parts.0 of in
        let says = says_options parts.1 o made in
        record { line = begins.line; head = begins.head; string = says.line; bytes = says.bytes; is = begins.is ∙ (ap (λ w. list begins.line (more (atom begins.head w) parts.1)) word ∙ ap (λ x. list begins.line (more (atom begins.head (codes "automata_option")) x)) says.is); all = says.all }
    by_kind parts begins define_automaton of made = absurd (other_kind (line_of form) n read define_automaton parts.1 (options o) (λ e. absurd (cc)) made)
    by_kind parts begins (define_cpu_unit query) of made = absurd (other_kind (line_of form) n read (define_cpu_unit query) parts.1 (options o) (λ e. absurd (cc)) made)
    by_kind parts begins define_reservation of made = absurd (other_kind (line_of form) n read define_reservation parts.1 (options o) (λ e. absurd (cc)) made)
    by_kind parts begins define_insn_reservation of made = absurd (other_kind (line_of form) n read define_insn_reservation parts.1 (options o) (λ e. absurd (cc)) made)
    by_kind parts begins define_bypass of made = absurd (other_kind (line_of form) n read define_bypass parts.1 (options o) (λ e. absurd (cc)) made)
    by_kind parts begins define_attr of made = absurd (other_kind (line_of form) n read define_attr parts.1 (options o) (λ e. absurd (cc)) made)
    by_kind parts begins (set_form kind) of made = absurd (other_kind (line_of form) n read (set_form kind) parts.1 (options o) (λ e. absurd (cc)) made)

-- One option, reported by a field and its word.
module _ (f : Options → Bool) (word : List ℕ) (no : f no_options ≡ false) (both : (a b : Options) → f (all_options a b) ≡ (f a || f b))
    (step : (o p : Options) (w : List ℕ) → with_option o w ≡ Some p → f p ≡ (f o || bytes_eq w word)) where
  in_list : (o p : Options) (words : List (List ℕ)) → with_options o words ≡ Some p → IsTrue (f p) ↔ (IsTrue (f o) ⊎ Contains words word)
  in_list o p [] h =
      let same : o ≡ p = cc in
      (λ t. inl (subst (λ x. IsTrue (f x)) (sym same) t), λ c. ⊎_elim (λ (t : IsTrue (f o)). subst (λ x. IsTrue (f x)) same t) (λ (k : Contains [] word). absurd (Contains-nil word k)) c)
  in_list o p (w ∷ words) h =
      let (q, is, rest) = then_some (with_option o w) (λ x. with_options x words) p h in
      let later = in_list q p words rest in
      let e = step o q w is in (
        λ t. ⊎_elim
            (λ (k : IsTrue (f q)). ⊎_elim (λ (a : f o ≡ true). inl a) (λ (b : bytes_eq w word ≡ true). inr (subst (λ x. Contains (w ∷ words) x) ((bytes_eq-Decides w word).0 b) (Contains-head w words))) (or_cases (f o) (bytes_eq w word) (sym e ∙ k)))
            (λ (c : Contains words word). inr (Contains-tail w word words c))
            (later.0 t),
        λ c. ⊎_elim
            (λ (a : IsTrue (f o)). later.1 (inl (e ∙ ap (λ b. b || bytes_eq w word) a)))
            (λ (k : Contains (w ∷ words) word). ⊎_elim
            (λ (same : w ≡ word). later.1 (inl (e ∙ (ap (λ b. f o || b) ((bytes_eq-Decides w word).1 same) ∙ or-true (f o)))))
            (λ (k : Contains words word). later.1 (inr k))
            (Contains-cons_cases w word words k))
            c,
      )

  -- one form
  in_form : (read : List ℕ → Said) (n : ℕ) (d : Description) (form : Tree) (a : Addition) → form_says read n form ≡ Ok a → IsTrue (f (with_addition d a).options) ↔ (IsTrue (f d.options) ⊎ IsOption word form)
  in_form read n d form a h = (there a h, back)
    where
      there : (a : Addition) → form_says read n form ≡ Ok a → IsTrue (f (with_addition d a).options) → IsTrue (f d.options) ⊎ IsOption word form
      there (options o) h t = ⊎_elim
          (λ (x : f d.options ≡ true). inl x)
          (λ (x : f o ≡ true).
          let s = adds_options read n form o h in
          ⊎_elim
          (λ (bad : f no_options ≡ true). absurd (let e : false ≡ true = sym no ∙ bad in cc))
          (λ (c : Contains (separated s.bytes) word). inr (record { line = s.line; head = s.head; string = s.string; bytes = s.bytes; is = s.is; stands = c }))
          ((in_list no_options o (separated s.bytes) s.all).0 x))
          (or_cases (f d.options) (f o) (sym (both d.options o) ∙ t))
      there (automata items) h t = inl t
      there (units items) h t = inl t
      there (reservation item) h t = inl t
      there (class item) h t = inl t
      there (bypass item) h t = inl t
      there (set item) h t = inl t
      there (attribute item) h t = inl t

      stays : (b : Addition) → IsTrue (f d.options) → IsTrue (f (with_addition d b).options)
      stays (options o) t = both d.options o ∙ ap (λ b. b || f o) t
      stays (automata items) t = t
      stays (units items) t = t
      stays (reservation item) t = t
      stays (class item) t = t
      stays (bypass item) t = t
      stays (set item) t = t
      stays (attribute item) t = t

      from_option : IsOption word form → IsTrue (f (with_addition d a).options)
      from_option s =
          let said = subst (λ x. form_says read n x ≡ Ok a) s.is h in
          let (o, is, made) = then_ok (ok_or (with_options no_options (separated s.bytes)) unknown_option) _ a said in
          let all = or_ok (with_options no_options (separated s.bytes)) unknown_option o is in
          let same : options o ≡ a = cc in
          subst (λ x. IsTrue (f (with_addition d x).options)) same (both d.options o ∙ (ap (λ b. f d.options || b) ((in_list no_options o (separated s.bytes) all).1 (inr s.stands)) ∙ or-true (f d.options)))

      back : IsTrue (f d.options) ⊎ IsOption word form → IsTrue (f (with_addition d a).options)
      back c = ⊎_elim (stays a) from_option c

  -- all forms
  in_forms : (read : List ℕ → Said) (n : ℕ) (d e : Description) (forms : Trees) → forms_say read n d forms ≡ Ok e → IsTrue (f e.options) ↔ (IsTrue (f d.options) ⊎ HasOption forms word)
  in_forms read n d e none h =
      let same : d ≡ e = cc in
      (λ t. inl (subst (λ x. IsTrue (f x.options)) (sym same) t), λ c. ⊎_elim (λ (t : IsTrue (f d.options)). subst (λ x. IsTrue (f x.options)) same t) (λ (k : HasOption none word). absurd (k.1)) c)
  in_forms read n d e (more first others) h =
      let (a, is, rest) = then_ok (at_line (line_of first) (form_says read n first)) _ e h in
      let one = in_form read n d first a (line_ok (line_of first) (form_says read n first) a is) in
      let later = in_forms read (n + 1) (with_addition d a) e others rest in (
        λ t. ⊎_elim
            (λ (k : IsTrue (f (with_addition d a).options)). ⊎_elim (λ (x : IsTrue (f d.options)). inl x) (λ (s : IsOption word first). inr (first, inl refl, s)) (one.0 k))
            (λ (k : HasOption others word). inr (k.0, inr k.1, k.2))
            (later.0 t),
        λ c. ⊎_elim
            (λ (t : IsTrue (f d.options)). later.1 (inl (one.1 (inl t))))
            (λ (k : HasOption (more first others) word). ⊎_elim
            (λ (same : first ≡ k.0). later.1 (inl (one.1 (inr (subst (IsOption word) (sym same) k.2)))))
            (λ (among : Among others k.0). later.1 (inr (k.0, among, k.2)))
            k.1)
            c,
      )

  in_description : (forms : Trees) (d : Description) → Reads forms d → IsTrue (f d.options) ↔ HasOption forms word
  in_description forms d r =
      let all = in_forms r.read 0 no_items d forms r.says in
      (λ t. ⊎_elim (λ (x : f no_options ≡ true). absurd (let e : false ≡ true = sym no ∙ x in cc)) (λ (k : HasOption forms word). k) (all.0 t), λ k. all.1 (inr k))

pub options_stand : (forms : Trees) (d : Description) → Reads forms d → HasOptions d.options forms
options_stand forms d r = record {
  ndfa = in_description (λ o. o.ndfa) (codes "ndfa") refl (λ a b. refl) (λ o p w h. (gains o p w h).ndfa) forms d r;
  no_minimization = in_description (λ o. o.no_minimization) (codes "no-minimization") refl (λ a b. refl) (λ o p w h. (gains o p w h).no_minimization) forms d r;
  stats = in_description (λ o. o.stats) (codes "stats") refl (λ a b. refl) (λ o p w h. (gains o p w h).stats) forms d r;
  verbose = in_description (λ o. o.verbose) (codes "v") refl (λ a b. refl) (λ o p w h. (gains o p w h).verbose) forms d r;
  no_comb_vect = in_description (λ o. o.no_comb_vect) (codes "no-comb-vect") refl (λ a b. refl) (λ o p w h. (gains o p w h).no_comb_vect) forms d r;
}
