-- What is reported of alternatives by what forbids them is what the definitions say.
use Rattle.std.proofs.Common.{◌≡◌, ℕ, suc, ◌+◌, ◌<◌, ⊎_elim, Bool, true, false, cond, List, [], ◌∷◌, ◌++◌, map, drop, length, get_or, append_assoc, Option, Some, None, refl, sym, ap, ◌∙◌, arith}
use Rattle.std.specs.Prelude.{◌&&◌, ◌==◌, codes, slice_get, slice_index, if◌then◌else◌}
use Rattle.std.specs.List.{concat}
use Rattle.std.specs.Option.{option_map}
use Rattle.std.proofs.Math.Path.{fun_ext}
use Rattle.std.proofs.lemmas.Bool.{cases_eq, eq-eqb, ne_eqb}
use Rattle.std.proofs.lemmas.List.{drop_more}
use Rattle.hz_description_model.specs.Reservations.Automata.{UnitPlace}
use Rattle.hz_description_model.specs.Reservations.Sets.{Statement}
use Rattle.hz_why_model.specs.Explanations.{Wording, reason_words, group_lines, alternative_lines}
use Rattle.hz_why_model.specs.Groups.{first_place, leaders, led_by, groups_from, group_texts}
use Rattle.hz_why_model.specs.Holders.{Entry, entry_at}
use Rattle.hz_why_model.specs.Lists.{narrow, alternatives_text}
use Rattle.hz_why_model.specs.Reasons.{same_place, same_pattern, are_alike, patterns_of}
use Rattle.hz_reasons.specs.Breaking.{reason_at, pattern_at}
use Rattle.hz_reasons.specs.Holding.{entry_with}
use Rattle.hz_reasons.specs.Plans.{unit_of, statement_of}
use Rattle.hz_explain.specs.Detailing.{detail_reported}
use Rattle.hz_explain.specs.Grouping.{same_unit, alike_in, group_reported, alternatives_reported}
use Rattle.hz_explain.specs.Telling.{holder_in, pattern_in}
use Rattle.hz_reasons.specs.declared.holders.Holder.{Holder}
use Rattle.hz_reasons.specs.declared.plan.AutomatonUnit.{AutomatonUnit}
use Rattle.hz_reasons.specs.declared.plan.Plan.{Plan}
use Rattle.hz_reasons.specs.declared.plan.SetStatement.{SetStatement}
use Rattle.hz_reasons.specs.declared.reasons.Break.{Break}
use Rattle.hz_reasons.specs.declared.reasons.Reason.{Reason}
use Rattle.hz_reasons.specs.declared.reasons.Reason.TheVariants.{Taken, Broken}
use Rattle.hz_explain.proofs.DetailLaws.{detail_is}
use Rattle.hz_explain.proofs.TellLaws.{in_cycle, pattern_is, reason_is}

-- ---- groups of other items

module _ {A B : Type 0} (f : A → B) (alike : A → A → Bool) (likewise : B → B → Bool) (same : (a b : A) → alike a b ≡ likewise (f a) (f b)) where
  first_mapped : (a : A) (xs : List A) → first_place (alike a) xs ≡ first_place (likewise (f a)) (map f xs)
  first_mapped a [] = refl
  first_mapped a (x ∷ xs) =
      ap (λ (b : Bool). cond b 0 (suc (first_place (alike a) xs))) (same a x) ∙ ap (λ (n : ℕ). cond (likewise (f a) (f x)) 0 (suc n)) (first_mapped a xs)

  leaders_mapped : (items xs : List A) → map (λ x. first_place (alike x) items) xs ≡ map (λ y. first_place (likewise y) (map f items)) (map f xs)
  leaders_mapped items [] = refl
  leaders_mapped items (x ∷ xs) =
      ap (λ (n : ℕ). n ∷ map (λ y. first_place (alike y) items) xs) (first_mapped x items)
      ∙ ap (λ (ns : List ℕ). first_place (likewise (f x)) (map f items) ∷ ns) (leaders_mapped items xs)

  module _ (text : List ℕ → A → List ℕ) (words : List ℕ → B → List ℕ) (each : (ns : List ℕ) (a : A) → text ns a ≡ words ns (f a)) where
    groups_mapped : (ls : List ℕ) (place : ℕ) (xs : List A) → groups_from text ls place xs ≡ groups_from words ls place (map f xs)
    groups_mapped ls place [] = refl
    groups_mapped ls place (x ∷ xs) =
        ap (λ (t : List ℕ). cond (slice_index ls place == place) t [] ++ groups_from text ls (suc place) xs) (each (led_by place 1 ls) x)
        ∙ ap (λ (t : List ℕ). cond (slice_index ls place == place) (words (led_by place 1 ls) (f x)) [] ++ t) (groups_mapped ls (suc place) xs)

    pub texts_mapped : (xs : List A) → group_texts alike text xs ≡ group_texts likewise words (map f xs)
    texts_mapped xs = ap (λ (ls : List ℕ). groups_from text ls 0 xs) (leaders_mapped xs xs) ∙ groups_mapped (leaders likewise (map f xs)) 0 xs

-- ---- a group more

-- one number more
led_or_not : (b : Bool) (n : ℕ) (ns : List ℕ) → cond b (n ∷ ns) ns ≡ cond b (n ∷ []) [] ++ ns
led_or_not true n ns = refl
led_or_not false n ns = refl

pub led_next : (place : ℕ) (ls : List ℕ) (i : ℕ) (old numbers all : List ℕ) → i < length ls → old ++ led_by place (i + 1) (drop i ls) ≡ all
    → numbers ≡ old ++ (if get_or ls i 0 == place then (i + 1) ∷ [] else []) → numbers ++ led_by place (i + 1 + 1) (drop (i + 1) ls) ≡ all
led_next place ls i old numbers all lt come more =
    let here : Bool = get_or ls i 0 == place in
    let rest : List ℕ = led_by place (suc (i + 1)) (drop (i + 1) ls) in
    let on : i + 1 + 1 ≡ suc (i + 1) = omega arith in
    ap (λ (n : ℕ). numbers ++ led_by place n (drop (i + 1) ls)) on
    ∙ (ap (λ (ns : List ℕ). ns ++ rest) more
    ∙ (append_assoc old (cond here ((i + 1) ∷ []) []) rest
    ∙ (ap (λ (ns : List ℕ). old ++ ns) (sym (led_or_not here (i + 1) rest))
    ∙ (sym (ap (λ (l : List ℕ). old ++ led_by place (i + 1) l) (drop_more ls i 0 lt)) ∙ come))))

-- the lines of one group more
pub groups_next : {A : Type 0} (text : List ℕ → A → List ℕ) (ls : List ℕ) (xs : List A) (i : ℕ) (d : A) (old new all : List ℕ) → i < length xs → old ++ groups_from text ls i (drop i xs) ≡ all
    → new ≡ old ++ (if slice_index ls i == i then text (led_by i 1 ls) (get_or xs i d) else []) → new ++ groups_from text ls (i + 1) (drop (i + 1) xs) ≡ all
groups_next {A} text ls xs i d old new all lt come more =
    let one : List ℕ = cond (slice_index ls i == i) (text (led_by i 1 ls) (get_or xs i d)) [] in
    let rest : List ℕ = groups_from text ls (suc i) (drop (i + 1) xs) in
    let on : i + 1 ≡ suc i = omega arith in
    ap (λ (n : ℕ). new ++ groups_from text ls n (drop (i + 1) xs)) on
    ∙ (ap (λ (t : List ℕ). t ++ rest) more
    ∙ (append_assoc old one rest
    ∙ (sym (ap (λ (ys : List A). old ++ groups_from text ls i ys) (drop_more xs i d lt)) ∙ come)))

-- ---- what is alike

-- cycles are the same where they are so many cycles later
later_same : (now a b : ℕ) → (a == b) ≡ (now + a == now + b)
later_same now a b = ⊎_elim
    (λ (e : a ≡ b). eq-eqb a b e ∙ sym (eq-eqb (now + a) (now + b) (omega arith)))
    (λ (ne : a ≡ b → ⊥). ne_eqb a b ne ∙ sym (ne_eqb (now + a) (now + b) (λ e. ne (omega arith))))
    (cases_eq a b)

patterns_same : (us vs : List AutomatonUnit) → same_pattern same_unit us vs ≡ same_pattern same_place (map unit_of us) (map unit_of vs)
patterns_same [] [] = refl
patterns_same [] (v ∷ vs) = refl
patterns_same (u ∷ us) [] = refl
patterns_same (u ∷ us) (v ∷ vs) = ap (λ (b : Bool). same_unit u v && b) (patterns_same us vs)

module _ (now : ℕ) (sets : List SetStatement) (statements : List (Statement UnitPlace)) (same : map statement_of sets ≡ statements) where
  pub alike_is : (a b : Option Reason) → alike_in sets a b ≡ are_alike same_place (option_map (reason_at statements now) a) (option_map (reason_at statements now) b)
  alike_is None None = refl
  alike_is None (Some r) = refl
  alike_is (Some r) None = refl
  alike_is (Some (Taken p)) (Some (Taken q)) = ap (λ (b : Bool). (p.automaton == q.automaton && p.unit == q.unit) && b) (later_same now p.cycle q.cycle)
  alike_is (Some (Taken p)) (Some (Broken c)) = refl
  alike_is (Some (Broken b)) (Some (Taken q)) = refl
  alike_is (Some (Broken b)) (Some (Broken c)) =
      let pattern : Break → List UnitPlace = λ d. pattern_at (patterns_of (slice_get statements d.statement)) d.pattern in
      ap (λ (t : Bool). b.statement == c.statement && (t && (same_unit b.unit c.unit && same_pattern same_unit (pattern_in sets b) (pattern_in sets c)))) (later_same now b.cycle c.cycle)
      ∙ ap (λ (t : Bool). b.statement == c.statement && (now + b.cycle == now + c.cycle && (same_unit b.unit c.unit && t)))
      (patterns_same (pattern_in sets b) (pattern_in sets c)
      ∙ (ap (λ (us : List UnitPlace). same_pattern same_place us (map unit_of (pattern_in sets c))) (pattern_is sets statements same b)
      ∙ ap (same_pattern same_place (pattern b)) (pattern_is sets statements same c)))

-- ---- lines

module _ (w : Wording UnitPlace) (now : ℕ) (held : List (Entry UnitPlace)) (plan : Plan) (issues : List Holder) (statements : List (Statement UnitPlace)) (sets : map statement_of plan.sets.items ≡ statements)
    (holders : (u : UnitPlace) (cycle : ℕ) → option_map (entry_with (in_cycle now u cycle)) (holder_in plan issues u cycle) ≡ entry_at same_place held (in_cycle now u cycle))
    (same : (a b : UnitPlace) → w.same a b ≡ same_place a b) where
  group_is : (numbers : List ℕ) (r : Option Reason) → group_reported w plan issues numbers r ≡ group_lines w now held statements numbers (option_map (reason_at statements now) r)
  group_is numbers None = refl
  group_is numbers (Some r) =
      ap (λ (t : List ℕ). concat (narrow (alternatives_text numbers ++ (codes ": " ++ t)) ∷ codes "\n" ∷ detail_reported w plan issues r ∷ [])) (sym (reason_is w now held plan issues statements sets holders same r))
      ∙ ap (λ (t : List ℕ). concat (narrow (alternatives_text numbers ++ (codes ": " ++ concat (reason_words w now held (reason_at statements now r)))) ∷ codes "\n" ∷ t ∷ [])) (sym (detail_is w now held plan issues statements sets holders same r))

  pub lines_are : (rs : List (Option Reason)) → alternatives_reported w plan issues rs ≡ alternative_lines w now held statements (map (option_map (reason_at statements now)) rs)
  lines_are rs =
      texts_mapped (option_map (reason_at statements now)) (alike_in plan.sets.items) (are_alike same_place) (alike_is now plan.sets.items statements sets) (group_reported w plan issues) (group_lines w now held statements) group_is rs
      ∙ ap (λ (s : UnitPlace → UnitPlace → Bool). group_texts (are_alike s) (group_lines w now held statements) (map (option_map (reason_at statements now)) rs)) (sym (fun_ext (λ a. fun_ext (λ b. same a b))))
