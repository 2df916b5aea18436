-- How large alternatives are together, and lists that are made one by one.
use Rattle.std.proofs.Common.{◌≡◌, ℕ, ◌+◌, ◌<◌, ◌≤◌, List, [], ◌∷◌, ◌++◌, length, map, take, drop, get_or, sym, ap, ◌∙◌, subst, arith, append_assoc, All}
use Rattle.std.proofs.lemmas.List.{append-nil, take_more, take-append-drop, map-append}
use Rattle.std.proofs.lemmas.List.Concat.{flat_map-append}
use Rattle.std.proofs.lemmas.List.Sums.{sum_by-append}
use Rattle.hz_altern.specs.declared.alternative.Alt.{Alt}
use Rattle.hz_altern.specs.declared.fault.AlternFault.{AlternFault}
use Rattle.hz_altern.specs.declared.fault.AlternFault.TheVariants.{AlternativesLimit, CyclesLimit, SizeLimit, NoMemory}
use Rattle.hz_altern.specs.Answers.{weight, total_weight, Refuses}
use Rattle.hz_altern.specs.Shapes.{alternative_of, alternatives}
use Rattle.hz_description_model.specs.Reservations.Alternatives.{Alternative, each_choice}
use Rattle.hz_description_model.specs.Reservations.Automata.{UnitPlace}
use Rattle.hz_description_model.specs.Reservations.AlternativeLists.{greatest_length}
use Rattle.hz_altern.specs.Joinings.{IsListed}
use Rattle.hz_altern.proofs.ListLemmas.{All-from_map}
use Rattle.hz_altern.proofs.Lengths.{greatest-append, length_within}

-- what is refused is refused of larger lists too
pub refuses_larger : (most : ℕ) (xs ys : List (Alternative UnitPlace)) → total_weight xs ≤ total_weight ys → (fault : AlternFault) → Refuses most xs fault → Refuses most ys fault
refuses_larger most xs ys h AlternativesLimit never = absurd never
refuses_larger most xs ys h CyclesLimit never = absurd never
refuses_larger most xs ys h SizeLimit over = omega arith
refuses_larger most xs ys h NoMemory free = tt

pub weight-append : (xs ys : List (Alternative UnitPlace)) → total_weight (xs ++ ys) ≡ total_weight xs + total_weight ys
weight-append xs ys = sum_by-append weight xs ys

pub weight-cons : (x : Alternative UnitPlace) (xs : List (Alternative UnitPlace)) → total_weight (x ∷ xs) ≡ weight x + total_weight xs
weight-cons x xs = omega (arith, sum_by-append weight (x ∷ []) xs)

module _ (before : List (Alternative UnitPlace)) (f : Alternative UnitPlace → Alternative UnitPlace) (alts : List Alt) where
  -- the list before, and after it what f makes of the first so many
  abbrev pub made : ℕ → List (Alternative UnitPlace)
  made i = before ++ map f (alternatives (take i alts))

  pub made_more : (i : ℕ) (d : Alt) → i < length alts → made i ++ f (alternative_of (get_or alts i d)) ∷ [] ≡ made (i + 1)
  made_more i d h =
      append_assoc before (map f (alternatives (take i alts))) (f (alternative_of (get_or alts i d)) ∷ [])
      ∙ ap (λ ws. before ++ ws) (sym (map-append f (alternatives (take i alts)) (alternative_of (get_or alts i d) ∷ []))
      ∙ ap (map f) (sym (map-append alternative_of (take i alts) (get_or alts i d ∷ [])) ∙ ap alternatives (sym (take_more alts i d h))))

  -- the first so many are no larger than all
  pub made_within : (i : ℕ) → total_weight (made i) ≤ total_weight (before ++ map f (alternatives alts))
  made_within i =
      let whole : map f (alternatives alts) ≡ map f (alternatives (take i alts)) ++ map f (alternatives (drop i alts)) =
      ap (λ xs. map f (alternatives xs)) (sym (take-append-drop i alts))
      ∙ (ap (map f) (map-append alternative_of (take i alts) (drop i alts)) ∙ map-append f (alternatives (take i alts)) (alternatives (drop i alts))) in
      let all = ap total_weight whole ∙ weight-append (map f (alternatives (take i alts))) (map f (alternatives (drop i alts))) in
      omega (arith, weight-append before (map f (alternatives (take i alts))), weight-append before (map f (alternatives alts)))

-- what is refused when one more is added is refused of all
pub refused_so_far : (most : ℕ) (before : List (Alternative UnitPlace)) (f : Alternative UnitPlace → Alternative UnitPlace) (alts : List Alt) (i : ℕ) (d : Alt) (listing : List (Alternative UnitPlace)) (x : Alternative UnitPlace) (fault : AlternFault) → i < length alts → listing ≡ made before f alts i → x ≡ f (alternative_of (get_or alts i d)) → Refuses most (listing ++ x ∷ []) fault → Refuses most (before ++ map f (alternatives alts)) fault
refused_so_far most before f alts i d listing x fault h is item refused =
    let same : listing ++ x ∷ [] ≡ made before f alts (i + 1) = ap (λ ws. ws ++ x ∷ []) is ∙ (ap (λ y. made before f alts i ++ y ∷ []) item ∙ made_more before f alts i d h) in
    refuses_larger most (made before f alts (i + 1)) (before ++ map f (alternatives alts)) (made_within before f alts (i + 1)) fault
    (subst (λ ws. Refuses most ws fault) same refused)

-- ---- one of the alternatives

pub item_listed : (alts : List Alt) (i : ℕ) (item : Alt) → i < length alts → item ≡ get_or alts i item → All IsListed (alternatives alts) → IsListed (alternative_of item)
item_listed alts i item h is each = subst (λ a. IsListed (alternative_of a)) (sym is) (All-from_map IsListed alternative_of alts each i item h)

pub item_short : (f : Alternative UnitPlace → Alternative UnitPlace) (most : ℕ) (alts : List Alt) (i : ℕ) (item : Alt) → i < length alts → item ≡ get_or alts i item → greatest_length (map f (alternatives alts)) ≤ most → (f (alternative_of item)).cycles ≤ most
item_short f most alts i item h is short =
    let each = All-from_map (λ a. a.cycles ≤ most) f (alternatives alts) (length_within most (map f (alternatives alts)) short) in
    subst (λ a. (f (alternative_of a)).cycles ≤ most) (sym is) (All-from_map (λ a. (f a).cycles ≤ most) alternative_of alts each i item h)

-- none is larger than all together
pub item_small : (most : ℕ) (alts : List Alt) (i : ℕ) (item : Alt) → i < length alts → item ≡ get_or alts i item → total_weight (alternatives alts) ≤ most → weight (alternative_of item) ≤ most
item_small most alts i item h is small =
    let front : total_weight (alternatives (take (i + 1) alts)) ≡ total_weight (alternatives (take i alts)) + total_weight (alternative_of (get_or alts i item) ∷ []) =
    ap (λ xs. total_weight (alternatives xs)) (take_more alts i item h)
    ∙ (ap total_weight (map-append alternative_of (take i alts) (get_or alts i item ∷ []))
    ∙ weight-append (alternatives (take i alts)) (alternative_of (get_or alts i item) ∷ [])) in
    let whole : total_weight (alternatives alts) ≡ total_weight (alternatives (take (i + 1) alts)) + total_weight (alternatives (drop (i + 1) alts)) =
    ap (λ xs. total_weight (alternatives xs)) (sym (take-append-drop (i + 1) alts))
    ∙ (ap total_weight (map-append alternative_of (take (i + 1) alts) (drop (i + 1) alts))
    ∙ weight-append (alternatives (take (i + 1) alts)) (alternatives (drop (i + 1) alts))) in
    subst (λ a. weight (alternative_of a) ≤ most) (sym is) (omega (arith, front, whole, weight-cons (alternative_of (get_or alts i item)) []))

-- ---- all choices of two lists

module _ (join : Alternative UnitPlace → Alternative UnitPlace → Alternative UnitPlace) (alts : List Alt) (ys : List (Alternative UnitPlace)) where
  -- the choices with the first so many
  abbrev pub chosen : ℕ → List (Alternative UnitPlace)
  chosen i = each_choice join (alternatives (take i alts)) ys

  pub chosen_more : (i : ℕ) (d : Alt) → i < length alts → chosen i ++ map (join (alternative_of (get_or alts i d))) ys ≡ chosen (i + 1)
  chosen_more i d h =
      let x = alternative_of (get_or alts i d) in
      sym (ap (λ xs. each_choice join (alternatives xs) ys) (take_more alts i d h)
      ∙ (ap (λ xs. each_choice join xs ys) (map-append alternative_of (take i alts) (get_or alts i d ∷ []))
      ∙ (flat_map-append (λ a. map (join a) ys) (alternatives (take i alts)) (x ∷ [])
      ∙ ap (λ ws. chosen i ++ ws) (append-nil (map (join x) ys)))))

  -- all choices, cut after those with the first so many
  pub chosen_cut : (i : ℕ) → each_choice join (alternatives alts) ys ≡ chosen i ++ each_choice join (alternatives (drop i alts)) ys
  chosen_cut i =
      ap (λ xs. each_choice join (alternatives xs) ys) (sym (take-append-drop i alts))
      ∙ (ap (λ xs. each_choice join xs ys) (map-append alternative_of (take i alts) (drop i alts))
      ∙ flat_map-append (λ a. map (join a) ys) (alternatives (take i alts)) (alternatives (drop i alts)))

  pub chosen_within : (i : ℕ) → total_weight (chosen i) ≤ total_weight (each_choice join (alternatives alts) ys)
  chosen_within i =
      let all = ap total_weight (chosen_cut i) ∙ weight-append (chosen i) (each_choice join (alternatives (drop i alts)) ys) in
      omega arith

  module _ (i : ℕ) (item : Alt) (h : i < length alts) (is : item ≡ get_or alts i item) where
    next_chosen : chosen i ++ map (join (alternative_of item)) ys ≡ chosen (i + 1)
    next_chosen = ap (λ a. chosen i ++ map (join (alternative_of a)) ys) is ∙ chosen_more i item h

    pub chosen_next : (listing listing' : List (Alternative UnitPlace)) → listing ≡ chosen i → listing' ≡ listing ++ map (join (alternative_of item)) ys → listing' ≡ chosen (i + 1)
    chosen_next listing listing' before after = after ∙ (ap (λ ws. ws ++ map (join (alternative_of item)) ys) before ∙ next_chosen)

    pub chosen_short : (most : ℕ) → greatest_length (each_choice join (alternatives alts) ys) ≤ most → greatest_length (map (join (alternative_of item)) ys) ≤ most
    chosen_short most short =
        let all = ap greatest_length (chosen_cut (i + 1)) ∙ greatest-append (chosen (i + 1)) (each_choice join (alternatives (drop (i + 1) alts)) ys) in
        let next = ap greatest_length (sym next_chosen) ∙ greatest-append (chosen i) (map (join (alternative_of item)) ys) in
        omega arith

    pub chosen_refused : (most : ℕ) (listing : List (Alternative UnitPlace)) (fault : AlternFault) → listing ≡ chosen i → Refuses most (listing ++ map (join (alternative_of item)) ys) fault → Refuses most (each_choice join (alternatives alts) ys) fault
    chosen_refused most listing fault before refused =
        refuses_larger most (chosen (i + 1)) (each_choice join (alternatives alts) ys) (chosen_within (i + 1)) fault
        (subst (λ ws. Refuses most ws fault) (ap (λ ws. ws ++ map (join (alternative_of item)) ys) before ∙ next_chosen) refused)
