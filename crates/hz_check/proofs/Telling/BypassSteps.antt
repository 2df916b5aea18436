-- Bypasses one by one: the first that gives a pair another number, and the numbers that are held after one that does not.
use Rattle.std.proofs.Common.{◌≡◌, ℕ, suc, ◌≤◌, ◌==◌, List, [], ◌∷◌, ◌++◌, filter, get_or, Option, Some, None, Bool, true, false, ◌||◌, ◌&&◌, not, is_some, refl, sym, ap, ◌∙◌, subst, arith, cond, All}
use Rattle.std.proofs.Math.Bool.{or-false}
use Rattle.std.proofs.lemmas.Bool.{eqb-true}
use Rattle.std.proofs.lemmas.Bool.Decides.{same_from_decides, Decides-eqb}
use Rattle.std.proofs.lemmas.List.Folds.{list_any-append}
use Rattle.std.proofs.lemmas.List.Quantifiers.{position-Some}
use Rattle.std.proofs.lemmas.Option.{same_Some}
use Rattle.std.proofs.lemmas.Slice.Eq.{bytes_eq-Decides}
use Rattle.std.specs.List.{list_any}
use Rattle.std.specs.Option.{option_map}
use Rattle.std.specs.Str.{bytes_eq}
use Rattle.hz_checked.specs.NumberRows.{number_at, is_other}
use Rattle.hz_check.proofs.HeldNumbers.{HoldsNumbers}
use Rattle.hz_check.specs.Names.First.{first_of}
use Rattle.hz_check.proofs.Lists.Earliest.{earliest-append, earlier-earlier}
use Rattle.hz_check.proofs.Lists.FirstOf.{earliest-sites_of}
use Rattle.hz_check.proofs.Lists.InOrder.{earlier_one}
use Rattle.hz_check.proofs.Tables.NameLists.{is_among-list_any}
use Rattle.hz_check.proofs.Telling.NumberSteps.{any-first, none_passes, same_name, any-numbers, first-numbers, IsFirstBy}
use Rattle.hz_description_model.specs.Check.CheckFaults.{is_class, differs, renumbered, renumbered_after}
use Rattle.hz_description_model.specs.Check.CheckedParts.{class_numbers}
use Rattle.hz_description_model.specs.Reading.Descriptions.{Description, BypassItem}
use Rattle.hz_base_model.specs.Lines.{place_of}
use Rattle.hz_description_model.specs.Check.Places.{class_names}
use Rattle.hz_description_model.specs.Check.Sites.{Site, is_among, earlier, earliest}

-- bypasses of later forms are reported later
earlier_bypasses : (s : Site) (before bypasses : List BypassItem) → All (λ b. s.form ≤ b.form) bypasses → earlier (Some s) (earliest (renumbered_after before bypasses)) ≡ Some s
earlier_bypasses s before [] all = refl
earlier_bypasses s before (b ∷ bypasses) all =
    let rest : Option Site = earliest (renumbered_after (before ++ b ∷ []) bypasses) in
    ap (earlier (Some s)) (earliest-append (renumbered before b) (renumbered_after (before ++ b ∷ []) bypasses))
    ∙ (sym (earlier-earlier (Some s) (earliest (renumbered before b)) rest)
    ∙ (ap (λ (o : Option Site). earlier o rest) (ap (earlier (Some s)) (earliest-sites_of b.line b.form (outs_of b)) ∙ one (first_of (outs_of b)))
    ∙ earlier_bypasses s (before ++ b ∷ []) bypasses (λ k d lt. all (suc k) d (omega arith))))
  where
    outs_of : BypassItem → List (List ℕ)
    outs_of c = filter (λ out. list_any (λ «in». list_any (differs c.number out «in») before) c.ins) c.outs

    one : (o : Option (List ℕ)) → earlier (Some s) (option_map (λ name. record { line = b.line; form = b.form; name = name }) o) ≡ Some s
    one None = refl
    one (Some name) = earlier_one s (record { line = b.line; form = b.form; name = name }) (all 0 b (omega arith))

same_other : (m number : ℕ) (old : Option ℕ) → is_other old m ≡ false → (is_other old number || (((not (m == number) && true) && true) || false)) ≡ not (m == number)
same_other m number None e = plain (not (m == number))
  where
    plain : (x : Bool) → (((x && true) && true) || false) ≡ x
    plain true = refl
    plain false = refl
same_other m number (Some g) e =
    subst (λ (n : ℕ). (not (n == number) || (((not (m == number) && true) && true) || false)) ≡ not (m == number)) (same (g == m) refl) (twice (not (m == number)))
  where
    twice : (x : Bool) → (x || (((x && true) && true) || false)) ≡ x
    twice true = refl
    twice false = refl

    same : (b : Bool) → (g == m) ≡ b → m ≡ g
    same true t = sym (eqb-true g m t)
    same false f = absurd (no (ap not f) e)
      where
        no : not (g == m) ≡ true → not (g == m) ≡ false → ⊥
        no x y = cc

-- what a number of a pair becomes
number_next : (m number : ℕ) (old : Option ℕ) (a b : Bool) → (a ≡ true → b ≡ true → is_other old m ≡ false) → (is_other old number || (((not (m == number) && a) && b) || false)) ≡ is_other (cond (a && b) (Some m) old) number
number_next m number old true true apart = same_other m number old (apart refl refl)
number_next m number old true false apart = none (not (m == number))
  where
    none : (x : Bool) → (is_other old number || (((x && true) && false) || false)) ≡ is_other old number
    none true = or-false (is_other old number)
    none false = or-false (is_other old number)
number_next m number old false b apart = none (not (m == number)) b
  where
    none : (x b : Bool) → (is_other old number || (((x && false) && b) || false)) ≡ is_other old number
    none true b = or-false (is_other old number)
    none false b = or-false (is_other old number)

module _ (d : Description) (rows : List (List (Option ℕ))) (before : List BypassItem) (b : BypassItem) (outs ins : List ℕ) (holds : HoldsNumbers d rows before)
    (known_outs : filter (λ n. not (is_class d n)) b.outs ≡ []) (known_ins : filter (λ n. not (is_class d n)) b.ins ≡ [])
    (first_outs : (p : ℕ → Bool) → first_of (filter p outs) ≡ first_of (filter p (class_numbers d b.outs)))
    (first_ins : (p : ℕ → Bool) → first_of (filter p ins) ≡ first_of (filter p (class_numbers d b.ins))) where
  any_outs : (p : ℕ → Bool) → list_any p outs ≡ list_any p (class_numbers d b.outs)
  any_outs p = any-first p outs ∙ (ap is_some (first_outs p) ∙ sym (any-first p (class_numbers d b.outs)))

  any_ins : (p : ℕ → Bool) → list_any p ins ≡ list_any p (class_numbers d b.ins)
  any_ins p = any-first p ins ∙ (ap is_some (first_ins p) ∙ sym (any-first p (class_numbers d b.ins)))

  -- a producing class has another number, by names and by numbers
  abbrev by_name : List ℕ → Bool
  by_name out = list_any (λ «in». list_any (differs b.number out «in») before) b.ins

  abbrev pub by_number : ℕ → Bool
  by_number o = list_any (λ i. is_other (number_at rows o i) b.number) ins

  same_test : (out : List ℕ) (o : ℕ) → place_of out (class_names d) ≡ Some o → list_any (λ «in». list_any (differs b.number out «in») before) b.ins ≡ by_number o
  same_test out o at =
      any-numbers d (λ «in». list_any (differs b.number out «in») before) (λ i. is_other (number_at rows o i) b.number) (λ «in» i at_in. holds.at b.number o i out «in» at at_in) b.ins known_ins
      ∙ sym (any_ins (λ i. is_other (number_at rows o i) b.number))

  first_out : IsFirstBy d by_name b.outs (first_of (filter by_number outs))
  first_out = subst (IsFirstBy d by_name b.outs) (sym (first_outs by_number)) (first-numbers d by_name by_number same_test b.outs known_outs)

  -- a producing class has another number: it is reported at its name
  pub reported_here : (o : ℕ) (later : List BypassItem) → first_of (filter by_number outs) ≡ Some o → All (λ c. b.form ≤ c.form) later
      → Some (record { line = b.line; form = b.form; name = get_or (class_names d) o [] }) ≡ earliest (renumbered_after before (b ∷ later))
  reported_here o later found all =
      let at = subst (IsFirstBy d by_name b.outs) found first_out in
      let name = at.0 in
      let site : Site = record { line = b.line; form = b.form; name = get_or (class_names d) o [] } in
      let same : name ≡ get_or (class_names d) o [] = (bytes_eq-Decides name (get_or (class_names d) o [])).0 (position-Some (bytes_eq name) (class_names d) o [] at.2).1 in
      let rest : List Site = renumbered_after (before ++ b ∷ []) later in
      let here : earliest (renumbered before b) ≡ Some site =
      earliest-sites_of b.line b.form (filter by_name b.outs) ∙ ap (option_map (λ (n : List ℕ). record { line = b.line; form = b.form; name = n })) (at.1 ∙ ap Some same) in
      sym (earliest-append (renumbered before b) rest ∙ (ap (λ (s : Option Site). earlier s (earliest rest)) here ∙ earlier_bypasses site (before ++ b ∷ []) later all))

  -- no producing class has another number: the bypass is not reported
  pub not_here : (later : List BypassItem) → first_of (filter by_number outs) ≡ None → earliest (renumbered_after before (b ∷ later)) ≡ earliest (renumbered_after (before ++ b ∷ []) later)
  not_here later none =
      let at : first_of (filter by_name b.outs) ≡ None = subst (IsFirstBy d by_name b.outs) none first_out in
      let rest : List Site = renumbered_after (before ++ b ∷ []) later in
      earliest-append (renumbered before b) rest
      ∙ ap (λ (s : Option Site). earlier s (earliest rest)) (earliest-sites_of b.line b.form (filter by_name b.outs) ∙ ap (option_map (λ (n : List ℕ). record { line = b.line; form = b.form; name = n })) at)

  -- a name is among those of the numbers
  among : (names : List (List ℕ)) (numbers : List ℕ) → filter (λ n. not (is_class d n)) names ≡ [] → ((p : ℕ → Bool) → list_any p numbers ≡ list_any p (class_numbers d names)) → (name : List ℕ) (n : ℕ) → place_of name (class_names d) ≡ Some n
      → is_among name names ≡ list_any (λ m. m == n) numbers
  among names numbers known any name n at =
      is_among-list_any name names ∙ (any-numbers d (bytes_eq name) (λ m. m == n) tests names known ∙ sym (any (λ m. m == n)))
    where
      tests : (other : List ℕ) (m : ℕ) → place_of other (class_names d) ≡ Some m → bytes_eq name other ≡ (m == n)
      tests other m at_other =
          same_from_decides (bytes_eq name other) (m == n) (bytes_eq-Decides name other)
          (λ t. same_name d name other n at (at_other ∙ ap Some (eqb-true m n t)), λ e. ap (λ (k : ℕ). k == n) (same_Some m n (sym at_other ∙ (ap (λ (x : List ℕ). place_of x (class_names d)) (sym e) ∙ at))) ∙ (Decides-eqb n n).1 refl)

  -- the numbers with those of the bypass
  pub holds_next : (new : List (List (Option ℕ))) → first_of (filter by_number outs) ≡ None
      → ((o i : ℕ) → number_at new o i ≡ cond (list_any (λ p. p == o) outs && list_any (λ j. j == i) ins) (Some b.number) (number_at rows o i)) → HoldsNumbers d new (before ++ b ∷ [])
  holds_next new none given = record {
    at = λ number o i out «in» at_out at_in.
        let there = among b.outs outs known_outs any_outs out o at_out in
        let also = among b.ins ins known_ins any_ins «in» i at_in in
        list_any-append (differs number out «in») before (b ∷ [])
        ∙ (ap (λ (t : Bool). t || (differs number out «in» b || false)) (holds.at number o i out «in» at_out at_in)
        ∙ (ap (λ (t : Bool). is_other (number_at rows o i) number || (((not (b.number == number) && t) && is_among «in» b.ins) || false)) there
        ∙ (ap (λ (t : Bool). is_other (number_at rows o i) number || (((not (b.number == number) && list_any (λ p. p == o) outs) && t) || false)) also
        ∙ (number_next b.number number (number_at rows o i) (list_any (λ p. p == o) outs) (list_any (λ j. j == i) ins)
        (λ e f. none_passes (λ j. is_other (number_at rows o j) b.number) ins i (none_passes by_number outs o (any-first by_number outs ∙ ap is_some none) e) f)
        ∙ ap (λ (n : Option ℕ). is_other n number) (sym (given o i))))));
  }
