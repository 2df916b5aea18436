-- Where an expression keeps the two rules, its alternatives factor.
use Rattle.std.proofs.Common.{◌≡◌, ℕ, zero, suc, ◌<◌, ◌≤◌, ⊎_elim, inl, inr, Bool, true, false, ◌&&◌, not, List, [], ◌∷◌, Contains, Option, Some, None, refl, sym, ap, ◌∙◌, subst, arith}
use Rattle.std.specs.Prelude.{◌==◌, nat_le}
use Rattle.std.specs.List.{list_any, flat_map}
use Rattle.std.proofs.lemmas.Bool.{cases_lt, cases_Bool, or_parts, both_ways, true_from_ne_false, eqb-true, not_from_false, le-leb}
use Rattle.std.proofs.lemmas.List.Elements.{Contains-append_left, Contains-append_right}
use Rattle.std.proofs.lemmas.List.Folds.{list_any_at}
use Rattle.hz_base_model.specs.Pairs.{Pair}
use Rattle.hz_description_model.specs.Reservations.Alternatives.{Expression, named, nothing, sequence, one_of, all_of, repeat, Parts, none, more, empty, idle, taking, followed_by, beside, each_choice, copies, alternatives_of, in_sequence, any_of, together}
use Rattle.hz_description_model.specs.Reservations.Automata.{UnitPlace}
use Rattle.hz_description_model.specs.Reservations.Meanings.{Meaning, unit, reservation, Mentions, MentionsIn, Unwinds, Expands, alternatives_of_meaning}
use Rattle.hz_description_model.specs.Splits.Rules.{are_mixed, hold_two_automata, differ_in_length, somewhere, somewhere_in, of_reservation, passes, passes_in, is_mixed, differ_before_last, is_uneven, is_mixed_class, is_uneven_class}
use Rattle.hz_base_model.proofs.Elements.{Contains-nil, Contains-cons_cases}
use Rattle.hz_description_model.proofs.Reservations.ExpressionLaws.{one_followed}
use Rattle.hz_pipeline_model.proofs.Pipelines.Choices.{Alt, Factors, there, each_factors, one_factors, single_factors, none_factors, alike_beside, alike_followed}

-- where a test passes for no item, it fails for each
fails_at : {A : Type 0} (p : A → Bool) (xs : List A) (x : A) → list_any p xs ≡ false → Contains xs x → p x ≡ false
fails_at p xs x e h = ⊎_elim
    (λ (passes : p x ≡ true). absurd (both_ways (list_any p xs) e (list_any_at p xs h.0 x h.1 (ap p h.2 ∙ passes))))
    (λ (fails : p x ≡ false). fails)
    (cases_Bool (p x))

same_number : (a b : ℕ) → not (a == b) ≡ false → a ≡ b
same_number a b e = eqb-true a b (true_from_ne_false (a == b) (λ no. both_ways (not (a == b)) e (not_from_false (a == b) no)))

pub Contains-flat_map : {A B : Type 0} (f : A → List B) (xs : List A) (x : A) (y : B) → Contains xs x → Contains (f x) y → Contains (flat_map f xs) y
Contains-flat_map f [] x y h k = absurd (Contains-nil x h)
Contains-flat_map {B = B} f (z ∷ xs) x y h k = ⊎_elim
    (λ (e : z ≡ x). Contains-append_left (f z) (flat_map f xs) y (subst (λ w. Contains (f w) y) (sym e) k))
    (λ (c : Contains xs x). Contains-append_right (f z) (flat_map f xs) y (Contains-flat_map f xs x y c k))
    (Contains-cons_cases z x xs h)

-- alternatives of one length
one_length : (xs : List Alt) → differ_in_length xs ≡ false → (x y : Alt) → Contains xs x → Contains xs y → x.cycles ≡ y.cycles
one_length [] e x y h k = absurd (Contains-nil x h)
one_length (z ∷ xs) e x y h k = as_first x h ∙ sym (as_first y k)
  where
    as_first : (x : Alt) → Contains (z ∷ xs) x → x.cycles ≡ z.cycles
    as_first x h = ⊎_elim
        (λ (e : z ≡ x). ap (λ (w : Alt). w.cycles) (sym e))
        (λ (c : Contains xs x). same_number x.cycles z.cycles (fails_at (λ b. not (b.cycles == z.cycles)) xs x e c))
        (Contains-cons_cases z x xs h)

module _ (count : ℕ) (some : 0 < count) where
  -- alternatives that do not hold units of two automata hold those of one
  not_mixed : (xs : List Alt) → hold_two_automata xs ≡ false → Factors count xs
  not_mixed xs e = by_pairs (flat_map (λ a. a.pairs) xs) e (λ x h p k. Contains-flat_map (λ (a : Alt). a.pairs) xs x p h k)
    where
      by_pairs : (all : List (Pair UnitPlace)) → are_mixed all ≡ false → ((x : Alt) → Contains xs x → (p : Pair UnitPlace) → Contains x.pairs p → Contains all p) → Factors count xs
      by_pairs [] e each = one_factors count 0 xs (record { below = some; of = λ x h p k lt. absurd (Contains-nil p (each x h p k)) })
      by_pairs (q ∷ all) e each =
          let same = λ (x : Alt) (h : Contains xs x) (p : Pair UnitPlace) (k : Contains x.pairs p). ⊎_elim
          (λ (is : q ≡ p). ap (λ (r : Pair UnitPlace). r.unit.automaton) (sym is))
          (λ (c : Contains all p). same_number p.unit.automaton q.unit.automaton (fails_at (λ r. not (r.unit.automaton == q.unit.automaton)) all p e c))
          (Contains-cons_cases q p all (each x h p k)) in
          ⊎_elim
          (λ (lt : q.unit.automaton < count). one_factors count q.unit.automaton xs (record { below = lt; of = λ x h p k low. same x h p k }))
          (λ (ge : count ≤ q.unit.automaton). one_factors count 0 xs (record { below = some; of = λ x h p k low. absurd (let is = same x h p k in omega arith) }))
          (cases_lt q.unit.automaton count)

  -- one list after another of one length, and beside another
  followed_factors : (xs ys : List Alt) → differ_in_length xs ≡ false → Factors count xs → Factors count ys → Factors count (each_choice followed_by xs ys)
  followed_factors xs ys one f g = each_factors count followed_by xs ys
      (λ a x x' y y' h k. alike_followed a x.item x'.item y.item y'.item (one_length xs one x.item x'.item (there xs x) (there xs x')) h k) f g

  beside_factors : (xs ys : List Alt) → Factors count xs → Factors count ys → Factors count (each_choice beside xs ys)
  beside_factors xs ys f g = each_factors count beside xs ys (λ a x x' y y' h k. alike_beside a x.item x'.item y.item y'.item h k) f g

  copies_factor : (n : ℕ) (xs : List Alt) → differ_in_length xs ≡ false → Factors count xs → Factors count (copies n xs)
  copies_factor zero xs one f = single_factors count empty
  copies_factor (suc n) xs one f = followed_factors xs (copies n xs) one f (copies_factor n xs one f)

  repeat_factors : (n : ℕ) (xs : List Alt) → (nat_le 2 n && differ_in_length xs) ≡ false → Factors count xs → Factors count (copies n xs)
  repeat_factors zero xs one f = single_factors count empty
  repeat_factors (suc zero) xs one f = subst (Factors count) (sym (one_followed xs)) f
  repeat_factors (suc (suc n)) xs one f =
      let two : nat_le 2 (suc (suc n)) ≡ true = le-leb 2 (suc (suc n)) (omega arith) in
      copies_factor (suc (suc n)) xs (sym (ap (λ (b : Bool). b && differ_in_length xs) two) ∙ one) f

  module _ (known : List ℕ → List Alt) where
    module _ (mixed uneven : List ℕ → Bool) where
      -- the names factor that keep the rules inside
      abbrev NamesFactor : (List ℕ → Type 0) → Type 0
      NamesFactor names = (name : List ℕ) → names name → mixed name ≡ false → uneven name ≡ false → Factors count (known name)

      mutual
        pub expression_factors : (e : Expression) → somewhere (is_mixed known) mixed e ≡ false → somewhere (is_uneven known) uneven e ≡ false → NamesFactor (Mentions e) → Factors count (alternatives_of known e)
        expression_factors (named name) m u names = names name refl m u
        expression_factors nothing m u names = single_factors count idle
        expression_factors (sequence parts) m u names =
            let apart = or_parts (is_uneven known (sequence parts)) (somewhere_in (is_uneven known) uneven parts) u in
            sequence_factors parts apart.0 (or_parts (is_mixed known (sequence parts)) (somewhere_in (is_mixed known) mixed parts) m).1 apart.1 names
        expression_factors (one_of parts) m u names = not_mixed (any_of known parts) (or_parts (is_mixed known (one_of parts)) (somewhere_in (is_mixed known) mixed parts) m).0
        expression_factors (all_of parts) m u names = together_factors parts
            (or_parts (is_mixed known (all_of parts)) (somewhere_in (is_mixed known) mixed parts) m).1
            (or_parts (is_uneven known (all_of parts)) (somewhere_in (is_uneven known) uneven parts) u).1 names
        expression_factors (repeat part times) m u names =
            let apart = or_parts (is_uneven known (repeat part times)) (somewhere (is_uneven known) uneven part) u in
            repeat_factors times (alternatives_of known part) apart.0
            (expression_factors part (or_parts (is_mixed known (repeat part times)) (somewhere (is_mixed known) mixed part) m).1 apart.1 names)

        sequence_factors : (parts : Parts) → differ_before_last known parts ≡ false → somewhere_in (is_mixed known) mixed parts ≡ false → somewhere_in (is_uneven known) uneven parts ≡ false → NamesFactor (MentionsIn parts) → Factors count (in_sequence known parts)
        sequence_factors none one m u names = single_factors count empty
        sequence_factors (more last none) one m u names = subst (Factors count) (sym (one_followed (alternatives_of known last)))
            (expression_factors last
            (or_parts (somewhere (is_mixed known) mixed last) (somewhere_in (is_mixed known) mixed none) m).0
            (or_parts (somewhere (is_uneven known) uneven last) (somewhere_in (is_uneven known) uneven none) u).0
            (λ name h. names name (inl h)))
        sequence_factors (more first (more second others)) one m u names =
            let length = or_parts (differ_in_length (alternatives_of known first)) (differ_before_last known (more second others)) one in
            let ms = or_parts (somewhere (is_mixed known) mixed first) (somewhere_in (is_mixed known) mixed (more second others)) m in
            let us = or_parts (somewhere (is_uneven known) uneven first) (somewhere_in (is_uneven known) uneven (more second others)) u in
            followed_factors (alternatives_of known first) (in_sequence known (more second others)) length.0
            (expression_factors first ms.0 us.0 (λ name h. names name (inl h)))
            (sequence_factors (more second others) length.1 ms.1 us.1 (λ name h. names name (inr h)))

        together_factors : (parts : Parts) → somewhere_in (is_mixed known) mixed parts ≡ false → somewhere_in (is_uneven known) uneven parts ≡ false → NamesFactor (MentionsIn parts) → Factors count (together known parts)
        together_factors none m u names = single_factors count empty
        together_factors (more first others) m u names =
            let ms = or_parts (somewhere (is_mixed known) mixed first) (somewhere_in (is_mixed known) mixed others) m in
            let us = or_parts (somewhere (is_uneven known) uneven first) (somewhere_in (is_uneven known) uneven others) u in
            beside_factors (alternatives_of known first) (together known others)
            (expression_factors first ms.0 us.0 (λ name h. names name (inl h)))
            (together_factors others ms.1 us.1 (λ name h. names name (inr h)))

    module _ (meaning : List ℕ → Option (Meaning UnitPlace)) (ranks : Unwinds meaning) (expands : Expands meaning known) where
      -- the names whose rank is within a depth
      meaning_factors : (mixed uneven : List ℕ → Bool) (o : Option (Meaning UnitPlace)) → of_reservation (somewhere (is_mixed known) mixed) o ≡ false → of_reservation (somewhere (is_uneven known) uneven) o ≡ false
          → ((e : Expression) → o ≡ Some (reservation e) → NamesFactor mixed uneven (Mentions e)) → Factors count (alternatives_of_meaning known o)
      meaning_factors mixed uneven None m u names = none_factors count
      meaning_factors mixed uneven (Some (unit place)) m u names = single_factors count (taking place)
      meaning_factors mixed uneven (Some (reservation e)) m u names = expression_factors mixed uneven e m u (names e refl)

      name_factors : (depth : ℕ) (name : List ℕ) → ranks.rank name ≤ depth → passes (is_mixed known) meaning depth name ≡ false → passes (is_uneven known) meaning depth name ≡ false → Factors count (known name)
      name_factors zero name low m u = subst (Factors count) (sym (expands name))
          (meaning_factors (λ other. false) (λ other. false) (meaning name) m u
          (λ e is other h m' u'. let falls = ranks.falls name other e is h in absurd (omega arith)))
      name_factors (suc depth) name low m u = subst (Factors count) (sym (expands name))
          (meaning_factors (passes (is_mixed known) meaning depth) (passes (is_uneven known) meaning depth) (meaning name) m u
          (λ e is other h m' u'. let falls = ranks.falls name other e is h in name_factors depth other (omega arith) m' u'))

      pub class_factors : (depth : ℕ) → ((name : List ℕ) → ranks.rank name ≤ depth) → (e : Expression) → is_mixed_class meaning depth known e ≡ false → is_uneven_class meaning depth known e ≡ false → Factors count (alternatives_of known e)
      class_factors depth low e m u = ⊎_elim
          (λ (two : hold_two_automata (alternatives_of known e) ≡ true).
          expression_factors (passes (is_mixed known) meaning depth) (passes (is_uneven known) meaning depth) e m
          (sym (ap (λ (b : Bool). b && passes_in (is_uneven known) meaning depth e) two) ∙ u)
          (λ name h m' u'. name_factors depth name (low name) m' u'))
          (λ (one : hold_two_automata (alternatives_of known e) ≡ false). not_mixed (alternatives_of known e) one)
          (cases_Bool (hold_two_automata (alternatives_of known e)))
