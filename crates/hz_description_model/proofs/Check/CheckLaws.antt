-- A description has one fault at one place, or it is sound.
use Rattle.std.proofs.Common.{◌≡◌, ℕ, List, [], ◌∷◌, ◌++◌, Option, Some, Bool, Contains, refl, sym, ap, ◌∙◌, subst, arith}
use Rattle.std.specs.Prelude.{IsTrue, IsFalse, nat_lt}
use Rattle.std.proofs.lemmas.Option.{same_Some, none-some}
use Rattle.std.proofs.Math.Path.{fun_ext}
use Rattle.std.proofs.lemmas.List.Elements.{All-contains}
use Rattle.hz_base_model.proofs.Elements.{Contains-tail}
use Rattle.hz_description_model.specs.Check.CheckFaults.{CheckFault, faults_of_names, faults_of_meanings, IsFirst, IsCircular, IsUnfolded, CheckFaultAt, IsSound}
use Rattle.hz_description_model.specs.Check.CountingOrder.{Reserving, Merged, Counted, IsCountingOrder, has_come, named_by, reservation_names, reservations_of, classes_of, reservation_site}
use Rattle.hz_description_model.specs.Check.FirstReported.{Reported, first_reported}
use Rattle.hz_description_model.specs.Reading.Descriptions.{Description, ReservationItem}
use Rattle.hz_description_model.specs.Check.Places.{IsKnown, meaning, Known}
use Rattle.hz_description_model.specs.Check.Sites.{Site}
use Rattle.hz_description_model.proofs.Reservations.MeaningLaws.{one_assignment, none_reaches_itself}

-- a test is not both
both : (b : Bool) → IsTrue b → IsFalse b → ⊥
both b t f = cc

-- one merge
merged_one : (first second a b : List Reserving) → Merged first second a → Merged first second b → a ≡ b
merged_one _ _ _ _ Merged.no_first Merged.no_first = refl
merged_one _ _ _ _ Merged.no_first Merged.no_second = refl
merged_one _ _ _ _ Merged.no_second Merged.no_first = refl
merged_one _ _ _ _ Merged.no_second Merged.no_second = refl
merged_one _ _ _ _ (Merged.from_first {r = r} {s = s} {first = first} {second = second} {merged = a} low x) (Merged.from_first {merged = b} low' y) = ap (λ (rs : List Reserving). r ∷ rs) (merged_one first (s ∷ second) a b x y)
merged_one _ _ _ _ (Merged.from_first {r = r} {s = s} low x) (Merged.from_second high y) = absurd (both (nat_lt r.site.form s.site.form) low high)
merged_one _ _ _ _ (Merged.from_second {r = r} {s = s} high x) (Merged.from_first low y) = absurd (both (nat_lt r.site.form s.site.form) low high)
merged_one _ _ _ _ (Merged.from_second {r = r} {s = s} {first = first} {second = second} {merged = a} high x) (Merged.from_second {merged = b} high' y) = ap (λ (rs : List Reserving). s ∷ rs) (merged_one (r ∷ first) second a b x y)

-- one counting order
counted_one : (d : Description) (before : List (List ℕ)) (items a b : List Reserving) → Counted d before items a → Counted d before items b → a ≡ b
counted_one d _ _ _ _ Counted.ends Counted.ends = refl
counted_one d _ _ _ _ (Counted.came {before = before} {items = items} {order = a} t x) (Counted.came {order = b} t' y) = counted_one d before items a b x y
counted_one d _ _ _ _ (Counted.came {before = before} {r = r} t x) (Counted.comes f y y') = absurd (both (has_come before r) t f)
counted_one d _ _ _ _ (Counted.comes {before = before} {r = r} f x x') (Counted.came t y) = absurd (both (has_come before r) t f)
counted_one d _ _ _ _ (Counted.comes {before = before} {r = r} {items = items} {inner = inner} {order = a} f x x') (Counted.comes {inner = inner'} {order = b} f' y y') =
    let same = counted_one d before (named_by d r) inner inner' x y in
    ap (λ (rs : List Reserving). rs ++ r ∷ a) same
    ∙ ap (λ (rs : List Reserving). inner' ++ r ∷ rs)
    (counted_one d (before ++ reservation_names (inner ++ r ∷ [])) items a b x'
    (subst (λ (rs : List Reserving). Counted d (before ++ reservation_names (rs ++ r ∷ [])) items b) (sym same) y'))

-- the first item is one
pub first_one : {A : Type 0} (P : A → Type 0) (xs : List A) (x y : A) → IsFirst P xs x → IsFirst P xs y → x ≡ y
first_one P xs x y a b = go a.before b.before a.after b.after (sym a.parts ∙ b.parts)
    (λ z h p. All-contains (λ other. P other → ⊥) a.before z a.others h p) (λ z h p. All-contains (λ other. P other → ⊥) b.before z b.others h p)
  where
    go : (p q r s : List _) → p ++ x ∷ r ≡ q ++ y ∷ s → ((z : _) → Contains p z → P z → ⊥) → ((z : _) → Contains q z → P z → ⊥) → x ≡ y
    go [] [] r s e f g = cc
    go [] (w ∷ q) r s e f g = absurd (g x (let same : w ≡ x = cc in (0, omega arith, same)) a.holds)
    go (w ∷ p) [] r s e f g = absurd (f y (let same : w ≡ y = cc in (0, omega arith, same)) b.holds)
    go (v ∷ p) (w ∷ q) r s e f g =
        let tail : p ++ x ∷ r ≡ q ++ y ∷ s = cc in
        go p q r s tail (λ z h. f z (Contains-tail v z p h)) (λ z h. g z (Contains-tail w z q h))

module _ (d : Description) where
  -- names have one assignment
  pub known_one : (known other : Known) → IsKnown d known → IsKnown d other → known ≡ other
  known_one known other a b = fun_ext (λ name. one_assignment (meaning d) a.unwinds known other a.expands b.expands name)

  order_one : (a b : List Reserving) → IsCountingOrder d a → IsCountingOrder d b → a ≡ b
  order_one a b x y =
      counted_one d [] x.file a b x.counted
      (subst (λ (file : List Reserving). Counted d [] file b) (merged_one (reservations_of d) (classes_of d) y.file x.file y.merged x.merged) y.counted)

  -- where no reservation reaches itself none is circular
  no_circle : (known : Known) (order : List Reserving) (r : ReservationItem) → IsUnfolded d known order → IsFirst (IsCircular d) d.reservations r → ⊥
  no_circle known order r u first = none_reaches_itself (meaning d) ((u.right).unwinds) r.name first.holds

  -- what is reported of meanings depends on the description alone
  meanings_one : (known other : Known) (a b : List Reserving) → IsUnfolded d known a → IsUnfolded d other b → first_reported (faults_of_meanings d known a) ≡ first_reported (faults_of_meanings d other b)
  meanings_one known other a b u v =
      ap (λ (k : Known). first_reported (faults_of_meanings d k a)) (known_one known other u.right v.right)
      ∙ ap (λ (o : List Reserving). first_reported (faults_of_meanings d other o)) (order_one a b u.counts v.counts)

  reported_one : (o : Option (Reported CheckFault)) (a b : Reported CheckFault) → o ≡ Some a → o ≡ Some b → (a.fault ≡ b.fault) × (a.site ≡ b.site)
  reported_one o a b x y = let same = same_Some a b (sym x ∙ y) in (ap (λ (t : Reported CheckFault). t.fault) same, ap (λ (t : Reported CheckFault). t.site) same)

  -- a description has at most one fault, at one place
  pub fault_one : (f g : CheckFault) (s t : Site) → CheckFaultAt d f s → CheckFaultAt d g t → (f ≡ g) × (s ≡ t)
  fault_one _ _ _ _ (CheckFaultAt.of_names {reported = a} x) (CheckFaultAt.of_names {reported = b} y) = reported_one (first_reported (faults_of_names d)) a b x y
  fault_one _ _ _ _ (CheckFaultAt.of_names {reported = a} x) (CheckFaultAt.of_circle y _) = absurd (none-some a (sym y ∙ x))
  fault_one _ _ _ _ (CheckFaultAt.of_names {reported = a} x) (CheckFaultAt.of_meanings u _) = absurd (none-some a (sym u.defined ∙ x))
  fault_one _ _ _ _ (CheckFaultAt.of_circle x _) (CheckFaultAt.of_names {reported = b} y) = absurd (none-some b (sym x ∙ y))
  fault_one _ _ _ _ (CheckFaultAt.of_circle {r = r} _ x) (CheckFaultAt.of_circle {r = q} _ y) = (refl, ap reservation_site (first_one (IsCircular d) d.reservations r q x y))
  fault_one _ _ _ _ (CheckFaultAt.of_circle {r = r} _ x) (CheckFaultAt.of_meanings {known = known} {order = order} u _) = absurd (no_circle known order r u x)
  fault_one _ _ _ _ (CheckFaultAt.of_meanings u _) (CheckFaultAt.of_names {reported = b} y) = absurd (none-some b (sym u.defined ∙ y))
  fault_one _ _ _ _ (CheckFaultAt.of_meanings {known = known} {order = order} u _) (CheckFaultAt.of_circle {r = r} _ y) = absurd (no_circle known order r u y)
  fault_one _ _ _ _ (CheckFaultAt.of_meanings {known = known} {order = order} {reported = a} u x) (CheckFaultAt.of_meanings {known = other} {order = order'} {reported = b} v y) =
      reported_one (first_reported (faults_of_meanings d known order)) a b x (meanings_one known other order order' u v ∙ y)

  -- and no sound description has one
  pub fault_or_sound : (f : CheckFault) (s : Site) (known : Known) → CheckFaultAt d f s → IsSound d known → ⊥
  fault_or_sound _ _ known (CheckFaultAt.of_names {reported = a} x) sound = none-some a (sym ((sound.unfolded).defined) ∙ x)
  fault_or_sound _ _ known (CheckFaultAt.of_circle {r = r} _ x) sound = no_circle known sound.order r sound.unfolded x
  fault_or_sound _ _ known (CheckFaultAt.of_meanings {known = other} {order = order} {reported = a} u x) sound =
      none-some a (sym sound.free ∙ (meanings_one known other sound.order order sound.unfolded u ∙ x))

  -- a sound description has one assignment of alternatives
  pub sound_one : (known other : Known) → IsSound d known → IsSound d other → known ≡ other
  sound_one known other a b = known_one known other ((a.unfolded).right) ((b.unfolded).right)
