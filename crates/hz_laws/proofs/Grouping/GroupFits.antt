-- Pairs fit where the pairs of each group do.
use Rattle.std.proofs.Common.{◌≡◌, ℕ, List, ◌++◌, Contains, refl, ap, ◌∙◌, subst, ⊎_elim}
use Rattle.std.specs.Prelude.{◌↔◌, ◌==◌}
use Rattle.std.proofs.lemmas.Bool.{eq-eqb}
use Rattle.std.proofs.lemmas.List.Elements.{Contains-append_left, Contains-append_right, Contains-append_cases}
use Rattle.hz_base_model.specs.Pairs.{Pair, SamePairs, later, placed}
use Rattle.hz_base_model.proofs.Elements.{Contains-filter, Contains-from_filter, Contains-map, Contains-from_map}
use Rattle.hz_description_model.specs.Reservations.Sets.{Statement, Holds, Fits}
use Rattle.hz_laws.specs.Grouping.{GroupLists, of_group, IsAt, IsOfGroup}
use Rattle.hz_laws.proofs.Moving.FitLaws.{Agrees, allows_agreed}

module _ {U : Type 0} (group : U → ℕ) where
  -- a pair of one group is among pairs where it is among those of the group in others
  into_group : (a : ℕ) (xs ys : List (Pair U)) → SamePairs (of_group group a xs) (of_group group a ys) → (p : Pair U) → group p.unit ≡ a → Contains xs p → Contains ys p
  into_group a xs ys same p is h =
      let here = Contains-filter (λ (q : Pair U). group q.unit == a) p (eq-eqb (group p.unit) a is) xs h in
      (Contains-from_filter (λ (q : Pair U). group q.unit == a) p ys ((same p).0 here)).0

  back : (a : ℕ) (xs ys : List (Pair U)) → SamePairs (of_group group a xs) (of_group group a ys) → SamePairs (of_group group a ys) (of_group group a xs)
  back a xs ys same p = ((same p).1, (same p).0)

  -- what is the same in each group is the same
  pub same_by_groups : (xs ys : List (Pair U)) → ((a : ℕ) → SamePairs (of_group group a xs) (of_group group a ys)) → SamePairs xs ys
  same_by_groups xs ys same p =
      let a = group p.unit in (into_group a xs ys (same a) p refl, into_group a ys xs (back a xs ys (same a)) p refl)

  pub same_in_group : (a : ℕ) (xs ys : List (Pair U)) → SamePairs xs ys → SamePairs (of_group group a xs) (of_group group a ys)
  same_in_group a xs ys same p = (there xs ys (λ q. (same q).0), there ys xs (λ q. (same q).1))
    where
      there : (xs ys : List (Pair U)) → ((q : Pair U) → Contains xs q → Contains ys q) → Contains (of_group group a xs) p → Contains (of_group group a ys) p
      there xs ys into h =
          let found = Contains-from_filter (λ (q : Pair U). group q.unit == a) p xs h in
          Contains-filter (λ (q : Pair U). group q.unit == a) p found.1 ys (into p found.0)

  -- pairs with the same numbers in the groups' lists are the same
  pub same_at : (lists : GroupLists U) (numbers : ℕ → ℕ) (xs ys : List (Pair U)) → IsAt group lists numbers xs → IsAt group lists numbers ys → SamePairs xs ys
  same_at lists numbers xs ys h k = same_by_groups xs ys (λ a p. (λ x. (k a p).1 ((h a p).0 x), λ y. (h a p).1 ((k a p).0 y)))

  -- a unit of a group is held by what is placed where the pairs of its group hold it
  placed_into : (a now : ℕ) (xs ys : List (Pair U)) → SamePairs (of_group group a xs) (of_group group a ys) → (p : Pair U) → group p.unit ≡ a → Contains (placed now xs) p → Contains (placed now ys) p
  placed_into a now xs ys same p is h =
      let found = Contains-from_map (later now) xs p h in
      let unit : (found.0).unit ≡ p.unit = ap (λ (q : Pair U). q.unit) found.2 in
      let there = into_group a xs ys same found.0 (ap group unit ∙ is) found.1 in
      subst (λ (q : Pair U). Contains (placed now ys) q) found.2 (Contains-map (later now) ys found.0 there)

  result_into : (source xs ys : List (Pair U)) (p : Pair U) → (Contains xs p → Contains ys p) → Contains (source ++ xs) p → Contains (source ++ ys) p
  result_into source xs ys p into h = ⊎_elim
      (λ (l : Contains source p). Contains-append_left source ys p l)
      (λ (r : Contains xs p). Contains-append_right source ys p (into r))
      (Contains-append_cases source xs p h)

  module _ (statements : List (Statement U)) (tied : (s : Statement U) → Contains statements s → IsOfGroup group s) (source : List (Pair U)) (now : ℕ) (pairs : List (Pair U)) where
    -- some pairs that fit have the same of the group
    abbrev FitsOf : ℕ → Type 0
    FitsOf a = (others : List (Pair U)) × Fits statements source others now × SamePairs (of_group group a pairs) (of_group group a others)

    agrees_in : (a : ℕ) (others : List (Pair U)) → SamePairs (of_group group a pairs) (of_group group a others) → (s : Statement U) (of : IsOfGroup group s) → of.number ≡ a → (cycle : ℕ)
        → Agrees s (Holds (placed now others) cycle) (Holds (placed now pairs) cycle) × Agrees s (Holds (source ++ placed now others) cycle) (Holds (source ++ placed now pairs) cycle)
    agrees_in a others same s of e cycle = (
      record { units = λ u is. added u (of.units u is ∙ e); patterns = λ pattern there u is. added u (of.patterns pattern there u is ∙ e) },
      record { units = λ u is. result u (of.units u is ∙ e); patterns = λ pattern there u is. result u (of.patterns pattern there u is ∙ e) },
    )
      where
        added : (u : U) → group u ≡ a → Holds (placed now others) cycle u ↔ Holds (placed now pairs) cycle u
        added u is = (placed_into a now others pairs (back a pairs others same) _ is, placed_into a now pairs others same _ is)

        result : (u : U) → group u ≡ a → Holds (source ++ placed now others) cycle u ↔ Holds (source ++ placed now pairs) cycle u
        result u is = (result_into source (placed now others) (placed now pairs) _ (added u is).0, result_into source (placed now pairs) (placed now others) _ (added u is).1)

    -- pairs fit where, group by group, they are those of pairs that fit
    pub fits_by_groups : ((a : ℕ) → FitsOf a) → Fits statements source pairs now
    fits_by_groups each = record {
      apart = λ p there h.
          let a = group p.unit in
          let one = each a in
          one.1.apart p there (placed_into a now pairs one.0 one.2 p refl h);
      allowed = λ s is cycle.
          let of = tied s is in
          let one = each of.number in
          let agree = agrees_in of.number one.0 one.2 s of refl cycle in
          allows_agreed s _ _ _ _ _ _ (record { units = λ u is. (λ h. h, λ h. h); patterns = λ pattern there u is. (λ h. h, λ h. h) }) agree.0 agree.1 (one.1.allowed s is cycle);
    }
