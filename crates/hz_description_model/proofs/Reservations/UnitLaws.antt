-- A property of all units of the names is one of all units of an expression.
use Rattle.std.proofs.Common.{◌≡◌, ℕ, zero, suc, List, [], ◌∷◌, ◌++◌, map, Contains, refl, ap, subst, inl, inr, ⊎_elim}
use Rattle.std.specs.List.{flat_map}
use Rattle.std.proofs.lemmas.List.Elements.{Contains-append_cases}
use Rattle.hz_base_model.specs.Pairs.{Pair, later, placed}
use Rattle.hz_description_model.specs.Reservations.Alternatives.{Alternative, followed_by, beside, empty, idle, each_choice, copies, Expression, named, nothing, sequence, one_of, all_of, repeat, Parts, none, more, alternatives_of, in_sequence, any_of, together}
use Rattle.hz_description_model.specs.Reservations.Meanings.{Mentions, MentionsIn}
use Rattle.hz_base_model.proofs.Elements.{Contains-nil, Contains-head, Contains-tail, Contains-cons_cases, Contains-from_map}

-- the units of alternatives
module _ {U : Type 0} (P : U → Type 0) where
  -- each unit of a pair has the property
  pub record AreAll (a : Alternative U) : Type 0 where
    pub each : (p : Pair U) → Contains a.pairs p → P p.unit

  pub record AreAllOf (alternatives : List (Alternative U)) : Type 0 where
    pub each : (a : Alternative U) → Contains alternatives a → AreAll a

  all_idle : AreAll idle
  all_idle = record { each = λ p h. absurd (Contains-nil p h) }

  all_empty : AreAll empty
  all_empty = record { each = λ p h. absurd (Contains-nil p h) }

  all_followed : (a b : Alternative U) → AreAll a → AreAll b → AreAll (followed_by a b)
  all_followed a b x y = record {
    each = λ p h. ⊎_elim
        (x.each p)
        (λ (k : Contains (placed a.cycles b.pairs) p).
        let found = Contains-from_map (later a.cycles) b.pairs p k in
        subst P (ap (λ (q : Pair U). q.unit) found.2) (y.each found.0 found.1))
        (Contains-append_cases a.pairs (placed a.cycles b.pairs) p h);
  }

  all_beside : (a b : Alternative U) → AreAll a → AreAll b → AreAll (beside a b)
  all_beside a b x y = record { each = λ p h. ⊎_elim (x.each p) (y.each p) (Contains-append_cases a.pairs b.pairs p h) }

  pub all_one : (a : Alternative U) → AreAll a → AreAllOf (a ∷ [])
  all_one a x = record { each = λ b h. ⊎_elim (λ (e : a ≡ b). subst AreAll e x) (λ (k : Contains [] b). absurd (Contains-nil b k)) (Contains-cons_cases a b [] h) }

  all_append : (xs ys : List (Alternative U)) → AreAllOf xs → AreAllOf ys → AreAllOf (xs ++ ys)
  all_append xs ys x y = record { each = λ a h. ⊎_elim (x.each a) (y.each a) (Contains-append_cases xs ys a h) }

  all_choice : (join : Alternative U → Alternative U → Alternative U) → ((a b : Alternative U) → AreAll a → AreAll b → AreAll (join a b))
      → (xs ys : List (Alternative U)) → AreAllOf xs → AreAllOf ys → AreAllOf (each_choice join xs ys)
  all_choice join joins [] ys x y = record { each = λ a h. absurd (Contains-nil a h) }
  all_choice join joins (a ∷ xs) ys x y = all_append (map (join a) ys) (flat_map (λ b. map (join b) ys) xs)
      (record { each = λ b h. let found = Contains-from_map (join a) ys b h in subst AreAll found.2 (joins a found.0 (x.each a (Contains-head a xs)) (y.each found.0 found.1)) })
      (all_choice join joins xs ys (record { each = λ b h. x.each b (Contains-tail a b xs h) }) y)

  all_copies : (n : ℕ) (xs : List (Alternative U)) → AreAllOf xs → AreAllOf (copies n xs)
  all_copies zero xs x = all_one empty all_empty
  all_copies (suc n) xs x = all_choice followed_by all_followed xs (copies n xs) x (all_copies n xs x)

  module _ (known : List ℕ → List (Alternative U)) where
    mutual
      pub all_alternatives : (e : Expression) → ((name : List ℕ) → Mentions e name → AreAllOf (known name)) → AreAllOf (alternatives_of known e)
      all_alternatives (named name) all = all name refl
      all_alternatives nothing all = all_one idle all_idle
      all_alternatives (sequence parts) all = all_sequence parts all
      all_alternatives (one_of parts) all = all_any parts all
      all_alternatives (all_of parts) all = all_together parts all
      all_alternatives (repeat part times) all = all_copies times (alternatives_of known part) (all_alternatives part all)

      all_sequence : (parts : Parts) → ((name : List ℕ) → MentionsIn parts name → AreAllOf (known name)) → AreAllOf (in_sequence known parts)
      all_sequence none all = all_one empty all_empty
      all_sequence (more first others) all = all_choice followed_by all_followed (alternatives_of known first) (in_sequence known others) (all_alternatives first (λ name h. all name (inl h))) (all_sequence others (λ name h. all name (inr h)))

      all_any : (parts : Parts) → ((name : List ℕ) → MentionsIn parts name → AreAllOf (known name)) → AreAllOf (any_of known parts)
      all_any none all = record { each = λ a h. absurd (Contains-nil a h) }
      all_any (more first others) all = all_append (alternatives_of known first) (any_of known others) (all_alternatives first (λ name h. all name (inl h))) (all_any others (λ name h. all name (inr h)))

      all_together : (parts : Parts) → ((name : List ℕ) → MentionsIn parts name → AreAllOf (known name)) → AreAllOf (together known parts)
      all_together none all = all_one empty all_empty
      all_together (more first others) all = all_choice beside all_beside (alternatives_of known first) (together known others) (all_alternatives first (λ name h. all name (inl h))) (all_together others (λ name h. all name (inr h)))
