-- Names of which finitely many lead somewhere: one of them reaches itself, or they unwind.
use Rattle.std.proofs.Common.{◌≡◌, ℕ, ◌+◌, ◌<◌, ◌≤◌, ◌⊎◌, inl, inr, ⊎_elim, Bool, true, false, not, ◌&&◌, ◌||◌, cond, List, [], ◌∷◌, length, Contains, Option, Some, None, refl, sym, ap, ◌∙◌, subst, arith}
use Rattle.std.specs.List.{list_any}
use Rattle.std.specs.Str.{bytes_eq}
use Rattle.std.proofs.lemmas.Bool.{cases_Bool, cond_both, cond-true, cond-false, or_cases, or_left, and_parts, both_ways, false_from_ne_true, not_from_true, not_from_false, not-true}
use Rattle.std.proofs.lemmas.List.Elements.{Contains-append_left, Contains-append_right, Contains-append_cases}
use Rattle.std.proofs.lemmas.List.Folds.{list_any_at}
use Rattle.std.proofs.lemmas.Map.Views.{Contains-from_any}
use Rattle.std.proofs.lemmas.Slice.Eq.{bytes_eq-Decides}
use Rattle.hz_description_model.specs.Reservations.Alternatives.{Expression, named, nothing, sequence, one_of, all_of, repeat, Parts, none, more}
use Rattle.hz_description_model.specs.Reservations.NamesIn.{names_in, names_in_parts}
use Rattle.hz_description_model.specs.Reservations.Meanings.{Meaning, unit, reservation, Mentions, MentionsIn, Reaches, Unwinds}
use Rattle.hz_base_model.proofs.Elements.{Contains-nil, Contains-cons_cases}

-- the names in an expression are those that it mentions
mutual
  pub named_there : (e : Expression) (name : List ℕ) → Mentions e name → Contains (names_in e) name
  named_there (named other) name h = (0, omega arith, h)
  named_there nothing name h = absurd h
  named_there (sequence parts) name h = named_in_parts parts name h
  named_there (one_of parts) name h = named_in_parts parts name h
  named_there (all_of parts) name h = named_in_parts parts name h
  named_there (repeat part times) name h = named_there part name h

  named_in_parts : (parts : Parts) (name : List ℕ) → MentionsIn parts name → Contains (names_in_parts parts) name
  named_in_parts none name h = absurd h
  named_in_parts (more first others) name h = ⊎_elim
      (λ x. Contains-append_left (names_in first) (names_in_parts others) name (named_there first name x))
      (λ x. Contains-append_right (names_in first) (names_in_parts others) name (named_in_parts others name x)) h

mutual
  pub mentioned_there : (e : Expression) (name : List ℕ) → Contains (names_in e) name → Mentions e name
  mentioned_there (named other) name h = ⊎_elim (λ e. e) (λ (k : Contains [] name). absurd (Contains-nil name k)) (Contains-cons_cases other name [] h)
  mentioned_there nothing name h = absurd (Contains-nil name h)
  mentioned_there (sequence parts) name h = mentioned_in_parts parts name h
  mentioned_there (one_of parts) name h = mentioned_in_parts parts name h
  mentioned_there (all_of parts) name h = mentioned_in_parts parts name h
  mentioned_there (repeat part times) name h = mentioned_there part name h

  mentioned_in_parts : (parts : Parts) (name : List ℕ) → Contains (names_in_parts parts) name → MentionsIn parts name
  mentioned_in_parts none name h = absurd (Contains-nil name h)
  mentioned_in_parts (more first others) name h = ⊎_elim
      (λ (x : Contains (names_in first) name). inl (mentioned_there first name x))
      (λ (x : Contains (names_in_parts others) name). inr (mentioned_in_parts others name x))
      (Contains-append_cases (names_in first) (names_in_parts others) name h)

-- how many items pass a test
module _ {A : Type 0} where
  abbrev one_if : (A → Bool) → A → ℕ
  one_if test x = cond (test x) 1 0

  abbrev how_many : (A → Bool) → List A → ℕ
  how_many test [] = 0
  how_many test (x ∷ xs) = one_if test x + how_many test xs

  how_many_low : (p : A → Bool) (xs : List A) → how_many p xs ≤ length xs
  how_many_low p [] = omega arith
  how_many_low p (x ∷ xs) =
      let here : one_if p x ≤ 1 = cond_both (p x) 1 0 (λ (n : ℕ). n ≤ 1) (λ _. omega arith) (λ _. omega arith) in
      let rest = how_many_low p xs in omega arith

  module _ (p q : A → Bool) (h : (x : A) → p x ≡ true → q x ≡ true) where
    one_least : (x : A) → one_if p x ≤ one_if q x
    one_least x = cond_both (p x) 1 0 (λ (n : ℕ). n ≤ one_if q x) (λ passes. omega (arith, cond-true {A = ℕ} (q x) 1 0 (h x passes))) (λ _. omega arith)

    least : (xs : List A) → how_many p xs ≤ how_many q xs
    least [] = omega arith
    least (x ∷ xs) = let here = one_least x in let rest = least xs in omega arith

    -- fewer pass where one that passes the second test fails the first
    less : (xs : List A) (y : A) → Contains xs y → p y ≡ false → q y ≡ true → how_many p xs < how_many q xs
    less [] y there fails passes = absurd (Contains-nil y there)
    less (x ∷ xs) y there fails passes = ⊎_elim
        (λ (e : x ≡ y).
        let lacks = cond-false {A = ℕ} (p x) 1 0 (ap p e ∙ fails) in
        let has = cond-true {A = ℕ} (q x) 1 0 (ap q e ∙ passes) in
        let rest = least xs in omega arith)
        (λ (k : Contains xs y). let here = one_least x in let rest = less xs y k fails passes in omega arith)
        (Contains-cons_cases x y xs there)

-- what follows through a name k from what holds without it
at_itself : (ab am mm mb : Bool) → (am || (am && mm)) ≡ true → (mb || (mm && mb)) ≡ true → (ab || (am && mb)) ≡ true
at_itself ab am mm mb x y = grind arith

by_way : (ab am mb ak km mk kb : Bool) → (am ≡ true → mb ≡ true → ab ≡ true) → (am ≡ true → mk ≡ true → ak ≡ true) → (km ≡ true → mb ≡ true → kb ≡ true)
    → (am || (ak && km)) ≡ true → (mb || (mk && kb)) ≡ true → (ab || (ak && kb)) ≡ true
by_way ab am mb ak km mk kb f g h x y = grind arith

module _ {U : Type 0} (defined : List ℕ → Option (Meaning U)) where
  -- the names to which a name leads
  abbrev names_of : Option (Meaning U) → List (List ℕ)
  names_of (Some (reservation e)) = names_in e
  names_of _ = []

  one_step : (a b : List ℕ) (o : Option (Meaning U)) → defined a ≡ o → Contains (names_of o) b → Reaches defined a b
  one_step a b None e h = absurd (Contains-nil b h)
  one_step a b (Some (unit u)) e h = absurd (Contains-nil b h)
  one_step a b (Some (reservation x)) e h = Reaches.mentions e (mentioned_there x b h)

  -- whether a reaches b through names of the list alone
  abbrev reach : List (List ℕ) → List ℕ → List ℕ → Bool
  reach [] a b = list_any (bytes_eq b) (names_of (defined a))
  reach (k ∷ ks) a b = reach ks a b || (reach ks a k && reach ks k b)

  reach_right : (ks : List (List ℕ)) (a b : List ℕ) → reach ks a b ≡ true → Reaches defined a b
  reach_right [] a b h = one_step a b (defined a) refl (Contains-from_any (λ x y. (bytes_eq-Decides x y).0) b (names_of (defined a)) h)
  reach_right (k ∷ ks) a b h = ⊎_elim
      (reach_right ks a b)
      (λ h. let parts = and_parts (reach ks a k) (reach ks k b) h in Reaches.through (reach_right ks a k parts.0) (reach_right ks k b parts.1))
      (or_cases (reach ks a b) (reach ks a k && reach ks k b) h)

  reach_through : (ks : List (List ℕ)) (m a b : List ℕ) → Contains ks m → reach ks a m ≡ true → reach ks m b ≡ true → reach ks a b ≡ true
  reach_through [] m a b there x y = absurd (Contains-nil m there)
  reach_through (k ∷ ks) m a b there x y = ⊎_elim
      (λ (e : k ≡ m). subst (λ (n : List ℕ). reach (n ∷ ks) a m ≡ true → reach (n ∷ ks) m b ≡ true → reach (n ∷ ks) a b ≡ true) (sym e)
      (at_itself (reach ks a b) (reach ks a m) (reach ks m m) (reach ks m b)) x y)
      (λ (h : Contains ks m). by_way (reach ks a b) (reach ks a m) (reach ks m b) (reach ks a k) (reach ks k m) (reach ks m k) (reach ks k b)
      (reach_through ks m a b h) (reach_through ks m a k h) (reach_through ks m k b h) x y)
      (Contains-cons_cases k m ks there)

  module _ (names : List (List ℕ)) (listed : (name : List ℕ) (e : Expression) → defined name ≡ Some (reservation e) → Contains names name) where
    pub leads_listed : (a b : List ℕ) → Reaches defined a b → Contains names a
    leads_listed a b (Reaches.mentions {expression = e} is h) = listed a e is
    leads_listed a b (Reaches.through {middle = m} p q) = leads_listed a m p

    reach_more : (ks : List (List ℕ)) (a b : List ℕ) → list_any (bytes_eq b) (names_of (defined a)) ≡ true → reach ks a b ≡ true
    reach_more [] a b h = h
    reach_more (k ∷ ks) a b h = or_left (reach ks a b) (reach ks a k && reach ks k b) (reach_more ks a b h)

    step_reported : (a b : List ℕ) (e : Expression) → defined a ≡ Some (reservation e) → Mentions e b → list_any (bytes_eq b) (names_of (defined a)) ≡ true
    step_reported a b e is h = subst (λ (o : Option (Meaning U)). list_any (bytes_eq b) (names_of o) ≡ true) (sym is)
        (let there = named_there e b h in list_any_at (bytes_eq b) (names_in e) there.0 b there.1 ((bytes_eq-Decides b _).1 (sym there.2)))

    reach_reported : (a b : List ℕ) → Reaches defined a b → reach names a b ≡ true
    reach_reported a b (Reaches.mentions {expression = e} is h) = reach_more names a b (step_reported a b e is h)
    reach_reported a b (Reaches.through {middle = m} p q) = reach_through names m a b (leads_listed m b q) (reach_reported a m p) (reach_reported m b q)

    -- a name reaches another, or it does not
    pub reaches_or_not : (a b : List ℕ) → Reaches defined a b ⊎ (Reaches defined a b → ⊥)
    reaches_or_not a b = ⊎_elim (λ e. inl (reach_right names a b e)) (λ e. inr (λ h. both_ways (reach names a b) e (reach_reported a b h))) (cases_Bool (reach names a b))

    module _ (none_circular : (name : List ℕ) → Reaches defined name name → ⊥) where
      -- how many of the names do not reach this one
      rank : List ℕ → ℕ
      rank name = how_many (λ n. not (reach names n name)) names

      rank_falls : (name other : List ℕ) (e : Expression) → defined name ≡ Some (reservation e) → Mentions e other → rank other < rank name
      unfolding rank
      rank_falls name other e is h =
          let there = listed name e is in
          let leads = reach_reported name other (Reaches.mentions is h) in
          less (λ n. not (reach names n other)) (λ n. not (reach names n name))
          (λ n not_there. not_from_false (reach names n name) (false_from_ne_true (reach names n name) (λ arrives. both_ways (reach names n other) (not-true (reach names n other) not_there) (reach_through names name n other there arrives leads))))
          names name there (not_from_true (reach names name other) leads)
          (not_from_false (reach names name name) (false_from_ne_true (reach names name name) (λ round. none_circular name (reach_right names name name round))))

      pub unwinds : Unwinds defined
      unwinds = record { rank = rank; falls = rank_falls }

      pub rank_low : (name : List ℕ) → unwinds.rank name ≤ length names
      unfolding rank unwinds
      rank_low name = how_many_low (λ n. not (reach names n name)) names
