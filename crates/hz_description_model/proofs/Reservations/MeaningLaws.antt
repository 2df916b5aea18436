-- Where no reservation reaches itself, names have exactly one right assignment of alternatives.
use Rattle.std.proofs.Common.{◌≡◌, ℕ, zero, suc, ◌<◌, inl, inr, List, [], ◌∷◌, ◌++◌, length, refl, sym, ap, ◌∙◌, arith, Option, Some, None}
use Rattle.std.specs.Prelude.{IsSome}
use Rattle.hz_description_model.specs.Reservations.Alternatives.{Alternative, taking, Expression, named, nothing, sequence, one_of, all_of, repeat, Parts, none, more, alternatives_of, in_sequence, any_of, together, each_choice, followed_by, beside, copies}
use Rattle.std.specs.Option.{option_map, option_map_or}
use Rattle.hz_base_model.specs.Lines.{place_of}
use Rattle.hz_description_model.specs.Reservations.Meanings.{unit_alternatives, Meaning, unit, reservation, alternatives_of_meaning, Expands, Mentions, MentionsIn, Reaches, Unwinds, Alts, IsClosed}
use Rattle.hz_description_model.proofs.Reservations.ExpressionLaws.{some_alternatives}

module _ {U : Type 0} where
  -- two assignments agree on names
  abbrev Agree : (known other : List ℕ → List (Alternative U)) → (List ℕ → Type 0) → Type 0
  Agree known other names = (name : List ℕ) → names name → known name ≡ other name

  join_same : (join : Alternative U → Alternative U → Alternative U) (xs ys xs' ys' : List (Alternative U)) → xs ≡ xs' → ys ≡ ys' → each_choice join xs ys ≡ each_choice join xs' ys'
  join_same join xs ys xs' ys' e f = ap (λ (zs : List (Alternative U)). each_choice join zs ys) e ∙ ap (each_choice join xs') f

  -- an expression's alternatives depend on its names alone
  mutual
    pub alternatives_same : (known other : List ℕ → List (Alternative U)) (e : Expression) → Agree known other (Mentions e) → alternatives_of known e ≡ alternatives_of other e
    alternatives_same known other (named name) agree = agree name refl
    alternatives_same known other nothing agree = refl
    alternatives_same known other (sequence parts) agree = sequence_same known other parts agree
    alternatives_same known other (one_of parts) agree = any_same known other parts agree
    alternatives_same known other (all_of parts) agree = together_same known other parts agree
    alternatives_same known other (repeat part times) agree = ap (copies times) (alternatives_same known other part agree)

    sequence_same : (known other : List ℕ → List (Alternative U)) (parts : Parts) → Agree known other (MentionsIn parts) → in_sequence known parts ≡ in_sequence other parts
    sequence_same known other none agree = refl
    sequence_same known other (more first others) agree = join_same followed_by _ _ _ _ (alternatives_same known other first (λ name h. agree name (inl h))) (sequence_same known other others (λ name h. agree name (inr h)))

    any_same : (known other : List ℕ → List (Alternative U)) (parts : Parts) → Agree known other (MentionsIn parts) → any_of known parts ≡ any_of other parts
    any_same known other none agree = refl
    any_same known other (more first others) agree =
        ap (λ (zs : List (Alternative U)). zs ++ any_of known others) (alternatives_same known other first (λ name h. agree name (inl h)))
        ∙ ap (λ (zs : List (Alternative U)). alternatives_of other first ++ zs) (any_same known other others (λ name h. agree name (inr h)))

    together_same : (known other : List ℕ → List (Alternative U)) (parts : Parts) → Agree known other (MentionsIn parts) → together known parts ≡ together other parts
    together_same known other none agree = refl
    together_same known other (more first others) agree = join_same beside _ _ _ _ (alternatives_same known other first (λ name h. agree name (inl h))) (together_same known other others (λ name h. agree name (inr h)))

  module _ (defined : List ℕ → Option (Meaning U)) (unwinds : Unwinds defined) where
    abbrev rank : List ℕ → ℕ
    rank = unwinds.rank

    -- names unwound so many times
    pub unwound : ℕ → List ℕ → List (Alternative U)
    unwound zero name = []
    unwound (suc n) name = alternatives_of_meaning (unwound n) (defined name)

    meaning_same : (known other : List ℕ → List (Alternative U)) (name : List ℕ) → ((used : List ℕ) → rank used < rank name → known used ≡ other used) → alternatives_of_meaning known (defined name) ≡ alternatives_of_meaning other (defined name)
    meaning_same known other name same = by_meaning (defined name) refl
      where
        by_meaning : (o : Option (Meaning U)) → defined name ≡ o → alternatives_of_meaning known o ≡ alternatives_of_meaning other o
        by_meaning None is = refl
        by_meaning (Some (unit u)) is = refl
        by_meaning (Some (reservation e)) is = alternatives_same known other e (λ used h. same used (unwinds.falls name used e is h))

    -- once it is deep enough, unwinding changes nothing
    deep_enough : (n k : ℕ) (name : List ℕ) → rank name < n → rank name < k → unwound n name ≡ unwound k name
    unfolding unwound
    deep_enough zero k name h i = absurd (omega arith)
    deep_enough (suc n) zero name h i = absurd (omega arith)
    deep_enough (suc n) (suc k) name h i = meaning_same (unwound n) (unwound k) name (λ used below. deep_enough n k used (omega arith) (omega arith))

    abbrev pub assigned : List ℕ → List (Alternative U)
    assigned name = unwound (suc (rank name)) name

    pub assigned_right : Expands defined assigned
    unfolding unwound
    assigned_right name = meaning_same (unwound (rank name)) assigned name (λ used below. deep_enough (rank name) (suc (rank used)) used below (omega arith))

    one_below : (n : ℕ) (known other : List ℕ → List (Alternative U)) → Expands defined known → Expands defined other → (name : List ℕ) → rank name < n → known name ≡ other name
    one_below zero known other a b name h = absurd (omega arith)
    one_below (suc n) known other a b name h = a name ∙ (meaning_same known other name (λ used below. one_below n known other a b used (omega arith)) ∙ sym (b name))

    pub one_assignment : (known other : List ℕ → List (Alternative U)) → Expands defined known → Expands defined other → (name : List ℕ) → known name ≡ other name
    one_assignment known other a b name = one_below (suc (rank name)) known other a b name (omega arith)

    reach_falls : (from to : List ℕ) → Reaches defined from to → rank to < rank from
    reach_falls from to (Reaches.mentions {expression = e} is h) = unwinds.falls from to e is h
    reach_falls from to (Reaches.through {middle = middle} first second) =
        let a = reach_falls from middle first in
        let b = reach_falls middle to second in omega arith

    pub none_reaches_itself : (name : List ℕ) → Reaches defined name name → ⊥
    none_reaches_itself name h = let low = reach_falls name name h in absurd (omega arith)

    -- names that stand for something have alternatives, where expressions can be written and use such names alone
    pub some_assigned : (known : List ℕ → List (Alternative U)) → Expands defined known → IsClosed defined → (n : ℕ) (name : List ℕ) → rank name < n → IsSome (defined name) → 0 < length (known name)
    some_assigned known right written zero name low is = absurd (omega arith)
    some_assigned known right written (suc n) name low is = by_meaning (λ used below there. some_assigned known right written n used below there) (defined name) refl is
      where
        by_meaning : ((used : List ℕ) → rank used < n → IsSome (defined used) → 0 < length (known used)) → (o : Option (Meaning U)) → defined name ≡ o → IsSome o → 0 < length (known name)
        by_meaning each None e is = absurd (cc)
        by_meaning each (Some (unit u)) e is = rw (right name, e) (omega arith)
        by_meaning each (Some (reservation x)) e is = rw (right name, e) (some_alternatives known x (written.expressions name x e)
            (λ used h. let below = unwinds.falls name used x e h in each used (omega arith) (written.names name used x e h)))

module _ {U : Type 0} where
  -- an expression's alternatives in a description, by the names' own
  pub some_alts : (defined : List ℕ → Option (Meaning U)) → Unwinds defined → (e : Expression) → (alternatives : List (Alternative U)) × Alts defined e alternatives
  some_alts defined unwinds e = (alternatives_of (assigned defined unwinds) e, record { unwinds = unwinds; known = assigned defined unwinds; right = assigned_right defined unwinds; these = refl })

  pub one_alts : (defined : List ℕ → Option (Meaning U)) (e : Expression) (xs ys : List (Alternative U)) → Alts defined e xs → Alts defined e ys → xs ≡ ys
  one_alts defined e xs ys a b =
      let same = alternatives_same a.known b.known e (λ name _. one_assignment defined a.unwinds a.known b.known a.right b.right name) in
      a.these ∙ (same ∙ sym b.these)

pub units_right : (units : List (List ℕ)) → Expands (λ name. option_map unit (place_of name units)) (unit_alternatives units)
units_right units name = by_place (place_of name units)
  where
    by_place : (o : Option ℕ) → option_map_or (λ (u : ℕ). taking u ∷ []) o [] ≡ alternatives_of_meaning (unit_alternatives units) (option_map unit o)
    by_place None = refl
    by_place (Some u) = refl
