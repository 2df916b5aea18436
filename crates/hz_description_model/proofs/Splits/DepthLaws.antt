-- Where ranks fall, so many replacements are enough as the greatest rank says.
use Rattle.std.proofs.Common.{◌≡◌, ℕ, zero, suc, ◌≤◌, inl, inr, Bool, false, ◌||◌, List, Option, Some, None, refl, ap, ◌∙◌, arith}
use Rattle.hz_description_model.specs.Reservations.Alternatives.{Expression, named, nothing, sequence, one_of, all_of, repeat, Parts, none, more}
use Rattle.hz_description_model.specs.Reservations.Meanings.{Meaning, unit, reservation, Mentions, MentionsIn, Unwinds}
use Rattle.hz_description_model.specs.Splits.Rules.{somewhere, somewhere_in, of_reservation, passes, passes_in}

-- what is found inside an expression is found by what is found inside the names in it
module _ (test : Expression → Bool) (inside other : List ℕ → Bool) where
  mutual
    pub somewhere_same : (e : Expression) → ((name : List ℕ) → Mentions e name → inside name ≡ other name) → somewhere test inside e ≡ somewhere test other e
    somewhere_same (named name) same = same name refl
    somewhere_same nothing same = refl
    somewhere_same (sequence parts) same = ap (λ (b : Bool). test (sequence parts) || b) (somewhere_in_same parts same)
    somewhere_same (one_of parts) same = ap (λ (b : Bool). test (one_of parts) || b) (somewhere_in_same parts same)
    somewhere_same (all_of parts) same = ap (λ (b : Bool). test (all_of parts) || b) (somewhere_in_same parts same)
    somewhere_same (repeat part times) same = ap (λ (b : Bool). test (repeat part times) || b) (somewhere_same part same)

    pub somewhere_in_same : (parts : Parts) → ((name : List ℕ) → MentionsIn parts name → inside name ≡ other name) → somewhere_in test inside parts ≡ somewhere_in test other parts
    somewhere_in_same none same = refl
    somewhere_in_same (more first others) same =
        ap (λ (b : Bool). b || somewhere_in test inside others) (somewhere_same first (λ name h. same name (inl h)))
        ∙ ap (λ (b : Bool). somewhere test other first || b) (somewhere_in_same others (λ name h. same name (inr h)))

module _ {U : Type 0} (test : Expression → Bool) (meaning : List ℕ → Option (Meaning U)) (ranks : Unwinds meaning) where
  by_meaning : (inside other : List ℕ → Bool) (m : Option (Meaning U)) → ((e : Expression) → m ≡ Some (reservation e) → (name : List ℕ) → Mentions e name → inside name ≡ other name)
      → of_reservation (somewhere test inside) m ≡ of_reservation (somewhere test other) m
  by_meaning inside other None same = refl
  by_meaning inside other (Some (unit u)) same = refl
  by_meaning inside other (Some (reservation e)) same = somewhere_same test inside other e (same e refl)

  -- two depths that the rank of a name is within find the same
  pub depths_agree : (first second : ℕ) (name : List ℕ) → ranks.rank name ≤ first → ranks.rank name ≤ second → passes test meaning first name ≡ passes test meaning second name
  depths_agree zero zero name a b = refl
  depths_agree zero (suc second) name a b = by_meaning (λ other. false) (passes test meaning second) (meaning name) (λ e is other h. let falls = ranks.falls name other e is h in absurd (omega arith))
  depths_agree (suc first) zero name a b = by_meaning (passes test meaning first) (λ other. false) (meaning name) (λ e is other h. let falls = ranks.falls name other e is h in absurd (omega arith))
  depths_agree (suc first) (suc second) name a b =
      by_meaning (passes test meaning first) (passes test meaning second) (meaning name)
      (λ e is other h. let falls = ranks.falls name other e is h in depths_agree first second other (omega arith) (omega arith))

  module _ (depth : ℕ) (low : (name : List ℕ) → ranks.rank name ≤ depth) where
    pub unfolds_once : (name : List ℕ) → passes test meaning depth name ≡ of_reservation (somewhere test (passes test meaning depth)) (meaning name)
    unfolds_once name = let here = low name in depths_agree depth (suc depth) name here (omega arith)

    pub more_is_no_more : (other : ℕ) → depth ≤ other → (e : Expression) → passes_in test meaning other e ≡ passes_in test meaning depth e
    more_is_no_more other within e = somewhere_same test (passes test meaning other) (passes test meaning depth) e (λ name h. let here = low name in depths_agree other depth name (omega arith) here)
