-- Names may have their alternatives listed the one way.
use Rattle.std.proofs.Common.{◌≡◌, ℕ, zero, suc, inl, inr, List, [], ◌∷◌, ◌++◌, length, map, refl, sym, ap, ◌∙◌}
use Rattle.std.proofs.lemmas.List.{map-append, length-map}
use Rattle.hz_altern.specs.Answers.{total_weight}
use Rattle.hz_altern.proofs.ExpandLemmas.{total_listed}
use Rattle.hz_altern.proofs.HalfLemmas.{greatest-listed}
use Rattle.hz_description_model.specs.Reservations.Alternatives.{Alternative, Expression, named, nothing, sequence, one_of, all_of, repeat, Parts, none, more, alternatives_of, in_sequence, any_of, together, each_choice, followed_by, beside, copies}
use Rattle.hz_description_model.specs.Reservations.AlternativeLists.{greatest_length}
use Rattle.hz_description_model.specs.Reservations.Automata.{UnitPlace, ascending, listed, total_size}
use Rattle.hz_description_model.specs.Reservations.Meanings.{Mentions, MentionsIn}
use Rattle.hz_base_model.specs.Pairs.{Pair, placed}
use Rattle.hz_description_model.proofs.Reservations.AscendingLaws.{ascending_itself, IsAscending-ascending, ascending_same, same_ascending}
use Rattle.hz_description_model.proofs.Reservations.ListedLaws.{map-each_choice, listed_beside}
use Rattle.hz_description_model.proofs.Reservations.SamePairsLaws.{same_append, same_placed, same_back}

abbrev whole : List (Pair UnitPlace) → ℕ → Alternative UnitPlace
whole pairs cycles = record { pairs = pairs; cycles = cycles }

pub listed_twice : (xs : List (Alternative UnitPlace)) → map listed (map listed xs) ≡ map listed xs
listed_twice [] = refl
listed_twice (x ∷ xs) = ap (λ (ps : List (Pair UnitPlace)). whole ps x.cycles ∷ map listed (map listed xs)) (ascending_itself (ascending x.pairs) (IsAscending-ascending x.pairs)) ∙ ap (λ ys. listed x ∷ ys) (listed_twice xs)

listed_after : (a b : Alternative UnitPlace) → listed (followed_by a b) ≡ listed (followed_by (listed a) (listed b))
listed_after a b =
    let back = λ (ps : List (Pair UnitPlace)). same_back (ascending ps) ps (same_ascending ps) in
    ap (λ ws. whole ws (followed_by a b).cycles)
    (ascending_same (followed_by a b).pairs (followed_by (listed a) (listed b)).pairs
    (same_append a.pairs (placed a.cycles b.pairs) (ascending a.pairs) (placed a.cycles (ascending b.pairs)) (back a.pairs) (same_placed a.cycles b.pairs (ascending b.pairs) (back b.pairs))))

-- lists that are the same where each alternative is listed the one way
abbrev pub SameListed : List (Alternative UnitPlace) → List (Alternative UnitPlace) → Type 0
SameListed xs ys = map listed xs ≡ map listed ys

module _ (join : Alternative UnitPlace → Alternative UnitPlace → Alternative UnitPlace) (joins : (a b : Alternative UnitPlace) → listed (join a b) ≡ listed (join (listed a) (listed b))) where
  abbrev joined : Alternative UnitPlace → Alternative UnitPlace → Alternative UnitPlace
  joined a b = listed (join a b)

  choices_listed : (xs ys : List (Alternative UnitPlace)) → map listed (each_choice join xs ys) ≡ each_choice joined (map listed xs) (map listed ys)
  choices_listed xs ys = map-each_choice listed join joined (λ _. Unit {0}) (λ x y _. joins x y) xs ys (λ k d lt. tt)

  same_choices : (xs ys xs' ys' : List (Alternative UnitPlace)) → SameListed xs xs' → SameListed ys ys' → SameListed (each_choice join xs ys) (each_choice join xs' ys')
  same_choices xs ys xs' ys' e f = choices_listed xs ys
      ∙ (ap (λ zs. each_choice joined zs (map listed ys)) e ∙ (ap (each_choice joined (map listed xs')) f ∙ sym (choices_listed xs' ys')))

same_copies : (n : ℕ) (xs ys : List (Alternative UnitPlace)) → SameListed xs ys → SameListed (copies n xs) (copies n ys)
same_copies zero xs ys e = refl
same_copies (suc n) xs ys e = same_choices followed_by listed_after xs (copies n xs) ys (copies n ys) e (same_copies n xs ys e)

same_appended : (xs ys xs' ys' : List (Alternative UnitPlace)) → SameListed xs xs' → SameListed ys ys' → SameListed (xs ++ ys) (xs' ++ ys')
same_appended xs ys xs' ys' e f = map-append listed xs ys ∙ (ap (λ zs. zs ++ map listed ys) e ∙ (ap (λ zs. map listed xs' ++ zs) f ∙ sym (map-append listed xs' ys')))

module _ (known other : List ℕ → List (Alternative UnitPlace)) where
  abbrev Agree : (List ℕ → Type 0) → Type 0
  Agree names = (name : List ℕ) → names name → SameListed (known name) (other name)

  mutual
    pub alternatives_listed : (e : Expression) → Agree (Mentions e) → SameListed (alternatives_of known e) (alternatives_of other e)
    alternatives_listed (named name) agree = agree name refl
    alternatives_listed nothing agree = refl
    alternatives_listed (sequence parts) agree = sequence_listed parts agree
    alternatives_listed (one_of parts) agree = any_listed parts agree
    alternatives_listed (all_of parts) agree = together_listed parts agree
    alternatives_listed (repeat part times) agree = same_copies times (alternatives_of known part) (alternatives_of other part) (alternatives_listed part agree)

    sequence_listed : (parts : Parts) → Agree (MentionsIn parts) → SameListed (in_sequence known parts) (in_sequence other parts)
    sequence_listed none agree = refl
    sequence_listed (more first others) agree = same_choices followed_by listed_after (alternatives_of known first) (in_sequence known others) (alternatives_of other first) (in_sequence other others)
        (alternatives_listed first (λ name h. agree name (inl h))) (sequence_listed others (λ name h. agree name (inr h)))

    any_listed : (parts : Parts) → Agree (MentionsIn parts) → SameListed (any_of known parts) (any_of other parts)
    any_listed none agree = refl
    any_listed (more first others) agree = same_appended (alternatives_of known first) (any_of known others) (alternatives_of other first) (any_of other others)
        (alternatives_listed first (λ name h. agree name (inl h))) (any_listed others (λ name h. agree name (inr h)))

    together_listed : (parts : Parts) → Agree (MentionsIn parts) → SameListed (together known parts) (together other parts)
    together_listed none agree = refl
    together_listed (more first others) agree = same_choices beside listed_beside (alternatives_of known first) (together known others) (alternatives_of other first) (together other others)
        (alternatives_listed first (λ name h. agree name (inl h))) (together_listed others (λ name h. agree name (inr h)))

-- what does not depend on how alternatives are listed
module _ (xs ys : List (Alternative UnitPlace)) (same : SameListed xs ys) where
  pub same_length : length xs ≡ length ys
  same_length = sym (length-map xs listed) ∙ (ap length same ∙ length-map ys listed)

  pub same_greatest : greatest_length xs ≡ greatest_length ys
  same_greatest = sym (greatest-listed xs) ∙ (ap greatest_length same ∙ greatest-listed ys)

  pub same_size : total_size xs ≡ total_size ys
  same_size = sym (total_listed xs) ∙ (ap total_weight same ∙ total_listed ys)
