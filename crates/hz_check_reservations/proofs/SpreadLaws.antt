-- Of how many automata the units of alternatives are, as these are joined.
use Rattle.std.proofs.Common.{◌≡◌, ℕ, zero, suc, ◌≤◌, ◌<◌, Bool, true, false, ◌||◌, not, cond, List, [], ◌∷◌, ◌++◌, map, length, refl, sym, ap, ◌∙◌, subst, arith}
use Rattle.std.specs.List.{list_any, flat_map}
use Rattle.std.proofs.Math.Dec.{eqb}
use Rattle.std.proofs.lemmas.Bool.{cond_both, cond-true, cond-false, eq-eqb, eqb-true, eqb-false, ne_eqb}
use Rattle.std.proofs.lemmas.List.{append-nil}
use Rattle.hz_base_model.specs.Pairs.{Pair, placed}
use Rattle.hz_description_model.specs.Reservations.Alternatives.{Alternative, empty, each_choice, followed_by, beside, copies}
use Rattle.hz_description_model.specs.Reservations.Automata.{UnitPlace}
use Rattle.hz_description_model.proofs.Reservations.ExpressionLaws.{some_copies}
use Rattle.hz_description_model.specs.Splits.Rules.{are_mixed, hold_two_automata}
use Rattle.hz_check_reservations.specs.declared.rules.spread.Spread.{Spread}
use Rattle.hz_check_reservations.specs.declared.rules.spread.Spread.TheVariants.{Free, Within, Several}
use Rattle.hz_check_reservations.specs.Spreads.{are_several, joined_spread, spread_of_pairs, spread_of}

-- two lots of units, each of one automaton
abbrev both : ℕ → ℕ → Spread
both a b = cond (eqb a b) (Within a) Several

both_again : (a b : ℕ) → joined_spread (both a b) (Within b) ≡ both a b
both_again a b = cond_both (eqb a b) (Within a) Several (λ (s : Spread). joined_spread s (Within b) ≡ s) (λ e. cond-true (eqb a b) (Within a) Several e) (λ _. refl)

both-assoc : (a b c : ℕ) → joined_spread (Within a) (both b c) ≡ joined_spread (both a b) (Within c)
both-assoc a b c = cond_both (eqb b c) (Within b) Several (λ (s : Spread). joined_spread (Within a) s ≡ joined_spread (both a b) (Within c))
    (λ e. subst (λ (n : ℕ). both a b ≡ joined_spread (both a b) (Within n)) (eqb-true b c e) (sym (both_again a b)))
    (λ e. cond_both (eqb a b) (Within a) Several (λ (s : Spread). Several ≡ joined_spread s (Within c))
    (λ f. sym (cond-false (eqb a c) (Within a) Several (ap (λ (n : ℕ). eqb n c) (eqb-true a b f) ∙ e)))
    (λ _. refl))

both-comm : (a b : ℕ) → both a b ≡ both b a
both-comm a b = cond_both (eqb a b) (Within a) Several (λ (s : Spread). s ≡ both b a)
    (λ e. let same = eqb-true a b e in ap Within same ∙ sym (cond-true (eqb b a) (Within b) Several (eq-eqb b a (sym same))))
    (λ e. sym (cond-false (eqb b a) (Within b) Several (ne_eqb b a (λ same. eqb-false a b e (sym same)))))

pub joined-free : (s : Spread) → joined_spread s Free ≡ s
joined-free Free = refl
joined-free (Within a) = refl
joined-free Several = refl

pub joined-comm : (s t : Spread) → joined_spread s t ≡ joined_spread t s
joined-comm Free t = sym (joined-free t)
joined-comm (Within a) Free = refl
joined-comm (Within a) (Within b) = both-comm a b
joined-comm (Within a) Several = refl
joined-comm Several Free = refl
joined-comm Several (Within a) = refl
joined-comm Several Several = refl

pub joined-assoc : (s t u : Spread) → joined_spread s (joined_spread t u) ≡ joined_spread (joined_spread s t) u
joined-assoc Free t u = refl
joined-assoc (Within a) Free u = refl
joined-assoc (Within a) (Within b) Free = sym (joined-free (both a b))
joined-assoc (Within a) (Within b) (Within c) = both-assoc a b c
joined-assoc (Within a) (Within b) Several = cond_both (eqb a b) (Within a) Several (λ (s : Spread). Several ≡ joined_spread s Several) (λ _. refl) (λ _. refl)
joined-assoc (Within a) Several u = refl
joined-assoc Several t u = refl

pub joined-same : (s : Spread) → joined_spread s s ≡ s
joined-same Free = refl
joined-same (Within a) = cond-true (eqb a a) (Within a) Several (eq-eqb a a refl)
joined-same Several = refl

-- two and two
joined_crosswise : (a b c d : Spread) → joined_spread (joined_spread a b) (joined_spread c d) ≡ joined_spread (joined_spread a c) (joined_spread b d)
joined_crosswise a b c d =
    sym (joined-assoc a b (joined_spread c d))
    ∙ (ap (joined_spread a) (joined-assoc b c d ∙ (ap (λ (s : Spread). joined_spread s d) (joined-comm b c) ∙ sym (joined-assoc c b d)))
    ∙ joined-assoc a c (joined_spread b d))

pub spread_of_pairs-append : (ps qs : List (Pair UnitPlace)) → spread_of_pairs (ps ++ qs) ≡ joined_spread (spread_of_pairs ps) (spread_of_pairs qs)
spread_of_pairs-append [] qs = refl
spread_of_pairs-append (p ∷ ps) qs = ap (joined_spread (Within p.unit.automaton)) (spread_of_pairs-append ps qs) ∙ joined-assoc (Within p.unit.automaton) (spread_of_pairs ps) (spread_of_pairs qs)

spread_of_pairs-placed : (n : ℕ) (ps : List (Pair UnitPlace)) → spread_of_pairs (placed n ps) ≡ spread_of_pairs ps
spread_of_pairs-placed n [] = refl
spread_of_pairs-placed n (p ∷ ps) = ap (joined_spread (Within p.unit.automaton)) (spread_of_pairs-placed n ps)

pub spread_of-append : (xs ys : List (Alternative UnitPlace)) → spread_of (xs ++ ys) ≡ joined_spread (spread_of xs) (spread_of ys)
spread_of-append [] ys = refl
spread_of-append (x ∷ xs) ys = ap (joined_spread (spread_of_pairs x.pairs)) (spread_of-append xs ys) ∙ joined-assoc (spread_of_pairs x.pairs) (spread_of xs) (spread_of ys)

-- where two alternatives joined have the units of both
module _ (join : Alternative UnitPlace → Alternative UnitPlace → Alternative UnitPlace) (joins : (a b : Alternative UnitPlace) → spread_of_pairs (join a b).pairs ≡ joined_spread (spread_of_pairs a.pairs) (spread_of_pairs b.pairs)) where
  with_first : (x y : Alternative UnitPlace) (ys : List (Alternative UnitPlace)) → spread_of (map (join x) (y ∷ ys)) ≡ joined_spread (spread_of_pairs x.pairs) (spread_of (y ∷ ys))
  with_first x y [] =
      joined-free (spread_of_pairs (join x y).pairs) ∙ (joins x y ∙ ap (joined_spread (spread_of_pairs x.pairs)) (sym (joined-free (spread_of_pairs y.pairs))))
  with_first x y (z ∷ ys) =
      let here = spread_of_pairs x.pairs in
      ap (λ (s : Spread). joined_spread s (spread_of (map (join x) (z ∷ ys)))) (joins x y)
      ∙ (ap (joined_spread (joined_spread here (spread_of_pairs y.pairs))) (with_first x z ys)
      ∙ (joined_crosswise here (spread_of_pairs y.pairs) here (spread_of (z ∷ ys))
      ∙ ap (λ (s : Spread). joined_spread s (joined_spread (spread_of_pairs y.pairs) (spread_of (z ∷ ys)))) (joined-same here)))

  with_all : (x : Alternative UnitPlace) (xs : List (Alternative UnitPlace)) (y : Alternative UnitPlace) (ys : List (Alternative UnitPlace)) → spread_of (each_choice join (x ∷ xs) (y ∷ ys)) ≡ joined_spread (spread_of (x ∷ xs)) (spread_of (y ∷ ys))
  with_all x [] y ys =
      ap spread_of (append-nil (map (join x) (y ∷ ys)))
      ∙ (with_first x y ys ∙ ap (λ (s : Spread). joined_spread s (spread_of (y ∷ ys))) (sym (joined-free (spread_of_pairs x.pairs))))
  with_all x (w ∷ xs) y ys =
      let there = spread_of (y ∷ ys) in
      spread_of-append (map (join x) (y ∷ ys)) (each_choice join (w ∷ xs) (y ∷ ys))
      ∙ (ap (λ (s : Spread). joined_spread s (spread_of (each_choice join (w ∷ xs) (y ∷ ys)))) (with_first x y ys)
      ∙ (ap (joined_spread (joined_spread (spread_of_pairs x.pairs) there)) (with_all w xs y ys)
      ∙ (joined_crosswise (spread_of_pairs x.pairs) there (spread_of (w ∷ xs)) there
      ∙ ap (joined_spread (joined_spread (spread_of_pairs x.pairs) (spread_of (w ∷ xs)))) (joined-same there))))

  spread_of-each_choice : (xs ys : List (Alternative UnitPlace)) → 0 < length xs → 0 < length ys → spread_of (each_choice join xs ys) ≡ joined_spread (spread_of xs) (spread_of ys)
  spread_of-each_choice [] ys h k = absurd (omega arith)
  spread_of-each_choice (x ∷ xs) [] h k = absurd (omega arith)
  spread_of-each_choice (x ∷ xs) (y ∷ ys) h k = with_all x xs y ys

pub spread_of-followed : (xs ys : List (Alternative UnitPlace)) → 0 < length xs → 0 < length ys → spread_of (each_choice followed_by xs ys) ≡ joined_spread (spread_of xs) (spread_of ys)
spread_of-followed = spread_of-each_choice followed_by (λ a b. spread_of_pairs-append a.pairs (placed a.cycles b.pairs) ∙ ap (joined_spread (spread_of_pairs a.pairs)) (spread_of_pairs-placed a.cycles b.pairs))

pub spread_of-beside : (xs ys : List (Alternative UnitPlace)) → 0 < length xs → 0 < length ys → spread_of (each_choice beside xs ys) ≡ joined_spread (spread_of xs) (spread_of ys)
spread_of-beside = spread_of-each_choice beside (λ a b. spread_of_pairs-append a.pairs b.pairs)

-- so many copies have the units of one, as far as there is one
pub spread_of-copies : (n : ℕ) (xs : List (Alternative UnitPlace)) → 1 ≤ n → 0 < length xs → spread_of (copies n xs) ≡ spread_of xs
spread_of-copies zero xs k h = absurd (omega arith)
spread_of-copies (suc zero) xs k h = spread_of-followed xs (empty ∷ []) h (omega arith) ∙ joined-free (spread_of xs)
spread_of-copies (suc (suc n)) xs k h =
    spread_of-followed xs (copies (suc n) xs) h (some_copies (λ _. xs) (suc n) xs h)
    ∙ (ap (joined_spread (spread_of xs)) (spread_of-copies (suc n) xs (omega arith) h) ∙ joined-same (spread_of xs))

-- what the rules ask

abbrev any_other : ℕ → List (Pair UnitPlace) → Bool
any_other a ps = list_any (λ q. not (eqb q.unit.automaton a)) ps

one_more_other : (a b : ℕ) (rest : Bool) (s : Spread) → rest ≡ are_several (joined_spread (Within a) s) → (not (eqb b a) || rest) ≡ are_several (joined_spread (both a b) s)
one_more_other a b rest s is = by_test (eqb b a) refl
  where
    by_test : (t : Bool) → eqb b a ≡ t → (not (eqb b a) || rest) ≡ are_several (joined_spread (both a b) s)
    by_test true e =
        let same : both a b ≡ Within a = cond-true (eqb a b) (Within a) Several (eq-eqb a b (sym (eqb-true b a e))) in
        ap (λ (b : Bool). not b || rest) e ∙ (is ∙ ap (λ (x : Spread). are_several (joined_spread x s)) (sym same))
    by_test false e =
        let other : both a b ≡ Several = cond-false (eqb a b) (Within a) Several (ne_eqb a b (λ same. eqb-false b a e (sym same))) in
        ap (λ (b : Bool). not b || rest) e ∙ ap (λ (x : Spread). are_several (joined_spread x s)) (sym other)

others_differ : (a : ℕ) (ps : List (Pair UnitPlace)) → any_other a ps ≡ are_several (joined_spread (Within a) (spread_of_pairs ps))
others_differ a [] = refl
others_differ a (p ∷ ps) =
    one_more_other a p.unit.automaton (any_other a ps) (spread_of_pairs ps) (others_differ a ps)
    ∙ ap are_several (sym (joined-assoc (Within a) (Within p.unit.automaton) (spread_of_pairs ps)))

mixed_spread : (ps : List (Pair UnitPlace)) → are_mixed ps ≡ are_several (spread_of_pairs ps)
mixed_spread [] = refl
mixed_spread (p ∷ ps) = others_differ p.unit.automaton ps

all_pairs : (xs : List (Alternative UnitPlace)) → spread_of_pairs (flat_map (λ a. a.pairs) xs) ≡ spread_of xs
all_pairs [] = refl
all_pairs (x ∷ xs) = spread_of_pairs-append x.pairs (flat_map (λ a. a.pairs) xs) ∙ ap (joined_spread (spread_of_pairs x.pairs)) (all_pairs xs)

pub two_automata : (xs : List (Alternative UnitPlace)) → hold_two_automata xs ≡ are_several (spread_of xs)
two_automata xs = mixed_spread (flat_map (λ a. a.pairs) xs) ∙ ap are_several (all_pairs xs)
