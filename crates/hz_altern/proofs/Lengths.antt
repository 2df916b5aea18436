-- For how many cycles the longest of some alternatives runs.
use Rattle.std.proofs.Common.{◌≡◌, ℕ, zero, suc, ◌+◌, ◌*◌, ◌<◌, ◌≤◌, max, List, [], ◌∷◌, ◌++◌, length, map, take, get_or, All, refl, sym, ap, ◌∙◌, arith}
use Rattle.std.proofs.lemmas.List.{map-append, take_more}
use Rattle.std.proofs.lemmas.List.Elements.{All-head, All-tail, All-nil, All-cons}
use Rattle.hz_base_model.specs.Limits.{cycle_limit}
use Rattle.hz_altern.specs.declared.alternative.Alt.{Alt}
use Rattle.hz_altern.specs.Shapes.{alternatives, alternative_of}
use Rattle.hz_description_model.specs.Reservations.Alternatives.{Alternative, followed_by, beside, each_choice, copies}
use Rattle.hz_description_model.specs.Reservations.AlternativeLists.{greatest_length, IsSound}
use Rattle.hz_description_model.specs.Reservations.Automata.{UnitPlace}
use Rattle.hz_description_model.proofs.Reservations.ExpressionLaws.{some_copies}

module _ {U : Type 0} where
  pub greatest-append : (xs ys : List (Alternative U)) → greatest_length (xs ++ ys) ≡ max (greatest_length xs) (greatest_length ys)
  greatest-append [] ys = omega arith
  greatest-append (x ∷ xs) ys = let rest = greatest-append xs ys in omega arith

  -- no alternative is longer than the longest
  pub length_within : (n : ℕ) (xs : List (Alternative U)) → greatest_length xs ≤ n → All (λ a. a.cycles ≤ n) xs
  length_within n [] h = All-nil (λ (a : Alternative U). a.cycles ≤ n)
  length_within n (x ∷ xs) h = All-cons (λ (a : Alternative U). a.cycles ≤ n) x xs (omega arith) (length_within n xs (omega arith))

  pub greatest_within : (n : ℕ) (xs : List (Alternative U)) → All (λ a. a.cycles ≤ n) xs → greatest_length xs ≤ n
  greatest_within n [] h = omega arith
  greatest_within n (x ∷ xs) h =
      let here : x.cycles ≤ n = All-head (λ (a : Alternative U). a.cycles ≤ n) x xs h in
      let rest = greatest_within n xs (All-tail (λ (a : Alternative U). a.cycles ≤ n) x xs h) in omega arith

  -- where two alternatives joined run for so many cycles
  module _ (join : Alternative U → Alternative U → Alternative U) (both : ℕ → ℕ → ℕ)
      (runs : (a b : Alternative U) → (join a b).cycles ≡ both a.cycles b.cycles)
      (second : (a b c : ℕ) → max (both a b) (both a c) ≡ both a (max b c))
      (first : (a b c : ℕ) → max (both a c) (both b c) ≡ both (max a b) c) where
    greatest_joined : (x y : Alternative U) (ys : List (Alternative U)) → greatest_length (map (join x) (y ∷ ys)) ≡ both x.cycles (greatest_length (y ∷ ys))
    greatest_joined x y [] =
        let alone : max (join x y).cycles 0 ≡ (join x y).cycles = omega arith in
        let only : max y.cycles 0 ≡ y.cycles = omega arith in
        alone ∙ (runs x y ∙ ap (both x.cycles) (sym only))
    greatest_joined x y (z ∷ ys) =
        ap (λ (n : ℕ). max n (greatest_length (map (join x) (z ∷ ys)))) (runs x y)
        ∙ (ap (λ (n : ℕ). max (both x.cycles y.cycles) n) (greatest_joined x z ys)
        ∙ second x.cycles y.cycles (greatest_length (z ∷ ys)))

    greatest_choice : (x : Alternative U) (xs : List (Alternative U)) (y : Alternative U) (ys : List (Alternative U)) → greatest_length (each_choice join (x ∷ xs) (y ∷ ys)) ≡ both (greatest_length (x ∷ xs)) (greatest_length (y ∷ ys))
    greatest_choice x [] y ys =
        let only : max x.cycles 0 ≡ x.cycles = omega arith in
        let alone : max (greatest_length (map (join x) (y ∷ ys))) 0 ≡ greatest_length (map (join x) (y ∷ ys)) = omega arith in
        greatest-append (map (join x) (y ∷ ys)) [] ∙ (alone ∙ (greatest_joined x y ys ∙ ap (λ (n : ℕ). both n (greatest_length (y ∷ ys))) (sym only)))
    greatest_choice x (z ∷ xs) y ys =
        greatest-append (map (join x) (y ∷ ys)) (each_choice join (z ∷ xs) (y ∷ ys))
        ∙ (ap (λ (n : ℕ). max n (greatest_length (each_choice join (z ∷ xs) (y ∷ ys)))) (greatest_joined x y ys)
        ∙ (ap (λ (n : ℕ). max (both x.cycles (greatest_length (y ∷ ys))) n) (greatest_choice z xs y ys)
        ∙ first x.cycles (greatest_length (z ∷ xs)) (greatest_length (y ∷ ys))))

    pub greatest-each_choice : (xs ys : List (Alternative U)) → 0 < length xs → 0 < length ys → greatest_length (each_choice join xs ys) ≡ both (greatest_length xs) (greatest_length ys)
    greatest-each_choice [] ys h k = absurd (omega arith)
    greatest-each_choice (x ∷ xs) [] h k = absurd (omega arith)
    greatest-each_choice (x ∷ xs) (y ∷ ys) h k = greatest_choice x xs y ys

  pub greatest-followed : (xs ys : List (Alternative U)) → 0 < length xs → 0 < length ys → greatest_length (each_choice followed_by xs ys) ≡ greatest_length xs + greatest_length ys
  greatest-followed = greatest-each_choice followed_by (λ a b. a + b) (λ a b. refl) (λ a b c. omega arith) (λ a b c. omega arith)

  pub greatest-beside : (xs ys : List (Alternative U)) → 0 < length xs → 0 < length ys → greatest_length (each_choice beside xs ys) ≡ max (greatest_length xs) (greatest_length ys)
  greatest-beside = greatest-each_choice beside max (λ a b. refl) (λ a b c. omega arith) (λ a b c. omega arith)

  pub greatest-copies : (n : ℕ) (xs : List (Alternative U)) → 0 < length xs → greatest_length (copies n xs) ≡ greatest_length xs * n
  greatest-copies zero xs h = omega arith
  greatest-copies (suc n) xs h =
      let rest = greatest-copies n xs h in
      let all = greatest-followed xs (copies n xs) h (some_copies (λ _. xs) n xs h) in
      omega arith

-- one more alternative
pub greatest_more : (alts : List Alt) (i : ℕ) (d : Alt) → i < length alts → greatest_length (alternatives (take (i + 1) alts)) ≡ max (get_or alts i d).length (greatest_length (alternatives (take i alts)))
greatest_more alts i d h =
    let more = ap alternatives (take_more alts i d h) in
    let split = map-append alternative_of (take i alts) (get_or alts i d ∷ []) in
    let most = greatest-append (alternatives (take i alts)) (alternative_of (get_or alts i d) ∷ []) in
    ap greatest_length (more ∙ split) ∙ (most ∙ omega arith)

-- so many alternatives of which each runs for some cycle run for some
pub greatest_runs : (xs : List (Alternative UnitPlace)) → 0 < length xs → All IsSound xs → 1 ≤ greatest_length xs
greatest_runs [] h each = absurd (omega arith)
greatest_runs (x ∷ xs) h each = let runs = (All-head IsSound x xs each).placed.runs in omega arith

pub greatest_sound : (xs : List (Alternative UnitPlace)) → All IsSound xs → greatest_length xs ≤ cycle_limit
greatest_sound xs each = greatest_within cycle_limit xs (λ k d lt. (each k d lt).short)
