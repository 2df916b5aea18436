-- How large alternatives one after the other are together.
use Rattle.std.proofs.Common.{◌≡◌, ℕ, suc, ◌+◌, ◌*◌, ◌≤◌, List, [], ◌∷◌, length, map, All, sym, ap, ◌∙◌, arith, length-append}
use Rattle.std.proofs.Math.Nat.{add-mul, mul-suc, mul-zero, zero-mul, mul-le-mul}
use Rattle.std.proofs.lemmas.List.{length-map}
use Rattle.std.proofs.lemmas.List.Elements.{All-head, All-tail}
use Rattle.hz_altern.specs.declared.listing.joining.Joining.TheVariants.{InSequence}
use Rattle.hz_altern.specs.Answers.{weight, total_weight}
use Rattle.hz_altern.specs.Joinings.{IsListed, joined_by}
use Rattle.hz_altern.proofs.Weights.{weight-append, weight-cons}
use Rattle.hz_description_model.specs.Reservations.Limits.{size_limit}
use Rattle.hz_base_model.specs.Pairs.{placed, later}
use Rattle.hz_description_model.specs.Reservations.Alternatives.{Alternative, each_choice}
use Rattle.hz_description_model.specs.Reservations.Automata.{UnitPlace}

-- there are no more alternatives than they have cycles
pub few_listed : (xs : List (Alternative UnitPlace)) → All IsListed xs → length xs ≤ total_weight xs
few_listed [] each = omega arith
few_listed (x ∷ xs) each =
    let runs = (All-head IsListed x xs each).placed.runs in
    let rest = few_listed xs (All-tail IsListed x xs each) in
    omega (arith, weight-cons x xs)

-- so their number times a size within the limit is a number of the machine
pub product_fits : (size n : ℕ) (xs : List (Alternative UnitPlace)) → n ≡ length xs → All IsListed xs → size ≤ size_limit → total_weight xs ≤ size_limit → size * n ≤ size_limit * size_limit
product_fits size n xs is each small few =
    let less = few_listed xs each in
    let short : n ≤ size_limit = omega arith in
    mul-le-mul {n₁ = size} {m₁ = n} {n₂ = size_limit} {m₂ = size_limit} small short

one_more : (p q w y t ts : ℕ) → q ≡ p + w → t ≡ p + ts → (w + y) + t ≡ q + (y + ts)
one_more p q w y t ts more rest = omega arith

-- one before each of others
before_each : (a : Alternative UnitPlace) (ys : List (Alternative UnitPlace)) → total_weight (map (joined_by InSequence a) ys) ≡ weight a * length ys + total_weight ys
before_each a [] = let none : weight a * 0 ≡ 0 = mul-zero (weight a) in omega arith
before_each a (y ∷ ys) =
    let long = length-append a.pairs (placed a.cycles y.pairs) in
    let same = length-map y.pairs (later a.cycles) in
    let both : weight (joined_by InSequence a y) ≡ weight a + weight y = omega arith in
    weight-cons (joined_by InSequence a y) (map (joined_by InSequence a) ys)
    ∙ (ap (λ (n : ℕ). n + total_weight (map (joined_by InSequence a) ys)) both
    ∙ (one_more (weight a * length ys) (weight a * suc (length ys)) (weight a) (weight y) (total_weight (map (joined_by InSequence a) ys)) (total_weight ys) (mul-suc (weight a) (length ys)) (before_each a ys)
    ∙ ap (λ (n : ℕ). weight a * suc (length ys) + n) (sym (weight-cons y ys))))

all_more : (p ps q qs w t : ℕ) → q ≡ p + ps → qs ≡ t + w → (p + w) + (ps + t) ≡ q + qs
all_more p ps q qs w t more rest = omega arith

-- each of some before each of others
pub sequence_weighs : (xs ys : List (Alternative UnitPlace)) → total_weight (each_choice (joined_by InSequence) xs ys) ≡ total_weight xs * length ys + total_weight ys * length xs
sequence_weighs [] ys =
    let first : 0 * length ys ≡ 0 = zero-mul (length ys) in
    let second : total_weight ys * 0 ≡ 0 = mul-zero (total_weight ys) in
    omega arith
sequence_weighs (x ∷ xs) ys =
    let n = length ys in
    let w = total_weight ys in
    weight-append (map (joined_by InSequence x) ys) (each_choice (joined_by InSequence) xs ys)
    ∙ (ap (λ (m : ℕ). m + total_weight (each_choice (joined_by InSequence) xs ys)) (before_each x ys)
    ∙ (ap (λ (m : ℕ). (weight x * n + w) + m) (sequence_weighs xs ys)
    ∙ (all_more (weight x * n) (total_weight xs * n) ((weight x + total_weight xs) * n) (w * suc (length xs)) w (w * length xs) (add-mul (weight x) (total_weight xs) n) (mul-suc w (length xs))
    ∙ ap (λ (m : ℕ). m * n + w * suc (length xs)) (sym (weight-cons x xs)))))

-- the same of sizes and numbers that are held
pub held_weighs : (size more n m : ℕ) (xs ys : List (Alternative UnitPlace)) → size ≡ total_weight xs → more ≡ total_weight ys → n ≡ length ys → m ≡ length xs → size * n + more * m ≡ total_weight (each_choice (joined_by InSequence) xs ys)
held_weighs size more n m xs ys weighs weigh long short = rw (weighs, weigh, long, short) (sym (sequence_weighs xs ys))
