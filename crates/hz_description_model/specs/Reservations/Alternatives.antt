-- Expressions and their alternatives. GCC Internals, 'Specifying processor pipeline description', on `,` `|` `+` `*`
-- and `nothing`.
use Rattle.std.specs.Prelude.{◌≡◌, ℕ, zero, suc, ◌+◌, max, List, [], ◌∷◌, ◌++◌, map}
use Rattle.std.specs.List.{flat_map}
use Rattle.hz_base_model.specs.Pairs.{Pair, SamePairs, placed}

-- One way to reserve: its pairs, and for how many cycles it runs.
pub record Alternative (U : Type 0) : Type 0 where
  pub pairs : List (Pair U)
  pub cycles : ℕ

-- the same alternative: the same set of pairs, for as many cycles
pub record SameAs {U : Type 0} (a b : Alternative U) : Type 0 where
  pub pairs : SamePairs a.pairs b.pairs
  pub cycles : a.cycles ≡ b.cycles

-- A reservation expression. A name stands for a unit or for a reservation.
mutual
  pub data Expression : Type 0 where
    named : (name : List ℕ) → Expression
    nothing : Expression
    sequence : (parts : Parts) → Expression
    one_of : (parts : Parts) → Expression
    all_of : (parts : Parts) → Expression
    repeat : (part : Expression) → (times : ℕ) → Expression

  pub data Parts : Type 0 where
    none : Parts
    more : (first : Expression) → (others : Parts) → Parts

-- no pair, and no cycle
abbrev pub empty : {U : Type 0} → Alternative U
empty = record { pairs = []; cycles = 0 }

-- no pair, for one cycle: what `nothing` means
abbrev pub idle : {U : Type 0} → Alternative U
idle = record { pairs = []; cycles = 1 }

-- one unit, for one cycle
abbrev pub taking : {U : Type 0} → U → Alternative U
taking u = record { pairs = record { unit = u; cycle = 0 } ∷ []; cycles = 1 }

-- a, and where it ends b
abbrev pub followed_by : {U : Type 0} → Alternative U → Alternative U → Alternative U
followed_by a b = record { pairs = a.pairs ++ placed a.cycles b.pairs; cycles = a.cycles + b.cycles }

-- a and b from the same cycle on
abbrev pub beside : {U : Type 0} → Alternative U → Alternative U → Alternative U
beside a b = record { pairs = a.pairs ++ b.pairs; cycles = max a.cycles b.cycles }

-- one for each choice of an item of xs and one of ys, the first most significant
abbrev pub each_choice : {A : Type 0} → (A → A → A) → List A → List A → List A
each_choice join xs ys = flat_map (λ x. map (join x) ys) xs

-- n copies one after another, each of which chooses by itself
abbrev pub copies : {U : Type 0} → ℕ → List (Alternative U) → List (Alternative U)
copies zero xs = empty ∷ []
copies (suc n) xs = each_choice followed_by xs (copies n xs)

-- The alternatives of an expression, where `known` has those of each name.
abbrev mutual
  pub alternatives_of : {U : Type 0} → (List ℕ → List (Alternative U)) → Expression → List (Alternative U)
  alternatives_of known (named name) = known name
  alternatives_of known nothing = idle ∷ []
  alternatives_of known (sequence parts) = in_sequence known parts
  alternatives_of known (one_of parts) = any_of known parts
  alternatives_of known (all_of parts) = together known parts
  alternatives_of known (repeat part times) = copies times (alternatives_of known part)

  -- part after part
  pub in_sequence : {U : Type 0} → (List ℕ → List (Alternative U)) → Parts → List (Alternative U)
  in_sequence known none = empty ∷ []
  in_sequence known (more first others) = each_choice followed_by (alternatives_of known first) (in_sequence known others)

  -- those of each part, one list after the other
  pub any_of : {U : Type 0} → (List ℕ → List (Alternative U)) → Parts → List (Alternative U)
  any_of known none = []
  any_of known (more first others) = alternatives_of known first ++ any_of known others

  -- all parts from the same cycle on
  pub together : {U : Type 0} → (List ℕ → List (Alternative U)) → Parts → List (Alternative U)
  together known none = empty ∷ []
  together known (more first others) = each_choice beside (alternatives_of known first) (together known others)

-- the parts in their order
abbrev pub parts_of : List Expression → Parts
parts_of [] = none
parts_of (first ∷ others) = more first (parts_of others)
