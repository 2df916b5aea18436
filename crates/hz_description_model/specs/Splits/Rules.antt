-- The two rules on a class that reserves units of several automata: no alternation holds units of two of them, and each
-- part before a comma, and of a repeat, has one length. This profile, docs/RULES.md, 'Automata and lists'.
use Rattle.std.specs.Prelude.{ℕ, zero, suc, Bool, false, ◌&&◌, ◌||◌, ◌==◌, not, nat_le, List, [], ◌∷◌, Option, Some, None}
use Rattle.std.specs.List.{list_any, flat_map}
use Rattle.hz_base_model.specs.Pairs.{Pair}
use Rattle.hz_description_model.specs.Reservations.Alternatives.{Alternative, Expression, named, nothing, sequence, one_of, all_of, repeat, Parts, none, more, alternatives_of, any_of}
use Rattle.hz_description_model.specs.Reservations.Automata.{UnitPlace}
use Rattle.hz_description_model.specs.Reservations.Meanings.{Meaning, unit, reservation}

-- some two of these pairs have units of different automata
abbrev pub are_mixed : List (Pair UnitPlace) → Bool
are_mixed [] = false
are_mixed (p ∷ pairs) = list_any (λ q. not (q.unit.automaton == p.unit.automaton)) pairs

-- the alternatives together hold units of two automata
abbrev pub hold_two_automata : List (Alternative UnitPlace) → Bool
hold_two_automata alternatives = are_mixed (flat_map (λ a. a.pairs) alternatives)

-- the alternatives have two lengths
abbrev pub differ_in_length : {U : Type 0} → List (Alternative U) → Bool
differ_in_length [] = false
differ_in_length (a ∷ alternatives) = list_any (λ b. not (b.cycles == a.cycles)) alternatives

-- Whether a test passes for some compound expression inside an expression, itself included, where `inside` answers for
-- what a name in it stands for.
abbrev mutual
  pub somewhere : (test : Expression → Bool) (inside : List ℕ → Bool) → Expression → Bool
  somewhere test inside (named name) = inside name
  somewhere test inside nothing = false
  somewhere test inside (sequence parts) = test (sequence parts) || somewhere_in test inside parts
  somewhere test inside (one_of parts) = test (one_of parts) || somewhere_in test inside parts
  somewhere test inside (all_of parts) = test (all_of parts) || somewhere_in test inside parts
  somewhere test inside (repeat part times) = test (repeat part times) || somewhere test inside part

  -- the same inside some part
  pub somewhere_in : (test : Expression → Bool) (inside : List ℕ → Bool) → Parts → Bool
  somewhere_in test inside none = false
  somewhere_in test inside (more first others) = somewhere test inside first || somewhere_in test inside others

-- whether a test passes for the expression of a reservation; a unit has none
abbrev pub of_reservation : {U : Type 0} → (Expression → Bool) → Option (Meaning U) → Bool
of_reservation test None = false
of_reservation test (Some (unit u)) = false
of_reservation test (Some (reservation expression)) = test expression

-- whether a test passes somewhere inside the reservation of a name, where names are replaced by what they stand for, so
-- many times one inside the other
abbrev pub passes : {U : Type 0} → (Expression → Bool) → (meaning : List ℕ → Option (Meaning U)) → ℕ → List ℕ → Bool
passes test meaning zero name = of_reservation (somewhere test (λ other. false)) (meaning name)
passes test meaning (suc depth) name = of_reservation (somewhere test (passes test meaning depth)) (meaning name)

-- Whether a test passes somewhere inside an expression, names replaced. The number of reservations is depth enough, since
-- none of them reaches itself.
abbrev pub passes_in : {U : Type 0} → (Expression → Bool) → (meaning : List ℕ → Option (Meaning U)) → ℕ → Expression → Bool
passes_in test meaning depth e = somewhere test (passes test meaning depth) e

-- `known` has the alternatives of each name.

-- an alternation that holds units of two automata
abbrev pub is_mixed : (known : List ℕ → List (Alternative UnitPlace)) → Expression → Bool
is_mixed known (one_of parts) = hold_two_automata (any_of known parts)
is_mixed known _ = false

-- some part before a comma has two lengths
abbrev pub differ_before_last : {U : Type 0} → (known : List ℕ → List (Alternative U)) → Parts → Bool
differ_before_last known none = false
differ_before_last known (more last none) = false
differ_before_last known (more first (more second others)) = differ_in_length (alternatives_of known first) || differ_before_last known (more second others)

-- a sequence in which some part but the last has two lengths, or a repeat of two or more whose part has two
abbrev pub is_uneven : {U : Type 0} → (known : List ℕ → List (Alternative U)) → Expression → Bool
is_uneven known (sequence parts) = differ_before_last known parts
is_uneven known (repeat part times) = nat_le 2 times && differ_in_length (alternatives_of known part)
is_uneven known _ = false

-- The class breaks the first rule: some alternation in its expression, names replaced, holds units of two automata.
abbrev pub is_mixed_class : (meaning : List ℕ → Option (Meaning UnitPlace)) → ℕ → (known : List ℕ → List (Alternative UnitPlace)) → Expression → Bool
is_mixed_class meaning depth known e = passes_in (is_mixed known) meaning depth e

-- The class breaks the second rule: it has units of two automata, and some sequence or repeat in its expression, names
-- replaced, is uneven, be it one within a single automaton.
abbrev pub is_uneven_class : (meaning : List ℕ → Option (Meaning UnitPlace)) → ℕ → (known : List ℕ → List (Alternative UnitPlace)) → Expression → Bool
is_uneven_class meaning depth known e = hold_two_automata (alternatives_of known e) && passes_in (is_uneven known) meaning depth e
