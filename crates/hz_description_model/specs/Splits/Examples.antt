-- Units of two automata and reservations of them, on which the two rules are computed. This profile, docs/RULES.md.
use Rattle.std.specs.Prelude.{ℕ, zero, suc, Bool, List, [], ◌∷◌, codes, Option, Some, None, if◌then◌else◌}
use Rattle.std.specs.Str.{bytes_eq}
use Rattle.hz_description_model.specs.Reservations.Alternatives.{Alternative, Expression, named, sequence, one_of, all_of, Parts, none, more}
use Rattle.hz_description_model.specs.Reservations.Automata.{UnitPlace}
use Rattle.hz_description_model.specs.Reservations.Meanings.{Meaning, unit, reservation, alternatives_of_meaning}
use Rattle.hz_description_model.specs.Splits.Rules.{is_mixed_class, is_uneven_class}

-- what the first entry of a name says
abbrev pub entry_of : List (List ℕ × Meaning UnitPlace) → List ℕ → Option (Meaning UnitPlace)
entry_of [] name = None
entry_of (entry ∷ entries) name = if bytes_eq name entry.0 then Some entry.1 else entry_of entries name

-- a unit by its automaton and its number there
abbrev pub at : ℕ → ℕ → Meaning UnitPlace
at automaton number = unit (record { automaton = automaton; unit = number })

-- two parts
abbrev pub two : Expression → Expression → Parts
two a b = more a (more b none)

-- three parts
abbrev pub three : Expression → Expression → Expression → Parts
three a b c = more a (two b c)

-- the units of the first automaton, and one of the second
abbrev pub a0 : Expression
a0 = named (codes "a0")

abbrev pub a1 : Expression
a1 = named (codes "a1")

abbrev pub b0 : Expression
b0 = named (codes "b0")

abbrev pub b1 : Expression
b1 = named (codes "b1")

-- The reservations: `either` of `a0|a1`, `wide` of `(a0,a0)|a0`, `both` of `a0|b0`, and `deep` of `wide`, `far` of
-- `deep`, `joint` of `both`, each of one name.
abbrev pub entries : List (List ℕ × Meaning UnitPlace)
entries = (codes "a0", at 0 0) ∷ (codes "a1", at 0 1) ∷ (codes "b0", at 1 0) ∷ (codes "b1", at 1 1)
    ∷ (codes "either", reservation (one_of (two a0 a1)))
    ∷ (codes "wide", reservation (one_of (two (sequence (two a0 a0)) a0)))
    ∷ (codes "both", reservation (one_of (two a0 b0)))
    ∷ (codes "deep", reservation (named (codes "wide")))
    ∷ (codes "far", reservation (sequence (two (named (codes "deep")) a1)))
    ∷ (codes "joint", reservation (all_of (two a1 (named (codes "both")))))
    ∷ []

abbrev pub either : Expression
either = named (codes "either")

abbrev pub wide : Expression
wide = named (codes "wide")

abbrev pub deep : Expression
deep = named (codes "deep")

abbrev pub far : Expression
far = named (codes "far")

abbrev pub joint : Expression
joint = named (codes "joint")

-- the number of the reservations
abbrev pub depth : ℕ
depth = 6

-- the alternatives of a name, names replaced so many times
abbrev pub known_by : ℕ → List ℕ → List (Alternative UnitPlace)
known_by zero name = []
known_by (suc n) name = alternatives_of_meaning (known_by n) (entry_of entries name)

-- whether a class of the expression breaks the first rule
abbrev pub mixes : Expression → Bool
mixes e = is_mixed_class (entry_of entries) depth (known_by (suc depth)) e

-- whether it breaks the second
abbrev pub varies : Expression → Bool
varies e = is_uneven_class (entry_of entries) depth (known_by (suc depth)) e
