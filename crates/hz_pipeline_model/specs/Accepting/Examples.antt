-- Descriptions as data, on which acceptance is computed. Units go by their places in a list of names. The first is the
-- superscalar example of GCC Internals, 'Specifying processor pipeline description'; the others are this profile's,
-- docs/RULES.md.
use Rattle.std.specs.Prelude.{ℕ, List, [], ◌∷◌, codes}
use Rattle.hz_description_model.specs.Reservations.Meanings.{unit_alternatives}
use Rattle.hz_description_model.specs.Reservations.Alternatives.{Expression, Parts, named, nothing, sequence, one_of, all_of, repeat, none, more, alternatives_of}
use Rattle.hz_description_model.specs.Reservations.Sets.{Statement, excludes, presence, absence}
use Rattle.hz_pipeline_model.specs.Accepting.Replay.{Class, Pipeline, Treatment, first_fit}

-- two parts
abbrev pub two : Expression → Expression → Parts
two a b = more a (more b none)

-- three parts
abbrev pub three : Expression → Expression → Expression → Parts
three a b c = more a (two b c)

-- a class whose expression is over these units
abbrev pub class : List (List ℕ) → List ℕ → Expression → Class ℕ
class units name expression = record { name = name; alternatives = alternatives_of (unit_alternatives units) expression }

-- Two integer pipelines, one for floating point, two ports for results, and a divider.
abbrev pub superscalar_units : List (List ℕ)
superscalar_units = codes "i0_pipeline" ∷ codes "i1_pipeline" ∷ codes "f_pipeline" ∷ codes "port0" ∷ codes "port1" ∷ codes "div" ∷ []

-- one of the integer pipelines
abbrev pub integer : Expression
integer = one_of (two (named (codes "i0_pipeline")) (named (codes "i1_pipeline")))

-- one of the ports
abbrev pub port : Expression
port = one_of (two (named (codes "port0")) (named (codes "port1")))

-- its classes, which are `simple`, `mult`, `div` and `float`
abbrev pub superscalar : Pipeline ℕ
superscalar = record {
  classes = class superscalar_units (codes "simple") (sequence (two integer port))
      ∷ class superscalar_units (codes "mult") (sequence (three (named (codes "i1_pipeline")) (repeat nothing 2) port))
      ∷ class superscalar_units (codes "div") (sequence (three (named (codes "i1_pipeline")) (repeat (named (codes "div")) 7) (all_of (two (named (codes "div")) port))))
      ∷ class superscalar_units (codes "float") (sequence (three (named (codes "f_pipeline")) nothing port))
      ∷ [];
  statements = [];
  treatment = first_fit;
}

-- the classes by their numbers
abbrev pub simple : ℕ
simple = 0

abbrev pub mult : ℕ
mult = 1

abbrev pub div : ℕ
div = 2

abbrev pub float : ℕ
float = 3

-- and its unit `div`
abbrev pub divider : ℕ
divider = 5

-- the units `a` and `b`, and the classes 0 `x` of `a|b` and 1 `y` of `a`
abbrev pub choice_units : List (List ℕ)
choice_units = codes "a" ∷ codes "b" ∷ []

abbrev pub choice : Treatment → Pipeline ℕ
choice treatment = record {
  classes = class choice_units (codes "x") (one_of (two (named (codes "a")) (named (codes "b")))) ∷ class choice_units (codes "y") (named (codes "a")) ∷ [];
  statements = [];
  treatment = treatment;
}

-- the units `slot0`, `slot1`, `slot2` and `b0`
abbrev pub slot_units : List (List ℕ)
slot_units = codes "slot0" ∷ codes "slot1" ∷ codes "slot2" ∷ codes "b0" ∷ []

-- `presence_set "slot1" "slot0"`, and the class 0 of `slot0 + slot1`
abbrev pub slot_present : Statement ℕ
slot_present = record { kind = presence; units = 1 ∷ []; patterns = (0 ∷ []) ∷ [] }

abbrev pub slots_together : Statement ℕ → Pipeline ℕ
slots_together s = record {
  classes = class slot_units (codes "x") (all_of (two (named (codes "slot0")) (named (codes "slot1")))) ∷ [];
  statements = s ∷ [];
  treatment = first_fit;
}

-- `absence_set "slot0" "slot1, slot2"`, and the classes 0 `p0` of `slot0` and 1 `p1` of `slot1`
abbrev pub slot_absent : Pipeline ℕ
slot_absent = record {
  classes = class slot_units (codes "p0") (named (codes "slot0")) ∷ class slot_units (codes "p1") (named (codes "slot1")) ∷ [];
  statements = record { kind = absence; units = 0 ∷ []; patterns = (1 ∷ []) ∷ (2 ∷ []) ∷ [] } ∷ [];
  treatment = first_fit;
}

-- `presence_set "slot1" "slot0 b0"`, and the classes 0 `p` of `slot0`, 1 `q` of `b0` and 2 `r` of `slot1`
abbrev pub pattern_present : Pipeline ℕ
pattern_present = record {
  classes = class slot_units (codes "p") (named (codes "slot0")) ∷ class slot_units (codes "q") (named (codes "b0")) ∷ class slot_units (codes "r") (named (codes "slot1")) ∷ [];
  statements = record { kind = presence; units = 1 ∷ []; patterns = (0 ∷ 3 ∷ []) ∷ [] } ∷ [];
  treatment = first_fit;
}

-- `exclusion_set "f1" "f2"`, and the classes 0 `m` of `d, f1` and 1 `n` of `e, f2`
abbrev pub later_units : List (List ℕ)
later_units = codes "d" ∷ codes "e" ∷ codes "f1" ∷ codes "f2" ∷ []

abbrev pub excluded_later : Pipeline ℕ
excluded_later = record {
  classes = class later_units (codes "m") (sequence (two (named (codes "d")) (named (codes "f1"))))
      ∷ class later_units (codes "n") (sequence (two (named (codes "e")) (named (codes "f2")))) ∷ [];
  statements = excludes (2 ∷ []) (3 ∷ []) ∷ [];
  treatment = first_fit;
}

-- the units of two automata, `a0` and `a1`, `b0` and `b1`, and the class 0 of `(a0|a1),(b0|b1)`
abbrev pub stage_units : List (List ℕ)
stage_units = codes "a0" ∷ codes "a1" ∷ codes "b0" ∷ codes "b1" ∷ []

abbrev pub two_stages : Pipeline ℕ
two_stages = record {
  classes = class stage_units (codes "x") (sequence (two (one_of (two (named (codes "a0")) (named (codes "a1")))) (one_of (two (named (codes "b0")) (named (codes "b1")))))) ∷ [];
  statements = [];
  treatment = first_fit;
}

-- the units `a0` and `b0`, and the class 0 of `((a0,a0)|a0), b0`
abbrev pub two_lengths : Pipeline ℕ
two_lengths = record {
  classes = class stage_units (codes "x") (sequence (two (one_of (two (sequence (two (named (codes "a0")) (named (codes "a0")))) (named (codes "a0")))) (named (codes "b0")))) ∷ [];
  statements = [];
  treatment = first_fit;
}
