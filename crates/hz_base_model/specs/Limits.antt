-- The limits that the check of descriptions asks, and automata or their tables too: docs/RULES.md, 'Limits'. The others stand in the
-- `Limits` of the crate of their subject.
use Rattle.std.specs.Prelude.{ℕ}

-- units of one automaton
abbrev pub unit_limit : ℕ
unit_limit = 256

-- cycles of an alternative
abbrev pub cycle_limit : ℕ
cycle_limit = 512

abbrev pub class_limit : ℕ
class_limit = 1024

-- automata of a description
abbrev pub automaton_limit : ℕ
automaton_limit = 16
