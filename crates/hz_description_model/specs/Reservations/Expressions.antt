-- Expressions that can be written, and how many alternatives they have. GCC Internals, 'Specifying processor pipeline
-- description', on the regular expressions of `define_reservation` and `define_insn_reservation`.
use Rattle.std.specs.Prelude.{ℕ, zero, suc, ◌+◌, ◌*◌, Bool, true, false, ◌&&◌, nat_le, List, length}
use Rattle.hz_description_model.specs.Reservations.Limits.{repeat_limit}
use Rattle.hz_description_model.specs.Reservations.Alternatives.{Alternative, Expression, named, nothing, sequence, one_of, all_of, repeat, Parts, none, more, alternatives_of}

-- two parts or more
abbrev pub are_several : Parts → Bool
are_several (more first (more second others)) = true
are_several _ = false

-- An expression that can be written: marks stand between two parts or more, and a number after `*` is in its range.
abbrev mutual
  pub is_expression : Expression → Bool
  is_expression (named name) = true
  is_expression nothing = true
  is_expression (sequence parts) = are_several parts && are_expressions parts
  is_expression (one_of parts) = are_several parts && are_expressions parts
  is_expression (all_of parts) = are_several parts && are_expressions parts
  is_expression (repeat part times) = is_expression part && nat_le 1 times && nat_le times repeat_limit

  -- each part can be written
  pub are_expressions : Parts → Bool
  are_expressions none = true
  are_expressions (more first others) = is_expression first && are_expressions others

-- so many parts, all of them this expression
abbrev pub repeated : ℕ → Expression → Parts
repeated zero part = none
repeated (suc n) part = more part (repeated n part)

-- how many alternatives each part has, multiplied
abbrev pub product_of_counts : {U : Type 0} → (List ℕ → List (Alternative U)) → Parts → ℕ
product_of_counts known none = 1
product_of_counts known (more first others) = length (alternatives_of known first) * product_of_counts known others

-- how many alternatives each part has, added up
abbrev pub sum_of_counts : {U : Type 0} → (List ℕ → List (Alternative U)) → Parts → ℕ
sum_of_counts known none = 0
sum_of_counts known (more first others) = length (alternatives_of known first) + sum_of_counts known others
