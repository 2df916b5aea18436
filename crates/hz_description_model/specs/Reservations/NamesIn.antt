-- The names in an expression. GCC Internals, 'Specifying processor pipeline description', on `define_reservation`.
use Rattle.std.specs.Prelude.{ℕ, Bool, true, ◌&&◌, List, [], ◌∷◌, ◌++◌}
use Rattle.hz_description_model.specs.Reservations.Alternatives.{Expression, named, nothing, sequence, one_of, all_of, repeat, Parts, none, more}

-- whether each name in the expression passes the test
abbrev mutual
  pub all_names : (List ℕ → Bool) → Expression → Bool
  all_names test (named name) = test name
  all_names test nothing = true
  all_names test (sequence parts) = all_names_in test parts
  all_names test (one_of parts) = all_names_in test parts
  all_names test (all_of parts) = all_names_in test parts
  all_names test (repeat part times) = all_names test part

  -- whether each name in the parts passes it
  pub all_names_in : (List ℕ → Bool) → Parts → Bool
  all_names_in test none = true
  all_names_in test (more first others) = all_names test first && all_names_in test others

-- the names in an expression, from left to right
abbrev mutual
  pub names_in : Expression → List (List ℕ)
  names_in (named name) = name ∷ []
  names_in nothing = []
  names_in (sequence parts) = names_in_parts parts
  names_in (one_of parts) = names_in_parts parts
  names_in (all_of parts) = names_in_parts parts
  names_in (repeat part times) = names_in part

  pub names_in_parts : Parts → List (List ℕ)
  names_in_parts none = []
  names_in_parts (more first others) = names_in first ++ names_in_parts others
