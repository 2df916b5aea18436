-- How many bytes strings and names have. This profile, docs/FORMATS.md, 'Tables'.
use Rattle.std.specs.Prelude.{ℕ, ◌+◌, ◌*◌, length}
use Rattle.std.specs.List.{sum_by}
use Rattle.hz_base_model.specs.Limits.{automaton_limit, class_limit, unit_limit}
use Rattle.hz_base_model.specs.Forms.Trees.{Tree, Trees, list, vector, quoted, none, more}
use Rattle.hz_pipeline_model.specs.Tables.Machines.{Machine, names_of}
use Rattle.hz_pipeline_model.specs.Tables.StateLimits.{state_limit, cell_limit}

-- the bytes of all quoted strings together, at every depth
abbrev mutual
  pub bytes_of_strings : Trees → ℕ
  bytes_of_strings none = 0
  bytes_of_strings (more first others) = bytes_of_string first + bytes_of_strings others

  -- the same in one form
  pub bytes_of_string : Tree → ℕ
  bytes_of_string (list _ forms) = bytes_of_strings forms
  bytes_of_string (vector _ forms) = bytes_of_strings forms
  bytes_of_string (quoted _ bytes) = length bytes
  bytes_of_string _ = 0

-- the bytes of the names of a machine together: each class has one, each automaton, and each unit that is asked for
abbrev pub bytes_of_names : Machine → ℕ
bytes_of_names m = sum_by length m.classes + sum_by (λ part. length part.name) m.parts + sum_by length (names_of m.parts)

-- The bytes of a tables text without names, at most, where nothing is reported of states: for each automaton six for each entry, four
-- more for each row, five for each class in its map, one for each ask, and its other lines; seven for each class, and the other
-- lines of the text.
abbrev pub unnamed_limit : ℕ
unnamed_limit = automaton_limit * (cell_limit * 6 + state_limit * 4 + class_limit * 5 + unit_limit + 70) + class_limit * 7 + 63
