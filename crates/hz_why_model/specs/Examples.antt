-- The wording of the examples, whose units go by their places in a list of names.
use Rattle.std.specs.Prelude.{ℕ, ◌+◌, ◌==◌, List, [], length, slice_index_or}
use Rattle.std.specs.List.{range_with_len}
use Rattle.std.specs.Ordering.{nat_cmp}
use Rattle.hz_why_model.specs.Explanations.{Wording}

-- units, classes and statements with these names; each statement stands on the line of its number, and nine more
abbrev pub worded : (units classes statements : List (List ℕ)) → Wording ℕ
worded units classes statements = record {
  units = range_with_len 0 (length units);
  same = λ a b. a == b;
  unit_cmp = nat_cmp;
  unit = λ u. slice_index_or units u [];
  class = λ k. slice_index_or classes k [];
  statement = λ n. slice_index_or statements n [];
  line = λ n. 9 + n;
}
