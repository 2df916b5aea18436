-- What follows the columns and the asks of an automaton in a tables text: this profile, docs/FORMATS.md, 'Tables'. Law:
-- `lines_of_asks_follow_the_columns`.
use Rattle.std.specs.Prelude.{◌≡◌, ℕ, List, [], ◌∷◌, codes, decimal, map, Some, None}
use Rattle.hz_tabtext_model.specs.Texts.{PartText, Counts, RowText, entry_field}

-- The line of the counts, if there are any, and then the first row of an automaton that has one.
pub data BeginsWithCountsOrRow (part : PartText) : (lines : List (List (List ℕ))) → Type 0 where
  the_counts : {counts : Counts} {others : List (List (List ℕ))} → part.counts ≡ Some counts
      → BeginsWithCountsOrRow part ((codes "stats" ∷ decimal counts.grids ∷ decimal counts.states ∷ decimal counts.members ∷ []) ∷ others)
  the_row : {row : RowText} {rows : List RowText} {others : List (List (List ℕ))} → part.counts ≡ None → part.rows ≡ row ∷ rows
      → BeginsWithCountsOrRow part ((codes "row" ∷ map entry_field row.entries) ∷ others)
  no_row : {lines : List (List (List ℕ))} → part.counts ≡ None → part.rows ≡ [] → BeginsWithCountsOrRow part lines
