-- Judging: a value, or the first thing that is wrong.
use Rattle.std.specs.Prelude.{ℕ, List, [], ◌∷◌, codes, Result, Ok, Err}

-- What can be wrong with a tables text: its first line is another; a line that is no line of its place; a field that is
-- no number; a number out of its range; the text ends within a line; something comes after the end.
pub data Kind : Type 0 where
  bad_header bad_line bad_number out_of_range truncated trailing : Kind

-- the word by which a fault is reported: docs/FORMATS.md, 'Answers'
abbrev pub tables_word : Kind → List ℕ
tables_word bad_header = codes "BadHeader"
tables_word bad_line = codes "BadLine"
tables_word bad_number = codes "BadNumber"
tables_word out_of_range = codes "OutOfRange"
tables_word truncated = codes "Truncated"
tables_word trailing = codes "Trailing"

-- A fault is what is wrong, and the number of its line, from 1.
pub record Fault : Type 0 where
  pub kind : Kind
  pub line : ℕ

infixl 10 ◌>>=◌
-- one judgement after another: the first fault stands
abbrev pub ◌>>=◌ : {A B E : Type 0} → Result A E → (A → Result B E) → Result B E
(Ok x) >>= f = f x
(Err e) >>= f = Err e

-- each of a list, from left to right
unfoldable pub each_by : {A B : Type 0} → (A → Result B Kind) → List A → Result (List B) Kind
each_by judge [] = Ok []
each_by judge (x ∷ xs) = do
  first ← judge x
  others ← each_by judge xs
  Ok (first ∷ others)
