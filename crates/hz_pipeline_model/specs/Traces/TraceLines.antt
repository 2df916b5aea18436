-- What stands in the lines of a trace, in other words than those by which they are read. docs/FORMATS.md, 'Trace'.
use Rattle.std.specs.Prelude.{◌≡◌, ℕ, ◌+◌, ◌<◌, List, [], ◌∷◌, ◌++◌, length, codes, IsTrue}
use Rattle.std.specs.List.{list_all}
use Rattle.hz_base_model.specs.Lines.{lines_of}
use Rattle.hz_pipeline_model.specs.Accepting.Events.{Event}
use Rattle.hz_pipeline_model.specs.Traces.TraceNames.{TraceNames}
use Rattle.hz_pipeline_model.specs.Traces.Traces.{says, line_says, is_margin, is_gap}

-- The line of this number says this event. Lines count from 1, and every line counts. Law: `events_stand_in_their_lines`.
pub record SaysEvent (names : TraceNames) (text : List ℕ) (number : ℕ) (event : Event) : Type 0 where
  pub before : List (List ℕ)
  pub line : List ℕ
  pub after : List (List ℕ)
  pub parts : lines_of text ≡ before ++ line ∷ after
  pub counted : number ≡ length before + 1
  pub event_is : line_says names line ≡ says event

-- A line is a margin, a word, a gap, an operand and a margin. Law: `lines_of_traces`.
pub record IsWords (line word operand : List ℕ) : Type 0 where
  pub left : List ℕ
  pub gap : List ℕ
  pub right : List ℕ
  pub parts : line ≡ left ++ word ++ gap ++ operand ++ right
  pub margin_left : IsTrue (list_all is_margin left)
  pub some_gap : 0 < length gap
  pub gap_between : IsTrue (list_all is_gap gap)
  pub margin_right : IsTrue (list_all is_margin right)

-- A line says nothing: it is a margin, or a margin and what begins with `;`.
pub data IsSkipped : (line : List ℕ) → Type 0 where
  is_blank : (line : List ℕ) → IsTrue (list_all is_margin line) → IsSkipped line
  is_comment : (left rest : List ℕ) → IsTrue (list_all is_margin left) → IsSkipped (left ++ 59 ∷ rest)

-- names for rows: a class `x`, a query unit `a` of one automaton, and `b` and `c` of the next
abbrev pub row_names : TraceNames
row_names = record { classes = codes "x" ∷ []; queries = (codes "a" ∷ []) ∷ (codes "b" ∷ codes "c" ∷ []) ∷ [] }
