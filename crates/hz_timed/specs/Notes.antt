-- What slots left, as one list of words that were written.
use Rattle.std.specs.Prelude.{ℕ, List, [], ◌∷◌, ◌++◌, map}
use Rattle.hz_block_model.specs.Running.States.{Place, Store}
use Rattle.hz_measure_model.specs.Exposed.Exposed.{Left}

-- A word that was written: by the instruction at a place, at a cycle.
pub record Note : Type 0 where
  pub place : ℕ
  pub cycle : ℕ
  pub at : Place
  pub word : ℕ

abbrev pub note : Left → Store → Note
note l st = record { place = l.place; cycle = l.cycle; at = st.place; word = st.word }

-- all that slots left, of which the newest stands first, the oldest write first
abbrev pub notes_of : List Left → List Note
notes_of [] = []
notes_of (l ∷ lefts) = notes_of lefts ++ map (note l) l.stores
