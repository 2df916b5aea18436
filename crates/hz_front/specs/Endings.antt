-- What is written, by how it ends: docs/FORMATS.md, 'Answers'. `answers` holds of a status and a text that are an answer, `names` of each
-- file word.
use Rattle.std.specs.Prelude.{◌≡◌, ◌⊎◌, ⊤, ℕ, ◌<◌, ◌≤◌, List, ◌++◌, length, Option, Some, None, MatchOption}
use Rattle.std.specs.Option.{ForSome}
use Rattle.hz_base_model.specs.Names.{Held}
use Rattle.hz_front_model.specs.Texts.{memory_line, file_line}
use Rattle.hz_io.specs.Sink.{Wrote, Cut}
use Rattle.hz_front.specs.Refusals.{Decided, done, refused, IsOfOrder, SaysUsage, status_in, text_in}

-- the text was appended, where what is written is reported
abbrev pub IsAppended : Option (List ℕ) → Option (List ℕ) → List ℕ → Type 0
IsAppended old new text = ForSome old (λ before. new ≡ Some (before ++ text))

-- the line of a file word that could not be read
pub record SaysFile (names : List ℕ → Type 0) (text : List ℕ) : Type 0 where
  pub name : List ℕ
  pub word : names name
  pub line : text ≡ file_line name

-- what status 6 appends
pub record AppendsFile (names : List ℕ → Type 0) (old new : Option (List ℕ)) : Type 0 where
  pub text : List ℕ
  pub says : SaysFile names text
  pub appended : IsAppended old new text

-- memory ran out, or the status and what is appended are an answer
abbrev pub Completes : (answers : ℕ → List ℕ → Type 0) → ℕ → Option (List ℕ) → Option (List ℕ) → Type 0
Completes answers status old new = (status ≡ 5) ⊎ ((text : List ℕ) × answers status text × IsAppended old new text)

-- a text that may be cut: an answer, the line `memory`, or where a file failed the line of a file word
abbrev pub MayWrite : (answers : ℕ → List ℕ → Type 0) → (names : List ℕ → Type 0) → (failed : Type 0) → List ℕ → Type 0
MayWrite answers names failed text = ((status : ℕ) × answers status text) ⊎ ((text ≡ memory_line) ⊎ (failed × SaysFile names text))

-- a front of such a text was appended, which is longer than the room
pub record IsCutShort (answers : ℕ → List ℕ → Type 0) (names : List ℕ → Type 0) (failed : Type 0) (old new : Option (List ℕ)) (room : Option ℕ) : Type 0 where
  pub text : List ℕ
  pub may : MayWrite answers names failed text
  pub front : List ℕ
  pub back : List ℕ
  pub parts : text ≡ front ++ back
  pub appended : IsAppended old new front
  pub longer : ForSome room (λ most. most < length text)

-- all files that the words name are held
abbrev pub HasAll : (names : List ℕ → Type 0) → Held → Type 0
HasAll names held = (name : List ℕ) → names name → held name ≡ None → ⊥

-- there is room for the answer, and for the line of memory
pub record HasRoom (answers : ℕ → List ℕ → Type 0) (room : ℕ) : Type 0 where
  pub answer : (status : ℕ) (text : List ℕ) → answers status text → length text ≤ room
  pub memory : length memory_line ≤ room

-- ---- how what is decided ends

-- it is of an order: no usage line
abbrev pub IsOrdered : Decided → Type 0
IsOrdered (done status text) = ⊤
IsOrdered (refused refusal) = IsOfOrder refusal

-- it is of no order: the usage line, or `memory` holds and memory ran out
abbrev pub IsUnordered : (memory : Type 0) → (usage : List ℕ) → Decided → Type 0
IsUnordered memory usage (done status text) = ⊥
IsUnordered memory usage (refused refusal) = SaysUsage memory usage refusal

-- the usage line is decided exactly where the words are no order; where `memory` holds, memory may run out in its place
abbrev pub DecidesWords : {O : Type 0} → (memory : Type 0) → (usage : List ℕ) → Option O → Decided → Type 0
DecidesWords memory usage order decided = MatchOption order (IsUnordered memory usage decided) (λ _. IsOrdered decided)

-- the text of what is decided was written whole, and the status is its own; or a front of it was written, and the status is 7
abbrev pub Ends : {S : Type 0} → (written : S → Option (List ℕ)) → (room : S → Option ℕ) → (faults : S → ℕ) → (old new : S) → Decided → ℕ → Type 0
Ends written room faults old new decided status =
    ((status ≡ status_in decided) × Wrote written room faults old new (text_in decided)) ⊎ ((status ≡ 7) × Cut written room faults old new (text_in decided))
