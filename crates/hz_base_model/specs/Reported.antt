-- How a fault is reported: by its word, with the line or the byte where it stands. This profile, docs/FORMATS.md, 'Answers'.
use Rattle.std.specs.Prelude.{ℕ, List, Option, Some, None}
use Rattle.std.specs.Borrow.{Bor}

-- the bytes of a word that is reported, and its line or byte
abbrev pub reported_in : Option (Bor (List ℕ) × ℕ) → Option (List ℕ × ℕ)
reported_in (Some reported) = Some (reported.0.now, reported.1)
reported_in None = None

-- the word of a fault, and its line or byte
abbrev pub reported_by : {Fault : Type 0} → (Fault → List ℕ) → Option (Fault × ℕ) → Option (List ℕ × ℕ)
reported_by word (Some reported) = Some (word reported.0, reported.1)
reported_by word None = None
