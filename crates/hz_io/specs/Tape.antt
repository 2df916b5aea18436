use Rattle.std.specs.Prelude.{ℕ, ◌≡◌, ◌-◌, ◌≤◌, ◌↔◌, List, [], ◌++◌, length, take, IsOk, Result}

-- what a sink in memory is: all that was written, how many bytes still fit, and how many calls failed
pub record Tape : Type 0 where
  pub written : List ℕ
  pub room : ℕ
  pub faults : ℕ

-- nothing is written yet
abbrev pub empty_tape : ℕ → Tape
empty_tape room = record { written = []; room = room; faults = 0 }

-- what fits is kept, and the call succeeds only where all of it fits
pub record Keeps {T E : Type 0} (old new : Tape) (bytes : List ℕ) (result : Result T E) : Type 0 where
  pub kept : new.written ≡ old.written ++ take old.room bytes
  pub left : new.room ≡ old.room - length bytes
  pub fits : IsOk result ↔ (length bytes ≤ old.room)
