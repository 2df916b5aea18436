use Rattle.std.specs.Prelude.{ℕ, ◌≡◌, ◌+◌, ◌≤◌, ◌<◌, List, [], length, drop, Option, Some, None, IsNone, Result, Ok, Err, Vec, vec_len, ⊤}
use Rattle.std.specs.Option.{ForSome}
use Rattle.std.specs.declared.alloc.Global.{Global}
use Rattle.hz_io.specs.declared.faults.SlurpFault.{SlurpFault}
use Rattle.hz_io.specs.declared.faults.SlurpFault.TheVariants.{Failed, Long, NoMemory}
use Rattle.hz_base_model.specs.Names.{Held}

-- what reading a whole file answers
abbrev pub Slurped : Type 0
Slurped = Result (Vec ℕ Global) SlurpFault

-- the count of faults rises by one where the answer is `Failed`, and stays otherwise
abbrev pub SlurpCounts : ℕ → ℕ → Slurped → Type 0
SlurpCounts old new (Ok file) = new ≡ old
SlurpCounts old new (Err Failed) = new ≡ old + 1
SlurpCounts old new (Err (Long read)) = new ≡ old
SlurpCounts old new (Err NoMemory) = new ≡ old

-- at most `most` bytes come back, and a file is reported to be longer after one byte more
abbrev pub Measures : ℕ → Slurped → Type 0
Measures most (Ok file) = vec_len file ≤ most
Measures most (Err Failed) = ⊤
Measures most (Err (Long read)) = read ≡ most + 1
Measures most (Err NoMemory) = ⊤

-- these are all the bytes that were unread, and none is left
pub record HasEnded (unread : List ℕ) (rest : Option (List ℕ)) (bytes : List ℕ) : Type 0 where
  pub all : unread ≡ bytes
  pub left : rest ≡ Some []

-- more than `most` bytes were unread, and one more than `most` of them was read
pub record HasExceeded (unread : List ℕ) (rest : Option (List ℕ)) (most : ℕ) : Type 0 where
  pub longer : most < length unread
  pub left : rest ≡ Some (drop (most + 1) unread)

-- what reading to the end says of the bytes that were unread
abbrev pub TellsUnread : List ℕ → Option (List ℕ) → ℕ → Slurped → Type 0
TellsUnread unread rest most (Ok file) = HasEnded unread rest file.items
TellsUnread unread rest most (Err Failed) = ⊤
TellsUnread unread rest most (Err (Long read)) = HasExceeded unread rest most
TellsUnread unread rest most (Err NoMemory) = ⊤

-- the file of that name has these bytes, and all of them are read
pub record IsWhole (held : Held) (rest : Option (List ℕ)) (name bytes : List ℕ) : Type 0 where
  pub found : held name ≡ Some bytes
  pub left : rest ≡ Some []

-- the file of that name has more than `most` bytes, and one more than `most` of them was read
pub record IsLonger (held : Held) (rest : Option (List ℕ)) (name : List ℕ) (most : ℕ) : Type 0 where
  pub bytes : List ℕ
  pub found : held name ≡ Some bytes
  pub longer : most < length bytes
  pub left : rest ≡ Some (drop (most + 1) bytes)

-- what the answer says of what is held and of what is unread afterwards, where what is held is reported
abbrev pub Tells : Held → Option (List ℕ) → List ℕ → ℕ → Slurped → Type 0
Tells held rest name most (Ok file) = IsWhole held rest name file.items
Tells held rest name most (Err Failed) = ⊤
Tells held rest name most (Err (Long read)) = IsLonger held rest name most
Tells held rest name most (Err NoMemory) = ⊤

-- the answer `Failed` names no file, where what is held is reported
abbrev pub LacksOnFailed : Option Held → List ℕ → Slurped → Type 0
LacksOnFailed held name (Ok file) = ⊤
LacksOnFailed held name (Err Failed) = ForSome held (λ h. h name ≡ None)
LacksOnFailed held name (Err (Long read)) = ⊤
LacksOnFailed held name (Err NoMemory) = ⊤

-- the answer `Failed` comes only where what is held isn't reported
abbrev pub UnreportedOnFailed : Option Held → Slurped → Type 0
UnreportedOnFailed held (Ok file) = ⊤
UnreportedOnFailed held (Err Failed) = IsNone held
UnreportedOnFailed held (Err (Long read)) = ⊤
UnreportedOnFailed held (Err NoMemory) = ⊤
