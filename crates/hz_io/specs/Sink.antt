use Rattle.std.specs.Prelude.{ℕ, ◌≡◌, ◌+◌, ◌-◌, ◌≤◌, ◌<◌, List, ◌++◌, length, Option, Some, Result, MatchResult}
use Rattle.std.specs.Option.{ForSome}

module _ {S : Type 0} (written : S → Option (List ℕ)) (room : S → Option ℕ) (faults : S → ℕ) where
  -- all bytes were written: they fit the room, which is less by them
  pub record Wrote (old new : S) (bytes : List ℕ) : Type 0 where
    pub counted : faults new ≡ faults old
    pub appended : ForSome (written old) (λ before. written new ≡ Some (before ++ bytes))
    pub fitted : ForSome (room old) (λ most. length bytes ≤ most)
    pub lowered : ForSome (room old) (λ most. room new ≡ Some (most - length bytes))

  -- only a front of the bytes was written: all of them don't fit the room
  pub record Cut (old new : S) (bytes : List ℕ) : Type 0 where
    pub front : List ℕ
    pub back : List ℕ
    pub parts : bytes ≡ front ++ back
    pub counted : faults new ≡ faults old + 1
    pub appended : ForSome (written old) (λ before. written new ≡ Some (before ++ front))
    pub exceeded : ForSome (room old) (λ most. most < length bytes)

  -- what writing the bytes did: all of them where it succeeded, a front of them where it failed
  abbrev pub Writes : {T E : Type 0} → (old new : S) → (bytes : List ℕ) → Result T E → Type 0
  Writes old new bytes result = MatchResult result (λ _. Wrote old new bytes) (λ _. Cut old new bytes)
