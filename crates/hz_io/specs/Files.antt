use Rattle.std.specs.Prelude.{ℕ, ◌≡◌, ◌+◌, ◌≤◌, ◌↔◌, List, [], length, take, drop, Option, Some, None, Result, MatchResult, OnOk, OnErr}
use Rattle.std.specs.Option.{ForSome}
use Rattle.hz_base_model.specs.Names.{Held}

-- a count of faults rises by one where the call failed, and stays otherwise
abbrev pub Counts : {T E : Type 0} → ℕ → ℕ → Result T E → Type 0
Counts old new result = MatchResult result (λ _. new ≡ old) (λ _. new ≡ old + 1)

-- the file of that name is there, and all of it is unread
pub record HasOpened (held : Held) (rest : Option (List ℕ)) (name : List ℕ) : Type 0 where
  pub bytes : List ℕ
  pub found : held name ≡ Some bytes
  pub unread : rest ≡ Some bytes

-- an open that succeeds has opened the file of that name, where what is held is reported
abbrev pub IsOpened : {T E : Type 0} → Option Held → Option (List ℕ) → List ℕ → Result T E → Type 0
IsOpened held rest name result = OnOk result (ForSome held (λ h. HasOpened h rest name))

-- an open that fails names no file, where what is held is reported
abbrev pub LacksOnErr : {T E : Type 0} → Option Held → List ℕ → Result T E → Type 0
LacksOnErr held name result = OnErr result (ForSome held (λ h. h name ≡ None))

-- the first `count` bytes of `into` are the first of the unread bytes, which lose them; none are read only at the end
pub record Takes (unread : List ℕ) (rest : Option (List ℕ)) (into : List ℕ) (count : ℕ) : Type 0 where
  pub front : take count into ≡ take count unread
  pub left : rest ≡ Some (drop count unread)
  pub at_end : (count ≡ 0) ↔ (unread ≡ [])

-- a read of `count` bytes: they are at the front of `into`, which stays after them, and come from the unread bytes
pub record HasRead (rest rest' : Option (List ℕ)) (into into' : List ℕ) (count : ℕ) : Type 0 where
  pub within : count ≤ length into
  pub others : drop count into' ≡ drop count into
  pub taken : ForSome rest (λ unread. Takes unread rest' into' count)

-- a read that succeeds has read so many bytes, and one that fails leaves `into` as it was
abbrev pub Reads : {E : Type 0} → Option (List ℕ) → Option (List ℕ) → List ℕ → List ℕ → Result ℕ E → Type 0
Reads rest rest' into into' result = MatchResult result (HasRead rest rest' into into') (λ _. into' ≡ into)
