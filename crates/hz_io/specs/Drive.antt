use Rattle.std.specs.Prelude.{ℕ, ◌≡◌, ◌+◌, ◌-◌, ◌^◌, ◌<◌, ◌==◌, ◌&&◌, not, min, Bool, true, false, List, [], ◌∷◌, ◌++◌, map, length, take, drop, Option, Some, None, if◌then◌else◌, Result, MatchResult, Vec, Contains, bytes_eq}
use Rattle.std.specs.List.{list_any}
use Rattle.std.specs.Map.{lookup}
use Rattle.std.specs.declared.alloc.Global.{Global}
use Rattle.hz_base_model.specs.Names.{Held}

-- the names of files with their bytes
abbrev pub Entries : Type 0
Entries = List (List ℕ × List ℕ)

-- what files in memory are
pub record Drive : Type 0 where
  pub files : Entries
  -- the numbers of the calls that fail, and the number of the next call
  pub fail : List ℕ
  pub next : ℕ
  -- how many bytes a read gives at most
  pub most : ℕ
  -- what is unread of the open file
  pub rest : List ℕ
  pub faults : ℕ

-- the bytes of each file, as lists
abbrev pub entries_of : List (List ℕ × Vec ℕ Global) → Entries
entries_of files = map (λ (file : List ℕ × Vec ℕ Global). (file.0, file.1.items)) files

-- no name comes twice
abbrev pub are_distinct : List (List ℕ) → Bool
are_distinct [] = true
are_distinct (name ∷ names) = not (list_any (bytes_eq name) names) && are_distinct names

-- what the files hold under a name
abbrev pub bytes_of : Entries → Held
bytes_of files name = lookup (bytes_eq name) files

-- no call has been made, and no file is open
abbrev pub fresh_drive : Entries → List ℕ → ℕ → Drive
fresh_drive files fail most = record { files = files; fail = fail; next = 0; most = most; rest = []; faults = 0 }

-- no call from the next one on is to fail
pub record IsSteady (fail : List ℕ) (next : ℕ) : Type 0 where
  pub earlier : (number : ℕ) → Contains fail number → number < next

-- the next call is to fail
abbrev pub is_to_fail : Drive → Bool
is_to_fail drive = list_any (λ number. number == drive.next) drive.fail

-- a call has its number, and the next one has the next number, if there is one
abbrev pub counted : Drive → Drive
counted drive = record drive { next = min (drive.next + 1) (2 ^ 64 - 1) }

-- a call that failed changes the counts alone
abbrev pub failed : Drive → Drive
failed drive = record (counted drive) { faults = drive.faults + 1 }

-- what an open finds: nothing where it is to fail
abbrev pub found_by : Drive → List ℕ → Option (List ℕ)
found_by drive name = if is_to_fail drive then None else bytes_of drive.files name

-- the file is there, and all of it is unread
pub record Finds (old new : Drive) (name : List ℕ) : Type 0 where
  pub bytes : List ℕ
  pub found : found_by old name ≡ Some bytes
  pub after : new ≡ record (counted old) { rest = bytes }

-- the file isn't there, or the call was to fail
pub record FindsNone (old new : Drive) (name : List ℕ) : Type 0 where
  pub missing : found_by old name ≡ None
  pub after : new ≡ failed old

-- what an open does
abbrev pub OpensFile : {T E : Type 0} → Drive → Drive → List ℕ → Result T E → Type 0
OpensFile old new name result = MatchResult result (λ _. Finds old new name) (λ _. FindsNone old new name)

-- a read gives all that it can
pub record Gives (old new : Drive) (into into' : List ℕ) (count : ℕ) : Type 0 where
  pub turn : is_to_fail old ≡ false
  pub number : count ≡ min old.most (min (length into) (length old.rest))
  pub front : into' ≡ take count old.rest ++ drop count into
  pub after : new ≡ record (counted old) { rest = drop count old.rest }

-- the read was to fail
pub record GivesNone (old new : Drive) (into into' : List ℕ) : Type 0 where
  pub turn : is_to_fail old ≡ true
  pub same : into' ≡ into
  pub after : new ≡ failed old

-- what a read does
abbrev pub ReadsFile : {E : Type 0} → Drive → Drive → List ℕ → List ℕ → Result ℕ E → Type 0
ReadsFile old new into into' result = MatchResult result (Gives old new into into') (λ _. GivesNone old new into into')
