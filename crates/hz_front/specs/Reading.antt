-- Files as they are read, all before any is judged.
use Rattle.std.specs.Prelude.{◌≡◌, ℕ, ◌<◌, ⊤, List, [], ◌∷◌, map, length, Some, None, Result, MatchResult, false, nat_lt}
use Rattle.std.specs.Borrow.{Bor}
use Rattle.std.specs.declared.alloc.Global.{Global}
use Rattle.std.specs.declared.vec.Vec.{Vec}
use Rattle.hz_base_model.specs.Names.{Held}
use Rattle.hz_front_model.specs.Phases as model
use Rattle.hz_front_model.specs.Phases.{OpensAll}
use Rattle.hz_front.specs.Refusals.{CountsRefusal}
use Rattle.hz_front.specs.declared.reading.FileWord.{FileWord}
use Rattle.hz_front.specs.declared.refusal.Refusal.{Refusal}
use Rattle.hz_front.specs.declared.refusal.Refusal.TheVariants.{Bytes, Memory, File}

-- a file of this name, of at most so many bytes
abbrev pub word_of : Bor (List ℕ) → ℕ → FileWord
word_of name most = record { name = name; most = most }

-- files as those of the definitions
abbrev pub wanted_in : List FileWord → List model.FileWord
wanted_in files = map (λ file. record { name = file.name.now; most = file.most }) files

-- the bytes of texts
abbrev pub texts_in : List (Vec ℕ Global) → List (List ℕ)
texts_in texts = map (λ text. text.items) texts

-- what reading says of the counts
abbrev pub CountsRead : {T : Type 0} → ℕ → ℕ → Result T Refusal → Type 0
CountsRead old new result = MatchResult result (λ _. new ≡ old) (CountsRefusal old new)

-- why a file was not read: it could not be read, it is too long, or memory ran out
abbrev pub IsReadRefusal : (List ℕ → Type 0) → Refusal → Type 0
IsReadRefusal names (Bytes file) = names file.now
IsReadRefusal names Memory = ⊤
IsReadRefusal names (File name) = names name.now
IsReadRefusal names _ = ⊥

-- the file is there and has more than `most` bytes
pub record IsLong (held : Held) (name : List ℕ) (most : ℕ) : Type 0 where
  pub bytes : List ℕ
  pub found : held name ≡ Some bytes
  pub longer : most < length bytes

-- why a file was not read, by what is held
abbrev pub WhyNotRead : Held → List ℕ → ℕ → Refusal → Type 0
WhyNotRead held name most (Bytes file) = IsLong held name most
WhyNotRead held name most (File other) = held name ≡ None
WhyNotRead held name most _ = ⊤

-- the file's bytes, no more than `most`, or why it was not read
abbrev pub TellsFile : Held → List ℕ → ℕ → Result (Vec ℕ Global) Refusal → Type 0
TellsFile held name most result = MatchResult result (λ bytes. held name ≡ Some bytes.items) (WhyNotRead held name most)

-- texts are what files hold, each within its limit
abbrev pub AreRead : Held → List model.FileWord → List (List ℕ) → Type 0
AreRead held [] [] = ⊤
AreRead held (file ∷ files) (text ∷ texts) = (held file.name ≡ Some text) × (nat_lt file.most (length text) ≡ false) × AreRead held files texts
AreRead held _ _ = ⊥

-- one of the files is not read, which is the answer
abbrev pub IsUnread : Held → List model.FileWord → ℕ → List ℕ → Type 0
IsUnread held files = OpensAll held files (λ texts status text. ⊥)
