-- Bytes that are added to a text, of which the last are still held.
use Rattle.std.specs.Prelude.{◌≡◌, ℕ, List, ◌++◌, Option, Result, MatchResult}
use Rattle.hz_io.specs.Sink.{Wrote, Cut}

module _ {S : Type 0} (written : S → Option (List ℕ)) (room : S → Option ℕ) (faults : S → ℕ) where
  -- All bytes were added: what was held before them was written first, and what is held now is the end of both.
  pub record Added (old new : S) (before after : List ℕ) (bytes : List ℕ) : Type 0 where
    pub done : List ℕ
    pub wrote : Wrote written room faults old new done
    pub parts : before ++ bytes ≡ done ++ after

  -- Of what was held and the bytes only a front was written.
  pub record Stopped (old new : S) (before : List ℕ) (bytes : List ℕ) : Type 0 where
    pub cut : Cut written room faults old new (before ++ bytes)

  -- what adding the bytes did: all of them where it succeeded
  abbrev pub Adds : {T E : Type 0} → (old new : S) → (before after : List ℕ) → (bytes : List ℕ) → Result T E → Type 0
  Adds old new before after bytes result = MatchResult result (λ _. Added old new before after bytes) (λ _. Stopped old new before bytes)
