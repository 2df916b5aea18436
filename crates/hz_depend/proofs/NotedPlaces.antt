-- What the tables of places hold of the instructions before a place.
use Rattle.std.specs.Prelude.{◌≡◌, ℕ, zero, suc, ◌==◌, Bool, List, [], Option, slice_get}
use Rattle.std.specs.Option.{option_map_or}
use Rattle.hz_block_model.specs.Dependences.Accesses.{Based}
use Rattle.hz_depend.specs.Held.{Held}
use Rattle.hz_depend.specs.Lists.{list_at}
use Rattle.hz_depend.specs.Noted.{hits, put_all, Key, is_unknown, has_base, has_key, CellPlaces, Places}

-- below an end, each place once if it has items that pass a test
abbrev pub places : {X : Type 0} → (X → Bool) → (ℕ → List X) → ℕ → List ℕ
places test items zero = []
places test items (suc n) = put_all (places test items n) (hits test (items n) n)

-- what the instruction at a place has of something
abbrev pub had : {X : Type 0} → (Held → List X) → List Held → ℕ → List X
had what nodes i = option_map_or what (slice_get nodes i) []

-- the cells of the instructions below a place are noted
pub record AreCells (touched : ℕ → List (Option Based)) (n : ℕ) (c : CellPlaces) : Type 0 where
  pub unknown : c.unknown ≡ places is_unknown touched n
  pub bases : (b : ℕ) → list_at c.bases b ≡ places (has_base b) touched n
  pub keys : (k : Key) → c.keys k ≡ places (has_key k) touched n

-- the instructions below a place are noted
pub record AreNoted (nodes : List Held) (n : ℕ) (p : Places) : Type 0 where
  pub readers : (r : ℕ) → list_at p.readers r ≡ places (λ m. m == r) (had (λ h. h.registers_read) nodes) n
  pub writers : (r : ℕ) → list_at p.writers r ≡ places (λ m. m == r) (had (λ h. h.registers_written) nodes) n
  pub read : AreCells (had (λ h. h.cells_read) nodes) n p.read
  pub written : AreCells (had (λ h. h.cells_written) nodes) n p.written
