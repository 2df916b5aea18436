-- The places of instructions by what they read and write, and from them those that an instruction may depend on. These words are
-- only to prove with.
use Rattle.std.specs.Prelude.{◌≡◌, ℕ, ◌-◌, ◌%◌, ◌==◌, Bool, true, false, ◌&&◌, if◌then◌else◌, List, [], ◌∷◌, ◌++◌, Option, Some, None, length, slice_get}
use Rattle.std.specs.List.{flat_map}
use Rattle.std.specs.Option.{option_map_or}
use Rattle.hz_block_model.specs.Running.Operators.{word_count}
use Rattle.hz_block_model.specs.Dependences.Accesses.{Based}
use Rattle.hz_depend.specs.Held.{Held}
use Rattle.hz_depend.specs.Lists.{list_at}
use Rattle.hz_depend.specs.Marks.{below, place_before, all_lists, other_lists}

-- a place for each of some items that pass a test
abbrev pub hits : {X : Type 0} → (X → Bool) → List X → ℕ → List ℕ
hits test [] place = []
hits test (x ∷ items) place = (if test x then place ∷ [] else []) ++ hits test items place

-- whether a list ends with a place
abbrev pub ends_with : List ℕ → ℕ → Bool
ends_with list place = option_map_or (λ last. last == place) (slice_get list (length list - 1)) false

-- a list with a place after it, unless it ends with that
abbrev pub put : List ℕ → ℕ → List ℕ
put list place = if ends_with list place then list else list ++ place ∷ []

-- a list with some places put after it
abbrev pub put_all : List ℕ → List ℕ → List ℕ
put_all list [] = list
put_all list (p ∷ more) = put_all (put list p) more

-- a base register with a constant
abbrev pub Key : Type 0
Key = ℕ × ℕ

abbrev pub key_of : Based → Key
key_of a = (a.base, a.offset % word_count)

abbrev pub same_key : Key → Key → Bool
same_key a b = a.0 == b.0 && a.1 == b.1

-- what is known of a cell: no base, this base, or this base and constant
abbrev pub is_unknown : Option Based → Bool
is_unknown (Some a) = false
is_unknown None = true

abbrev pub has_base : ℕ → Option Based → Bool
has_base b (Some a) = a.base == b
has_base b None = false

abbrev pub has_key : Key → Option Based → Bool
has_key k (Some a) = same_key (key_of a) k
has_key k None = false

-- places by cells: of those without a base, by bases, and by bases and constants
pub record CellPlaces : Type 0 where
  pub unknown : List ℕ
  pub bases : List (List ℕ)
  pub keys : Key → List ℕ

-- places of readers and writers
pub record Places : Type 0 where
  pub readers : List (List ℕ)
  pub writers : List (List ℕ)
  pub read : CellPlaces
  pub written : CellPlaces

-- no place
pub record IsEmpty (c : CellPlaces) : Type 0 where
  pub unknown : c.unknown ≡ []
  pub bases : (b : ℕ) → list_at c.bases b ≡ []
  pub keys : (k : Key) → c.keys k ≡ []

pub record IsBlank (p : Places) : Type 0 where
  pub readers : (r : ℕ) → list_at p.readers r ≡ []
  pub writers : (r : ℕ) → list_at p.writers r ≡ []
  pub read : IsEmpty p.read
  pub written : IsEmpty p.written

-- a place more for each of some cells
pub record HasMore (place : ℕ) (touched : List (Option Based)) (old new : CellPlaces) : Type 0 where
  pub unknown : new.unknown ≡ put_all old.unknown (hits is_unknown touched place)
  pub bases : (b : ℕ) → list_at new.bases b ≡ put_all (list_at old.bases b) (hits (has_base b) touched place)
  pub keys : (k : Key) → new.keys k ≡ put_all (old.keys k) (hits (has_key k) touched place)

-- an instruction more, at a place
pub record HasNoted (place : ℕ) (h : Held) (old new : Places) : Type 0 where
  pub readers : (r : ℕ) → list_at new.readers r ≡ put_all (list_at old.readers r) (hits (λ n. n == r) h.registers_read place)
  pub writers : (r : ℕ) → list_at new.writers r ≡ put_all (list_at old.writers r) (hits (λ n. n == r) h.registers_written place)
  pub read : HasMore place h.cells_read old.read new.read
  pub written : HasMore place h.cells_written old.written new.written

-- the places of cells that aren't apart from one with a base
abbrev pub known_candidates : CellPlaces → (last : ℕ → ℕ) → Based → List ℕ
known_candidates c last a = other_lists a.base 0 c.bases ++ (below (last a.base) (list_at c.bases a.base) ++ c.keys (key_of a))

-- the places of cells that aren't apart from one
abbrev pub cell_candidates : CellPlaces → (last : ℕ → ℕ) → Option Based → List ℕ
cell_candidates c last (Some a) = c.unknown ++ known_candidates c last a
cell_candidates c last None = c.unknown ++ all_lists c.bases

-- the places of instructions that one after them may depend on
abbrev pub candidates : Places → (last : ℕ → ℕ) → Held → List ℕ
candidates p last h =
    flat_map (λ r. place_before (last r)) h.registers_read
    ++ (flat_map (list_at p.readers) h.registers_written
    ++ (flat_map (list_at p.writers) h.registers_written
    ++ (flat_map (cell_candidates p.written last) h.cells_read
    ++ (flat_map (cell_candidates p.read last) h.cells_written
    ++ flat_map (cell_candidates p.written last) h.cells_written))))
