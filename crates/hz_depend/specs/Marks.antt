-- Stamps at places, and lists of places that are marked.
use Rattle.std.specs.Prelude.{ℕ, zero, suc, ◌==◌, nat_lt, if◌then◌else◌, List, [], ◌∷◌, ◌++◌, slice_set}
use Rattle.std.specs.List.{flat_map}

-- the stamps, with this one at a place
abbrev pub mark_one : List ℕ → ℕ → ℕ → List ℕ
mark_one stamps stamp place = slice_set stamps place stamp

-- the stamps, with this one at each of some places
abbrev pub marked : List ℕ → ℕ → List ℕ → List ℕ
marked stamps stamp [] = stamps
marked stamps stamp (p ∷ places) = marked (mark_one stamps stamp p) stamp places

-- the places before the first that isn't below an end
abbrev pub below : ℕ → List ℕ → List ℕ
below end [] = []
below end (p ∷ places) = if nat_lt p end then p ∷ below end places else []

-- the place before another, if there is one
abbrev pub place_before : ℕ → List ℕ
place_before zero = []
place_before (suc k) = k ∷ []

-- all lists, one after the other
abbrev pub all_lists : List (List ℕ) → List ℕ
all_lists lists = flat_map (λ list. list) lists

-- all lists but that of one number, where the first has the number n
abbrev pub other_lists : ℕ → ℕ → List (List ℕ) → List ℕ
other_lists number n [] = []
other_lists number n (list ∷ lists) = (if n == number then [] else list) ++ other_lists number (suc n) lists
