-- Laws of walks and of breadth-first numbers.
use Rattle.std.proofs.Common.{◌≡◌, ℕ, ◌<◌, zero, suc, List, [], ◌∷◌, ◌++◌, length, Option, None, Some, refl, ap, ◌∙◌, arith}
use Rattle.hz_pipeline_model.specs.Tables.Tables.{Table, entry, walk, IsTable, IsReached}
use Rattle.hz_pipeline_model.specs.Tables.Orders.{place_of, IsBreadthFirst}

pub walk-none : (table : Table) (w : List ℕ) → walk table None w ≡ None
walk-none table w = refl

pub walk-append : (table : Table) (from : Option ℕ) (v w : List ℕ) → walk table from (v ++ w) ≡ walk table (walk table from v) w
walk-append table None v w = refl
walk-append table (Some state) [] w = refl
walk-append table (Some state) (column ∷ v) w = walk-append table (entry table state column) v w

pub walk_stays : (table : Table) (columns : ℕ) → IsTable table columns → (from : Option ℕ) → ((state : ℕ) → from ≡ Some state → state < length table) → (next : ℕ) (w : List ℕ) → walk table from w ≡ Some next → next < length table
walk_stays table columns is None within next w e = cc
walk_stays table columns is (Some state) within next [] e = within next e
walk_stays table columns is (Some state) within next (column ∷ w) e =
    walk_stays table columns is (entry table state column) (λ other h. is.targets state column other h) next w e

-- a state with an entry for the last column is one step on
reached_next : (table : Table) (row column state : ℕ) → IsReached table row → entry table row column ≡ Some state → IsReached table state
reached_next table row column state (w, e) there =
    (w ++ column ∷ [], walk-append table (Some 0) w (column ∷ []) ∙ ap (λ from. walk table from (column ∷ [])) e ∙ ap (λ from. walk table from []) there)

reached_below : (table : Table) (columns : ℕ) (parents : List (ℕ × ℕ)) → IsBreadthFirst table columns parents → (n state : ℕ) → state < n → state < length table → IsReached table state
reached_below table columns parents is zero state below within = absurd (omega arith)
reached_below table columns parents is (suc n) zero below within = ([], refl)
reached_below table columns parents is (suc n) (suc state) below within =
    let read = is.read (suc state) (omega arith) within in
    let row = (place_of parents (suc state)).0 in
    let lower : row < suc state = read.row in
    reached_next table row (place_of parents (suc state)).1 (suc state)
    (reached_below table columns parents is n row (omega arith) (omega arith))
    read.there

pub breadth_first_reached : (table : Table) (columns : ℕ) (parents : List (ℕ × ℕ)) → IsBreadthFirst table columns parents → (state : ℕ) → state < length table → IsReached table state
breadth_first_reached table columns parents is state within = reached_below table columns parents is (suc state) state (omega arith) within
