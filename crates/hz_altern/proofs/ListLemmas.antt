-- Facts about each element of a list.
use Rattle.std.proofs.Common.{◌≡◌, ℕ, ◌<◌, List, length, map, get_or, All, sym, subst, arith}
use Rattle.std.proofs.lemmas.List.{length-map, get_or-map}

pub All-from_map : {X Y : Type 0} (P : Y → Type 0) (f : X → Y) (xs : List X) → All P (map f xs) → All (λ x. P (f x)) xs
All-from_map P f xs each k d lt =
    let long = length-map xs f in
    subst P (get_or-map f xs k d (f d) lt) (each k (f d) (omega arith))

-- what holds of each holds of the one at a place
pub item_holds : {X Y : Type 0} (P : Y → Type 0) (f : X → Y) (xs : List X) (i : ℕ) (item : X) → i < length xs → item ≡ get_or xs i item → All P (map f xs) → P (f item)
item_holds P f xs i item h is each = subst (λ x. P (f x)) (sym is) (All-from_map P f xs each i item h)
