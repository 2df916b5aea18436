-- The first place of a name.
use Rattle.std.proofs.Common.{◌≡◌, ℕ, ◌+◌, ◌-◌, ◌<◌, ◌≤◌, ⊎_elim, Bool, true, false, cond, List, [], ◌∷◌, length, get_or, drop, map, Some, refl, sym, ap, ◌∙◌, arith}
use Rattle.std.specs.List.{position_from}
use Rattle.std.specs.Str.{bytes_eq}
use Rattle.std.specs.Ordering.{nat_cmp, is_eq}
use Rattle.std.specs.Cmp.Lexicographic.{slice_cmp}
use Rattle.std.proofs.lemmas.Bool.{cases_Bool}
use Rattle.std.proofs.lemmas.Iterator.Adapters.{position_from-zero}
use Rattle.std.proofs.lemmas.List.{drop_more, get_or-map, length-map}
use Rattle.std.proofs.lemmas.Map.Text.{is_eq-slice_cmp}
use Rattle.std.proofs.lemmas.Slice.Eq.{bytes_eq-Decides}
use Rattle.hz_mdread.specs.declared.items.ReservationItem.{ReservationItem}
use Rattle.hz_mdread.specs.Shape.{reservation_item}
use Rattle.hz_base_model.specs.Lines.{place_of}

pub bytes_eq-self : (name : List ℕ) → bytes_eq name name ≡ true
bytes_eq-self name = (bytes_eq-Decides name name).1 refl

pub same_bytes : (a b : List ℕ) → bytes_eq a b ≡ true → a ≡ b
same_bytes a b h = (bytes_eq-Decides a b).0 h

pub bytes_eq_comm : (a b : List ℕ) → bytes_eq a b ≡ bytes_eq b a
bytes_eq_comm a b = by_test (bytes_eq a b) refl
  where
    by_test : (t : Bool) → bytes_eq a b ≡ t → t ≡ bytes_eq b a
    by_test true e = sym (ap (λ (x : List ℕ). bytes_eq x a) (sym (same_bytes a b e)) ∙ bytes_eq-self a)
    by_test false e = ⊎_elim
        (λ (h : bytes_eq b a ≡ true). absurd (let g : true ≡ false = sym (ap (λ (x : List ℕ). bytes_eq x b) (sym (same_bytes b a h)) ∙ bytes_eq-self b) ∙ e in cc))
        (λ (h : bytes_eq b a ≡ false). sym h)
        (cases_Bool (bytes_eq b a))

pub place_from_zero : (name : List ℕ) (names : List (List ℕ)) → place_of name names ≡ position_from (bytes_eq name) 0 names
place_from_zero name names = position_from-zero (bytes_eq name) names

-- the place of a name among those from a place on, one place further in front
pub place_before : (name : List ℕ) (names : List (List ℕ)) (i : ℕ) → 0 < i → i ≤ length names
    → position_from (bytes_eq name) (i - 1) (drop (i - 1) names) ≡ cond (is_eq (slice_cmp nat_cmp (get_or names (i - 1) []) name)) (Some (i - 1)) (position_from (bytes_eq name) i (drop i names))
place_before name names i some within =
    let next : (i - 1) + 1 ≡ i = omega arith in
    let parts : drop (i - 1) names ≡ get_or names (i - 1) [] ∷ drop i names = drop_more names (i - 1) [] (omega arith) ∙ ap (λ (n : ℕ). get_or names (i - 1) [] ∷ drop n names) next in
    let test : bytes_eq name (get_or names (i - 1) []) ≡ is_eq (slice_cmp nat_cmp (get_or names (i - 1) []) name) = bytes_eq_comm name (get_or names (i - 1) []) ∙ sym (is_eq-slice_cmp (get_or names (i - 1) []) name) in
    ap (position_from (bytes_eq name) (i - 1)) parts
    ∙ (ap (λ (b : Bool). cond b (Some (i - 1)) (position_from (bytes_eq name) ((i - 1) + 1) (drop i names))) test
    ∙ ap (λ (n : ℕ). cond (is_eq (slice_cmp nat_cmp (get_or names (i - 1) []) name)) (Some (i - 1)) (position_from (bytes_eq name) n (drop i names))) next)

-- the names of reservations
abbrev pub names_of : List ReservationItem → List (List ℕ)
names_of reservations = map (λ r. r.name) (map reservation_item reservations)

-- a name is put in front of those after it
pub placed_before : (reservations : List ReservationItem) (i : ℕ) (item : ReservationItem) (name : List ℕ) → 0 < i → i ≤ length reservations → item ≡ get_or reservations (i - 1) item
    → position_from (bytes_eq name) (i - 1) (drop (i - 1) (names_of reservations)) ≡ cond (is_eq (slice_cmp nat_cmp item.name name)) (Some (i - 1)) (position_from (bytes_eq name) i (drop i (names_of reservations)))
placed_before reservations i item name some within is =
    let long : length (names_of reservations) ≡ length reservations = length-map (map reservation_item reservations) (λ r. r.name) ∙ length-map reservations reservation_item in
    let here : get_or (names_of reservations) (i - 1) [] ≡ item.name =
    get_or-map (λ r. r.name) (map reservation_item reservations) (i - 1) (reservation_item item) [] (omega (arith, length-map reservations reservation_item))
    ∙ (ap (λ r. r.name) (get_or-map reservation_item reservations (i - 1) item (reservation_item item) (omega arith)) ∙ ap (λ (r : ReservationItem). r.name) (sym is)) in
    place_before name (names_of reservations) i some (omega arith)
    ∙ ap (λ (n : List ℕ). cond (is_eq (slice_cmp nat_cmp n name)) (Some (i - 1)) (position_from (bytes_eq name) i (drop i (names_of reservations)))) here

pub length-names_of : (reservations : List ReservationItem) → length (names_of reservations) ≡ length reservations
length-names_of reservations = length-map (map reservation_item reservations) (λ r. r.name) ∙ length-map reservations reservation_item
