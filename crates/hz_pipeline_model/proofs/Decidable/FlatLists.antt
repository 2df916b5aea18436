-- What a list that is made of lists contains.
use Rattle.std.proofs.Common.{◌≡◌, ⊎_elim, List, [], ◌∷◌, Contains, sym, subst}
use Rattle.std.specs.List.{flat_map}
use Rattle.std.proofs.lemmas.List.Elements.{Contains-append_left, Contains-append_right, Contains-append_cases}
use Rattle.hz_base_model.proofs.Elements.{Contains-nil, Contains-head, Contains-tail, Contains-cons_cases}

pub from_flat_map : {A B : Type 0} (f : A → List B) (xs : List A) (y : B) → Contains (flat_map f xs) y → (x : A) × Contains xs x × Contains (f x) y
from_flat_map f [] y h = absurd (Contains-nil y h)
from_flat_map f (x ∷ xs) y h = ⊎_elim
    (λ here. (x, Contains-head x xs, here))
    (λ there. let rest = from_flat_map f xs y there in (rest.0, Contains-tail x rest.0 xs rest.1, rest.2))
    (Contains-append_cases (f x) (flat_map f xs) y h)

pub in_flat_map : {A B : Type 0} (f : A → List B) (xs : List A) (x : A) (y : B) → Contains xs x → Contains (f x) y → Contains (flat_map f xs) y
in_flat_map f [] x y is h = absurd (Contains-nil x is)
in_flat_map {A} {B} f (z ∷ xs) x y is h = ⊎_elim
    (λ e. Contains-append_left (f z) (flat_map f xs) y (subst (λ (w : A). Contains (f w) y) (sym e) h))
    (λ there. Contains-append_right (f z) (flat_map f xs) y (in_flat_map f xs x y there h))
    (Contains-cons_cases z x xs is)
