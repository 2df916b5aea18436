-- What is found by a name, and what a filter keeps.
use Rattle.std.proofs.Common.{◌≡◌, ℕ, List, [], ◌∷◌, Contains, Option, Some, None, refl, ap, ◌∙◌, arith, ⊎_elim}
use Rattle.std.specs.List.{filter_map, cons_option}
use Rattle.std.specs.Str.{bytes_eq}
use Rattle.std.proofs.lemmas.Bool.{cond_both}
use Rattle.hz_description_model.specs.Check.Places.{at_name}
use Rattle.hz_base_model.proofs.Elements.{Contains-nil, Contains-head, Contains-tail, Contains-cons_cases}

-- what is found by a name is an item
pub at_name_in : {A : Type 0} (name : List ℕ) (names : List (List ℕ)) (items : List A) (item : A) → at_name name names items ≡ Some item → Contains items item
at_name_in name [] items item e = absurd (cc)
at_name_in name (n ∷ names) [] item e = absurd (cc)
at_name_in name (n ∷ names) (x ∷ items) item e = cond_both (bytes_eq name n) (Some x) (at_name name names items) (λ (o : Option _). o ≡ Some item → Contains (x ∷ items) item)
    (λ _ (s : Some x ≡ Some item). (0, omega arith, cc))
    (λ _ s. Contains-tail x item items (at_name_in name names items item s)) e

-- what a filter of a map has comes from an item
from_kept : {A B : Type 0} (f : A → Option B) (x : A) (xs : List A) (y : B) (o : Option B) → f x ≡ o
    → (Contains (filter_map f xs) y → (w : A) × Contains xs w × (f w ≡ Some y)) → Contains (cons_option o (filter_map f xs)) y → (w : A) × Contains (x ∷ xs) w × (f w ≡ Some y)
from_kept f x xs y None e rest h = let found = rest h in (found.0, Contains-tail x found.0 xs found.1, found.2)
from_kept f x xs y (Some z) e rest h = ⊎_elim
    (λ (s : z ≡ y). (x, Contains-head x xs, e ∙ ap Some s))
    (λ (k : Contains (filter_map f xs) y). let found = rest k in (found.0, Contains-tail x found.0 xs found.1, found.2))
    (Contains-cons_cases z y (filter_map f xs) h)

pub from_filter_map : {A B : Type 0} (f : A → Option B) (xs : List A) (y : B) → Contains (filter_map f xs) y → (x : A) × Contains xs x × (f x ≡ Some y)
from_filter_map f [] y h = absurd (Contains-nil y h)
from_filter_map f (x ∷ xs) y h = from_kept f x xs y (f x) refl (from_filter_map f xs y) h
