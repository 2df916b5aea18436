-- Names in lists of names.
use Rattle.std.proofs.Common.{◌≡◌, ℕ, suc, ◌+◌, List, [], ◌∷◌, length, Option, Some, None, Bool, true, false, ◌||◌, not, nat_lt, is_some, refl, sym, ap, ◌∙◌, arith, cond}
use Rattle.std.proofs.lemmas.Bool.Decides.{nat_tests, same_from_decides, Decides-like}
use Rattle.std.proofs.Math.Path.{fun_ext}
use Rattle.std.proofs.lemmas.Slice.Eq.{bytes_eq-Decides}
use Rattle.std.specs.Bool.{Decides}
use Rattle.std.specs.List.{list_any, position, position_or_len}
use Rattle.std.specs.Option.{option_map}
use Rattle.std.specs.Str.{bytes_eq}
use Rattle.hz_description_model.specs.Check.Sites.{is_among}

pub bytes_eq_same : (a b : List ℕ) → bytes_eq a b ≡ true → a ≡ b
bytes_eq_same a b e = (bytes_eq-Decides a b).0 e

pub bytes_eq-sym : (a b : List ℕ) → bytes_eq a b ≡ bytes_eq b a
bytes_eq-sym a b =
    let there : Decides (bytes_eq a b) (a ≡ b) = bytes_eq-Decides a b in
    let back : Decides (bytes_eq b a) (b ≡ a) = bytes_eq-Decides b a in
    same_from_decides (bytes_eq a b) (bytes_eq b a) there (Decides-like (bytes_eq b a) (λ (e : b ≡ a). sym e) (λ (e : a ≡ b). sym e) back)

from_first : (b : Bool) (n m : ℕ) → cond (nat_lt (cond (not b) (1 + n) 0) (suc m)) (Some (cond (not b) (1 + n) 0)) None ≡ cond b (Some 0) (option_map suc (cond (nat_lt n m) (Some n) None))
from_first true n m = grind (arith, nat_tests)
from_first false n m = grind (arith, nat_tests)

pub position-cons : {A : Type 0} (p : A → Bool) (x : A) (xs : List A) → position p (x ∷ xs) ≡ cond (p x) (Some 0) (option_map suc (position p xs))
position-cons p x xs = from_first (p x) (position_or_len p xs) (length xs)

some_place : (b : Bool) (rest : Option ℕ) → is_some (cond b (Some 0) (option_map suc rest)) ≡ (b || is_some rest)
some_place true rest = refl
some_place false None = refl
some_place false (Some n) = refl

pub is_among-list_any : (name : List ℕ) (names : List (List ℕ)) → is_among name names ≡ list_any (bytes_eq name) names
is_among-list_any name [] = refl
is_among-list_any name (n ∷ names) =
    ap is_some (position-cons (bytes_eq name) n names)
    ∙ some_place (bytes_eq name n) (position (bytes_eq name) names)
    ∙ ap (λ b. bytes_eq name n || b) (is_among-list_any name names)

-- whether a name is in a list, from either side
pub contains_is_among : (name : List ℕ) (names : List (List ℕ)) → list_any (λ n. bytes_eq n name) names ≡ is_among name names
contains_is_among name names = ap (λ (f : List ℕ → Bool). list_any f names) (fun_ext (λ n. bytes_eq-sym n name)) ∙ sym (is_among-list_any name names)
