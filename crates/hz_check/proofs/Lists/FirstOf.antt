-- The first of several names.
use Rattle.std.proofs.Common.{◌≡◌, ℕ, List, [], ◌∷◌, ◌++◌, Option, Some, None, slice_get, ◌<◌, ◌+◌, length, drop, get_or, Bool, true, false, Bor, cond, filter, refl, sym, ap, ◌∙◌, arith}
use Rattle.std.proofs.lemmas.Bool.Decides.{nat_tests}
use Rattle.std.proofs.lemmas.List.Elements.{filter-append}
use Rattle.std.specs.List.{flat_map}
use Rattle.std.specs.Option.{option_map, option_or, option_copied}
use Rattle.std.specs.Bool.{then_some}
use Rattle.hz_check.specs.Names.First.{first_of}
use Rattle.hz_check.proofs.Lists.Next.{drop_next}
use Rattle.hz_description_model.specs.Check.CheckFaults.{sites_of}
use Rattle.hz_description_model.specs.Check.Sites.{earlier, earliest}

pub first_of-append : {A : Type 0} (xs ys : List A) → first_of (xs ++ ys) ≡ option_or (first_of xs) (first_of ys)
first_of-append [] ys = refl
first_of-append (x ∷ xs) ys = refl

same_form : (line form : ℕ) (name : List ℕ) (others : Option (List ℕ)) → earlier (Some (record { line = line; form = form; name = name })) (option_map (λ n. record { line = line; form = form; name = n }) others) ≡ Some (record { line = line; form = form; name = name })
same_form line form name None = refl
same_form line form name (Some n) = grind (arith, nat_tests)

-- of names in one form the first is reported
pub earliest-sites_of : (line form : ℕ) (names : List (List ℕ)) → earliest (sites_of line form names) ≡ option_map (λ name. record { line = line; form = form; name = name }) (first_of names)
earliest-sites_of line form [] = refl
earliest-sites_of line form (name ∷ names) =
    ap (earlier (Some (record { line = line; form = form; name = name }))) (earliest-sites_of line form names) ∙ same_form line form name (first_of names)

pub first_is : (names : List (List ℕ)) → slice_get names 0 ≡ first_of names
first_is [] = refl
first_is (name ∷ names) = refl

-- what is found first in front is found first
pub in_front : (names others : List (List ℕ)) (name : List ℕ) → Some name ≡ first_of names → Some name ≡ first_of (names ++ others)
in_front [] others name e = absurd (cc)
in_front (n ∷ names) others name e = e

-- a loop that stops at the first name: it is that of all
pub first_here : {A : Type 0} (p : List ℕ → Bool) (names_of : List A → List (List ℕ)) (here : List (List ℕ)) (items : List A) (i : ℕ) (item : A) (name : List ℕ) → item ≡ get_or items i item → i < length items
    → names_of (item ∷ drop (i + 1) items) ≡ here ++ names_of (drop (i + 1) items) → Some name ≡ first_of (filter p here)
    → first_of (filter p (names_of (drop i items))) ≡ first_of (filter p (names_of items)) → Some name ≡ first_of (filter p (names_of items))
first_here {A} p names_of here items i item name is lt parts found kept =
    in_front (filter p here) (filter p (names_of (drop (i + 1) items))) name found
    ∙ (ap first_of (sym (filter-append p here (names_of (drop (i + 1) items))))
    ∙ (ap (λ (ns : List (List ℕ)). first_of (filter p ns)) (sym parts)
    ∙ (ap (λ (xs : List A). first_of (filter p (names_of xs))) (sym (drop_next items i item is lt)) ∙ kept)))

pub none_first : (names others : List (List ℕ)) → None ≡ first_of names → first_of others ≡ first_of (names ++ others)
none_first [] others e = refl
none_first (n ∷ names) others e = absurd (cc)

-- the same loop, where an item has none
pub none_here : {A : Type 0} (p : List ℕ → Bool) (names_of : List A → List (List ℕ)) (here : List (List ℕ)) (items : List A) (i : ℕ) (item : A) (all : Option (List ℕ)) → item ≡ get_or items i item → i < length items
    → names_of (item ∷ drop (i + 1) items) ≡ here ++ names_of (drop (i + 1) items) → None ≡ first_of (filter p here)
    → first_of (filter p (names_of (drop i items))) ≡ all → first_of (filter p (names_of (drop (i + 1) items))) ≡ all
none_here {A} p names_of here items i item all is lt parts none kept =
    none_first (filter p here) (filter p (names_of (drop (i + 1) items))) none
    ∙ (ap first_of (sym (filter-append p here (names_of (drop (i + 1) items))))
    ∙ (ap (λ (ns : List (List ℕ)). first_of (filter p ns)) (sym parts)
    ∙ (ap (λ (xs : List A). first_of (filter p (names_of xs))) (sym (drop_next items i item is lt)) ∙ kept)))

-- a loop that stops at the first item with a name: its first name is that of all
module _ {A : Type 0} (f : A → List (List ℕ)) (items : List A) (i : ℕ) (item : A) (is : item ≡ get_or items i item) (lt : i < length items) where
  beyond : (o : Option (List ℕ)) → first_of (flat_map f (drop i items)) ≡ o → first_of (f item ++ flat_map f (drop (i + 1) items)) ≡ o
  beyond o kept = ap (λ (xs : List A). first_of (flat_map f xs)) (sym (drop_next items i item is lt)) ∙ kept

  pub first_found : (name : List ℕ) → Some name ≡ first_of (f item) → first_of (flat_map f (drop i items)) ≡ first_of (flat_map f items) → Some name ≡ first_of (flat_map f items)
  first_found name found kept = in_front (f item) (flat_map f (drop (i + 1) items)) name found ∙ beyond (first_of (flat_map f items)) kept

  pub none_found : (all : Option (List ℕ)) → None ≡ first_of (f item) → first_of (flat_map f (drop i items)) ≡ all → first_of (flat_map f (drop (i + 1) items)) ≡ all
  none_found all none kept = none_first (f item) (flat_map f (drop (i + 1) items)) none ∙ beyond all kept

-- the first that passes of two lists
pub first_of_both : (p : List ℕ → Bool) (xs ys : List (List ℕ)) → first_of (filter p (xs ++ ys)) ≡ option_or (first_of (filter p xs)) (first_of (filter p ys))
first_of_both p xs ys = ap first_of (filter-append p xs ys) ∙ first_of-append (filter p xs) (filter p ys)

pub copied-or : (a b : Option (Bor (List ℕ))) → option_copied (option_or a b) ≡ option_or (option_copied a) (option_copied b)
copied-or None b = refl
copied-or (Some x) b = refl

-- the first name of two lists of those that pass, where the second is looked for too
pub found_in_both : (p : List ℕ → Bool) (xs ys first second : List (List ℕ)) (a b o : Option (Bor (List ℕ))) → o ≡ option_or a b → first ≡ xs → second ≡ ys
    → option_copied a ≡ first_of (filter p first) → option_copied b ≡ first_of (filter p second) → option_copied o ≡ first_of (filter p (xs ++ ys))
found_in_both p xs ys first second a b o is xs_is ys_is found_first found_second =
    ap option_copied is
    ∙ (copied-or a b
    ∙ (ap (λ (x : Option (List ℕ)). option_or x (option_copied b)) (found_first ∙ ap (λ (ns : List (List ℕ)). first_of (filter p ns)) xs_is)
    ∙ (ap (option_or (first_of (filter p xs))) (found_second ∙ ap (λ (ns : List (List ℕ)). first_of (filter p ns)) ys_is) ∙ sym (first_of_both p xs ys))))

-- the same of two lists as they are
pub found_in_lists : (xs ys : List (List ℕ)) (a b o : Option (Bor (List ℕ))) → o ≡ option_or a b → option_copied a ≡ first_of xs → option_copied b ≡ first_of ys → option_copied o ≡ first_of (xs ++ ys)
found_in_lists xs ys a b o is found_first found_second =
    ap option_copied is
    ∙ (copied-or a b
    ∙ (ap (λ (x : Option (List ℕ)). option_or x (option_copied b)) found_first ∙ (ap (option_or (first_of xs)) found_second ∙ sym (first_of-append xs ys))))

-- one name, where it passes
pub found_alone : (p : List ℕ → Bool) (b : Bool) (name : Bor (List ℕ)) (o : Option (Bor (List ℕ))) → o ≡ then_some b name → b ≡ p name.now → option_copied o ≡ first_of (filter p (name.now ∷ []))
found_alone p b name o is tests = ap option_copied is ∙ (alone b ∙ ap (λ (t : Bool). first_of (cond t (name.now ∷ []) [])) tests)
  where
    alone : (t : Bool) → option_copied (then_some t name) ≡ first_of (cond t (name.now ∷ []) [])
    alone true = refl
    alone false = refl
