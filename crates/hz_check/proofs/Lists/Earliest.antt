-- The earliest of several sites.
use Rattle.std.proofs.Common.{◌≡◌, ℕ, List, [], ◌∷◌, ◌++◌, map, Option, Some, None, ◌<◌, ◌≤◌, ◌+◌, length, drop, get_or, refl, sym, ap, ◌∙◌, arith}
use Rattle.std.proofs.lemmas.Bool.Decides.{nat_tests}
use Rattle.std.proofs.lemmas.List.{drop_all}
use Rattle.std.specs.List.{flat_map, filter_map, cons_option}
use Rattle.hz_check.proofs.Lists.Next.{drop_next, flat_map-map}
use Rattle.hz_description_model.specs.Check.Sites.{Site, earlier, earliest}

pub earlier-none : (s : Option Site) → earlier s None ≡ s
earlier-none None = refl
earlier-none (Some s) = refl

earlier_three : (r s t : Site) → earlier (earlier (Some r) (Some s)) (Some t) ≡ earlier (Some r) (earlier (Some s) (Some t))
earlier_three r s t = grind (arith, nat_tests)

pub earlier-earlier : (r s t : Option Site) → earlier (earlier r s) t ≡ earlier r (earlier s t)
earlier-earlier None s t = refl
earlier-earlier (Some r) None t = refl
earlier-earlier (Some r) (Some s) None = earlier-none (earlier (Some r) (Some s))
earlier-earlier (Some r) (Some s) (Some t) = earlier_three r s t

pub earliest-append : (xs ys : List Site) → earliest (xs ++ ys) ≡ earlier (earliest xs) (earliest ys)
earliest-append [] ys = refl
earliest-append (x ∷ xs) ys = ap (earlier (Some x)) (earliest-append xs ys) ∙ sym (earlier-earlier (Some x) (earliest xs) (earliest ys))

-- A loop that keeps the earliest site of what is done: one item more.
pub found_next : {A : Type 0} (sites : A → List Site) (first here next all : Option Site) (items : List A) (i : ℕ) (item : A)
    → item ≡ get_or items i item → i < length items → here ≡ earliest (sites item) → next ≡ earlier first here
    → earlier first (earliest (flat_map sites (drop i items))) ≡ all
    → earlier next (earliest (flat_map sites (drop (i + 1) items))) ≡ all
found_next {A} sites first here next all items i item is lt reported_here reported_next kept =
    let rest : List Site = flat_map sites (drop (i + 1) items) in
    ap (λ (o : Option Site). earlier o (earliest rest)) (reported_next ∙ ap (earlier first) reported_here)
    ∙ (earlier-earlier first (earliest (sites item)) (earliest rest)
    ∙ (ap (earlier first) (sym (earliest-append (sites item) rest))
    ∙ (ap (λ (xs : List A). earlier first (earliest (flat_map sites xs))) (sym (drop_next items i item is lt)) ∙ kept)))

-- the end of such a loop
pub found_all : {A : Type 0} (sites : A → List Site) (first all : Option Site) (items : List A) (i : ℕ) → length items ≤ i → earlier first (earliest (flat_map sites (drop i items))) ≡ all → first ≡ all
found_all {A} sites first all items i end kept =
    sym (earlier-none first) ∙ (ap (λ (xs : List A). earlier first (earliest (flat_map sites xs))) (sym (drop_all i items end)) ∙ kept)

-- what is reported is the earliest of the sites
pub record IsOf (reported : Option Site) (sites : List Site) : Type 0 where
  pub is : reported ≡ earliest sites

-- what is reported of two lists
pub joined : {xs ys : List Site} {first second both : Option Site} → both ≡ earlier first second → IsOf first xs → IsOf second ys → IsOf both (xs ++ ys)
joined {xs} {ys} {first} {second} e reported_first reported_second = record {
  is = e ∙ (ap (λ (o : Option Site). earlier o second) reported_first.is ∙ (ap (earlier (earliest xs)) reported_second.is ∙ sym (earliest-append xs ys)));
}

-- what is reported of items that are stored, as the definition has it
pub reported_of_items : {A B : Type 0} (sites : B → List Site) (item : A → B) (slice xs : List A) (reported : Option Site) → slice ≡ xs → reported ≡ earliest (flat_map (λ x. sites (item x)) slice) → IsOf reported (flat_map sites (map item xs))
reported_of_items {A} sites item slice xs reported e is = record {
  is = is ∙ (ap (λ (ys : List A). earliest (flat_map (λ x. sites (item x)) ys)) e ∙ ap earliest (sym (flat_map-map sites item xs)));
}

filter_map-map : {A B C : Type 0} (f : B → Option C) (g : A → B) (xs : List A) → filter_map f (map g xs) ≡ filter_map (λ x. f (g x)) xs
filter_map-map f g [] = refl
filter_map-map f g (x ∷ xs) = ap (cons_option (f (g x))) (filter_map-map f g xs)

-- the end of such a loop over items that are stored
pub chosen_all : {A B : Type 0} (f : B → Option Site) (item : A → B) (slice xs : List A) (i : ℕ) (first : Option Site) → slice ≡ xs → length slice ≤ i
    → earlier first (earliest (filter_map (λ x. f (item x)) (drop i slice))) ≡ earliest (filter_map (λ x. f (item x)) slice) → first ≡ earliest (filter_map f (map item xs))
chosen_all {A} f item slice xs i first e end kept =
    sym (earlier-none first)
    ∙ (ap (λ (ys : List A). earlier first (earliest (filter_map (λ x. f (item x)) ys))) (sym (drop_all i slice end))
    ∙ (kept ∙ (ap (λ (ys : List A). earliest (filter_map (λ x. f (item x)) ys)) e ∙ ap earliest (sym (filter_map-map f item xs)))))

-- the end of a loop over items that are stored, each of which may have several sites
pub found_stored : {A B : Type 0} (sites : B → List Site) (item : A → B) (slice xs : List A) (i : ℕ) (first : Option Site) → slice ≡ xs → length slice ≤ i
    → earlier first (earliest (flat_map (λ x. sites (item x)) (drop i slice))) ≡ earliest (flat_map (λ x. sites (item x)) slice) → first ≡ earliest (flat_map sites (map item xs))
found_stored {A} sites item slice xs i first e end kept = (reported_of_items sites item slice xs first e (found_all (λ x. sites (item x)) first (earliest (flat_map (λ x. sites (item x)) slice)) slice i end kept)).is
