-- Places that are noted hold each instruction that has what they are noted for.
use Rattle.std.proofs.Common.{◌≡◌, ◌≢◌, ℕ, zero, suc, ◌+◌, ◌-◌, ◌<◌, ◌≤◌, ◌==◌, Bool, true, false, cond, ◌||◌, ◌⊎◌, inl, inr, ⊎_elim, List, [], ◌∷◌, ◌++◌, length, Option, Some, None, Contains, refl, sym, ap, ◌∙◌, subst, append_assoc, arith}
use Rattle.std.specs.Prelude.{slice_get}
use Rattle.std.specs.List.{flat_map, list_any}
use Rattle.std.specs.Option.{option_map_or}
use Rattle.std.proofs.lemmas.Bool.{cases_lt, lt-ltb, eqb-true}
use Rattle.std.proofs.lemmas.List.{append-nil}
use Rattle.std.proofs.lemmas.List.Elements.{Contains-append_left, Contains-append_right, Contains-append_cases, Contains-push_cases}
use Rattle.hz_base_model.proofs.Elements.{Contains-nil, Contains-head, Contains-tail, Contains-cons_cases}
use Rattle.hz_depend.specs.Lists.{list_at}
use Rattle.hz_depend.specs.Marks.{below, all_lists, other_lists}
use Rattle.hz_depend.specs.Noted.{hits, ends_with, put, put_all}
use Rattle.hz_depend.proofs.NotedPlaces.{places}

-- one that passes
pub record Passes {X : Type 0} (p : X → Bool) (xs : List X) : Type 0 where
  pub one : X
  pub there : Contains xs one
  pub passes : p one ≡ true

pub any_passes : {X : Type 0} (p : X → Bool) (xs : List X) → list_any p xs ≡ true → Passes p xs
any_passes p [] e = absurd (cc)
any_passes p (x ∷ xs) e = go (p x) refl e (any_passes p xs)
  where
    go : (b : Bool) → p x ≡ b → (b || list_any p xs) ≡ true → (list_any p xs ≡ true → Passes p xs) → Passes p (x ∷ xs)
    go true is e' further = record { one = x; there = Contains-head x xs; passes = is }
    go false is e' further = let f = further e' in record { one = f.one; there = Contains-tail x f.one xs f.there; passes = f.passes }

pub among_there : (xs : List ℕ) (r : ℕ) → list_any (λ n. n == r) xs ≡ true → Contains xs r
among_there xs r e = let f = any_passes (λ n. n == r) xs e in subst (λ (n : ℕ). Contains xs n) (eqb-true f.one r f.passes) f.there

pub flat_map_has : {X : Type 0} (f : X → List ℕ) (xs : List X) (x : X) (y : ℕ) → Contains xs x → Contains (f x) y → Contains (flat_map f xs) y
flat_map_has f [] x y c d = absurd (Contains-nil x c)
flat_map_has f (z ∷ xs) x y c d = ⊎_elim
    (λ (same : z ≡ x). Contains-append_left (f z) (flat_map f xs) y (subst (λ w. Contains (f w) y) (sym same) d))
    (λ (further : Contains xs x). Contains-append_right (f z) (flat_map f xs) y (flat_map_has f xs x y further d))
    (Contains-cons_cases z x xs c)

below_front : (m : ℕ) (xs ys : List ℕ) (i : ℕ) → ((p : ℕ) → Contains xs p → p < m) → Contains xs i → Contains (below m (xs ++ ys)) i
below_front m [] ys i low c = absurd (Contains-nil i c)
below_front m (x ∷ xs) ys i low c =
    rw (lt-ltb x m (low x (Contains-head x xs)))
    (⊎_elim
    (λ (same : x ≡ i). subst (λ (q : ℕ). Contains (x ∷ below m (xs ++ ys)) q) same (Contains-head x (below m (xs ++ ys))))
    (λ (further : Contains xs i). Contains-tail x i (below m (xs ++ ys)) (below_front m xs ys i (λ p h. low p (Contains-tail x p xs h)) further))
    (Contains-cons_cases x i xs c))

pub all_lists_has : (lists : List (List ℕ)) (b i : ℕ) → Contains (list_at lists b) i → Contains (all_lists lists) i
all_lists_has [] b i c = absurd (Contains-nil i c)
all_lists_has (list ∷ lists) zero i c = Contains-append_left list (all_lists lists) i c
all_lists_has (list ∷ lists) (suc b) i c = Contains-append_right list (all_lists lists) i (all_lists_has lists b i c)

pub other_lists_has : (number n : ℕ) (lists : List (List ℕ)) (b i : ℕ) → n + b ≢ number → Contains (list_at lists b) i → Contains (other_lists number n lists) i
other_lists_has number n [] b i ne c = absurd (Contains-nil i c)
other_lists_has number n (list ∷ lists) zero i ne c = Contains-append_left (cond (n == number) [] list) (other_lists number (suc n) lists) i (go (n == number) refl)
  where
    go : (b : Bool) → (n == number) ≡ b → Contains (cond b [] list) i
    go true is = absurd (ne (let same = eqb-true n number is in omega arith))
    go false is = c
other_lists_has number n (list ∷ lists) (suc b) i ne c =
    Contains-append_right (cond (n == number) [] list) (other_lists number (suc n) lists) i (other_lists_has number (suc n) lists b i (λ e. ne (omega arith)) c)

get_there : (xs : List ℕ) (k x : ℕ) → slice_get xs k ≡ Some x → Contains xs x
get_there [] k x e = absurd (cc)
get_there (y ∷ xs) zero x e = let same : y ≡ x = cc in subst (λ (z : ℕ). Contains (y ∷ xs) z) same (Contains-head y xs)
get_there (y ∷ xs) (suc k) x e = Contains-tail y x xs (get_there xs k x e)

-- a list that another begins with
pub record Begins (xs zs : List ℕ) : Type 0 where
  pub rest : List ℕ
  pub is : zs ≡ xs ++ rest

begins_then : (xs ys zs : List ℕ) → Begins xs ys → Begins ys zs → Begins xs zs
begins_then xs ys zs a b = record { rest = a.rest ++ b.rest; is = b.is ∙ (ap (λ (ws : List ℕ). ws ++ b.rest) a.is ∙ append_assoc xs a.rest b.rest) }

put_begins : (list : List ℕ) (p : ℕ) → Begins list (put list p)
put_begins list p = go (ends_with list p)
  where
    go : (b : Bool) → Begins list (cond b list (list ++ p ∷ []))
    go true = record { rest = []; is = sym (append-nil list) }
    go false = record { rest = p ∷ []; is = refl }

all_begins : (list more : List ℕ) → Begins list (put_all list more)
all_begins list [] = record { rest = []; is = sym (append-nil list) }
all_begins list (p ∷ more) = begins_then list (put list p) (put_all (put list p) more) (put_begins list p) (all_begins (put list p) more)

put_kept : (list more : List ℕ) (i : ℕ) → Contains list i → Contains (put_all list more) i
put_kept list more i c = let b = all_begins list more in subst (λ (xs : List ℕ). Contains xs i) (sym b.is) (Contains-append_left list b.rest i c)

put_here : (list : List ℕ) (p : ℕ) → Contains (put list p) p
put_here list p = go (ends_with list p) refl
  where
    last_there : (o : Option ℕ) → slice_get list (length list - 1) ≡ o → option_map_or (λ (last : ℕ). last == p) o false ≡ true → Contains list p
    last_there None at e = absurd (cc)
    last_there (Some last) at e = subst (λ (q : ℕ). Contains list q) (eqb-true last p e) (get_there list (length list - 1) last at)

    go : (b : Bool) → ends_with list p ≡ b → Contains (cond b list (list ++ p ∷ [])) p
    go true is = last_there (slice_get list (length list - 1)) refl is
    go false is = Contains-append_right list (p ∷ []) p (Contains-head p [])

put_has : (list more : List ℕ) (i : ℕ) → Contains more i → Contains (put_all list more) i
put_has list [] i c = absurd (Contains-nil i c)
put_has list (p ∷ more) i c = ⊎_elim
    (λ (same : p ≡ i). put_kept (put list p) more i (subst (λ (q : ℕ). Contains (put list p) q) same (put_here list p)))
    (λ (further : Contains more i). put_has (put list p) more i further)
    (Contains-cons_cases p i more c)

put_one_only : (list : List ℕ) (p i : ℕ) → Contains (put list p) i → Contains list i ⊎ (p ≡ i)
put_one_only list p i c = go (ends_with list p) c
  where
    go : (b : Bool) → Contains (cond b list (list ++ p ∷ [])) i → Contains list i ⊎ (p ≡ i)
    go true h = inl h
    go false h = Contains-push_cases list p i h

put_only : (list more : List ℕ) (i : ℕ) → Contains (put_all list more) i → Contains list i ⊎ Contains more i
put_only list [] i c = inl c
put_only list (p ∷ more) i c = ⊎_elim
    (λ (h : Contains (put list p) i). ⊎_elim
    (λ (there : Contains list i). inl there)
    (λ (same : p ≡ i). inr (subst (λ (q : ℕ). Contains (p ∷ more) q) same (Contains-head p more)))
    (put_one_only list p i h))
    (λ (further : Contains more i). inr (Contains-tail p i more further))
    (put_only (put list p) more i c)

pub put_append : (list xs ys : List ℕ) → put_all (put_all list xs) ys ≡ put_all list (xs ++ ys)
put_append list [] ys = refl
put_append list (x ∷ xs) ys = put_append (put list x) xs ys

module _ {X : Type 0} (test : X → Bool) where
  hits_has : (items : List X) (place : ℕ) (x : X) → Contains items x → test x ≡ true → Contains (hits test items place) place
  hits_has [] place x c e = absurd (Contains-nil x c)
  hits_has (z ∷ items) place x c e = ⊎_elim
      (λ (same : z ≡ x). Contains-append_left (cond (test z) (place ∷ []) []) (hits test items place) place
      (rw (ap test same ∙ e) (Contains-head place [])))
      (λ (further : Contains items x). Contains-append_right (cond (test z) (place ∷ []) []) (hits test items place) place (hits_has items place x further e))
      (Contains-cons_cases z x items c)

  hits_only : (items : List X) (place p : ℕ) → Contains (hits test items place) p → place ≡ p
  hits_only [] place p c = absurd (Contains-nil p c)
  hits_only (z ∷ items) place p c = ⊎_elim
      (λ (here : Contains (cond (test z) (place ∷ []) []) p). go (test z) here)
      (λ (further : Contains (hits test items place) p). hits_only items place p further)
      (Contains-append_cases (cond (test z) (place ∷ []) []) (hits test items place) p c)
    where
      go : (b : Bool) → Contains (cond b (place ∷ []) []) p → place ≡ p
      go true h = ⊎_elim (λ (same : place ≡ p). same) (λ (m : Contains [] p). absurd (Contains-nil p m)) (Contains-cons_cases place p [] h)
      go false h = absurd (Contains-nil p h)

  module _ (items : ℕ → List X) where
    pub places_has : (n i : ℕ) (x : X) → i < n → Contains (items i) x → test x ≡ true → Contains (places test items n) i
    places_has zero i x lt c e = absurd (omega arith)
    places_has (suc n) i x lt c e = ⊎_elim
        (λ (less : i < n). put_kept (places test items n) (hits test (items n) n) i (places_has n i x less c e))
        (λ (more : n ≤ i).
        let same : n ≡ i = omega arith in
        put_has (places test items n) (hits test (items n) n) i
        (rw same (hits_has (items i) i x c e)))
        (cases_lt i n)

    places_low : (n p : ℕ) → Contains (places test items n) p → p < n
    places_low zero p c = absurd (Contains-nil p c)
    places_low (suc n) p c = ⊎_elim
        (λ (there : Contains (places test items n) p). let h = places_low n p there in omega arith)
        (λ (here : Contains (hits test (items n) n) p). let h = hits_only (items n) n p here in omega arith)
        (put_only (places test items n) (hits test (items n) n) p c)

    front : (m k : ℕ) → Begins (places test items m) (places test items (m + k))
    front m zero = let z : m + zero ≡ m = omega arith in record { rest = []; is = ap (places test items) z ∙ sym (append-nil (places test items m)) }
    front m (suc k) =
        let s : suc (m + k) ≡ m + suc k = omega arith in
        subst (λ (n : ℕ). Begins (places test items m) (places test items n)) s
        (begins_then (places test items m) (places test items (m + k)) (places test items (suc (m + k))) (front m k) (all_begins (places test items (m + k)) (hits test (items (m + k)) (m + k))))

    pub below_has : (n m i : ℕ) (x : X) → i < m → m ≤ n → Contains (items i) x → test x ≡ true → Contains (below m (places test items n)) i
    below_has n m i x lt le c e =
        let s : m + (n - m) ≡ n = omega arith in
        let f = front m (n - m) in
        subst (λ (xs : List ℕ). Contains (below m xs) i) (sym f.is ∙ ap (places test items) s)
        (below_front m (places test items m) f.rest i (places_low m) (places_has m i x lt c e))
