-- Lists by numbers, as the code holds them.
use Rattle.std.proofs.Common.{◌≡◌, ℕ, ◌<◌, ◌==◌, ◌&&◌, Bool, true, false, cond, List, [], ◌∷◌, length, get_or, set, Option, Some, refl, sym, ap, ◌∙◌, arith, get_or-set_same, get_or-set_other}
use Rattle.std.specs.declared.alloc.Global.{Global}
use Rattle.std.specs.declared.vec.Vec.{Vec}
use Rattle.std.specs.Option.{option_map_or}
use Rattle.std.specs.declared.cmp.Ordering.{Ordering}
use Rattle.std.specs.declared.cmp.Ordering.TheVariants.{Less, Equal, Greater}
use Rattle.std.specs.Ordering.{nat_cmp, ordering_then, is_eq}
use Rattle.std.specs.Cmp.{unsigned_tied}
use Rattle.std.proofs.lemmas.Bool.{eqb-true, eq-eqb}
use Rattle.std.proofs.lemmas.List.{get_or-map, length-map, map-set}
use Rattle.hz_depend.specs.Lists.{lists_of, list_at}
use Rattle.hz_depend.specs.Noted.{Key, same_key, put, put_all}

module _ (lists : List (Vec ℕ Global)) (x : ℕ) (list : Vec ℕ Global) (within : x < length lists) (is : list ≡ get_or lists x list) where
  pub list_at_read : list_at (lists_of lists) x ≡ list.items
  list_at_read = get_or-map (λ (v : Vec ℕ Global). v.items) lists x list [] within ∙ ap (λ (v : Vec ℕ Global). v.items) (sym is)

  -- a place more in one of the lists
  pub list_more : (new : Vec ℕ Global) (p : ℕ) → new.items ≡ put list.items p → (r : ℕ) → list_at (lists_of (set lists x new)) r ≡ put_all (list_at (lists_of lists) r) (cond (x == r) (p ∷ []) [])
  list_more new p grown r = ap (λ (all : List (List ℕ)). list_at all r) (map-set (λ (v : Vec ℕ Global). v.items) lists x new) ∙ go (x == r) refl
    where
      inside : x < length (lists_of lists)
      inside = let n = length-map lists (λ (v : Vec ℕ Global). v.items) in omega arith

      go : (b : Bool) → (x == r) ≡ b → list_at (set (lists_of lists) x new.items) r ≡ put_all (list_at (lists_of lists) r) (cond b (p ∷ []) [])
      go true e =
          let same = eqb-true x r e in
          ap (list_at (set (lists_of lists) x new.items)) (sym same)
          ∙ (get_or-set_same (lists_of lists) x new.items [] inside
          ∙ (grown ∙ (ap (λ (xs : List ℕ). put xs p) (sym list_at_read) ∙ ap (λ (q : ℕ). put (list_at (lists_of lists) q) p) same)))
      go false e =
          let ne : r ≡ x → ⊥ = λ (s : r ≡ x). let t = eq-eqb x r (sym s) in absurd (cc) in
          get_or-set_other (lists_of lists) x r new.items [] ne

pub list_more_at : (lists : List (Vec ℕ Global)) (at x : ℕ) (list new : Vec ℕ Global) (p : ℕ) → at ≡ x → at < length lists → list ≡ get_or lists at list → new.items ≡ put list.items p
    → (r : ℕ) → list_at (lists_of (set lists at new)) r ≡ put_all (list_at (lists_of lists) r) (cond (x == r) (p ∷ []) [])
list_more_at lists at x list new p same within is grown r = list_more lists at list within is new p grown r ∙ ap (λ (q : ℕ). put_all (list_at (lists_of lists) r) (cond (q == r) (p ∷ []) [])) same

-- the order of keys tells whether they are the same
pub same_by_order : (a b : Key) → is_eq (ordering_then (nat_cmp a.0 b.0) (nat_cmp a.1 b.1)) ≡ same_key a b
same_by_order a b = go (nat_cmp a.0 b.0) (unsigned_tied a.0 b.0)
  where
    go : (o : Ordering) → is_eq o ≡ (a.0 == b.0) → is_eq (ordering_then o (nat_cmp a.1 b.1)) ≡ same_key a b
    go Less e = rw (← e) refl
    go Equal e = rw (← e) (unsigned_tied a.1 b.1)
    go Greater e = rw (← e) refl

abbrev pair : ℕ → ℕ → Key
pair a b = (a, b)

same_keys : (a b : Key) → same_key a b ≡ true → a ≡ b
same_keys (m, n) (u, v) e = go (m == u) (n == v) refl refl e
  where
    go : (x y : Bool) → (m == u) ≡ x → (n == v) ≡ y → (x && y) ≡ true → ◌≡◌ {A = Key} (m, n) (u, v)
    go true true p q e' = let f = eqb-true m u p in let s = eqb-true n v q in ap (λ (a : ℕ). pair a n) f ∙ ap (λ (b : ℕ). pair u b) s
    go true false p q e' = absurd (cc)
    go false y p q e' = absurd (cc)

-- the list of a key where one is put in
pub put_at : (test same : Bool) (list : Vec ℕ Global) (old new : Option (Vec ℕ Global)) → test ≡ same → new ≡ cond test (Some list) old
    → option_map_or (λ (v : Vec ℕ Global). v.items) new [] ≡ cond same list.items (option_map_or (λ (v : Vec ℕ Global). v.items) old [])
put_at true same list old new e is = rw (is, ← e) refl
put_at false same list old new e is = rw (is, ← e) refl

-- a place more for a key, whose places were taken out and put back
pub key_more : (old between new : Key → List ℕ) (key : Key) (taken grown : List ℕ) (p : ℕ) → taken ≡ old key → ((k : Key) → same_key key k ≡ false → between k ≡ old k) → grown ≡ put taken p
    → ((k : Key) → new k ≡ cond (same_key key k) grown (between k)) → (k : Key) → new k ≡ put_all (old k) (cond (same_key key k) (p ∷ []) [])
key_more old between new key taken grown p is others more puts k = puts k ∙ go (same_key key k) refl
  where
    go : (b : Bool) → same_key key k ≡ b → cond b grown (between k) ≡ put_all (old k) (cond b (p ∷ []) [])
    go true e = let same = same_keys key k e in more ∙ ap (λ (xs : List ℕ). put xs p) (is ∙ ap old same)
    go false e = others k e
