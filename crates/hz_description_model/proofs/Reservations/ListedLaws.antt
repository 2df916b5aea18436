-- Choices of alternatives, and alternatives in the one way to list them.
use Rattle.std.proofs.Common.{◌≡◌, ℕ, zero, suc, ◌+◌, ◌<◌, max, List, [], ◌∷◌, ◌++◌, map, All, refl, sym, ap, ◌∙◌, arith, append_assoc, add_assoc, zero-add}
use Rattle.std.proofs.lemmas.List.Concat.{flat_map-append}
use Rattle.std.proofs.lemmas.List.{append-nil, map-append}
use Rattle.std.proofs.lemmas.List.Elements.{All-contains, All-head, All-tail, All-append, All-map, All-nil}
use Rattle.hz_base_model.specs.Pairs.{Pair, later, placed}
use Rattle.hz_description_model.specs.Reservations.Alternatives.{Alternative, Expression, empty, followed_by, beside, each_choice, copies, alternatives_of, in_sequence, any_of, together, parts_of}
use Rattle.hz_description_model.specs.Reservations.Automata.{UnitPlace, ascending, listed}
use Rattle.hz_description_model.specs.Reservations.AlternativeLists.{IsAscending}
use Rattle.hz_base_model.proofs.Elements.{Contains-from_map}
use Rattle.hz_base_model.proofs.Ascending.{AllPairs-append, AllPairs-map}
use Rattle.hz_description_model.proofs.Reservations.SamePairsLaws.{same_append, same_placed, same_back}
use Rattle.hz_description_model.proofs.Reservations.AscendingLaws.{Precedes, Precedes-later, Precedes-earlier, pair_at, IsAscending-ascending, Contains-from_ascending, same_ascending, ascending_is, ascending_same}

-- ---- choices

module _ {A : Type 0} where
  each_choice-append : (join : A → A → A) (xs ys zs : List A) → each_choice join (xs ++ ys) zs ≡ each_choice join xs zs ++ each_choice join ys zs
  each_choice-append join xs ys zs = flat_map-append (λ x. map (join x) zs) xs ys

  module _ (join : A → A → A) (assoc : (x y z : A) → join (join x y) z ≡ join x (join y z)) where
    map-joined : (x y : A) (zs : List A) → map (join (join x y)) zs ≡ map (join x) (map (join y) zs)
    map-joined x y [] = refl
    map-joined x y (z ∷ zs) = ap (λ (w : A). w ∷ map (join (join x y)) zs) (assoc x y z) ∙ ap (λ (ws : List A). join x (join y z) ∷ ws) (map-joined x y zs)

    each_choice-map : (x : A) (ys zs : List A) → each_choice join (map (join x) ys) zs ≡ map (join x) (each_choice join ys zs)
    each_choice-map x [] zs = refl
    each_choice-map x (y ∷ ys) zs =
        ap (λ (ws : List A). ws ++ each_choice join (map (join x) ys) zs) (map-joined x y zs)
        ∙ (ap (λ (ws : List A). map (join x) (map (join y) zs) ++ ws) (each_choice-map x ys zs)
        ∙ sym (map-append (join x) (map (join y) zs) (each_choice join ys zs)))

    pub each_choice-assoc : (xs ys zs : List A) → each_choice join (each_choice join xs ys) zs ≡ each_choice join xs (each_choice join ys zs)
    each_choice-assoc [] ys zs = refl
    each_choice-assoc (x ∷ xs) ys zs =
        each_choice-append join (map (join x) ys) (each_choice join xs ys) zs
        ∙ (ap (λ (ws : List A). ws ++ each_choice join (each_choice join xs ys) zs) (each_choice-map x ys zs)
        ∙ ap (λ (ws : List A). map (join x) (each_choice join ys zs) ++ ws) (each_choice-assoc xs ys zs))

  -- each choice is one that P holds of, where P is kept
  pub All-each_choice : (P : A → Type 0) (join : A → A → A) → ((x y : A) → P x → P y → P (join x y)) → (xs ys : List A) → All P xs → All P ys → All P (each_choice join xs ys)
  All-each_choice P join keeps [] ys h k = All-nil P
  All-each_choice P join keeps (x ∷ xs) ys h k =
      let here = All-head P x xs h in
      All-append P (map (join x) ys) (each_choice join xs ys)
      (All-map P (join x) ys (λ i d within. keeps x _ here (k i d within)))
      (All-each_choice P join keeps xs ys (All-tail P x xs h) k)

  -- a function of each choice is a choice of the function's values
  pub map-each_choice : {B : Type 0} (f : A → B) (join : A → A → A) (join' : B → B → B) (P : A → Type 0) → ((x y : A) → P x → f (join x y) ≡ join' (f x) (f y)) → (xs ys : List A) → All P xs → map f (each_choice join xs ys) ≡ each_choice join' (map f xs) (map f ys)
  map-each_choice f join join' P each [] ys h = refl
  map-each_choice f join join' P each (x ∷ xs) ys h =
      map-append f (map (join x) ys) (each_choice join xs ys)
      ∙ (ap (λ ws. ws ++ map f (each_choice join xs ys)) (each_join ys)
      ∙ ap (λ ws. map (join' (f x)) (map f ys) ++ ws) (map-each_choice f join join' P each xs ys (All-tail P x xs h)))
    where
      each_join : (zs : List A) → map f (map (join x) zs) ≡ map (join' (f x)) (map f zs)
      each_join [] = refl
      each_join (z ∷ zs) = ap (λ w. w ∷ map f (map (join x) zs)) (each x z (All-head P x xs h)) ∙ ap (λ ws. join' (f x) (f z) ∷ ws) (each_join zs)

-- ---- alternatives one after another, and side by side

module _ {U : Type 0} where
  placed-append : (n : ℕ) (ps qs : List (Pair U)) → placed n (ps ++ qs) ≡ placed n ps ++ placed n qs
  placed-append n ps qs = map-append (later n) ps qs

  placed-placed : (m n : ℕ) (ps : List (Pair U)) → placed m (placed n ps) ≡ placed (m + n) ps
  placed-placed m n [] = refl
  placed-placed m n (p ∷ ps) =
      let e : m + (n + p.cycle) ≡ (m + n) + p.cycle = omega arith in
      rw (e, placed-placed m n ps) refl

  placed-zero : (ps : List (Pair U)) → placed 0 ps ≡ ps
  placed-zero [] = refl
  placed-zero (p ∷ ps) = rw (zero-add p.cycle, placed-zero ps) refl

  abbrev whole : List (Pair U) → ℕ → Alternative U
  whole pairs cycles = record { pairs = pairs; cycles = cycles }

  followed-assoc : (a b c : Alternative U) → followed_by (followed_by a b) c ≡ followed_by a (followed_by b c)
  followed-assoc a b c =
      let pairs : (a.pairs ++ placed a.cycles b.pairs) ++ placed (a.cycles + b.cycles) c.pairs ≡ a.pairs ++ placed a.cycles (b.pairs ++ placed b.cycles c.pairs) =
      append_assoc a.pairs (placed a.cycles b.pairs) (placed (a.cycles + b.cycles) c.pairs)
      ∙ ap (λ ws. a.pairs ++ ws) (ap (λ ws. placed a.cycles b.pairs ++ ws) (sym (placed-placed a.cycles b.cycles c.pairs)) ∙ sym (placed-append a.cycles b.pairs (placed b.cycles c.pairs))) in
      ap (λ ws. whole ws ((a.cycles + b.cycles) + c.cycles)) pairs ∙ ap (whole (a.pairs ++ placed a.cycles (b.pairs ++ placed b.cycles c.pairs))) (add_assoc a.cycles b.cycles c.cycles)

  beside-assoc : (a b c : Alternative U) → beside (beside a b) c ≡ beside a (beside b c)
  beside-assoc a b c =
      let most : max (max a.cycles b.cycles) c.cycles ≡ max a.cycles (max b.cycles c.cycles) = omega arith in
      ap (λ ws. whole ws (max (max a.cycles b.cycles) c.cycles)) (append_assoc a.pairs b.pairs c.pairs) ∙ ap (whole (a.pairs ++ (b.pairs ++ c.pairs))) most

  followed-empty : (b : Alternative U) → followed_by empty b ≡ b
  followed-empty b = ap (λ ws. whole ws (0 + b.cycles)) (placed-zero b.pairs) ∙ ap (whole b.pairs) (zero-add b.cycles)

  beside-empty : (b : Alternative U) → beside empty b ≡ b
  beside-empty b = let most : max 0 b.cycles ≡ b.cycles = omega arith in ap (whole b.pairs) most

  each_empty : (join : Alternative U → Alternative U → Alternative U) → ((b : Alternative U) → join empty b ≡ b) → (ys : List (Alternative U)) → each_choice join (empty ∷ []) ys ≡ ys
  each_empty join left ys = append-nil (map (join empty) ys) ∙ each ys
    where
      each : (zs : List (Alternative U)) → map (join empty) zs ≡ zs
      each [] = refl
      each (z ∷ zs) = ap (λ w. w ∷ map (join empty) zs) (left z) ∙ ap (λ ws. z ∷ ws) (each zs)

  module _ (known : List ℕ → List (Alternative U)) where
    pub in_sequence-append : (es fs : List Expression) → in_sequence known (parts_of (es ++ fs)) ≡ each_choice followed_by (in_sequence known (parts_of es)) (in_sequence known (parts_of fs))
    in_sequence-append [] fs = sym (each_empty followed_by followed-empty (in_sequence known (parts_of fs)))
    in_sequence-append (e ∷ es) fs =
        ap (each_choice followed_by (alternatives_of known e)) (in_sequence-append es fs)
        ∙ sym (each_choice-assoc followed_by followed-assoc (alternatives_of known e) (in_sequence known (parts_of es)) (in_sequence known (parts_of fs)))

    pub together-append : (es fs : List Expression) → together known (parts_of (es ++ fs)) ≡ each_choice beside (together known (parts_of es)) (together known (parts_of fs))
    together-append [] fs = sym (each_empty beside beside-empty (together known (parts_of fs)))
    together-append (e ∷ es) fs =
        ap (each_choice beside (alternatives_of known e)) (together-append es fs)
        ∙ sym (each_choice-assoc beside beside-assoc (alternatives_of known e) (together known (parts_of es)) (together known (parts_of fs)))

    pub any_of-append : (es fs : List Expression) → any_of known (parts_of (es ++ fs)) ≡ any_of known (parts_of es) ++ any_of known (parts_of fs)
    any_of-append [] fs = refl
    any_of-append (e ∷ es) fs =
        ap (λ ws. alternatives_of known e ++ ws) (any_of-append es fs) ∙ sym (append_assoc (alternatives_of known e) (any_of known (parts_of es)) (any_of known (parts_of fs)))

  pub copies-add : (m n : ℕ) (xs : List (Alternative U)) → copies (m + n) xs ≡ each_choice followed_by (copies m xs) (copies n xs)
  copies-add zero n xs = rw (zero-add n) (sym (each_empty followed_by followed-empty (copies n xs)))
  copies-add (suc m) n xs =
      let e : suc m + n ≡ suc (m + n) = omega arith in
      rw e (ap (each_choice followed_by xs) (copies-add m n xs) ∙ sym (each_choice-assoc followed_by followed-assoc xs (copies m xs) (copies n xs)))

-- ---- listed alternatives

IsAscending-placed : (n : ℕ) (ps : List (Pair UnitPlace)) → IsAscending ps → IsAscending (placed n ps)
IsAscending-placed n ps up = AllPairs-map Precedes Precedes (later n) (Precedes-later n) (pair_at 0 0 0) ps up

-- the pairs of an alternative lie within its cycles
abbrev pub IsWithin : Alternative UnitPlace → Type 0
IsWithin a = All (λ p. p.cycle < a.cycles) a.pairs

pub listed_followed : (a b : Alternative UnitPlace) → IsWithin a → listed (followed_by a b) ≡ followed_by (listed a) (listed b)
listed_followed a b within =
    let beyond = placed a.cycles (ascending b.pairs) in
    let up = AllPairs-append Precedes (ascending a.pairs) beyond (IsAscending-ascending a.pairs) (IsAscending-placed a.cycles (ascending b.pairs) (IsAscending-ascending b.pairs))
    (λ p q m n.
    let from = Contains-from_map (later a.cycles) (ascending b.pairs) q n in
    let low : p.cycle < a.cycles = All-contains (λ (x : Pair UnitPlace). x.cycle < a.cycles) a.pairs p within (Contains-from_ascending p a.pairs m) in
    let high : a.cycles + from.0.cycle ≡ q.cycle = ap (λ (x : Pair UnitPlace). x.cycle) from.2 in
    Precedes-earlier p q (omega arith)) in
    ap (λ ws. whole ws (a.cycles + b.cycles))
    (ascending_is (a.pairs ++ placed a.cycles b.pairs) (ascending a.pairs ++ beyond) up
    (same_append (ascending a.pairs) beyond a.pairs (placed a.cycles b.pairs) (same_ascending a.pairs) (same_placed a.cycles (ascending b.pairs) b.pairs (same_ascending b.pairs))))

pub listed_beside : (a b : Alternative UnitPlace) → listed (beside a b) ≡ listed (beside (listed a) (listed b))
listed_beside a b =
    ap (λ ws. whole ws (max a.cycles b.cycles))
    (ascending_same (a.pairs ++ b.pairs) (ascending a.pairs ++ ascending b.pairs)
    (same_append a.pairs b.pairs (ascending a.pairs) (ascending b.pairs) (same_back (ascending a.pairs) a.pairs (same_ascending a.pairs)) (same_back (ascending b.pairs) b.pairs (same_ascending b.pairs))))
