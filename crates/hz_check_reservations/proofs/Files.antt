-- The order of the file by numbers: it is a merge, and has each number once.
use Rattle.std.proofs.Common.{◌≡◌, ◌≢◌, ℕ, suc, ◌+◌, ◌<◌, ◌≤◌, ◌⊎◌, inl, inr, ⊎_elim, List, [], ◌∷◌, ◌++◌, length, get_or, map, Contains, refl, sym, ap, ◌∙◌, subst, arith}
use Rattle.std.proofs.lemmas.Bool.{cases_eq}
use Rattle.std.proofs.lemmas.List.{append_assoc, get_or_at, length-append}
use Rattle.hz_base_model.proofs.Elements.{Contains-nil, Contains-head, Contains-tail, Contains-cons_cases}
use Rattle.hz_description_model.specs.Check.CountingOrder.{Reserving, Merged, no_first, no_second}
use Rattle.hz_description_model.specs.Check.CountingOrder as model
use Rattle.hz_check_reservations.specs.Orders.{Numbered, done, last_first, last_second, from_first, from_second}

-- numbers from one on stand for these
abbrev pub Stand : (ℕ → Reserving) → ℕ → List Reserving → Type 0
Stand f i [] = Unit {0}
Stand f i (r ∷ rs) = (f i ≡ r) × Stand f (i + 1) rs

stand_after : (d : Reserving) (before rs : List Reserving) → Stand (λ i. get_or (before ++ rs) i d) (length before) rs
stand_after d before [] = tt
stand_after d before (r ∷ rs) = (
  get_or_at before r rs d (length before) refl,
  subst (λ (n : ℕ). Stand (λ i. get_or (before ++ r ∷ rs) i d) n rs) (length-append before (r ∷ []))
      (subst (λ (xs : List Reserving). Stand (λ i. get_or xs i d) (length (before ++ r ∷ [])) rs) (append_assoc before (r ∷ []) rs) (stand_after d (before ++ r ∷ []) rs)),
)

stand_split : (f : ℕ → Reserving) (i : ℕ) (xs ys : List Reserving) → Stand f i (xs ++ ys) → Stand f i xs × Stand f (i + length xs) ys
stand_split f i [] ys h = (tt, let e : i ≡ i + 0 = omega arith in subst (λ (n : ℕ). Stand f n ys) e h)
stand_split f i (x ∷ xs) ys h =
    let rest = stand_split f (i + 1) xs ys h.1 in
    ((h.0, rest.0), let e : (i + 1) + length xs ≡ i + suc (length xs) = omega arith in subst (λ (n : ℕ). Stand f n ys) e rest.1)

pub stand_all : (d : Reserving) (xs ys : List Reserving) → Stand (λ i. get_or (xs ++ ys) i d) 0 xs × Stand (λ i. get_or (xs ++ ys) i d) (length xs) ys
stand_all d xs ys =
    let parts = stand_split (λ i. get_or (xs ++ ys) i d) 0 xs ys (stand_after d [] (xs ++ ys)) in
    (parts.0, let e : 0 + length xs ≡ length xs = omega arith in subst (λ (n : ℕ). Stand (λ i. get_or (xs ++ ys) i d) n ys) e parts.1)

module _ (f : ℕ → Reserving) where
  -- the last ones, where one list has ended
  rest_first : {first : List Reserving} {i j : ℕ} {file : List ℕ} → Numbered first [] i j file → Stand f i first → map f file ≡ first
  rest_first done s = refl
  rest_first (last_first {r = r} {file = file} rest) s = ap (λ (x : Reserving). x ∷ map f file) s.0 ∙ ap (λ (xs : List Reserving). r ∷ xs) (rest_first rest s.1)

  rest_second : {second : List Reserving} {i j : ℕ} {file : List ℕ} → Numbered [] second i j file → Stand f j second → map f file ≡ second
  rest_second done s = refl
  rest_second (last_second {s = r} {file = file} rest) s = ap (λ (x : Reserving). x ∷ map f file) s.0 ∙ ap (λ (xs : List Reserving). r ∷ xs) (rest_second rest s.1)

  pub file_merged : {first second : List Reserving} {i j : ℕ} {file : List ℕ} → Numbered first second i j file → Stand f i first → Stand f j second → Merged first second (map f file)
  file_merged done s t = no_first
  file_merged {i = i} {j = j} (last_first {r = r} {first = first} {file = file} rest) s t =
      subst (Merged (r ∷ first) []) (sym (rest_first (last_first {r = r} {i = i} {j = j} rest) s)) no_second
  file_merged {i = i} {j = j} (last_second {s = r} {second = second} {file = file} rest) s t =
      subst (Merged [] (r ∷ second)) (sym (rest_second (last_second {s = r} {i = i} {j = j} rest) t)) no_first
  file_merged {j = j} (from_first {r = r} {s = s'} {first = first} {second = second} {i = i} {file = file} low rest) s t =
      subst (λ (x : Reserving). Merged (r ∷ first) (s' ∷ second) (x ∷ map f file)) (sym s.0) (model.from_first low (file_merged rest s.1 t))
  file_merged {i = i} (from_second {r = r} {s = s'} {first = first} {second = second} {j = j} {file = file} high rest) s t =
      subst (λ (x : Reserving). Merged (r ∷ first) (s' ∷ second) (x ∷ map f file)) (sym t.0) (model.from_second high (file_merged rest s t.1))

-- a number of the first, or of the second
abbrev pub IsNumber : List Reserving → List Reserving → ℕ → ℕ → ℕ → Type 0
IsNumber first second i j v = ((i ≤ v) × (v < i + length first)) ⊎ ((j ≤ v) × (v < j + length second))

pub file_number : {first second : List Reserving} {i j : ℕ} {file : List ℕ} → Numbered first second i j file → (v : ℕ) → Contains file v → IsNumber first second i j v
file_number done v h = absurd (Contains-nil v h)
file_number {i = i} (last_first {file = file} rest) v h = ⊎_elim
    (λ (e : i ≡ v). inl (omega arith, omega arith))
    (λ (k : Contains file v). ⊎_elim (λ g. inl (omega (arith, g.0), omega (arith, g.1))) (λ g. inr g) (file_number rest v k))
    (Contains-cons_cases i v file h)
file_number {j = j} (last_second {file = file} rest) v h = ⊎_elim
    (λ (e : j ≡ v). inr (omega arith, omega arith))
    (λ (k : Contains file v). ⊎_elim (λ g. inl g) (λ g. inr (omega (arith, g.0), omega (arith, g.1))) (file_number rest v k))
    (Contains-cons_cases j v file h)
file_number {i = i} (from_first {file = file} low rest) v h = ⊎_elim
    (λ (e : i ≡ v). inl (omega arith, omega arith))
    (λ (k : Contains file v). ⊎_elim (λ g. inl (omega (arith, g.0), omega (arith, g.1))) (λ g. inr g) (file_number rest v k))
    (Contains-cons_cases i v file h)
file_number {j = j} (from_second {file = file} high rest) v h = ⊎_elim
    (λ (e : j ≡ v). inr (omega arith, omega arith))
    (λ (k : Contains file v). ⊎_elim (λ g. inl g) (λ g. inr (omega (arith, g.0), omega (arith, g.1))) (file_number rest v k))
    (Contains-cons_cases j v file h)

-- each number stands in the file
pub file_first : {first second : List Reserving} {i j : ℕ} {file : List ℕ} → Numbered first second i j file → (v : ℕ) → i ≤ v → v < i + length first → Contains file v
file_first done v le lt = absurd (omega arith)
file_first {i = i} (last_first {file = file} rest) v le lt = ⊎_elim
    (λ (e : v ≡ i). subst (Contains (i ∷ file)) (sym e) (Contains-head i file))
    (λ (ne : v ≢ i). Contains-tail i v file (file_first rest v (omega arith) (omega arith)))
    (cases_eq v i)
file_first (last_second rest) v le lt = absurd (omega arith)
file_first {i = i} (from_first {file = file} low rest) v le lt = ⊎_elim
    (λ (e : v ≡ i). subst (Contains (i ∷ file)) (sym e) (Contains-head i file))
    (λ (ne : v ≢ i). Contains-tail i v file (file_first rest v (omega arith) (omega arith)))
    (cases_eq v i)
file_first {j = j} (from_second {file = file} high rest) v le lt = Contains-tail j v file (file_first rest v le lt)

pub file_second : {first second : List Reserving} {i j : ℕ} {file : List ℕ} → Numbered first second i j file → (v : ℕ) → j ≤ v → v < j + length second → Contains file v
file_second done v le lt = absurd (omega arith)
file_second (last_first rest) v le lt = absurd (omega arith)
file_second {j = j} (last_second {file = file} rest) v le lt = ⊎_elim
    (λ (e : v ≡ j). subst (Contains (j ∷ file)) (sym e) (Contains-head j file))
    (λ (ne : v ≢ j). Contains-tail j v file (file_second rest v (omega arith) (omega arith)))
    (cases_eq v j)
file_second {i = i} (from_first {file = file} low rest) v le lt = Contains-tail i v file (file_second rest v le lt)
file_second {j = j} (from_second {file = file} high rest) v le lt = ⊎_elim
    (λ (e : v ≡ j). subst (Contains (j ∷ file)) (sym e) (Contains-head j file))
    (λ (ne : v ≢ j). Contains-tail j v file (file_second rest v (omega arith) (omega arith)))
    (cases_eq v j)

-- no number from one on stands twice
pub data IsOnceFrom (least : ℕ) : List ℕ → Type 0 where
  none : IsOnceFrom least []
  one : {v : ℕ} {nodes : List ℕ} → (least ≤ v → Contains nodes v → ⊥) → IsOnceFrom least nodes → IsOnceFrom least (v ∷ nodes)

-- numbers of the second list are greater than those of the first, and each comes once
pub file_once : (least : ℕ) {first second : List Reserving} {i j : ℕ} {file : List ℕ} → Numbered first second i j file → i + length first ≤ least → least ≤ j → IsOnceFrom least file
file_once least done a b = none
file_once least {i = i} {j = j} (last_first {first = first} rest) a b = one (λ le h. absurd (omega arith)) (file_once least rest (omega arith) b)
file_once least {i = i} {j = j} (last_second {second = second} rest) a b = one (λ le h. later rest h) (file_once least rest a (omega arith))
  where
    later : {file : List ℕ} → Numbered [] second i (j + 1) file → Contains file j → ⊥
    later n h = ⊎_elim (λ (g : (i ≤ j) × (j < i + 0)). absurd (omega (arith, g.1))) (λ (g : (j + 1 ≤ j) × (j < (j + 1) + length second)). absurd (omega (arith, g.0))) (file_number n j h)
file_once least {i = i} {j = j} (from_first {first = first} {second = second} low rest) a b = one (λ le h. absurd (omega arith)) (file_once least rest (omega arith) b)
file_once least {i = i} {j = j} (from_second {r = r} {first = first} {second = second} high rest) a b = one (λ le h. later rest h) (file_once least rest a (omega arith))
  where
    later : {file : List ℕ} → Numbered (r ∷ first) second i (j + 1) file → Contains file j → ⊥
    later n h = ⊎_elim (λ (g : (i ≤ j) × (j < i + length (r ∷ first))). absurd (omega (arith, g.1))) (λ (g : (j + 1 ≤ j) × (j < (j + 1) + length second)). absurd (omega (arith, g.0))) (file_number n j h)
