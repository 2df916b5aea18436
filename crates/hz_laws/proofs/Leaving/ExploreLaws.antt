-- Exploring from a start: where there are so many ways on, and it can be reported which items are the same, every count of
-- what is led to is at most a number or above it.
use Rattle.std.proofs.Common.{◌≡◌, ℕ, zero, suc, ◌<◌, ◌≤◌, ◌⊎◌, inl, inr, ⊎_elim, List, [], ◌∷◌, map, length, get_or, Contains, refl, subst, arith}
use Rattle.std.specs.List.{sum_by}
use Rattle.std.proofs.lemmas.Bool.{cases_lt}
use Rattle.std.proofs.lemmas.List.Elements.{Contains-get_or}
use Rattle.std.proofs.lemmas.List.Kept.{AllPairs-cons}
use Rattle.std.proofs.lemmas.List.Sums.{sum_by-cons}
use Rattle.hz_base_model.proofs.Elements.{Contains-nil, Contains-head, Contains-tail, Contains-cons_cases, Contains-map}
use Rattle.hz_pipeline_model.specs.Reaching.Reach.{AreDifferent}
use Rattle.hz_pipeline_model.specs.Reaching.Counts.{IsAbove, IsAtMost}
use Rattle.hz_pipeline_model.proofs.Decidable.DecidedLaws.{IsDecided, some_reported}

-- What is led to from a start: it, and what the ways on from there lead to.
pub data IsLed {X L : Type 0} (ways : List L) (next : L → X → List X) (start : X) : X → Type 0 where
  first : IsLed ways next start start
  onward : {x : X} {way : L} {y : X} → IsLed ways next start x → Contains ways way → Contains (next way x) y → IsLed ways next start y

-- items that weigh something weigh as much as they are many
at_least : {X : Type 0} (weight : X → ℕ) (xs : List X) → ((x : X) → Contains xs x → 1 ≤ weight x) → length xs ≤ sum_by weight xs
at_least weight [] each = omega arith
at_least weight (x ∷ xs) each =
    let rest = at_least weight xs (λ y is. each y (Contains-tail x y xs is)) in
    omega (arith, sum_by-cons weight x xs, each x (Contains-head x xs), rest)

-- whether some item of a list is so
pub some_is_reported : {X : Type 0} (P : X → Type 0) → ((x : X) → IsDecided (P x)) → (xs : List X) → IsDecided ((x : X) × Contains xs x × P x)
some_is_reported P reported xs = ⊎_elim inl (λ none. inr (λ found. none found.0 found.1 found.2)) (some_reported P reported xs)

module _ {X L : Type 0} (Same : X → X → Type 0) (reported : (x y : X) → IsDecided (Same x y)) (itself : (x : X) → Same x x) (joined : (x y z : X) → Same x y → Same y z → Same x z) (ways : List L) (next : L → X → List X) (start : X) (alike : (x y : X) → IsLed ways next start x → IsLed ways next start y → Same x y → (way : L) → (x' : X) → Contains (next way x) x' → (y' : X) × Contains (next way y) y' × Same x' y') where
  abbrev Has : List X → X → Type 0
  Has items x = (y : X) × Contains items y × Same x y

  -- what an item leads to is there
  abbrev IsClosed : List X → Type 0
  IsClosed items = (x : X) → Contains items x → (way : L) → Contains ways way → (y : X) → Contains (next way x) y → Has items y

  -- An item leads to something new.
  record LeadsOut (items : List X) (x : X) (way : L) : Type 0 where
    new : X
    led : Contains (next way x) new
    other : Has items new → ⊥

  record IsWayOut (items : List X) (x : X) : Type 0 where
    way : L
    there : Contains ways way
    leads : LeadsOut items x way

  record IsOpen (items : List X) : Type 0 where
    item : X
    there : Contains items item
    out : IsWayOut items item

  has_reported : (items : List X) (x : X) → IsDecided (Has items x)
  has_reported items x = some_is_reported (Same x) (reported x) items

  new_reported : (items : List X) (x : X) → IsDecided (Has items x → ⊥)
  new_reported items x = ⊎_elim (λ has. inr (λ new. new has)) (λ new. inl new) (has_reported items x)

  leads_reported : (items : List X) (x : X) (way : L) → IsDecided (LeadsOut items x way)
  leads_reported items x way = ⊎_elim
      (λ found. inl (record { new = found.0; led = found.1; other = found.2 }))
      (λ none. inr (λ out. none (out.new, out.led, out.other)))
      (some_is_reported (λ y. Has items y → ⊥) (new_reported items) (next way x))

  way_reported : (items : List X) (x : X) → IsDecided (IsWayOut items x)
  way_reported items x = ⊎_elim
      (λ found. inl (record { way = found.0; there = found.1; leads = found.2 }))
      (λ none. inr (λ out. none (out.way, out.there, out.leads)))
      (some_is_reported (LeadsOut items x) (leads_reported items x) ways)

  open_reported : (items : List X) → IsDecided (IsOpen items)
  open_reported items = ⊎_elim
      (λ found. inl (record { item = found.0; there = found.1; out = found.2 }))
      (λ none. inr (λ out. none (out.item, out.there, out.out)))
      (some_is_reported (IsWayOut items) (way_reported items) items)

  closed_or_open : (items : List X) → IsClosed items ⊎ IsOpen items
  closed_or_open items = ⊎_elim
      inr
      (λ none. inl (λ x is way there y led. ⊎_elim
      (λ has. has)
      (λ new. absurd (none (record { item = x; there = is; out = record { way = way; there = there; leads = record { new = y; led = led; other = new } } })))
      (has_reported items y)))
      (open_reported items)

  -- Different items that are led to: all of them, or so many.
  record Explored (many : ℕ) : Type 0 where
    items : List X
    led : (x : X) → Contains items x → IsLed ways next start x
    different : AreDifferent Same items
    begun : Has items start
    done : IsClosed items ⊎ (many ≤ length items)

  widened : (n : ℕ) (sofar : Explored n) → n ≤ length sofar.items → IsOpen sofar.items → Explored (suc n)
  widened n sofar many out =
      let leads = out.out.leads in record {
        items = leads.new ∷ sofar.items;
        led = λ x is. ⊎_elim
            (λ (e : leads.new ≡ x). subst (IsLed ways next start) e (onward (sofar.led out.item out.there) out.out.there leads.led))
            (λ there. sofar.led x there)
            (Contains-cons_cases leads.new x sofar.items is);
        different = AllPairs-cons (λ a b. Same a b → ⊥) leads.new sofar.items
            (λ i d within same. leads.other (get_or sofar.items i d, Contains-get_or sofar.items i d within, same))
            sofar.different;
        begun = let has = sofar.begun in (has.0, Contains-tail leads.new has.0 sofar.items has.1, has.2);
        done = inr (omega (arith, many));
      }

  explored : (n : ℕ) → Explored n
  explored zero = record {
    items = start ∷ [];
    led = λ x is. ⊎_elim
        (λ (e : start ≡ x). subst (IsLed ways next start) e first)
        (λ there. absurd (Contains-nil x there))
        (Contains-cons_cases start x [] is);
    different = λ i j d low within. absurd (omega arith);
    begun = (start, Contains-head start [], itself start);
    done = inr (omega arith);
  }
  explored (suc n) = more (explored n)
    where
      finished : (sofar : Explored n) → IsClosed sofar.items → Explored (suc n)
      finished sofar closed = record { items = sofar.items; led = sofar.led; different = sofar.different; begun = sofar.begun; done = inl closed }

      more : Explored n → Explored (suc n)
      more sofar = ⊎_elim
          (finished sofar)
          (λ many. ⊎_elim (finished sofar) (widened n sofar many) (closed_or_open sofar.items))
          sofar.done

  -- a closed list has all that is led to
  covers : (items : List X) → IsClosed items → Has items start → ((x : X) → Contains items x → IsLed ways next start x) → (x : X) → IsLed ways next start x → Has items x
  covers items closed begun led start first = begun
  covers items closed begun led y (onward {x} {way} before there leads) =
      let here = covers items closed begun led x before in
      let also = alike x here.0 before (led here.0 here.1) here.2 way y leads in
      let found = closed here.0 here.1 way there also.0 also.1 in
      (found.0, found.1, joined y also.0 found.0 also.2 found.2)

  pub count_reported : (weight : X → ℕ) → ((x : X) → IsLed ways next start x → 1 ≤ weight x) → (n : ℕ) → IsAtMost (IsLed ways next start) Same weight n ⊎ IsAbove (IsLed ways next start) Same weight n
  count_reported weight heavy n = by_end (explored (suc n))
    where
      by_end : Explored (suc n) → IsAtMost (IsLed ways next start) Same weight n ⊎ IsAbove (IsLed ways next start) Same weight n
      by_end end = ⊎_elim
          (λ (above : n < sum_by weight end.items). inr (record { items = end.items; reached = end.led; different = end.different; above = above }))
          (λ (most : sum_by weight end.items ≤ n). ⊎_elim
          (λ closed. inl (record { items = end.items; all = covers end.items closed end.begun end.led; most = most }))
          (λ (many : suc n ≤ length end.items). absurd (omega (arith, many, most, at_least weight end.items (λ x is. heavy x (end.led x is)))))
          end.done)
          (cases_lt n (sum_by weight end.items))

-- the same items under other names, which are all that is reached
pub at_most_named : {X Y : Type 0} (Reached : X → Type 0) (Same : X → X → Type 0) (weight : X → ℕ) (Reached' : Y → Type 0) (Same' : Y → Y → Type 0) (weight' : Y → ℕ) (f : X → Y) (n : ℕ) → ((y : Y) → Reached' y → (x : X) × Reached x × Same' y (f x)) → ((y : Y) (x z : X) → Same' y (f x) → Same x z → Same' y (f z)) → ((x : X) → weight' (f x) ≡ weight x) → IsAtMost Reached Same weight n → IsAtMost Reached' Same' weight' n
at_most_named {X} {Y} Reached Same weight Reached' Same' weight' f n named joined weighs most = record {
  items = map f most.items;
  all = λ y is.
      let from = named y is in
      let there = most.all from.0 from.1 in
      (f there.0, Contains-map f most.items there.0 there.1, joined y from.0 there.0 from.2 there.2);
  most = let equal = sum_named most.items in let few = most.most in omega arith;
}
  where
    sum_named : (xs : List X) → sum_by weight' (map f xs) ≡ sum_by weight xs
    sum_named [] = refl
    sum_named (x ∷ xs) = omega (arith, sum_by-cons weight' (f x) (map f xs), sum_by-cons weight x xs, weighs x, sum_named xs)
