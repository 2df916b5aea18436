-- Items with those that stand before them, and what dropping later equal ones keeps of that.
use Rattle.std.proofs.Common.{◌≡◌, ℕ, zero, suc, ◌<◌, Bool, true, false, not, cond, List, [], ◌∷◌, ◌++◌, length, filter, map, Contains, Some, refl, sym, ap, ◌∙◌, subst, arith, ⊎_elim, slice_get}
use Rattle.std.specs.Bool.{Decides}
use Rattle.std.proofs.lemmas.Bool.{cond_both, cases_Bool}
use Rattle.std.proofs.lemmas.List.Elements.{filter-append}
use Rattle.hz_description_model.specs.Reservations.Automata.{without_repeats}
use Rattle.hz_base_model.proofs.Elements.{Contains-nil, Contains-head, Contains-tail, Contains-cons_cases, Contains-filter, Contains-from_filter}

module _ {A : Type 0} where
  -- an item by its number, and those before it
  pub record NumberedIn (xs : List A) (i : ℕ) : Type 0 where
    pub item : A
    pub is : slice_get xs i ≡ Some item
    pub before : List A
    pub after : List A
    pub parts : xs ≡ before ++ item ∷ after
    pub count : length before ≡ i

  pub numbered : (xs : List A) (i : ℕ) → i < length xs → NumberedIn xs i
  numbered [] i lt = absurd (omega arith)
  numbered (x ∷ xs) zero lt = record { item = x; is = refl; before = []; after = xs; parts = refl; count = refl }
  numbered (x ∷ xs) (suc i) lt =
      let rest = numbered xs i (omega arith) in
      record { item = rest.item; is = rest.is; before = x ∷ rest.before; after = rest.after; parts = ap (λ (ys : List A). x ∷ ys) rest.parts; count = omega (arith, rest.count) }

  -- the item after a front has the front's length as its number
  pub number_after : (before : List A) (x : A) (after : List A) → slice_get (before ++ x ∷ after) (length before) ≡ Some x
  number_after [] x after = refl
  number_after (y ∷ before) x after = number_after before x after

  pub after_within : (before : List A) (x : A) (after : List A) → length before < length (before ++ x ∷ after)
  after_within [] x after = omega arith
  after_within (y ∷ before) x after = let rest = after_within before x after in omega arith

  -- an item in front
  pub in_front : (before after : List A) (j : ℕ) → j < length before → (y : A) × (slice_get (before ++ after) j ≡ Some y) × Contains before y
  in_front [] after j lt = absurd (omega arith)
  in_front (y ∷ before) after zero lt = (y, refl, Contains-head y before)
  in_front (y ∷ before) after (suc j) lt =
      let rest = in_front before after j (omega arith) in (rest.0, rest.1, Contains-tail y rest.0 before rest.2)

  -- an item of the front by its number
  pub front_number : (before after : List A) (y : A) → Contains before y → (j : ℕ) × (j < length before) × (slice_get (before ++ after) j ≡ Some y)
  front_number [] after y h = absurd (Contains-nil y h)
  front_number (x ∷ before) after y h = ⊎_elim
      (λ (e : x ≡ y). (0, omega arith, ap Some e))
      (λ (k : Contains before y). let rest = front_number before after y k in (suc rest.0, omega (arith, rest.1), rest.2))
      (Contains-cons_cases x y before h)

  -- what passes a test stands as before, without what does not
  filter_front : (p : A → Bool) (before : List A) (x : A) (after : List A) → p x ≡ true → filter p (before ++ x ∷ after) ≡ filter p before ++ x ∷ filter p after
  filter_front p before x after passes = filter-append p before (x ∷ after) ∙ ap (λ (b : Bool). filter p before ++ cond b (x ∷ filter p after) (filter p after)) passes

  -- an item that a filter leaves, with those before it
  pub record LeftIn (p : A → Bool) (xs : List A) (x : A) (front : List A) : Type 0 where
    pub before : List A
    pub after : List A
    pub parts : xs ≡ before ++ x ∷ after
    pub kept : filter p before ≡ front

  skipped : (p : A → Bool) (z : A) (xs front : List A) (x : A) → p z ≡ false → LeftIn p xs x front → LeftIn p (z ∷ xs) x front
  skipped p z xs front x fails rest = record {
    before = z ∷ rest.before;
    after = rest.after;
    parts = ap (λ (zs : List A). z ∷ zs) rest.parts;
    kept = ap (λ (b : Bool). cond b (z ∷ filter p rest.before) (filter p rest.before)) fails ∙ rest.kept;
  }

  before_filter : (p : A → Bool) (xs : List A) (front : List A) (x : A) (beyond : List A) → filter p xs ≡ front ++ x ∷ beyond → LeftIn p xs x front
  before_filter p [] [] x beyond e = absurd (cc)
  before_filter p [] (y ∷ front) x beyond e = absurd (cc)
  before_filter p (z ∷ xs) [] x beyond e = cond_both (p z) (z ∷ filter p xs) (filter p xs) (λ (zs : List A). zs ≡ x ∷ beyond → LeftIn p (z ∷ xs) x [])
      (λ (passes : p z ≡ true) (e : z ∷ filter p xs ≡ x ∷ beyond).
      let same : z ≡ x = cc in
      record { before = []; after = xs; parts = ap (λ (y : A). y ∷ xs) same; kept = refl })
      (λ (fails : p z ≡ false) (e : filter p xs ≡ x ∷ beyond). skipped p z xs [] x fails (before_filter p xs [] x beyond e)) e
  before_filter p (z ∷ xs) (y ∷ front) x beyond e = cond_both (p z) (z ∷ filter p xs) (filter p xs) (λ (zs : List A). zs ≡ y ∷ (front ++ x ∷ beyond) → LeftIn p (z ∷ xs) x (y ∷ front))
      (λ (passes : p z ≡ true) (e : z ∷ filter p xs ≡ y ∷ (front ++ x ∷ beyond)).
      let same : z ≡ y = cc in
      let tail : filter p xs ≡ front ++ x ∷ beyond = cc in
      let rest = before_filter p xs front x beyond tail in
      record {
        before = z ∷ rest.before;
        after = rest.after;
        parts = ap (λ (zs : List A). z ∷ zs) rest.parts;
        kept = ap (λ (b : Bool). cond b (z ∷ filter p rest.before) (filter p rest.before)) passes ∙ (ap (λ (w : A). w ∷ filter p rest.before) same ∙ ap (λ (zs : List A). y ∷ zs) rest.kept);
      })
      (λ (fails : p z ≡ false) (e : filter p xs ≡ y ∷ (front ++ x ∷ beyond)). skipped p z xs (y ∷ front) x fails (before_filter p xs (y ∷ front) x beyond e)) e

-- an item of a mapped list, with those before it
pub record MappedIn {A B : Type 0} (f : A → B) (xs : List A) (front : List B) (y : B) : Type 0 where
  pub item : A
  pub before : List A
  pub after : List A
  pub parts : xs ≡ before ++ item ∷ after
  pub is : f item ≡ y
  pub mapped : map f before ≡ front

pub before_map : {A B : Type 0} (f : A → B) (xs : List A) (front : List B) (y : B) (beyond : List B) → map f xs ≡ front ++ y ∷ beyond → MappedIn f xs front y
before_map f [] [] y beyond e = absurd (cc)
before_map f [] (z ∷ front) y beyond e = absurd (cc)
before_map f (x ∷ xs) [] y beyond e = record { item = x; before = []; after = xs; parts = refl; is = cc; mapped = refl }
before_map f (x ∷ xs) (z ∷ front) y beyond e =
    let tail : map f xs ≡ front ++ y ∷ beyond = cc in
    let head : f x ≡ z = cc in
    let rest = before_map f xs front y beyond tail in
    record {
      item = rest.item;
      before = x ∷ rest.before;
      after = rest.after;
      parts = ap (λ (ys : List _). x ∷ ys) rest.parts;
      is = rest.is;
      mapped = ap (λ (w : _). w ∷ map f rest.before) head ∙ ap (λ (ws : List _). z ∷ ws) rest.mapped;
    }

module _ {A : Type 0} (same : A → A → Bool) (tells : (x y : A) → Decides (same x y) (x ≡ y)) where
  -- whether an item is another than x
  abbrev differs : A → A → Bool
  differs x y = not (same x y)

  itself : (x y : A) → differs x y ≡ false → x ≡ y
  itself x y e = ⊎_elim (λ (h : same x y ≡ true). (tells x y).0 h) (λ (h : same x y ≡ false). let f : not (same x y) ≡ true = ap not h in absurd (cc)) (cases_Bool (same x y))

  -- dropping later equal items keeps each item, with no new one before it
  pub record KeptFirst (xs front : List A) (x : A) : Type 0 where
    pub before : List A
    pub after : List A
    pub parts : xs ≡ before ++ x ∷ after
    pub within : (y : A) → Contains before y → Contains front y

  pub still_first : (before : List A) (x : A) (after : List A) → KeptFirst (without_repeats same (before ++ x ∷ after)) before x
  still_first [] x after = record { before = []; after = filter (differs x) (without_repeats same after); parts = refl; within = λ y h. h }
  still_first (z ∷ before) x after =
      let rest = still_first before x after in
      ⊎_elim
      (λ (passes : differs z x ≡ true). record {
        before = z ∷ filter (differs z) rest.before;
        after = filter (differs z) rest.after;
        parts = ap (λ (ys : List A). z ∷ ys) (ap (filter (differs z)) rest.parts ∙ filter_front (differs z) rest.before x rest.after passes);
        within = λ y h. ⊎_elim
            (λ (e : z ≡ y). subst (λ (w : A). Contains (w ∷ before) y) (sym e) (Contains-head y before))
            (λ (k : Contains (filter (differs z) rest.before) y). Contains-tail z y before (rest.within y (Contains-from_filter (differs z) y rest.before k).0))
            (Contains-cons_cases z y (filter (differs z) rest.before) h);
      })
      (λ (fails : differs z x ≡ false). record {
        before = [];
        after = filter (differs z) (without_repeats same (before ++ x ∷ after));
        parts = ap (λ (y : A). y ∷ filter (differs z) (without_repeats same (before ++ x ∷ after))) (itself z x fails);
        within = λ y h. absurd (Contains-nil y h);
      })
      (cases_Bool (differs z x))

  -- each item that is left stood first where nothing stood before it but what is left before it
  pub was_first : (xs front : List A) (x : A) (beyond : List A) → without_repeats same xs ≡ front ++ x ∷ beyond → KeptFirst xs front x
  was_first [] [] x beyond e = absurd (cc)
  was_first [] (y ∷ front) x beyond e = absurd (cc)
  was_first (z ∷ xs) [] x beyond e =
      let head : z ≡ x = cc in
      record { before = []; after = xs; parts = ap (λ (y : A). y ∷ xs) head; within = λ y h. h }
  was_first (z ∷ xs) (w ∷ front) x beyond e =
      let head : z ≡ w = cc in
      let tail : filter (differs z) (without_repeats same xs) ≡ front ++ x ∷ beyond = cc in
      let left = before_filter (differs z) (without_repeats same xs) front x beyond tail in
      let rest = was_first xs left.before x left.after left.parts in
      let here : (y : A) → z ≡ y → Contains (w ∷ front) y = λ (y : A) (e : z ≡ y). subst (λ (v : A). Contains (v ∷ front) y) (sym e ∙ head) (Contains-head y front) in
      record {
        before = z ∷ rest.before;
        after = rest.after;
        parts = ap (λ (ys : List A). z ∷ ys) rest.parts;
        within = λ y h. ⊎_elim
            (here y)
            (λ (k : Contains rest.before y). ⊎_elim
            (λ (passes : differs z y ≡ true). Contains-tail w y front (subst (λ (ys : List A). Contains ys y) left.kept (Contains-filter (differs z) y passes left.before (rest.within y k))))
            (λ (fails : differs z y ≡ false). here y (itself z y fails))
            (cases_Bool (differs z y)))
            (Contains-cons_cases z y rest.before h);
      }
