-- Words to prove with, nothing to believe. Choices of alternatives, one for each automaton: which lists have an
-- alternative that joins them, so early as can be.
use Rattle.std.proofs.Common.{◌≡◌, ℕ, zero, suc, ◌+◌, ◌-◌, ◌*◌, ◌<◌, ◌≤◌, ⊎_elim, List, [], ◌∷◌, ◌++◌, length, map, Contains, Option, Some, None, refl, sym, ap, ◌∙◌, subst, arith, slice_get, suc-mul, mul-le-mul_right, zero-add, suc-add}
use Rattle.std.specs.Prelude.{◌↔◌}
use Rattle.std.specs.Option.{option_map}
use Rattle.std.proofs.lemmas.Bool.{cases_lt, cases_eq}
use Rattle.std.proofs.lemmas.Option.{slice_get-map, slice_get_within, get_or_from_slice_get}
use Rattle.std.proofs.lemmas.List.{length-map}
use Rattle.std.proofs.lemmas.List.Elements.{Contains-append_left, Contains-append_right, Contains-append_cases}
use Rattle.hz_base_model.specs.Pairs.{Pair, later, placed}
use Rattle.hz_description_model.specs.Reservations.Alternatives.{Alternative, followed_by, beside, each_choice}
use Rattle.hz_description_model.specs.Reservations.Automata.{UnitPlace}
use Rattle.hz_base_model.proofs.Elements.{Contains-map, Contains-from_map}

-- ---- items by their numbers

pub record At {A : Type 0} (xs : List A) : Type 0 where
  pub number : ℕ
  pub item : A
  pub is : slice_get xs number ≡ Some item

module _ {A : Type 0} where
  pub there : (xs : List A) (x : At xs) → Contains xs x.item
  there xs x = (x.number, slice_get_within xs x.number x.item x.is, get_or_from_slice_get xs x.number x.item x.item x.is)

  pub one_item : (xs : List A) (x y : At xs) → x.number ≡ y.number → x.item ≡ y.item
  one_item xs x y e = let both = sym x.is ∙ (ap (slice_get xs) e ∙ y.is) in cc

  in_front : (xs ys : List A) (n : ℕ) → n < length xs → slice_get (xs ++ ys) n ≡ slice_get xs n
  in_front [] ys n lt = absurd (omega arith)
  in_front (x ∷ xs) ys zero lt = refl
  in_front (x ∷ xs) ys (suc n) lt = in_front xs ys n (omega arith)

  beyond : (xs ys : List A) (n : ℕ) → slice_get (xs ++ ys) (length xs + n) ≡ slice_get ys n
  beyond [] ys n = ap (slice_get ys) (zero-add n)
  beyond (x ∷ xs) ys n = ap (slice_get (x ∷ xs ++ ys)) (suc-add (length xs) n) ∙ beyond xs ys n

  -- the item of a choice of two
  pub chosen_is : (join : A → A → A) (xs ys : List A) (i j : ℕ) (x y : A) → slice_get xs i ≡ Some x → slice_get ys j ≡ Some y → slice_get (each_choice join xs ys) (i * length ys + j) ≡ Some (join x y)
  chosen_is join [] ys i j x y a b = absurd (cc)
  chosen_is join (z ∷ xs) ys zero j x y a b =
      let at : 0 * length ys + j ≡ j = omega arith in
      let within : j < length (map (join z) ys) = omega (arith, slice_get_within ys j y b, length-map ys (join z)) in
      let same : z ≡ x = cc in
      ap (slice_get (each_choice join (z ∷ xs) ys)) at
      ∙ (in_front (map (join z) ys) (each_choice join xs ys) j within
      ∙ (slice_get-map (join z) ys j ∙ (ap (option_map (join z)) b ∙ ap (λ (w : A). Some (join w y)) same)))
  chosen_is join (z ∷ xs) ys (suc i) j x y a b =
      let at : suc i * length ys + j ≡ length (map (join z) ys) + (i * length ys + j) = omega (arith, suc-mul i (length ys), length-map ys (join z)) in
      ap (slice_get (each_choice join (z ∷ xs) ys)) at
      ∙ (beyond (map (join z) ys) (each_choice join xs ys) (i * length ys + j) ∙ chosen_is join xs ys i j x y a b)

  abbrev pub pair : (join : A → A → A) (xs ys : List A) → At xs → At ys → At (each_choice join xs ys)
  pair join xs ys x y = record { number = x.number * length ys + y.number; item = join x.item y.item; is = chosen_is join xs ys x.number y.number x.item y.item x.is y.is }

  -- the two items of a choice
  pub record Halves (join : A → A → A) (xs ys : List A) (number : ℕ) (item : A) : Type 0 where
    pub first : At xs
    pub second : At ys
    pub count : number ≡ first.number * length ys + second.number
    pub joined : join first.item second.item ≡ item

  from_front : (join : A → A → A) (x : A) (xs ys : List A) (n : ℕ) (z : A) (o : Option A) → slice_get ys n ≡ o → option_map (join x) o ≡ Some z → Halves join (x ∷ xs) ys n z
  from_front join x xs ys n z None is e = absurd (cc)
  from_front join x xs ys n z (Some y) is e = record {
    first = record { number = 0; item = x; is = refl };
    second = record { number = n; item = y; is = is };
    count = omega arith;
    joined = cc;
  }

  pub halves : (join : A → A → A) (xs ys : List A) (n : ℕ) (z : A) → slice_get (each_choice join xs ys) n ≡ Some z → Halves join xs ys n z
  halves join [] ys n z e = absurd (cc)
  halves join (x ∷ xs) ys n z e =
      let long = length-map ys (join x) in
      ⊎_elim
      (λ (low : n < length ys).
      from_front join x xs ys n z (slice_get ys n) refl
      (sym (slice_get-map (join x) ys n) ∙ (sym (in_front (map (join x) ys) (each_choice join xs ys) n (omega arith)) ∙ e)))
      (λ (high : length ys ≤ n).
      let at : length (map (join x) ys) + (n - length ys) ≡ n = omega arith in
      let rest = halves join xs ys (n - length ys) z (sym (beyond (map (join x) ys) (each_choice join xs ys) (n - length ys)) ∙ (ap (slice_get (each_choice join (x ∷ xs) ys)) at ∙ e)) in
      let first = rest.first in
      let second = rest.second in
      let count = rest.count in
      record {
        first = record { number = suc first.number; item = first.item; is = first.is };
        second = second;
        count = omega (arith, suc-mul first.number (length ys));
        joined = rest.joined;
      })
      (cases_lt n (length ys))

  pub halves_of : (join : A → A → A) (xs ys : List A) (k : At (each_choice join xs ys)) → Halves join xs ys k.number k.item
  halves_of join xs ys k = halves join xs ys k.number k.item k.is

  pub within : (xs : List A) (x : At xs) → x.number < length xs
  within xs x = slice_get_within xs x.number x.item x.is

-- ---- the order of choices

first_low : (long i j m n : ℕ) → n < long → i * long + j ≤ m * long + n → i ≤ m
first_low long i j m n low h = ⊎_elim
    (λ (lt : m < i).
    let more : suc m * long ≤ i * long = mul-le-mul_right long (omega arith) in
    absurd (omega (arith, suc-mul m long)))
    (λ (le : i ≤ m). le)
    (cases_lt m i)

second_low : (long i j m n : ℕ) → i ≡ m → i * long + j ≤ m * long + n → j ≤ n
second_low long i j m n e h = let same = ap (λ (k : ℕ). k * long) e in omega arith

first_less : (long i j m n : ℕ) → j < long → i < m → i * long + j ≤ m * long + n
first_less long i j m n low h =
    let more : suc i * long ≤ m * long = mul-le-mul_right long (omega arith) in
    omega (arith, suc-mul i long)

second_less : (long i j m n : ℕ) → i ≡ m → j ≤ n → i * long + j ≤ m * long + n
second_less long i j m n e h = let same = ap (λ (k : ℕ). k * long) e in omega arith

-- ---- alternatives that agree on an automaton

abbrev pub Alt : Type 0
Alt = Alternative UnitPlace

-- the same pairs of the automaton's units
pub record Alike (automaton : ℕ) (x y : List (Pair UnitPlace)) : Type 0 where
  pub same : (p : Pair UnitPlace) → p.unit.automaton ≡ automaton → Contains x p ↔ Contains y p

module _ (a : ℕ) where
  pub alike_itself : (x : List (Pair UnitPlace)) → Alike a x x
  alike_itself x = record { same = λ p is. (λ h. h, λ h. h) }

  pub alike_back : (x y : List (Pair UnitPlace)) → Alike a x y → Alike a y x
  alike_back x y h = record { same = λ p is. let s = h.same p is in (s.1, s.0) }

  pub alike_through : (x y z : List (Pair UnitPlace)) → Alike a x y → Alike a y z → Alike a x z
  alike_through x y z h k = record { same = λ p is. let s = h.same p is in let t = k.same p is in (λ c. t.0 (s.0 c), λ c. s.1 (t.1 c)) }

  append_into : (x y x' y' : List (Pair UnitPlace)) → Alike a x x' → Alike a y y' → (p : Pair UnitPlace) → p.unit.automaton ≡ a → Contains (x ++ y) p → Contains (x' ++ y') p
  append_into x y x' y' h k p is c = ⊎_elim
      (λ (l : Contains x p). Contains-append_left x' y' p ((h.same p is).0 l))
      (λ (r : Contains y p). Contains-append_right x' y' p ((k.same p is).0 r))
      (Contains-append_cases x y p c)

  pub alike_append : (x y x' y' : List (Pair UnitPlace)) → Alike a x x' → Alike a y y' → Alike a (x ++ y) (x' ++ y')
  alike_append x y x' y' h k = record { same = λ p is. (append_into x y x' y' h k p is, append_into x' y' x y (alike_back x x' h) (alike_back y y' k) p is) }

  placed_into : (n : ℕ) (x y : List (Pair UnitPlace)) → Alike a x y → (p : Pair UnitPlace) → p.unit.automaton ≡ a → Contains (placed n x) p → Contains (placed n y) p
  placed_into n x y h p is c =
      let found = Contains-from_map (later n) x p c in
      let of : ((found.0).unit).automaton ≡ a = ap (λ (q : Pair UnitPlace). q.unit.automaton) found.2 ∙ is in
      subst (λ (q : Pair UnitPlace). Contains (placed n y) q) found.2 (Contains-map (later n) y found.0 ((h.same found.0 of).0 found.1))

  alike_placed : (n : ℕ) (x y : List (Pair UnitPlace)) → Alike a x y → Alike a (placed n x) (placed n y)
  alike_placed n x y h = record { same = λ p is. (placed_into n x y h p is, placed_into n y x (alike_back x y h) p is) }

  pub alike_beside : (x x' y y' : Alt) → Alike a x.pairs x'.pairs → Alike a y.pairs y'.pairs → Alike a ((beside x y).pairs) ((beside x' y').pairs)
  alike_beside x x' y y' h k = alike_append x.pairs y.pairs x'.pairs y'.pairs h k

  pub alike_followed : (x x' y y' : Alt) → x.cycles ≡ x'.cycles → Alike a x.pairs x'.pairs → Alike a y.pairs y'.pairs → Alike a ((followed_by x y).pairs) ((followed_by x' y').pairs)
  alike_followed x x' y y' e h k = subst (λ (n : ℕ). Alike a ((followed_by x y).pairs) (x'.pairs ++ placed n y'.pairs)) e
      (alike_append x.pairs (placed x.cycles y.pairs) x'.pairs (placed x.cycles y'.pairs) h (alike_placed x.cycles y.pairs y'.pairs k))

-- ---- lists that factor

module _ (count : ℕ) where
  -- An alternative that agrees on each automaton with the one that is chosen for it. It stands at or before each one
  -- whose like, in no automaton, stands before the one that is chosen for it.
  pub record Joined (xs : List Alt) (choices : ℕ → At xs) : Type 0 where
    pub at : At xs
    pub joins : (a : ℕ) → a < count → Alike a ((at.item).pairs) (((choices a).item).pairs)
    pub early : (k : At xs) → ((a : ℕ) → a < count → (j : At xs) → Alike a ((j.item).pairs) ((k.item).pairs) → (choices a).number ≤ j.number) → at.number ≤ k.number

  -- there is one for all choices
  pub record Factors (xs : List Alt) : Type 0 where
    pub join : (choices : ℕ → At xs) → Joined xs choices

  -- choices of two lists that factor
  module _ (join : Alt → Alt → Alt) (xs ys : List Alt)
      (keeps : (a : ℕ) (x x' : At xs) (y y' : At ys) → Alike a ((x.item).pairs) ((x'.item).pairs) → Alike a ((y.item).pairs) ((y'.item).pairs) → Alike a ((join x.item y.item).pairs) ((join x'.item y'.item).pairs))
      (f : Factors xs) (g : Factors ys) where
    module _ (choices : ℕ → At (each_choice join xs ys)) where
      abbrev part : (a : ℕ) → Halves join xs ys ((choices a).number) ((choices a).item)
      part a = halves_of join xs ys (choices a)

      abbrev one : Joined xs (λ a. (part a).first)
      one = f.join (λ a. (part a).first)

      abbrev other : Joined ys (λ a. (part a).second)
      other = g.join (λ a. (part a).second)

      abbrev both : At (each_choice join xs ys)
      both = pair join xs ys one.at other.at

      both_join : (a : ℕ) → a < count → Alike a ((both.item).pairs) (((choices a).item).pairs)
      both_join a lt = subst (λ (z : Alt). Alike a ((both.item).pairs) z.pairs) ((part a).joined)
          (keeps a one.at ((part a).first) other.at ((part a).second) (one.joins a lt) (other.joins a lt))

      abbrev Earliest : At (each_choice join xs ys) → Type 0
      Earliest k = (a : ℕ) → a < count → (j : At (each_choice join xs ys)) → Alike a ((j.item).pairs) ((k.item).pairs) → (choices a).number ≤ j.number

      module _ (k : At (each_choice join xs ys)) (earliest : Earliest k) where
        abbrev half : Halves join xs ys k.number k.item
        half = halves_of join xs ys k

        -- the choice of an automaton stands at or before a pair like k
        before_pair : (a : ℕ) → a < count → (x : At xs) (y : At ys) → Alike a ((x.item).pairs) ((((half.first)).item).pairs) → Alike a ((y.item).pairs) ((((half.second)).item).pairs)
            → (((part a).first).number) * length ys + (((part a).second).number) ≤ x.number * length ys + y.number
        before_pair a lt x y h e =
            let low = earliest a lt (pair join xs ys x y) (subst (λ (z : Alt). Alike a ((join x.item y.item).pairs) z.pairs) half.joined (keeps a x half.first y half.second h e)) in
            let number = (part a).count in
            omega arith

        first_early : one.at.number ≤ half.first.number
        first_early = one.early half.first
            (λ a lt j h. first_low (length ys) (((part a).first).number) (((part a).second).number) j.number (half.second.number) (within ys half.second)
            (before_pair a lt j half.second h (alike_itself a ((half.second.item).pairs))))

        second_early : one.at.number ≡ half.first.number → other.at.number ≤ half.second.number
        second_early e = other.early half.second
            (λ a lt j h. second_low (length ys) (((part a).first).number) (((part a).second).number) (((part a).first).number) j.number refl
            (before_pair a lt ((part a).first) j
            (subst (λ (z : Alt). Alike a ((((part a).first).item).pairs) z.pairs) (one_item xs one.at half.first e) (alike_back a ((one.at.item).pairs) ((((part a).first).item).pairs) (one.joins a lt)))
            h))

        both_early : both.number ≤ k.number
        both_early =
            let number = half.count in
            let first = first_early in
            let low = within ys other.at in
            ⊎_elim
            (λ (lt : one.at.number < half.first.number). let h = first_less (length ys) one.at.number other.at.number half.first.number half.second.number low lt in omega arith)
            (λ (le : half.first.number ≤ one.at.number).
            let e : one.at.number ≡ half.first.number = omega arith in
            let h = second_less (length ys) one.at.number other.at.number half.first.number half.second.number e (second_early e) in omega arith)
            (cases_lt one.at.number half.first.number)

    pub each_factors : Factors (each_choice join xs ys)
    each_factors = record { join = λ choices. record { at = both choices; joins = both_join choices; early = both_early choices } }

  -- the units of so many automata are all of one
  pub record AreOf (automaton : ℕ) (xs : List Alt) : Type 0 where
    pub below : automaton < count
    pub of : (x : Alt) → Contains xs x → (p : Pair UnitPlace) → Contains x.pairs p → p.unit.automaton < count → p.unit.automaton ≡ automaton

  module _ (b : ℕ) (xs : List Alt) (are : AreOf b xs) where
    none_of : (a : ℕ) → a < count → (a ≡ b → ⊥) → (x : At xs) (p : Pair UnitPlace) → p.unit.automaton ≡ a → Contains ((x.item).pairs) p → ⊥
    none_of a lt other x p is h = other (sym is ∙ are.of x.item (there xs x) p h (omega arith))

    pub one_factors : Factors xs
    one_factors = record {
      join = λ choices. record {
        at = choices b;
        joins = λ a lt. ⊎_elim
            (λ (e : a ≡ b). subst (λ (c : ℕ). Alike a (((choices c).item).pairs) (((choices a).item).pairs)) e (alike_itself a (((choices a).item).pairs)))
            (λ (other : a ≡ b → ⊥). record {
              same = λ p is. (λ h. absurd (none_of a lt other (choices b) p is h), λ h. absurd (none_of a lt other (choices a) p is h));
            })
            (cases_eq a b);
        early = λ k earliest. earliest b are.below k (alike_itself b ((k.item).pairs));
      };
    }

  -- a list of one
  pub single_factors : (x : Alt) → Factors (x ∷ [])
  single_factors x = record {
    join = λ choices. record {
      at = record { number = 0; item = x; is = refl };
      joins = λ a lt. subst (λ (z : Alt). Alike a x.pairs z.pairs) (only (choices a)) (alike_itself a x.pairs);
      early = λ k earliest. omega arith;
    };
  }
    where
      only_at : (n : ℕ) (z : Alt) → slice_get (x ∷ []) n ≡ Some z → x ≡ z
      only_at zero z e = cc
      only_at (suc n) z e = absurd (cc)

      only : (k : At (x ∷ [])) → x ≡ k.item
      only k = only_at k.number k.item k.is

  pub none_factors : Factors []
  none_factors = record { join = λ choices. absurd (let is = (choices 0).is in none_at ((choices 0).number) ((choices 0).item) is) }
    where
      none_at : (n : ℕ) (z : Alt) → slice_get [] n ≡ Some z → ⊥
      none_at n z e = cc
