-- What it says effect by effect that an instruction only stores what another makes.
use Rattle.std.proofs.Common.{◌≡◌, ℕ, ◌==◌, ⊎_elim, Bool, true, false, nat_lt, List, [], ◌∷◌, length, Option, Some, None, Contains, refl, sym, ap, ◌∙◌, subst, arith}
use Rattle.std.specs.Prelude.{◌↔◌, ◌&&◌, ◌||◌, not}
use Rattle.std.specs.List.{flat_map, list_any}
use Rattle.std.proofs.lemmas.Bool.{eqb-true, lt-ltb}
use Rattle.std.proofs.lemmas.List.Elements.{Contains-append_left, Contains-append_right, Contains-append_cases}
use Rattle.hz_base_model.proofs.Elements.{Contains-nil, Contains-head, Contains-tail, Contains-cons_cases}
use Rattle.hz_block_model.specs.Running.Blocks.{Value, into, cell_at, Effect, assign, clobber, mention, Instruction}
use Rattle.hz_block_model.specs.Dependences.Accesses.{registers_in, is_among}
use Rattle.hz_block_model.specs.Dependences.Stores.{registers_set_by, addresses_set_by, registers_set, addresses_set, stores_data, stores_data_if, StoresData}
use Rattle.hz_block_model.proofs.Dependences.SourceLaws.{any_contains, contains_among}
use Rattle.hz_block_model.proofs.Dependences.OrderLaws.{among_contains}

pub first_of_both : (a b : Bool) → (a && b) ≡ true → a ≡ true
first_of_both true b h = refl
first_of_both false b h = h

pub second_of_both : (a b : Bool) → (a && b) ≡ true → b ≡ true
second_of_both true b h = h
second_of_both false b h = absurd (cc)

pub both_of : (a b : Bool) → a ≡ true → b ≡ true → (a && b) ≡ true
both_of a b p q = ap (λ (x : Bool). x && b) p ∙ q

pub some_passes : {A : Type 0} (p : A → Bool) (xs : List A) → list_any p xs ≡ true → (x : A) × Contains xs x × (p x ≡ true)
some_passes p [] h = absurd (cc)
some_passes {A = A} p (x ∷ xs) h = go (p x) refl h (some_passes p xs)
  where
    go : (b : Bool) → p x ≡ b → (b || list_any p xs) ≡ true → (list_any p xs ≡ true → (y : A) × Contains xs y × (p y ≡ true)) → (y : A) × Contains (x ∷ xs) y × (p y ≡ true)
    go true is k further = (x, Contains-head x xs, is)
    go false is k further = let found = further k in (found.0, Contains-tail x found.0 xs found.1, found.2)

-- Effects.

register_from : (e : Effect) (r : ℕ) → Contains (registers_set_by e) r → (v : Value) × (e ≡ assign (into r) v)
register_from (assign (into n) v) r c = ⊎_elim
    (λ (same : n ≡ r). (v, ap (λ (k : ℕ). assign (into k) v) same))
    (λ (k : Contains [] r). absurd (Contains-nil r k))
    (Contains-cons_cases n r [] c)
register_from (assign (cell_at a) v) r c = absurd (Contains-nil r c)
register_from (clobber target) r c = absurd (Contains-nil r c)
register_from (mention value) r c = absurd (Contains-nil r c)

address_from : (e : Effect) (a : Value) → Contains (addresses_set_by e) a → (v : Value) × (e ≡ assign (cell_at a) v)
address_from (assign (into n) v) a c = absurd (Contains-nil a c)
address_from (assign (cell_at b) v) a c = ⊎_elim
    (λ (same : b ≡ a). (v, ap (λ (k : Value). assign (cell_at k) v) same))
    (λ (k : Contains [] a). absurd (Contains-nil a k))
    (Contains-cons_cases b a [] c)
address_from (clobber target) a c = absurd (Contains-nil a c)
address_from (mention value) a c = absurd (Contains-nil a c)

-- what effects give, of each of which is reported what it gives
module _ {A : Type 0} (gives : Effect → List A) (made : A → Value → Effect) where
  given_from : ((e : Effect) (a : A) → Contains (gives e) a → (v : Value) × (e ≡ made a v)) → (effects : List Effect) (a : A) → Contains (flat_map gives effects) a → (v : Value) × Contains effects (made a v)
  given_from from [] a c = absurd (Contains-nil a c)
  given_from from (e ∷ effects) a c = ⊎_elim
      (λ (k : Contains (gives e) a). let found = from e a k in (found.0, subst (λ (x : Effect). Contains (x ∷ effects) (made a found.0)) (sym found.1) (Contains-head (made a found.0) effects)))
      (λ (k : Contains (flat_map gives effects) a). let found = given_from from effects a k in (found.0, Contains-tail e (made a found.0) effects found.1))
      (Contains-append_cases (gives e) (flat_map gives effects) a c)

  given_by : (effects : List Effect) (a : A) (v : Value) → Contains (gives (made a v)) a → Contains effects (made a v) → Contains (flat_map gives effects) a
  given_by [] a v gave c = absurd (Contains-nil (made a v) c)
  given_by (e ∷ effects) a v gave c = ⊎_elim
      (λ (same : e ≡ made a v). Contains-append_left (gives e) (flat_map gives effects) a (subst (λ (x : Effect). Contains (gives x) a) (sym same) gave))
      (λ (k : Contains effects (made a v)). Contains-append_right (gives e) (flat_map gives effects) a (given_by effects a v gave k))
      (Contains-cons_cases e (made a v) effects c)

register_set : (i : Instruction) (r : ℕ) (v : Value) → Contains i.effects (assign (into r) v) → Contains (registers_set i) r
register_set i r v c = given_by registers_set_by (λ r v. assign (into r) v) i.effects r v (Contains-head r []) c

set_register : (i : Instruction) (r : ℕ) → Contains (registers_set i) r → (v : Value) × Contains i.effects (assign (into r) v)
set_register i r c = given_from registers_set_by (λ r v. assign (into r) v) register_from i.effects r c

address_set : (i : Instruction) (a v : Value) → Contains i.effects (assign (cell_at a) v) → Contains (addresses_set i) a
address_set i a v c = given_by addresses_set_by (λ a v. assign (cell_at a) v) i.effects a v (Contains-head a []) c

set_address : (i : Instruction) (a : Value) → Contains (addresses_set i) a → (v : Value) × Contains i.effects (assign (cell_at a) v)
set_address i a c = given_from addresses_set_by (λ a v. assign (cell_at a) v) address_from i.effects a c

-- Lists.

has_first : {A : Type 0} (xs : List A) → nat_lt 0 (length xs) ≡ true → (x : A) × Contains xs x
has_first [] h = absurd (cc)
has_first (x ∷ xs) h = (x, Contains-head x xs)

is_some : {A : Type 0} (xs : List A) (x : A) → Contains xs x → nat_lt 0 (length xs) ≡ true
is_some [] x c = absurd (Contains-nil x c)
is_some (y ∷ xs) x c = lt-ltb 0 (length (y ∷ xs)) (omega arith)

has_none : {A : Type 0} (xs : List A) (x : A) → (length xs == 0) ≡ true → Contains xs x → ⊥
has_none [] x h c = Contains-nil x c
has_none (y ∷ xs) x h c = let e = eqb-true (length (y ∷ xs)) 0 h in absurd (omega arith)

is_none : {A : Type 0} (xs : List A) → ((x : A) → Contains xs x → ⊥) → (length xs == 0) ≡ true
is_none [] h = refl
is_none (x ∷ xs) h = absurd (h x (Contains-head x xs))

module _ (first second : Instruction) where
  -- an address that has a register of the first
  abbrev has_made : Value → Bool
  has_made address = list_any (is_among (registers_in address)) (registers_set first)

  abbrev rest : Bool
  rest = (length (registers_set second) == 0) && not (list_any has_made (addresses_set second))

  there : stores_data first second ≡ true → StoresData first second
  there h =
      let (address, is) = has_first (addresses_set second) (first_of_both (nat_lt 0 (length (addresses_set second))) rest h) in
      let (value, stands) = set_address second address is in
      let both = second_of_both (nat_lt 0 (length (addresses_set second))) rest h in
      let none = first_of_both (length (registers_set second) == 0) (not (list_any has_made (addresses_set second))) both in
      let apart = second_of_both (length (registers_set second) == 0) (not (list_any has_made (addresses_set second))) both in
      record {
        address = address;
        value = value;
        cell = stands;
        no_register = λ r stored c. has_none (registers_set second) r none (register_set second r stored c);
        no_address = λ r made place stored c k within.
            let met = any_contains has_made (addresses_set second) place (address_set second place stored k)
            (any_contains (is_among (registers_in place)) (registers_set first) r (register_set first r made c) (contains_among (registers_in place) r within)) in
            let bad : not true ≡ true = subst (λ (b : Bool). not b ≡ true) met apart in absurd (cc);
      }

  back : StoresData first second → stores_data first second ≡ true
  back s = both_of (nat_lt 0 (length (addresses_set second))) rest
      (is_some (addresses_set second) s.address (address_set second s.address s.value s.cell))
      (both_of (length (registers_set second) == 0) (not (list_any has_made (addresses_set second)))
      (is_none (registers_set second) (λ r c. let found = set_register second r c in s.no_register r found.0 found.1))
      (by_test (list_any has_made (addresses_set second)) refl))
    where
      by_test : (b : Bool) → list_any has_made (addresses_set second) ≡ b → not b ≡ true
      by_test false e = refl
      by_test true e =
          let met = some_passes has_made (addresses_set second) e in
          let passed = some_passes (is_among (registers_in met.0)) (registers_set first) met.2 in
          let stored = set_address second met.0 met.1 in
          let made = set_register first passed.0 passed.1 in
          absurd (s.no_address passed.0 made.0 met.0 stored.0 made.1 stored.1 (among_contains (registers_in met.0) passed.0 passed.2))

  pub stores_says : stores_data first second ≡ true ↔ StoresData first second
  stores_says = (there, back)

-- two instructions that are there
pub stores_at : (o p : Option Instruction) → stores_data_if o p ≡ true → (first second : Instruction) × (o ≡ Some first) × (p ≡ Some second) × StoresData first second
stores_at (Some first) (Some second) h = (first, second, refl, refl, (stores_says first second).0 h)
stores_at (Some first) None h = absurd (cc)
stores_at None p h = absurd (cc)
