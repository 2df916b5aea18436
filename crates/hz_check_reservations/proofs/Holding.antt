-- Tables that hold what is right for names.
use Rattle.std.proofs.Common.{◌≡◌, ◌≢◌, ℕ, ◌<◌, ◌⊎◌, inl, inr, ⊎_elim, true, false, List, [], length, map, Contains, Option, Some, None, refl, sym, ap, ◌∙◌, subst}
use Rattle.std.specs.Prelude.{IsTrue, is_some, unwrap_or}
use Rattle.std.specs.Str.{bytes_eq}
use Rattle.std.proofs.lemmas.Bool.{cases_Bool, both_ways}
use Rattle.std.proofs.lemmas.Option.{none-some, same_Some}
use Rattle.hz_altern.specs.Tables.{is_held, Adds, AreRight}
use Rattle.hz_check_reservations.specs.Tables.{Holds, HasExtent, HasAlternatives}
use Rattle.hz_description_model.specs.Reservations.Alternatives.{Alternative, Expression, alternatives_of}
use Rattle.hz_description_model.specs.Reservations.AlternativeLists.{Extent}
use Rattle.hz_description_model.specs.Reservations.Automata.{UnitPlace, listed}
use Rattle.hz_description_model.specs.Reading.Descriptions.{Description}
use Rattle.hz_description_model.specs.Reservations.Expressions.{is_expression}
use Rattle.hz_description_model.specs.Check.Places.{IsKnown, Known}
use Rattle.hz_description_model.specs.Reservations.Meanings.{Mentions}
use Rattle.hz_description_model.specs.Reservations.NamesIn.{all_names}
use Rattle.hz_base_model.proofs.Elements.{Contains-nil}
use Rattle.hz_description_model.proofs.Reservations.ExpressionLaws.{some_alternatives}
use Rattle.hz_description_model.proofs.Reservations.PlacedLaws.{all_pass}
use Rattle.hz_check_reservations.proofs.FirstNames.{bytes_eq-self, same_bytes}

pub same_or_not : (a b : List ℕ) → (a ≡ b) ⊎ (a ≢ b)
same_or_not a b = ⊎_elim
    (λ (e : bytes_eq a b ≡ true). inl (same_bytes a b e))
    (λ (e : bytes_eq a b ≡ false). inr (λ s. both_ways (bytes_eq a b) e (ap (λ (x : List ℕ). bytes_eq a x) (sym s) ∙ bytes_eq-self a)))
    (cases_Bool (bytes_eq a b))

pub held_value : {A : Type 0} (o : Option A) → IsTrue (is_some o) → (x : A) × (o ≡ Some x)
held_value None h = absurd (cc)
held_value (Some x) h = (x, refl)

module _ {A : Type 0} (P : List ℕ → A → Type 0) where
  pub holds_none : (table : List ℕ → Option A) → ((name : List ℕ) → table name ≡ None) → Holds P (Contains []) table
  holds_none table none = record {
    right = λ name x is. absurd (none-some x (sym (none name) ∙ is));
    held = λ name h. absurd (Contains-nil name h);
    only = λ name _. none name;
  }

  pub holds_same : (N M : List ℕ → Type 0) (table : List ℕ → Option A) → ((name : List ℕ) → M name → N name) → ((name : List ℕ) → N name → M name) → Holds P N table → Holds P M table
  holds_same N M table into back h = record {
    right = h.right;
    held = λ name m. h.held name (into name m);
    only = λ name plain. h.only name (λ n. plain (back name n));
  }

  -- a new name gets what is right
  pub holds_more : (N M : List ℕ → Type 0) (old new : List ℕ → Option A) (name : List ℕ) (x : A) → ((other : List ℕ) → M other → N other ⊎ (name ≡ other)) → ((other : List ℕ) → N other ⊎ (name ≡ other) → M other)
      → Holds P N old → Adds old new name x → P name x → Holds P M new
  holds_more N M old new name x into back h adds given = record { right = right; held = held; only = only }
    where
      right : (other : List ℕ) (y : A) → new other ≡ Some y → P other y
      right other y is = ⊎_elim
          (λ (e : name ≡ other).
          let same : x ≡ y = same_Some x y (sym adds.added ∙ (ap new e ∙ is)) in
          subst (λ (z : A). P other z) same (subst (λ (n : List ℕ). P n x) e given))
          (λ (e : name ≢ other). h.right other y (sym (adds.others other (λ s. e (sym s))) ∙ is))
          (same_or_not name other)

      held : (other : List ℕ) → M other → IsTrue (is_held new other)
      held other m = ⊎_elim
          (λ (e : name ≡ other). ap is_some (ap new (sym e) ∙ adds.added))
          (λ (e : name ≢ other). ⊎_elim
          (λ (n : N other). ap is_some (adds.others other (λ s. e (sym s))) ∙ h.held other n)
          (λ (s : name ≡ other). absurd (e s))
          (into other m))
          (same_or_not name other)

      only : (other : List ℕ) → (M other → ⊥) → new other ≡ None
      only other plain = ⊎_elim
          (λ (e : name ≡ other). absurd (plain (back other (inr e))))
          (λ (e : name ≢ other). adds.others other (λ s. e (sym s)) ∙ h.only other (λ n. plain (back other (inl n))))
          (same_or_not name other)

  -- all names in an expression are held
  pub all_held : (N : List ℕ → Type 0) (table : List ℕ → Option A) → Holds P N table → (e : Expression) → ((name : List ℕ) → Mentions e name → N name) → IsTrue (all_names (is_held table) e)
  all_held N table h e names = all_pass (is_held table) e (λ name m. h.held name (names name m))

  pub value_of : (N : List ℕ → Type 0) (table : List ℕ → Option A) → Holds P N table → (name : List ℕ) → N name → (x : A) × (table name ≡ Some x) × P name x
  value_of N table h name n = let found = held_value (table name) (h.held name n) in (found.0, found.1, h.right name found.0 found.1)

module _ (d : Description) (N : List ℕ → Type 0) (known : Known) (right : IsKnown d known) where
  -- extents of names are those of their alternatives
  pub right_extents : (table : List ℕ → Option Extent) → Holds (HasExtent d) N table → (e : Expression) → ((name : List ℕ) → Mentions e name → N name) → AreRight table known e
  right_extents table h e names = record {
    each = λ name m. let v = value_of (HasExtent d) N table h name (names name m) in v.1 ∙ ap Some ((v.2).is known right);
    some = λ name m. let v = value_of (HasExtent d) N table h name (names name m) in (v.2).some known right;
  }

  pub some_of_extents : (table : List ℕ → Option Extent) → Holds (HasExtent d) N table → (e : Expression) → IsTrue (is_expression e) → ((name : List ℕ) → Mentions e name → N name) → 0 < length (alternatives_of known e)
  some_of_extents table h e formed names = some_alternatives known e formed (right_extents table h e names).some

  -- so are alternatives
  pub right_lists : (table : List ℕ → Option (List (Alternative UnitPlace))) → Holds (HasAlternatives d) N table → (e : Expression) → ((name : List ℕ) → Mentions e name → N name)
      → (name : List ℕ) → Mentions e name → unwrap_or (table name) [] ≡ map listed (known name)
  right_lists table h e names name m = let v = value_of (HasAlternatives d) N table h name (names name m) in ap (λ o. unwrap_or o []) v.1 ∙ (v.2).are known right
