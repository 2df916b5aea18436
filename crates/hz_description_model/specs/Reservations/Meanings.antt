-- What the names of a description stand for, and which alternatives they have. GCC Internals, 'Specifying processor
-- pipeline description', on `define_cpu_unit` and `define_reservation`.
use Rattle.std.specs.Prelude.{◌≡◌, ℕ, ◌<◌, ◌⊎◌, List, [], ◌∷◌, Option, Some, None, IsTrue, IsSome}
use Rattle.std.specs.Option.{option_map_or}
use Rattle.hz_base_model.specs.Lines.{place_of}
use Rattle.hz_description_model.specs.Reservations.Expressions.{is_expression}
use Rattle.hz_description_model.specs.Reservations.Alternatives.{Alternative, Expression, named, nothing, sequence, one_of, all_of, repeat, Parts, none, more, alternatives_of, taking}

-- a unit, or a reservation with its expression
pub data Meaning (U : Type 0) : Type 0 where
  unit : (unit : U) → Meaning U
  reservation : (expression : Expression) → Meaning U

-- the alternatives of what a name stands for, where the names in expressions have those of `known`; a name that stands
-- for nothing has none
abbrev pub alternatives_of_meaning : {U : Type 0} → (List ℕ → List (Alternative U)) → Option (Meaning U) → List (Alternative U)
alternatives_of_meaning known None = []
alternatives_of_meaning known (Some (unit u)) = taking u ∷ []
alternatives_of_meaning known (Some (reservation expression)) = alternatives_of known expression

-- An assignment of alternatives to names is right: a unit has its one alternative, a reservation those of its expression.
abbrev pub Expands : {U : Type 0} → (List ℕ → Option (Meaning U)) → (List ℕ → List (Alternative U)) → Type 0
Expands defined known = (name : List ℕ) → known name ≡ alternatives_of_meaning known (defined name)

-- the name stands somewhere in the expression
abbrev mutual
  pub Mentions : Expression → List ℕ → Type 0
  Mentions (named other) name = other ≡ name
  Mentions nothing name = ⊥
  Mentions (sequence parts) name = MentionsIn parts name
  Mentions (one_of parts) name = MentionsIn parts name
  Mentions (all_of parts) name = MentionsIn parts name
  Mentions (repeat part times) name = Mentions part name

  -- the name stands somewhere in the parts
  pub MentionsIn : Parts → List ℕ → Type 0
  MentionsIn none name = ⊥
  MentionsIn (more first others) name = Mentions first name ⊎ MentionsIn others name

-- A reservation leads to each name in its expression, and to where these lead.
pub data Reaches {U : Type 0} (defined : List ℕ → Option (Meaning U)) : (from to : List ℕ) → Type 0 where
  mentions : {from to : List ℕ} {expression : Expression} → defined from ≡ Some (reservation expression) → Mentions expression to → Reaches defined from to
  through : {from middle to : List ℕ} → Reaches defined from middle → Reaches defined middle to → Reaches defined from to

-- Some rank of names falls from each reservation to the names in its expression. In a description, whose names are
-- finitely many, this is that no reservation reaches itself.
pub record Unwinds {U : Type 0} (defined : List ℕ → Option (Meaning U)) : Type 0 where
  pub rank : List ℕ → ℕ
  pub falls : (name other : List ℕ) (expression : Expression) → defined name ≡ Some (reservation expression) → Mentions expression other → rank other < rank name

-- The alternatives of an expression in a description, where each name in it can be unwound.
pub record Alts {U : Type 0} (defined : List ℕ → Option (Meaning U)) (e : Expression) (alternatives : List (Alternative U)) : Type 0 where
  pub unwinds : Unwinds defined
  pub known : List ℕ → List (Alternative U)
  pub right : Expands defined known
  pub these : alternatives ≡ alternatives_of known e

-- every expression can be written, and the names in it stand for something
pub record IsClosed {U : Type 0} (defined : List ℕ → Option (Meaning U)) : Type 0 where
  pub expressions : (name : List ℕ) (expression : Expression) → defined name ≡ Some (reservation expression) → IsTrue (is_expression expression)
  pub names : (name other : List ℕ) (expression : Expression) → defined name ≡ Some (reservation expression) → Mentions expression other → IsSome (defined other)

-- what the names of units stand for, and no other name: the one alternative of the unit of that number
abbrev pub unit_alternatives : List (List ℕ) → List ℕ → List (Alternative ℕ)
unit_alternatives units name = option_map_or (λ u. taking u ∷ []) (place_of name units) []
