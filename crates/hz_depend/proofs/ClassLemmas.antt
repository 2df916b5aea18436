-- Attributes and conditions one after another.
use Rattle.std.proofs.Common.{◌≡◌, ℕ, Bool, true, false, cond, List, [], ◌∷◌, map, Some, None, refl}
use Rattle.std.specs.List.{find, list_any}
use Rattle.std.specs.Option.{option_map}
use Rattle.std.specs.Str.{bytes_eq}
use Rattle.std.specs.declared.alloc.Global.{Global}
use Rattle.std.specs.declared.vec.Vec.{Vec}
use Rattle.hz_checked.specs.Shape.{attribute_of}
use Rattle.hz_block_model.specs.Dependences.Classes as model

pub find_attribute : (defined : List (List ℕ × Vec (List ℕ) Global)) (name : List ℕ) → find (λ attribute. bytes_eq attribute.0 name) (map attribute_of defined) ≡ option_map attribute_of (find (λ attribute. bytes_eq attribute.0 name) defined)
find_attribute [] name = refl
find_attribute (a ∷ defined) name = go (bytes_eq a.0 name) (find_attribute defined name)
  where
    go : (b : Bool) → find (λ attribute. bytes_eq attribute.0 name) (map attribute_of defined) ≡ option_map attribute_of (find (λ attribute. bytes_eq attribute.0 name) defined)
        → cond b (Some (attribute_of a)) (find (λ attribute. bytes_eq attribute.0 name) (map attribute_of defined)) ≡ option_map attribute_of (cond b (Some a) (find (λ attribute. bytes_eq attribute.0 name) defined))
    go true h = refl
    go false h = h

module _ (defined : List (List ℕ × Vec (List ℕ) Global)) (given : List ℕ × List ℕ) where
  pub attribute_unknown : None ≡ find (λ attribute. bytes_eq attribute.0 given.0) defined → model.fault_of_attribute (map attribute_of defined) given ≡ Some model.unknown_attribute
  attribute_unknown e = rw (find_attribute defined given.0, ← e) refl

  pub attribute_known : (a : List ℕ × Vec (List ℕ) Global) (b : Bool) → Some a ≡ find (λ attribute. bytes_eq attribute.0 given.0) defined → b ≡ list_any (λ v. bytes_eq v given.1) a.1.items
      → model.fault_of_attribute (map attribute_of defined) given ≡ cond b None (Some model.unknown_value)
  attribute_known a b e h = rw (find_attribute defined given.0, ← e, ← h) refl
