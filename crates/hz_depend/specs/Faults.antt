-- What a fault of the code says.
use Rattle.hz_depend.specs.declared.class.ClassFault.{ClassFault}
use Rattle.hz_depend.specs.declared.class.ClassFault.TheVariants.{UnknownAttribute, UnknownValue, NoClass, Ambiguous}
use Rattle.std.specs.Prelude.{ℕ, List, [], ◌∷◌, Option, Some, None}
use Rattle.hz_block_model.specs.Dependences.Classes as model

abbrev pub fault : ClassFault → model.ClassFault
fault UnknownAttribute = model.unknown_attribute
fault UnknownValue = model.unknown_value
fault NoClass = model.no_class
fault (Ambiguous a b) = model.ambiguous a b

-- the numbers of two classes, if there are any
abbrev pub classes_in : Option (ℕ × ℕ) → List ℕ
classes_in (Some classes) = classes.0 ∷ classes.1 ∷ []
classes_in None = []

-- a place and the fault there
abbrev pub placed : ℕ × ClassFault → ℕ × model.ClassFault
placed p = (p.0, fault p.1)
