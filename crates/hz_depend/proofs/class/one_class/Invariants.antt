use Rattle.std.proofs.Common.{◌≡◌, ◌<◌, ◌++◌, drop, length}
use Rattle.std.specs.Option.{option_to_list, IfSome}
use Rattle.hz_description_model.specs.Reading.Conditions.{value_of}
use Rattle.hz_block_model.specs.Dependences.Classes as model
use Rattle.hz_depend.specs.Shape.{conditions_of}
use Rattle.hz_depend.proofs.class.one_class.Given as goal

-- the class so far, with those of what is left, are all
abbrev pub invariant-loop-number : goal.invariant-loop-number
invariant-loop-number l = record {
  all : option_to_list l.found ++ model.holding_from l.number (value_of l.given l.defaults) (conditions_of (drop l.number l.classes))
      ≡ model.holding_from 0 (value_of l.given l.defaults) (conditions_of l.classes);
  within : IfSome l.found (λ class. class < length l.classes);
}
