-- What the code holds, as what the definitions speak of.
use Rattle.std.specs.Prelude.{ℕ, List, map, Result}
use Rattle.hz_description_model.specs.Reading.Descriptions.{Condition}
use Rattle.hz_checked.specs.declared.checked.Checked.{Checked}
use Rattle.hz_checked.specs.declared.checked.CheckedClass.{CheckedClass}
use Rattle.hz_checked.specs.Shape as parts
use Rattle.hz_checked.specs.Shape.{attribute_of}
use Rattle.hz_rtl.specs.declared.block.Insn.{Insn}
use Rattle.hz_block_model.specs.Dependences.Classes.{ClassFault, class_of}

-- the conditions of classes
abbrev pub conditions_of : List CheckedClass → List Condition
conditions_of classes = map (λ c. (parts.class_of c).condition) classes

-- the class of an instruction in a description
abbrev pub class_for : Checked → Insn → Result ℕ ClassFault
class_for checked insn = class_of (map attribute_of checked.attributes.items) checked.defaults.items (conditions_of checked.classes.items) insn.attrs.items
